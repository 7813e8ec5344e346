-- Worked examples of A9's counts, on document 01's board P.
use Rattle.std.specs.Prelude.{ℕ, ◌≡◌, refl, List}
use Prim.Native.String.{String}
use Rattle.base.specs.Text.{ascii}
use Rattle.number.specs.Number.{digit_of, read_from, read_digits, read_number, version_id}
use Rattle.utf8.specs.Utf8.{first, extra, low as low_byte, high, fits as fits_due, after_byte, well_formed_from, well_formed, code_of, codes_from, codes, all_latin1}
use Rattle.token.specs.Token.{plain_len, tag_len, rest_len, slices, is_pair, last_byte, shape_of}
use Rattle.part.specs.Part.{lower, up_to, past as past_sep, holds}
use Rattle.param.specs.Param.{read_optional, optional_version, justification, read_xy, rectangle_of, read_rgb, rgb_of, color_of}
use Rattle.tag.specs.Tag.{new_line, new_page as new_page_tag, font as font_tag, justification_line, justification_page, page_time, page_background, color_foreground, color_background, four_of, fifth, color_rectangle, last_four, text_rectangle, spacing_character, hexadecimal_character, flash_on, flash_off, flash_time, field, point_of, graphic_at, graphic, spacing_character_end, flash_end}
use Rattle.parse.specs.Parse.{text_of, manufacturer_specific, manufacturer_specific_end, movement, movement_parts, movement_of, moving_text_mode, moving_text_linear, moving_text, end_name, first_name, name_by, name_of, tag_value}
use Rattle.value.specs.Tag.{field_tag}
use Rattle.reading.specs.Reading.{tag_item, text_item, item_of}
use Rattle.records.specs.Record.{little_at, body_len, kind_of, whole as whole_record, first_piece, rest_len as rest_len_record, cut_from, pieces}
use Rattle.records.specs.Config.{config_of, size_ok, just_ok, not_zero, bits_ok, tags_ok, config_ok, is_config}
use Rattle.sign.specs.Sign.{characters_of, fonts_of, has_option, past_option, past_options, config_in, member, is_font, bitmap_len, is_character, fault_from, first_fault as first_bad, fault, sign_file}
use Rattle.layout.specs.declared.Answer.TheVariants.{On, Off, End, Refused}
use Rattle.layout.specs.Types.{items}
use Rattle.refusal.specs.Refusals.{refusal}
use Rattle.font.specs.Character.{lookup, character_in, is_capital, stand_ins}
use Rattle.font.specs.Measure.{widened, width_after, text_width, looked_up}
use Rattle.layout.specs.Fonts.{measure_in, meter_of, board_of}
use Rattle.layout.specs.Read.{step, opening, events}
use Rattle.layout.specs.Placing.{or_else, unless, due, line_gap, before_of, after_of, lines_of, above_of, below_of, x_of, base_of, record_of, span_fault, pass_fault, pass_records}
use Rattle.admit.specs.Admission.{admission}
use Rattle.layout.specs.Listing.{pages, result}
use Rattle.layout.specs.Boards.{dark, config, character, font1, board_p, option, board_with}
use Rattle.counts.specs.declared.Placed.{Placed}
use Rattle.counts.specs.Placing.{with_counts}

-- answer number n of a text on a sign, on a slice of 1,400 records
abbrev placed_on : List ℕ → String → ℕ → Placed
placed_on file t n = with_counts (sign_file file) (ascii t) (result file (ascii t) n 1400)

abbrev placed : String → ℕ → Placed
placed = placed_on board_p

record Examples : Type 0 where
  -- two characters in one span
  text : placed "AB" 0 ≡ record { answer = On 30 1; looked = 2; spans = 1 }
  -- an empty line prints nothing, [[ and an [hc] one character each; all passes of the page count
  kinds : placed "[nl]AB[[[hc41][tr1,1,0,0]A" 0 ≡ record { answer = On 30 5; looked = 5; spans = 5 }
  -- the page asked for; off and end have no counts
  page_off : placed "[pt10o5]AB[np]B" 1 ≡ record { answer = Off 5; looked = 0; spans = 0 }
  second : placed "[pt10o5]AB[np]B" 2 ≡ record { answer = On 10 1; looked = 1; spans = 1 }
  last : placed "[pt10o5]AB[np]B" 4 ≡ record { answer = End 4; looked = 0; spans = 0 }
  -- a refusal has none: not of what was looked up before the missing character, nor of a pass that was placed before
  missed : placed "AC" 0 ≡ record { answer = Refused (refusal 12 0 2 67); looked = 0; spans = 0 }
  later_pass : placed "AB[tr1,1,12,7]AB" 0 ≡ record { answer = Refused (refusal 13 14 2 0); looked = 0; spans = 0 }
  -- A4: a letter for which a capital stands in is looked up once
  stand_ins_counted : placed_on (board_with (option 4)) "aB[hc62]" 0 ≡ record { answer = On 30 2; looked = 3; spans = 2 }

examples : Examples
unfolding digit_of read_from read_digits read_number version_id first extra low_byte high fits_due after_byte well_formed_from well_formed code_of
    codes_from codes all_latin1 plain_len tag_len rest_len slices is_pair last_byte shape_of lower up_to past_sep holds read_optional optional_version
    justification read_xy rectangle_of read_rgb rgb_of color_of new_line new_page_tag font_tag justification_line justification_page page_time
    page_background color_foreground color_background four_of fifth color_rectangle last_four text_rectangle spacing_character hexadecimal_character
    flash_on flash_off flash_time field point_of graphic_at graphic spacing_character_end flash_end text_of manufacturer_specific
    manufacturer_specific_end movement movement_parts movement_of moving_text_mode moving_text_linear moving_text end_name first_name name_by name_of
    tag_value field_tag tag_item text_item item_of little_at body_len kind_of whole_record first_piece rest_len_record cut_from pieces config_of
    size_ok just_ok not_zero bits_ok tags_ok config_ok is_config characters_of fonts_of has_option past_option past_options config_in member is_font
    bitmap_len is_character fault_from first_bad fault sign_file items measure_in meter_of board_of lookup character_in is_capital stand_ins widened
    width_after text_width looked_up step opening events or_else unless due line_gap before_of after_of lines_of above_of below_of x_of base_of
    record_of span_fault pass_fault pass_records pages admission result dark config character font1 board_p option board_with
examples = record { text = refl; kinds = refl; page_off = refl; second = refl; last = refl; missed = refl; later_pass = refl; stand_ins_counted = refl }
