-- Document 01, "Worked boards": the starred boards as one table about the definitions, and the boards that catch other readings of its rules.
use Rattle.std.specs.Prelude.{ℕ, zero, suc, ◌+◌, ◌*◌, ◌/◌, ◌≡◌, refl, List, [], ◌∷◌, ◌++◌}
use Prim.Native.String.{String}
use Rattle.base.specs.Text.{ascii}
use Rattle.number.specs.Number.{digit_of, read_from, read_digits, read_number, version_id}
use Rattle.utf8.specs.Utf8.{first, extra, low as low_byte, high, fits as fits_due, after_byte, well_formed_from, well_formed, code_of, codes_from, codes, all_latin1}
use Rattle.token.specs.Token.{plain_len, tag_len, rest_len, slices, is_pair, last_byte, shape_of}
use Rattle.part.specs.Part.{lower, up_to, past as past_sep, holds}
use Rattle.param.specs.Param.{read_optional, optional_version, justification, read_xy, rectangle_of, read_rgb, rgb_of, color_of}
use Rattle.tag.specs.Tag.{new_line, new_page as new_page_tag, font as font_tag, justification_line, justification_page, page_time, page_background, color_foreground, color_background, four_of, fifth, color_rectangle, last_four, text_rectangle, spacing_character, hexadecimal_character, flash_on, flash_off, flash_time, field, point_of, graphic_at, graphic, spacing_character_end, flash_end}
use Rattle.parse.specs.Parse.{text_of, manufacturer_specific, manufacturer_specific_end, movement, movement_parts, movement_of, moving_text_mode, moving_text_linear, moving_text, end_name, first_name, name_by, name_of, tag_value}
use Rattle.value.specs.Tag.{field_tag}
use Rattle.reading.specs.Reading.{tag_item, text_item, item_of}
use Rattle.records.specs.Record.{little_at, body_len, kind_of, whole as whole_record, first_piece, rest_len as rest_len_record, cut_from, pieces}
use Rattle.records.specs.Config.{config_of, size_ok, just_ok, not_zero, bits_ok, tags_ok, config_ok, is_config}
use Rattle.sign.specs.Sign.{characters_of, fonts_of, has_option, past_option, past_options, config_in, member, is_font, bitmap_len, is_character, fault_from, first_fault as first_bad, fault, sign_file}
use Rattle.layout.specs.declared.Span.{Span}
use Rattle.layout.specs.declared.Answer.TheVariants.{On, Off, End, Refused}
use Rattle.layout.specs.Types.{items}
use Rattle.refusal.specs.Refusals.{refusal}
use Rattle.font.specs.Character.{lookup, character_in, is_capital, stand_ins}
use Rattle.font.specs.Measure.{widened, width_after, text_width}
use Rattle.layout.specs.Fonts.{measure_in, meter_of, board_of}
use Rattle.layout.specs.Read.{step, opening, events}
use Rattle.layout.specs.Placing.{or_else, unless, due, line_gap, before_of, after_of, lines_of, above_of, below_of, x_of, base_of, record_of, span_fault, pass_fault, pass_records}
use Rattle.admit.specs.Admission.{admission}
use Rattle.layout.specs.Listing.{pages, Result, result}

-- ---- sign files

-- n bytes of 0: a dark bitmap
unfoldable pub dark : ℕ → List ℕ
dark zero = []
dark (suc n) = 0 ∷ dark n

-- kind 1: width 50, font 1, left, on 30, off 0, all nine tags; height, character width and height and page justification as given
unfoldable pub config : ℕ → ℕ → ℕ → ℕ → List ℕ
config h cw ch jp = 15 ∷ 0 ∷ 1 ∷ 0 ∷ 50 ∷ 0 ∷ h ∷ 0 ∷ cw ∷ ch ∷ 1 ∷ 2 ∷ jp ∷ 30 ∷ 0 ∷ 232 ∷ 60 ∷ 0 ∷ 8 ∷ []

-- kind 3: a code, and a width, in a font of height h
unfoldable pub character : ℕ → ℕ → ℕ → List ℕ
character h code w = (3 + (w * h + 7) / 8) ∷ 0 ∷ 3 ∷ 0 ∷ code ∷ 0 ∷ w ∷ dark ((w * h + 7) / 8)

-- kind 2: font 1 of height h, spacing 2, line spacing 3; A width 5, B 6, [ 3
unfoldable pub font1 : ℕ → List ℕ
font1 h = 6 ∷ 0 ∷ 2 ∷ 0 ∷ 1 ∷ h ∷ 2 ∷ 3 ∷ 0 ∷ 0 ∷ (character h 65 5 ++ character h 66 6 ++ character h 91 3)

-- "Board P: 50 wide, 24 high, character sizes 0, font 1, left, top, on 30, off 0, tags 134,233,320 (all nine)"
unfoldable pub board_p : List ℕ
board_p = config 24 0 0 2 ++ font1 7

-- "Board P with height 7, character height 7, middle", and a font height
unfoldable pub board_m : ℕ → List ℕ
board_m h = config 7 0 7 3 ++ font1 h

-- board P with character width 5
unfoldable pub board_c : List ℕ
board_c = config 24 5 0 2 ++ font1 7

-- an option of document 02: "an empty record" of its kind
unfoldable pub option : ℕ → List ℕ
option kind = 0 ∷ 0 ∷ kind ∷ 0 ∷ []

-- board P with options, "directly after kind 1"
unfoldable pub board_with : List ℕ → List ℕ
board_with options = config 24 0 0 2 ++ options ++ font1 7

-- board P with kind 6
unfoldable pub board_g : List ℕ
board_g = board_with (option 6)

-- ---- answers

-- a text n times
unfoldable pub times : ℕ → List ℕ → List ℕ
times zero t = []
times (suc n) t = t ++ times n t

-- the first k calls from answer n on, each with a slice of 1,400 records: the answer and what it writes
unfoldable pub calls : List ℕ → List ℕ → ℕ → ℕ → List Result
calls file msg zero n = []
calls file msg (suc k) n = result file msg n 1400 ∷ calls file msg k (suc n)

-- the same of a text
unfoldable pub board : List ℕ → String → ℕ → List Result
board file t k = calls file (ascii t) k 0

-- a text of board P: start, length, x, y, width, line and span number
unfoldable pub text : ℕ → ℕ → ℕ → ℕ → ℕ → ℕ → ℕ → Span
text start len x y w line span =
    record {
      kind = 0;
      start = start;
      length = len;
      code = 0;
      x = x;
      y = y;
      width = w;
      height = 7;
      font = 1;
      line = line;
      span = span;
      rect_x = 1;
      rect_y = 1;
      rect_width = 50;
      rect_height = 24;
    }

-- the same in another rectangle
unfoldable pub within : ℕ → ℕ → ℕ → ℕ → Span → Span
within rx ry rw rh s =
    record {
      kind = s.kind;
      start = s.start;
      length = s.length;
      code = s.code;
      x = s.x;
      y = s.y;
      width = s.width;
      height = s.height;
      font = s.font;
      line = s.line;
      span = s.span;
      rect_x = rx;
      rect_y = ry;
      rect_width = rw;
      rect_height = rh;
    }

-- an [hc] on board P that stands first: start, length, code and width
unfoldable pub hex : ℕ → ℕ → ℕ → ℕ → Span
hex start len code w =
    record {
      kind = 1;
      start = start;
      length = len;
      code = code;
      x = 0;
      y = 0;
      width = w;
      height = 7;
      font = 1;
      line = 0;
      span = 0;
      rect_x = 1;
      rect_y = 1;
      rect_width = 50;
      rect_height = 24;
    }

-- an empty span of board P: start, x, y, line and span number
unfoldable pub blank : ℕ → ℕ → ℕ → ℕ → ℕ → Span
blank start x y line span =
    record {
      kind = 2;
      start = start;
      length = 0;
      code = 0;
      x = x;
      y = y;
      width = 0;
      height = 7;
      font = 1;
      line = line;
      span = span;
      rect_x = 1;
      rect_y = 1;
      rect_width = 50;
      rect_height = 24;
    }

unfoldable pub lit : ℕ → ℕ → List Span → Result
lit d n rs = record { answer = On d n; written = rs }

unfoldable pub off : ℕ → Result
off d = record { answer = Off d; written = [] }

unfoldable pub end : ℕ → Result
end n = record { answer = End n; written = [] }

unfoldable pub refused : ℕ → ℕ → ℕ → ℕ → Result
refused n start len detail = record { answer = Refused (refusal n start len detail); written = [] }

-- ---- the table

pub record Boards : Type 0 where
  -- the starred boards
  pub empty : board board_p "" 2 ≡ lit 30 0 [] ∷ end 1 ∷ []
  pub ab : board board_p "AB" 2 ≡ lit 30 1 (text 0 2 0 0 13 0 0 ∷ []) ∷ end 1 ∷ []
  pub right : board board_p "[jl4]AB" 1 ≡ lit 30 1 (text 5 2 37 0 13 0 0 ∷ []) ∷ []
  pub centre : board board_p "[jl3]AB" 1 ≡ lit 30 1 (text 5 2 18 0 13 0 0 ∷ []) ∷ []
  pub two_lines : board board_p "A[nl]B" 1 ≡ lit 30 2 (text 0 1 0 0 5 0 0 ∷ text 5 1 0 10 6 1 0 ∷ []) ∷ []
  pub spaced : board board_p "A[sc4]B" 1 ≡ lit 30 2 (text 0 1 0 0 5 0 0 ∷ text 6 1 9 0 6 0 1 ∷ []) ∷ []
  pub bracket : board board_p "[[A" 1 ≡ lit 30 2 (text 0 1 0 0 3 0 0 ∷ text 2 1 5 0 5 0 1 ∷ []) ∷ []
  pub full : board board_p "[tr1,1,13,7]AB" 2 ≡ lit 30 1 (within 1 1 13 7 (text 12 2 0 0 13 0 0) ∷ []) ∷ end 1 ∷ []
  pub too_wide : board board_p "[tr1,1,12,7]AB" 2 ≡ refused 13 12 2 0 ∷ refused 13 12 2 0 ∷ []
  pub two_digits : board board_p "[nl10]" 1 ≡ refused 6 0 6 0 ∷ []
  pub stray : board board_p "]" 1 ≡ refused 5 0 1 0 ∷ []
  pub back : board board_p "[jp3]A[jp2]B" 1 ≡ refused 9 11 1 0 ∷ []
  -- "[pt10o5]A[np]B", whose listing document 01 prints in full
  pub pages : board board_p "[pt10o5]A[np]B" 5 ≡ lit 10 1 (text 8 1 0 0 5 0 0 ∷ []) ∷ off 5 ∷ lit 10 1 (text 13 1 0 0 6 0 0 ∷ []) ∷ off 5 ∷ end 4 ∷ []
  -- the others, that are short
  pub font_zero : board board_p "[fo0]" 1 ≡ refused 6 0 5 0 ∷ []
  pub no_code : board board_p "[hc]" 1 ≡ refused 6 0 4 0 ∷ []
  pub low : board (board_m 5) "A" 1 ≡ refused 14 0 1 0 ∷ []
  -- the page's rectangle restarts
  pub reset : board board_p "[tr11,9,20,10]A[np]B" 2 ≡ lit 30 1 (within 11 9 20 10 (text 14 1 10 8 5 0 0) ∷ []) ∷ lit 30 1 (text 19 1 0 0 6 0 0 ∷ []) ∷ []
  -- "Going on numbering after a repeated [jl]: "A[jl2]B" puts A and B both at x 2"
  pub repeated : board board_p "A[jl2]B" 1 ≡ lit 30 2 (text 0 1 2 0 5 0 0 ∷ text 6 1 2 0 6 0 0 ∷ []) ∷ []
  -- "One entry per line number: in "A[jp3][nl]B[sc3]B" both B stand at y 13, not 8"
  pub combined : board board_p "A[jp3][nl]B[sc3]B" 1 ≡ lit 30 3 (text 0 1 0 0 5 0 0 ∷ text 10 1 0 13 6 1 0 ∷ text 16 1 9 13 6 1 1 ∷ []) ∷ []
  -- a half spacing rounded up
  pub half : board board_p "[sc3]A[/sc]B" 1 ≡ lit 30 2 (text 5 1 0 0 5 0 0 ∷ text 11 1 8 0 6 0 1 ∷ []) ∷ []
  -- [tr] off the character grid
  pub off_grid : board board_c "[tr2,1,5,7]" 1 ≡ refused 6 0 11 0 ∷ []
  -- "49 times "[tr1,1,0,0]" is listed, 50 times gives 15"
  pub forty_nine : calls board_p (times 49 (ascii "[tr1,1,0,0]")) 2 0 ≡ lit 30 0 [] ∷ end 1 ∷ []
  pub fifty : calls board_p (times 50 (ascii "[tr1,1,0,0]")) 1 0 ≡ refused 15 0 0 0 ∷ []
  -- 12 is met before 13, and a fault of the page's scan before any placing
  pub missing_first : board board_p "[tr1,1,4,7]AC" 1 ≡ refused 12 11 2 67 ∷ []
  pub scan_first : board board_p "C[tr1,1,0,0][xx]" 1 ≡ refused 5 12 4 0 ∷ []
  -- 2,048 bytes are read, and are too wide here; one more is refused
  pub longest : calls board_p (times 2048 (65 ∷ [])) 1 0 ≡ refused 13 0 2048 0 ∷ []
  pub too_long : calls board_p (times 2049 (65 ∷ [])) 1 0 ≡ refused 2 0 0 0 ∷ []
  -- 1, an empty sign file; 4, a slice of 1,399 records
  pub no_sign : calls [] (ascii "A") 1 0 ≡ refused 1 0 0 0 ∷ []
  pub short_slice : result board_p (ascii "A") 0 1399 ≡ refused 4 0 0 0
  -- document 02, A4: with kind 4 "ab" lists as "AB" does; the record of an [hc] "keeps the code typed"
  pub capitals : board (board_with (option 4)) "ab" 2 ≡ board (board_with (option 4)) "AB" 2
  pub capitals_are : board (board_with (option 4)) "[jl4]aB" 2 ≡ lit 30 1 (text 5 2 37 0 13 0 0 ∷ []) ∷ end 1 ∷ []
  pub capital_code : board (board_with (option 4)) "[hc61]" 1 ≡ lit 30 1 (hex 0 6 97 5 ∷ []) ∷ []
  -- "A letter with neither form still gives 12 with the code typed"; so does a small letter without kind 4
  pub neither : board (board_with (option 4)) "Ac" 1 ≡ refused 12 0 2 99 ∷ []
  pub neither_code : board (board_with (option 4)) "[hc63]" 1 ≡ refused 12 0 6 99 ∷ []
  pub no_capitals : board board_p "ab" 1 ≡ refused 12 0 2 97 ∷ []
  -- a font that has a, 3 wide, and A: "aA" is 3 + 2 + 5 wide
  pub own_small : board (board_with (option 4) ++ character 7 97 3) "aA" 1 ≡ lit 30 1 (text 0 2 0 0 10 0 0 ∷ []) ∷ []
  -- A5: with kind 5 "[pt] takes 0 to 65,535 for each time", a missing part is kind 1's; without it 6 "still" comes
  pub long_times : board (board_with (option 5)) "[pt600o65535]A" 3 ≡ lit 600 1 (text 13 1 0 0 5 0 0 ∷ []) ∷ off 65535 ∷ end 2 ∷ []
  pub too_long_time : board (board_with (option 5)) "[pt65536]A" 1 ≡ refused 6 0 9 0 ∷ []
  pub no_off : board (board_with (option 5)) "[pto0]A" 2 ≡ lit 30 1 (text 6 1 0 0 5 0 0 ∷ []) ∷ end 1 ∷ []
  pub short_time : board board_p "[pt256]A" 1 ≡ refused 6 0 7 0 ∷ []
  pub short_times : board board_p "[pt255o255]A" 3 ≡ lit 255 1 (text 11 1 0 0 5 0 0 ∷ []) ∷ off 255 ∷ end 2 ∷ []
  -- kinds 4 and 5: both; in the other order, 1 at kind 4's offset
  pub both_options : board (board_with (option 4 ++ option 5)) "[pt256]a" 1 ≡ lit 256 1 (text 7 1 0 0 5 0 0 ∷ []) ∷ []
  pub options_back : board (board_with (option 5 ++ option 4)) "A" 1 ≡ refused 1 23 0 0 ∷ []
  -- kind 4 twice, and after a font: 1 at its offset
  pub option_twice : board (board_with (option 4 ++ option 4)) "A" 1 ≡ refused 1 23 0 0 ∷ []
  pub option_late : board (board_p ++ option 4) "A" 1 ≡ refused 1 64 0 0 ∷ []
  -- A6, with kind 6: a repeated justification goes on numbering
  pub again : board board_g "A[jl2]B" 1 ≡ lit 30 2 (text 0 1 0 0 5 0 0 ∷ text 6 1 7 0 6 0 1 ∷ []) ∷ []
  -- and so does a page justification that comes back to its first line
  pub comes_back : board board_g "A[nl]B[jp3][jp2]B" 1 ≡ lit 30 3 (text 0 1 0 0 5 0 0 ∷ text 5 1 0 10 6 1 0 ∷ text 16 1 7 0 6 0 1 ∷ []) ∷ []
  -- an empty span's number too: on the line of A, after its spacing
  pub empty_again : board board_g "A[nl][jp3][jp2][nl]" 1 ≡ lit 30 2 (text 0 1 0 0 5 0 0 ∷ blank 15 7 0 0 1 ∷ []) ∷ []
  -- another line or justification has a group of its own, and each pass has groups of its own
  pub own_groups : board board_g "A[jl4]B[nl]A[sc0]B" 1
      ≡ lit 30 4 (text 0 1 0 0 5 0 0 ∷ text 6 1 44 0 6 0 0 ∷ text 11 1 39 10 5 1 0 ∷ text 17 1 44 10 6 1 1 ∷ []) ∷ []
  pub own_pass : board board_g "A[tr1,1,0,0]B" 1 ≡ lit 30 2 (text 0 1 0 0 5 0 0 ∷ text 12 1 0 0 6 0 0 ∷ []) ∷ []
  -- 9 is judged as before
  pub back_again : board board_g "A[jl4]B[jl2]A" 1 ≡ refused 9 12 1 0 ∷ []
  -- 8: the 256th span of a group, although a [jl] stands before each, and an empty one, although a [jp] does; without kind 6 neither
  pub crowded : calls board_g (times 256 (ascii "[jl2]A")) 1 0 ≡ refused 8 1535 1 0 ∷ []
  pub crowded_empty : calls board_g (times 255 (ascii "[[") ++ ascii "[nl][jp3][jp2][nl]") 1 0 ≡ refused 8 524 4 0 ∷ []
  pub uncrowded : calls board_p (times 256 (ascii "[jl2]A")) 1 0 ≡ refused 13 5 1 0 ∷ []

pub boards : Boards
unfolding times digit_of read_from read_digits read_number version_id first extra low_byte high fits_due after_byte well_formed_from well_formed
    code_of codes_from codes all_latin1 plain_len tag_len rest_len slices is_pair last_byte shape_of lower up_to past_sep holds read_optional
    optional_version justification read_xy rectangle_of read_rgb rgb_of color_of new_line new_page_tag font_tag justification_line justification_page
    page_time page_background color_foreground color_background four_of fifth color_rectangle last_four text_rectangle spacing_character
    hexadecimal_character flash_on flash_off flash_time field point_of graphic_at graphic spacing_character_end flash_end text_of
    manufacturer_specific manufacturer_specific_end movement movement_parts movement_of moving_text_mode moving_text_linear moving_text end_name
    first_name name_by name_of tag_value field_tag tag_item text_item item_of little_at body_len kind_of whole_record first_piece rest_len_record
    cut_from pieces config_of size_ok just_ok not_zero bits_ok tags_ok config_ok is_config characters_of fonts_of config_in member is_font bitmap_len
    is_character has_option past_option past_options fault_from first_bad fault sign_file items measure_in meter_of board_of lookup character_in
    is_capital stand_ins widened width_after text_width step opening events or_else unless due line_gap before_of after_of lines_of above_of below_of
    x_of base_of record_of span_fault pass_fault pass_records pages admission result dark config character font1 board_p board_m board_c option
    board_with board_g calls board text within hex blank lit off end refused
boards =
    record {
      empty = refl;
      ab = refl;
      right = refl;
      centre = refl;
      two_lines = refl;
      spaced = refl;
      bracket = refl;
      full = refl;
      too_wide = refl;
      two_digits = refl;
      stray = refl;
      back = refl;
      pages = refl;
      font_zero = refl;
      no_code = refl;
      low = refl;
      reset = refl;
      repeated = refl;
      combined = refl;
      half = refl;
      off_grid = refl;
      forty_nine = refl;
      fifty = refl;
      missing_first = refl;
      scan_first = refl;
      longest = refl;
      too_long = refl;
      no_sign = refl;
      short_slice = refl;
      capitals = refl;
      capitals_are = refl;
      capital_code = refl;
      neither = refl;
      neither_code = refl;
      no_capitals = refl;
      own_small = refl;
      long_times = refl;
      too_long_time = refl;
      no_off = refl;
      short_time = refl;
      short_times = refl;
      both_options = refl;
      options_back = refl;
      option_twice = refl;
      option_late = refl;
      again = refl;
      comes_back = refl;
      empty_again = refl;
      own_groups = refl;
      own_pass = refl;
      back_again = refl;
      crowded = refl;
      crowded_empty = refl;
      uncrowded = refl;
    }
