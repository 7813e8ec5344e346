-- Worked readings, by computation.
use Rattle.std.specs.Prelude.{ℕ, ◌≡◌, [], ◌∷◌, true, false, Some, None}
use Prim.Native.String.{String}
use Rattle.base.specs.Text.{ascii}
use Rattle.number.specs.Number.{digit_of, read_from, read_digits, read_number, version_id}
use Rattle.utf8.specs.Utf8.{first, extra, low, high, fits, after_byte, well_formed_from, well_formed, code_of, codes_from, codes, all_latin1, continues, inside_character}
use Rattle.token.specs.Token.{plain_len, tag_len, rest_len, slice_len, is_pair, last_byte, shape_of}
use Rattle.part.specs.Part.{lower, up_to, past as past_sep, holds}
use Rattle.value.specs.declared.Color.TheVariants.{Legacy, Rgb}
use Rattle.value.specs.declared.FlashOrder.TheVariants.{OnOff, OffOn}
use Rattle.value.specs.declared.MovingTextDirection.TheVariants.{Left}
use Rattle.value.specs.declared.MovingTextMode.TheVariants.{Linear}
use Rattle.value.specs.declared.Value.{Value}
use Rattle.value.specs.declared.Value.TheVariants.{ColorForeground, ColorRectangle, Field, Flash, Font, Graphic, HexadecimalCharacter, JustificationLine, ManufacturerSpecific, MovingText, NewLine, NewPage, PageTime, SpacingCharacter, Text, TextRectangle}
use Rattle.param.specs.Param.{read_optional, optional_version, justification, read_xy, rectangle_of, read_rgb, rgb_of, color_of}
use Rattle.tag.specs.Tag.{new_line, new_page, font, justification_line, justification_page, page_time, page_background, color_foreground, color_background, four_of, fifth, color_rectangle, last_four, text_rectangle, spacing_character, hexadecimal_character, flash_on, flash_off, flash_time, field, point_of, graphic_at, graphic, spacing_character_end, flash_end}
use Rattle.parse.specs.Parse.{text_of, manufacturer_specific, manufacturer_specific_end, movement, movement_parts, movement_of, moving_text_mode, moving_text_linear, moving_text, end_name, first_name, name_by, name_of, tag_value}
use Rattle.reading.specs.declared.Reading.TheVariants.{Slice, End}
use Rattle.reading.specs.Reading.{place, refused, tag_item, text_item, item_of, slice_reading, reading_at, reading}

-- the value of a message of one slice
abbrev is : String → ℕ → Value → Type 0
is t n v = reading false (ascii t) 0 ≡ Slice (place 0 n) v

-- its refusal
abbrev fails : String → ℕ → ℕ → Type 0
fails t n k = reading false (ascii t) 0 ≡ refused k 0 n

pub record Examples : Type 0 where
  pub empty : reading false (ascii "") 0 ≡ End
  pub past : reading false (ascii "A") 2 ≡ refused 4 0 0
  pub second : reading false (ascii "A[np]B") 1 ≡ Slice (place 1 4) NewPage
  pub inner : reading false (ascii "A[nl]") 2 ≡ Slice (place 2 2) (Text (place 2 2))
  pub e_acute : reading false (195 ∷ 169 ∷ []) 0 ≡ Slice (place 0 2) (Text (place 0 2))
  pub inside : reading false (195 ∷ 169 ∷ []) 1 ≡ refused 4 0 0
  pub cut : reading false (65 ∷ 195 ∷ []) 0 ≡ refused 3 0 0
  pub euro : reading false (226 ∷ 130 ∷ 172 ∷ []) 0 ≡ refused 7 0 3
  pub stray : fails "]" 1 5
  pub brackets : is "[[" 2 (Text (place 0 1))
  pub unclosed : fails "[nl" 3 5
  pub nothing : fails "[]" 2 5
  pub feed : fails "[feed]" 6 5
  pub no_number : fails "[f]" 3 6
  pub lines : is "[NL5]" 5 (NewLine (Some 5))
  pub two_digits : fails "[nl10]" 6 6
  pub font_0 : fails "[fo0]" 5 6
  pub font_id : is "[fo1,+0fF]" 10 (Font (Some (1, Some 255)))
  pub font_short : fails "[fo1,0ff]" 9 6
  pub no_code : fails "[hc]" 4 6
  pub code : is "[hc+41]" 7 (HexadecimalCharacter 65)
  pub line_just : is "[jl5]" 5 (JustificationLine (Some 5))
  pub plus_just : fails "[jl+2]" 6 6
  pub times : is "[pt10O5]" 8 (PageTime (Some 10) (Some 5))
  pub over : fails "[pt256]" 7 6
  -- A5, where long times hold
  pub long : reading true (ascii "[pt600o65535]") 0 ≡ Slice (place 0 13) (PageTime (Some 600) (Some 65535))
  pub long_over : reading true (ascii "[pto65536]") 0 ≡ refused 6 0 10
  pub spacing : is "[sc99]" 6 (SpacingCharacter 99)
  pub wide : fails "[sc100]" 7 6
  pub rect : is "[tr1,2,0,65535]" 15 (TextRectangle (record { x = 1; y = 2; width = 0; height = 65535 }))
  pub rect_0 : fails "[tr0,1,1,1]" 11 6
  pub rect_five : fails "[tr1,1,1,1,1]" 13 6
  pub fore : is "[cf1,2,3]" 9 (ColorForeground (Some (Rgb 1 2 3)))
  pub two_colors : fails "[cf1,2]" 7 6
  pub color_rect : is "[cr1,1,2,2,7]" 13 (ColorRectangle (record { x = 1; y = 1; width = 2; height = 2 }) (Legacy 7))
  pub field_0 : is "[f0]" 4 (Field 0 None)
  pub field_13 : is "[F13,]" 6 (Field 13 None)
  pub field_14 : fails "[f14]" 5 6
  pub graphic_1 : is "[g1]" 4 (Graphic 1 None)
  pub graphic_2 : fails "[g1,2]" 6 6
  pub graphic_3 : is "[g1,2,3,abcd]" 13 (Graphic 1 (Some (2, 3, Some 43981)))
  pub graphic_empty : fails "[g1,,]" 6 6
  pub flash : is "[flt5o]" 7 (Flash OnOff (Some 5) None)
  pub flash_off_read : is "[FLOT9]" 7 (Flash OffOn None (Some 9))
  pub specific : is "[ms1,a,b]" 9 (ManufacturerSpecific 1 (Some (place 5 3)))
  pub moving : is "[mvl3L10,1,2,a,b]" 17 (MovingText (Linear 3) Left (record { width = 10; pixels = 1; deciseconds = 2; text = place 13 3 }))
  pub no_text : fails "[mvcl1,1,1]" 11 6

pub examples : Examples
unfolding digit_of read_from read_digits read_number version_id first extra low high fits after_byte well_formed_from well_formed code_of codes_from codes all_latin1
    continues inside_character plain_len tag_len rest_len slice_len is_pair last_byte shape_of lower up_to past_sep holds
    read_optional optional_version justification read_xy rectangle_of read_rgb rgb_of color_of new_line new_page font justification_line justification_page
    page_time page_background color_foreground color_background four_of fifth color_rectangle last_four text_rectangle spacing_character hexadecimal_character
    flash_on flash_off flash_time field point_of graphic_at graphic spacing_character_end flash_end text_of manufacturer_specific manufacturer_specific_end movement
    movement_parts movement_of moving_text_mode moving_text_linear moving_text end_name first_name name_by name_of tag_value tag_item text_item item_of
    slice_reading reading_at reading
examples = search
