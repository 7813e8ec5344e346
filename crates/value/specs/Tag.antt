-- The bit of each value's name in `enum Tag`, and whether a sign supports it. Document 01, "Tag parser": "`Value::tag` gives each value its
-- name's bit of `enum Tag`, [/sc] that of sc, fields 1 to 13 F1 to F13, text none."
use Rattle.std.specs.Prelude.{ℕ, ◌+◌, ◌/◌, ◌%◌, ◌^◌, Bool, false, leb, ltb, eqb, Option, Some, None}
use Rattle.base.specs.Pick.{pick}
use Rattle.value.specs.declared.Value.{Value}
use Rattle.value.specs.declared.Value.TheVariants.{ColorBackground, ColorForeground, ColorRectangle, Field, Flash, FlashEnd, Font, Graphic, HexadecimalCharacter, JustificationLine, JustificationPage, ManufacturerSpecific, ManufacturerSpecificEnd, MovingText, NewLine, NewPage, PageBackground, PageTime, SpacingCharacter, SpacingCharacterEnd, Text, TextRectangle}

-- fields 1 to 13 have the bits from 14 on
unfoldable pub field_tag : ℕ → Option ℕ
field_tag n = pick (eqb n 0) None (pick (leb n 13) (Some (13 + n)) None)

abbrev pub tag_of : Value → Option ℕ
tag_of (ColorBackground c) = Some 0
tag_of (ColorForeground c) = Some 1
tag_of (ColorRectangle r c) = Some 28
tag_of (Field n w) = field_tag n
tag_of (Flash o a b) = Some 2
tag_of FlashEnd = Some 2
tag_of (Font f) = Some 3
tag_of (Graphic n p) = Some 4
tag_of (HexadecimalCharacter c) = Some 5
tag_of (JustificationLine j) = Some 6
tag_of (JustificationPage j) = Some 7
tag_of (ManufacturerSpecific m p) = Some 8
tag_of (ManufacturerSpecificEnd m p) = Some 8
tag_of (MovingText m d t) = Some 9
tag_of (NewLine s) = Some 10
tag_of NewPage = Some 11
tag_of (PageBackground c) = Some 29
tag_of (PageTime a b) = Some 12
tag_of (SpacingCharacter s) = Some 13
tag_of SpacingCharacterEnd = Some 13
tag_of (Text p) = None
tag_of (TextRectangle r) = Some 27

-- the bit is set in the sign's supported tags, NTCIP 1203's `dmsSupportedMultiTags`
abbrev pub has_tag : ℕ → Option ℕ → Bool
has_tag tags (Some k) = pick (ltb k 32) (eqb (tags / 2 ^ k % 2) 1) false
has_tag tags None = false
