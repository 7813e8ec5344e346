-- A value as numbers: the place of its case in `enum Value`, from 1, and eight numbers, those that the case does not use being 0.
-- tests/FORMAT.md has the same table. An option is 0 0, or 1 and its number; a colour is 0 and its number, or 1, red, green and blue.
use Rattle.std.specs.Prelude.{ℕ, ◌-◌, List, [], ◌∷◌, ◌++◌, length, replicate, Option, Some, None}
use Rattle.value.specs.declared.Color.{Color}
use Rattle.value.specs.declared.Color.TheVariants.{Legacy, Rgb}
use Rattle.value.specs.declared.FlashOrder.{FlashOrder}
use Rattle.value.specs.declared.FlashOrder.TheVariants.{OnOff, OffOn}
use Rattle.value.specs.declared.MovingTextDirection.{MovingTextDirection}
use Rattle.value.specs.declared.MovingTextDirection.TheVariants.{Left, Right}
use Rattle.value.specs.declared.MovingTextMode.{MovingTextMode}
use Rattle.value.specs.declared.MovingTextMode.TheVariants.{Circular, Linear}
use Rattle.value.specs.declared.Place.{Place}
use Rattle.value.specs.declared.Value.{Value}
use Rattle.value.specs.declared.Value.TheVariants.{ColorBackground, ColorForeground, ColorRectangle, Field, Flash, FlashEnd, Font, Graphic, HexadecimalCharacter, JustificationLine, JustificationPage, ManufacturerSpecific, ManufacturerSpecificEnd, MovingText, NewLine, NewPage, PageBackground, PageTime, SpacingCharacter, SpacingCharacterEnd, Text, TextRectangle}
use Rattle.numbers.specs.declared.Numbers.{Numbers}

abbrev pub make : ℕ → ℕ → ℕ → ℕ → ℕ → ℕ → ℕ → ℕ → ℕ → Numbers
make code a b c d e f g h = record { code = code; n = a ∷ b ∷ c ∷ d ∷ e ∷ f ∷ g ∷ h ∷ [] }

-- the first of the eight, and zeros
abbrev pub padded : ℕ → List ℕ → Numbers
padded code first = record { code = code; n = first ++ replicate (8 - length first) 0 }

abbrev pub flag_of : Option ℕ → ℕ
flag_of (Some n) = 1
flag_of None = 0

abbrev pub or_zero : Option ℕ → ℕ
or_zero (Some n) = n
or_zero None = 0

abbrev pub order_of : FlashOrder → ℕ
order_of OnOff = 0
order_of OffOn = 1

abbrev pub mode_of : MovingTextMode → ℕ
mode_of Circular = 0
mode_of (Linear d) = 1

abbrev pub delay_of : MovingTextMode → ℕ
delay_of Circular = 0
delay_of (Linear d) = d

abbrev pub direction_of : MovingTextDirection → ℕ
direction_of Left = 0
direction_of Right = 1

abbrev pub kind_of : Color → ℕ
kind_of (Legacy n) = 0
kind_of (Rgb r g b) = 1

abbrev pub first_of : Color → ℕ
first_of (Legacy n) = n
first_of (Rgb r g b) = r

abbrev pub green_of : Color → ℕ
green_of (Legacy n) = 0
green_of (Rgb r g b) = g

abbrev pub blue_of : Color → ℕ
blue_of (Legacy n) = 0
blue_of (Rgb r g b) = b

abbrev pub color_of : ℕ → Option Color → Numbers
color_of code (Some c) = make code 1 (kind_of c) (first_of c) (green_of c) (blue_of c) 0 0 0
color_of code None = make code 0 0 0 0 0 0 0 0

abbrev pub font_of : Option (ℕ × Option ℕ) → Numbers
font_of (Some (n, v)) = make 7 1 n (flag_of v) (or_zero v) 0 0 0 0
font_of None = make 7 0 0 0 0 0 0 0 0

abbrev pub graphic_of : ℕ → Option (ℕ × ℕ × Option ℕ) → Numbers
graphic_of n (Some (x, y, v)) = make 8 n 1 x y (flag_of v) (or_zero v) 0 0
graphic_of n None = make 8 n 0 0 0 0 0 0 0

abbrev pub specific_of : ℕ → ℕ → Option Place → Numbers
specific_of code m (Some p) = make code m 1 p.start p.len 0 0 0 0
specific_of code m None = make code m 0 0 0 0 0 0 0

abbrev pub numbers_of : Value → Numbers
numbers_of (ColorBackground c) = color_of 1 c
numbers_of (ColorForeground c) = color_of 2 c
numbers_of (ColorRectangle r c) = make 3 r.x r.y r.width r.height (kind_of c) (first_of c) (green_of c) (blue_of c)
numbers_of (Field n w) = make 4 n (flag_of w) (or_zero w) 0 0 0 0 0
numbers_of (Flash o a b) = make 5 (order_of o) (flag_of a) (or_zero a) (flag_of b) (or_zero b) 0 0 0
numbers_of FlashEnd = make 6 0 0 0 0 0 0 0 0
numbers_of (Font f) = font_of f
numbers_of (Graphic n p) = graphic_of n p
numbers_of (HexadecimalCharacter c) = make 9 c 0 0 0 0 0 0 0
numbers_of (JustificationLine j) = make 10 (flag_of j) (or_zero j) 0 0 0 0 0 0
numbers_of (JustificationPage j) = make 11 (flag_of j) (or_zero j) 0 0 0 0 0 0
numbers_of (ManufacturerSpecific m p) = specific_of 12 m p
numbers_of (ManufacturerSpecificEnd m p) = specific_of 13 m p
numbers_of (MovingText m d t) = make 14 (mode_of m) (delay_of m) (direction_of d) t.width t.pixels t.deciseconds t.text.start t.text.len
numbers_of (NewLine s) = make 15 (flag_of s) (or_zero s) 0 0 0 0 0 0
numbers_of NewPage = make 16 0 0 0 0 0 0 0 0
numbers_of (PageBackground c) = color_of 17 c
numbers_of (PageTime a b) = make 18 (flag_of a) (or_zero a) (flag_of b) (or_zero b) 0 0 0 0
numbers_of (SpacingCharacter s) = make 19 s 0 0 0 0 0 0 0
numbers_of SpacingCharacterEnd = make 20 0 0 0 0 0 0 0 0
numbers_of (Text p) = make 21 p.start p.len 0 0 0 0 0 0
numbers_of (TextRectangle r) = make 22 r.x r.y r.width r.height 0 0 0 0
