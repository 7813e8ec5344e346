-- Document 01, "Tag parser", and the parse_ functions of multi.rs: what a tag says. Each definition takes the bytes p after the tag's name.
-- `up_to s`, `past s` and `holds s` speak of the first separator s in p, in either letter case (44 is the comma, 111 o, 116 t).
use Rattle.std.specs.Prelude.{ℕ, List, Bool, true, false, eqb, length, get_or, drop, Option, Some, None}
use Rattle.base.specs.Pick.{pick}
use Rattle.number.specs.Number.{read_number}
use Rattle.part.specs.Part.{lower, up_to, past, holds}
use Rattle.value.specs.declared.Color.{Color}
use Rattle.value.specs.declared.Color.TheVariants.{Legacy}
use Rattle.value.specs.declared.FlashOrder.TheVariants.{OnOff, OffOn}
use Rattle.value.specs.declared.Rectangle.{Rectangle}
use Rattle.value.specs.declared.Value.{Value}
use Rattle.value.specs.declared.Value.TheVariants.{ColorBackground, ColorForeground, ColorRectangle, Field, Flash, FlashEnd, Font, Graphic, HexadecimalCharacter, JustificationLine, JustificationPage, NewLine, NewPage, PageBackground, PageTime, SpacingCharacter, SpacingCharacterEnd, TextRectangle}
use Rattle.param.specs.Param.{and_then, read_optional, optional_version, justification, read_xy, rectangle_of, color_of}

-- [nl], [nln]: "at most one byte after its name"; as multi.rs says, NTCIP 1203 has "a single digit parameter for "nl" tag (0-9)"
unfoldable pub new_line : List ℕ → Option Value
new_line p =
    pick (eqb (length p) 0) (Some (NewLine None))
    (pick (eqb (length p) 1) (and_then (read_number 10 255 p) λ n. Some (NewLine (Some n)))
    None)

-- [np]
unfoldable pub new_page : List ℕ → Option Value
new_page p = pick (eqb (length p) 0) (Some NewPage) None

-- [fo], [fon], [fon,id]: "a nonzero 8-bit number", and a version id
unfoldable pub font : List ℕ → Option Value
font p =
    pick (eqb (length p) 0) (Some (Font None))
    (and_then (read_number 10 255 (up_to 44 p)) λ n.
    pick (eqb n 0) None
    (and_then (optional_version p) λ id. Some (Font (Some (n, id)))))

-- [jl], [jl1] to [jl5]
unfoldable pub justification_line : List ℕ → Option Value
justification_line p = and_then (justification 5 p) λ j. Some (JustificationLine j)

-- [jp], [jp1] to [jp4]
unfoldable pub justification_page : List ℕ → Option Value
justification_page p = and_then (justification 4 p) λ j. Some (JustificationPage j)

-- the longest time: 8 bits, or where long times hold (document 02, A5) "[pt] takes 0 to 65,535 for each time"
abbrev pub most_time : Bool → ℕ
most_time false = 255
most_time true = 65535

-- the times before and after a letter, either of which may be missing
abbrev pub times_of : ℕ → ℕ → List ℕ → Option (Option ℕ × Option ℕ)
times_of sep most p =
    and_then (read_optional most (up_to sep p)) λ a.
    and_then (read_optional most (past sep p)) λ b.
    Some (a, b)

-- [ptxoy]: on time, off time, either may be missing
unfoldable pub page_time : Bool → List ℕ → Option Value
page_time long p =
    and_then (read_optional (most_time long) (up_to 111 p)) λ on.
    and_then (read_optional (most_time long) (past 111 p)) λ off.
    Some (PageTime on off)

-- a colour, or nothing
abbrev pub optional_color : List ℕ → Option (Option Color)
optional_color p = pick (eqb (length p) 0) (Some None) (and_then (color_of p) λ c. Some (Some c))

-- [pb], [pbn], [pbr,g,b]
unfoldable pub page_background : List ℕ → Option Value
page_background p = pick (eqb (length p) 0) (Some (PageBackground None)) (and_then (color_of p) λ c. Some (PageBackground (Some c)))

-- [cf], [cfn], [cfr,g,b]
unfoldable pub color_foreground : List ℕ → Option Value
color_foreground p = pick (eqb (length p) 0) (Some (ColorForeground None)) (and_then (color_of p) λ c. Some (ColorForeground (Some c)))

-- [cb], [cbn]: 8 bits; as multi.rs says, NTCIP 1203 has "a numeric value between 0 and 999"
unfoldable pub color_background : List ℕ → Option Value
color_background p =
    pick (eqb (length p) 0) (Some (ColorBackground None)) (and_then (read_number 10 255 p) λ n. Some (ColorBackground (Some (Legacy n))))

-- the first four parts of p, and the parts after them
unfoldable pub four_of : List ℕ → Option Rectangle
four_of p = rectangle_of (up_to 44 p) (up_to 44 (past 44 p)) (up_to 44 (past 44 (past 44 p))) (up_to 44 (past 44 (past 44 (past 44 p))))

unfoldable pub fifth : List ℕ → List ℕ
fifth p = past 44 (past 44 (past 44 (past 44 p)))

-- [crx,y,w,h,n], [crx,y,w,h,r,g,b]
unfoldable pub color_rectangle : List ℕ → Option Value
color_rectangle p =
    and_then (four_of p) λ r.
    and_then (color_of (fifth p)) λ c.
    Some (ColorRectangle r c)

-- p in four parts, the last with its commas
unfoldable pub last_four : List ℕ → Option Rectangle
last_four p = rectangle_of (up_to 44 p) (up_to 44 (past 44 p)) (up_to 44 (past 44 (past 44 p))) (past 44 (past 44 (past 44 p)))

-- [trx,y,w,h]
unfoldable pub text_rectangle : List ℕ → Option Value
text_rectangle p = and_then (last_four p) λ r. Some (TextRectangle r)

-- [scn]: "0 to 99"
unfoldable pub spacing_character : List ℕ → Option Value
spacing_character p = and_then (read_number 10 99 p) λ n. Some (SpacingCharacter n)

-- [hcx]: 16 bits in hexadecimal; multi.rs says "May be 1 to 4 hexadecimal digits", and takes a + and zeros in front of them, too
unfoldable pub hexadecimal_character : List ℕ → Option Value
hexadecimal_character p = and_then (read_number 16 65535 p) λ n. Some (HexadecimalCharacter n)

-- [fltxoy]: on, then off, each of at most 99
unfoldable pub flash_on : List ℕ → Option Value
flash_on p =
    and_then (read_optional 99 (up_to 111 p)) λ t.
    and_then (read_optional 99 (past 111 p)) λ o.
    Some (Flash OnOff t o)

-- [floxty]: off, then on
unfoldable pub flash_off : List ℕ → Option Value
flash_off p =
    and_then (read_optional 99 (up_to 116 p)) λ o.
    and_then (read_optional 99 (past 116 p)) λ t.
    Some (Flash OffOn o t)

-- [fl], [flt..], [flo..]
unfoldable pub flash_time : List ℕ → Option Value
flash_time p =
    pick (eqb (length p) 0) (Some (Flash OnOff None None))
    (pick (eqb (lower (get_or p 0 0)) 116) (flash_on (drop 1 p))
    (pick (eqb (lower (get_or p 0 0)) 111) (flash_off (drop 1 p))
    None))

-- [fn], [fn,w]: "field numbers 0 to 13"
unfoldable pub field : List ℕ → Option Value
field p =
    and_then (read_number 10 13 (up_to 44 p)) λ n.
    and_then (read_optional 255 (past 44 p)) λ w.
    Some (Field n w)

-- x and y of the first two parts
unfoldable pub point_of : List ℕ → Option (ℕ × ℕ)
point_of p = read_xy (up_to 44 p) (up_to 44 (past 44 p))

-- [gn,x,y], [gn,x,y,id]: p is "x,y" or "x,y,id"
unfoldable pub graphic_at : ℕ → List ℕ → Option Value
graphic_at n p =
    and_then (point_of p) λ (x, y).
    and_then (optional_version (past 44 p)) λ id.
    Some (Graphic n (Some (x, y, id)))

-- [gn], or with a place
unfoldable pub graphic : List ℕ → Option Value
graphic p =
    and_then (read_number 10 255 (up_to 44 p)) λ n.
    pick (eqb n 0) None
    (pick (holds 44 p) (graphic_at n (past 44 p)) (Some (Graphic n None)))

-- [/sc]
unfoldable pub spacing_character_end : List ℕ → Option Value
spacing_character_end p = pick (eqb (length p) 0) (Some SpacingCharacterEnd) None

-- [/fl]
unfoldable pub flash_end : List ℕ → Option Value
flash_end p = pick (eqb (length p) 0) (Some FlashEnd) None
