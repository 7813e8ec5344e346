-- Document 01, "Tag parser", and `parse_tag` of multi.rs: the tags that hold a text, the names of tags, and a tag's value by its name.
-- The text of [ms] and [mv] is a place in the message; `end` is the place where the tag's bytes end, its ].
use Rattle.std.specs.Prelude.{ℕ, ◌+◌, ◌-◌, ◌*◌, List, Bool, leb, eqb, length, get_or, drop, Option, Some, None, Result, Err, ok_or}
use Rattle.base.specs.Pick.{pick}
use Rattle.number.specs.Number.{read_number}
use Rattle.part.specs.Part.{lower, up_to, past, holds}
use Rattle.value.specs.declared.Movement.{Movement}
use Rattle.value.specs.declared.MovingTextDirection.TheVariants.{Left, Right}
use Rattle.value.specs.declared.MovingTextMode.{MovingTextMode}
use Rattle.value.specs.declared.MovingTextMode.TheVariants.{Circular, Linear}
use Rattle.value.specs.declared.Place.{Place}
use Rattle.value.specs.declared.SyntaxError.{SyntaxError}
use Rattle.value.specs.declared.SyntaxError.TheVariants.{UnsupportedTag, UnsupportedTagValue}
use Rattle.value.specs.declared.Value.{Value}
use Rattle.value.specs.declared.Value.TheVariants.{ManufacturerSpecific, ManufacturerSpecificEnd, MovingText}
use Rattle.param.specs.Param.{and_then}
use Rattle.tag.specs.Tag.{new_line, new_page, font, justification_line, justification_page, page_time, page_background, color_foreground, color_background, color_rectangle, text_rectangle, spacing_character, hexadecimal_character, flash_time, field, graphic, spacing_character_end, flash_end}
use Rattle.parse.specs.declared.Name.{Name}
use Rattle.parse.specs.declared.Name.TheVariants.{Cb, Cf, Cr, F, Fl, FlEnd, Fo, G, Hc, Jl, Jp, Ms, MsEnd, Mv, Nl, Np, Pb, Pt, Sc, ScEnd, Tr}

-- a text that ends where the tag's bytes end, as a place in the message
abbrev pub place_of : ℕ → List ℕ → Place
place_of end t = record { start = end - length t; len = length t }

-- the text after the first comma
unfoldable pub text_of : ℕ → List ℕ → Option Place
text_of end p = pick (holds 44 p) (Some (place_of end (past 44 p))) None

-- a number of 32 bits, and a text after it
abbrev pub specific_of : ℕ → List ℕ → Option (ℕ × Option Place)
specific_of end p = and_then (read_number 10 4294967295 (up_to 44 p)) λ m. Some (m, text_of end p)

-- [msn], [msn,text]: 32 bits
unfoldable pub manufacturer_specific : ℕ → List ℕ → Option Value
manufacturer_specific end p = and_then (read_number 10 4294967295 (up_to 44 p)) λ m. Some (ManufacturerSpecific m (text_of end p))

-- [/msn], [/msn,text]
unfoldable pub manufacturer_specific_end : ℕ → List ℕ → Option Value
manufacturer_specific_end end p = and_then (read_number 10 4294967295 (up_to 44 p)) λ m. Some (ManufacturerSpecificEnd m (text_of end p))

-- of a moving text: width, pixels of a step, tenths of a second between steps, and the text t
unfoldable pub movement : ℕ → List ℕ → List ℕ → List ℕ → List ℕ → Option Movement
movement end w s r t =
    and_then (read_number 10 65535 w) λ a.
    and_then (read_number 10 255 s) λ b.
    and_then (read_number 10 255 r) λ c.
    Some (record { width = a; pixels = b; deciseconds = c; text = place_of end t })

-- "w,s,r,text": the text keeps its commas
unfoldable pub movement_parts : ℕ → List ℕ → Option Movement
movement_parts end p = movement end (up_to 44 p) (up_to 44 (past 44 p)) (up_to 44 (past 44 (past 44 p))) (past 44 (past 44 (past 44 p)))

-- and must be there
unfoldable pub movement_of : ℕ → List ℕ → Option Movement
movement_of end p = pick (holds 44 (past 44 (past 44 p))) (movement_parts end p) None

-- the direction's letter l or r, then "w,s,r,text"
unfoldable pub moving_text_mode : ℕ → MovingTextMode → List ℕ → Option Value
moving_text_mode end m p =
    pick (eqb (lower (get_or p 0 0)) 108) (and_then (movement_of end (drop 1 p)) λ t. Some (MovingText m Left t))
    (pick (eqb (lower (get_or p 0 0)) 114) (and_then (movement_of end (drop 1 p)) λ t. Some (MovingText m Right t))
    None)

-- [mvl..]: a digit, the delay, may come first
unfoldable pub moving_text_linear : ℕ → List ℕ → Option Value
moving_text_linear end p =
    pick (leb 48 (get_or p 0 0))
    (pick (leb (get_or p 0 0) 57) (moving_text_mode end (Linear (get_or p 0 0 - 48)) (drop 1 p)) (moving_text_mode end (Linear 0) p))
    (moving_text_mode end (Linear 0) p)

-- [mvc..], [mvl..]
unfoldable pub moving_text : ℕ → List ℕ → Option Value
moving_text end p =
    pick (eqb (lower (get_or p 0 0)) 99) (moving_text_mode end Circular (drop 1 p))
    (pick (eqb (lower (get_or p 0 0)) 108) (moving_text_linear end (drop 1 p))
    None)

-- two letters as one number
abbrev pub pair : ℕ → ℕ → ℕ
pair a b = a * 256 + b

-- the names after a /
unfoldable pub end_name : ℕ → Option Name
end_name k =
    pick (eqb k (pair 115 99)) (Some ScEnd)
    (pick (eqb k (pair 102 108)) (Some FlEnd)
    (pick (eqb k (pair 109 115)) (Some MsEnd)
    None))

-- a name that is no name of two letters: "[fe] is always an unsupported tag", f and g with anything after them, and the names that start with /
unfoldable pub first_name : ℕ → ℕ → ℕ → Option Name
first_name a b c =
    pick (eqb a 102) (pick (eqb b 101) None (Some F))
    (pick (eqb a 103) (Some G)
    (pick (eqb a 47) (end_name (pair b c))
    None))

-- the names of two letters, in the order of `parse_tag`; a, b and c are the tag's first bytes in lower case
unfoldable pub name_by : ℕ → ℕ → ℕ → Option Name
name_by a b c =
    pick (eqb (pair a b) (pair 110 108)) (Some Nl)
    (pick (eqb (pair a b) (pair 110 112)) (Some Np)
    (pick (eqb (pair a b) (pair 102 111)) (Some Fo)
    (pick (eqb (pair a b) (pair 106 108)) (Some Jl)
    (pick (eqb (pair a b) (pair 106 112)) (Some Jp)
    (pick (eqb (pair a b) (pair 112 116)) (Some Pt)
    (pick (eqb (pair a b) (pair 112 98)) (Some Pb)
    (pick (eqb (pair a b) (pair 99 102)) (Some Cf)
    (pick (eqb (pair a b) (pair 99 114)) (Some Cr)
    (pick (eqb (pair a b) (pair 116 114)) (Some Tr)
    (pick (eqb (pair a b) (pair 99 98)) (Some Cb)
    (pick (eqb (pair a b) (pair 115 99)) (Some Sc)
    (pick (eqb (pair a b) (pair 104 99)) (Some Hc)
    (pick (eqb (pair a b) (pair 102 108)) (Some Fl)
    (pick (eqb (pair a b) (pair 109 118)) (Some Mv)
    (pick (eqb (pair a b) (pair 109 115)) (Some Ms)
    (first_name a b c))))))))))))))))

-- the name of a tag: "names ignore ASCII case"
unfoldable pub name_of : List ℕ → Option Name
name_of l = name_by (lower (get_or l 0 0)) (lower (get_or l 1 0)) (lower (get_or l 2 0))

-- how many bytes a name has
abbrev pub name_len : Name → ℕ
name_len Cb = 2
name_len Cf = 2
name_len Cr = 2
name_len F = 1
name_len Fl = 2
name_len FlEnd = 3
name_len Fo = 2
name_len G = 1
name_len Hc = 2
name_len Jl = 2
name_len Jp = 2
name_len Ms = 2
name_len MsEnd = 3
name_len Mv = 2
name_len Nl = 2
name_len Np = 2
name_len Pb = 2
name_len Pt = 2
name_len Sc = 2
name_len ScEnd = 3
name_len Tr = 2

-- the bytes p after a name, which end at a place of the message; long: long times hold
abbrev pub by_name : Bool → Name → ℕ → List ℕ → Option Value
by_name long Cb end p = color_background p
by_name long Cf end p = color_foreground p
by_name long Cr end p = color_rectangle p
by_name long F end p = field p
by_name long Fl end p = flash_time p
by_name long FlEnd end p = flash_end p
by_name long Fo end p = font p
by_name long G end p = graphic p
by_name long Hc end p = hexadecimal_character p
by_name long Jl end p = justification_line p
by_name long Jp end p = justification_page p
by_name long Ms end p = manufacturer_specific end p
by_name long MsEnd end p = manufacturer_specific_end end p
by_name long Mv end p = moving_text end p
by_name long Nl end p = new_line p
by_name long Np end p = new_page p
by_name long Pb end p = page_background p
by_name long Pt end p = page_time long p
by_name long Sc end p = spacing_character p
by_name long ScEnd end p = spacing_character_end p
by_name long Tr end p = text_rectangle p

-- a tag l with such a name, or with none
abbrev pub named : Bool → Option Name → ℕ → List ℕ → Result Value SyntaxError
named long None end l = Err UnsupportedTag
named long (Some n) end l = ok_or (by_name long n end (drop (name_len n) l)) UnsupportedTagValue

-- `parse_tag`: a tag without its brackets, whose bytes end at a place of the message; long: long times hold
unfoldable pub tag_value : Bool → ℕ → List ℕ → Result Value SyntaxError
tag_value long end l = named long (name_of l) end l
