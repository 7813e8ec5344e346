-- Document 01, "The calls", Reading: "message, offset; gives the slice with its value, or end at the message's length. It looks at the slice at
-- the offset only, and uses 2, 3, 4 for the offset, 5 for unknown tags, 6 for parameters and 7."
use Rattle.std.specs.Prelude.{ℕ, ◌+◌, ◌-◌, List, Bool, leb, ltb, eqb, length, take, drop, Result, Ok, Err}
use Rattle.base.specs.Pick.{pick}
use Rattle.utf8.specs.Utf8.{well_formed, inside_character, codes, all_latin1}
use Rattle.token.specs.declared.Shape.{Shape}
use Rattle.token.specs.declared.Shape.TheVariants.{Bracket, Tag, Stray, Text as TextShape}
use Rattle.token.specs.Token.{slice_len, shape_of}
use Rattle.value.specs.declared.Place.{Place}
use Rattle.value.specs.declared.SyntaxError.{SyntaxError}
use Rattle.value.specs.declared.SyntaxError.TheVariants.{UnsupportedTag, Other}
use Rattle.value.specs.declared.Value.{Value}
use Rattle.value.specs.declared.Value.TheVariants.{Text}
use Rattle.value.specs.Syntax.{number_of}
use Rattle.parse.specs.Parse.{tag_value}
use Rattle.refusal.specs.Refusals.{refusal}
use Rattle.reading.specs.declared.Reading.{Reading}
use Rattle.reading.specs.declared.Reading.TheVariants.{Slice, End, Refused}

abbrev pub place : ℕ → ℕ → Place
place start n = record { start = start; len = n }

-- Document 02, A5: "Reading is told whether long times hold, and without them reads as before". long: they hold

-- a slice from [ to ]: the tag between them, whose bytes end at its ]
unfoldable pub tag_item : Bool → ℕ → List ℕ → Result Value SyntaxError
tag_item long at s = pick (leb 2 (length s)) (tag_value long (at + (length s - 1)) (take (length s - 1 - 1) (drop 1 s))) (Err UnsupportedTag)

-- "Text holds code points 1 to 255 (Latin-1)", else 7
unfoldable pub text_item : ℕ → List ℕ → Result Value SyntaxError
text_item at s = pick (all_latin1 (codes s)) (Ok (Text (place at (length s)))) (Err Other)

-- [[ and ]] are texts of one byte; a stray bracket is no known tag
abbrev pub shape_item : Bool → Shape → ℕ → List ℕ → Result Value SyntaxError
shape_item long Bracket at s = Ok (Text (place at 1))
shape_item long Tag at s = tag_item long at s
shape_item long Stray at s = Err UnsupportedTag
shape_item long TextShape at s = text_item at s

-- `Value::try_from`: the slice s, which starts at a place of the message
unfoldable pub item_of : Bool → ℕ → List ℕ → Result Value SyntaxError
item_of long at s = shape_item long (shape_of s) at s

-- a refusal with its number and place; its detail is 0
abbrev pub refused : ℕ → ℕ → ℕ → Reading
refused n start len = Refused (refusal n start len 0)

-- "5 to 8 carry their slice's place"
abbrev pub item_reading : Result Value SyntaxError → ℕ → ℕ → Reading
item_reading (Ok v) at n = Slice (place at n) v
item_reading (Err e) at n = refused (number_of e) at n

unfoldable pub slice_reading : Bool → ℕ → List ℕ → Reading
slice_reading long at s = item_reading (item_of long at s) at (length s)

-- the slice that starts at the offset
unfoldable pub reading_at : Bool → List ℕ → ℕ → Reading
reading_at long msg offset = slice_reading long offset (take (slice_len (drop offset msg)) (drop offset msg))

-- the checks in order: 2, "the message is longer than 2,048 bytes"; 3, "the message is not well-formed UTF-8"; 4, "the reading offset is past
-- the message or inside a character"; "end at the message's length"; then the slice
unfoldable pub reading : Bool → List ℕ → ℕ → Reading
reading long msg offset =
    pick (ltb 2048 (length msg)) (refused 2 0 0)
    (pick (well_formed msg)
    (pick (ltb (length msg) offset) (refused 4 0 0)
    (pick (inside_character msg offset) (refused 4 0 0)
    (pick (eqb offset (length msg)) End
    (reading_at long msg offset))))
    (refused 3 0 0))
