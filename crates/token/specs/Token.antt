-- Document 01, "Tokenizer": how a message is cut into slices, and of what shape a slice is.
use Rattle.std.specs.Prelude.{ℕ, zero, suc, ◌-◌, List, [], ◌∷◌, ◌++◌, Bool, false, eqb, length, get_or, take, drop}
use Rattle.std.specs.Borrow.{Bor}
use Rattle.base.specs.Pick.{pick}
use Rattle.token.specs.declared.Shape.{Shape}
use Rattle.token.specs.declared.Shape.TheVariants.{Bracket, Tag, Stray, Text}

-- the bytes before the first [ or ]
unfoldable pub plain_len : List ℕ → ℕ
plain_len [] = 0
plain_len (b ∷ l) =
    let on = suc (plain_len l) in
    pick (eqb b 91) 0 (pick (eqb b 93) 0 on)

-- "a slice that starts with [ ends after the first ]", and any before the next [: of the bytes l that follow its [
unfoldable pub tag_len : List ℕ → ℕ
tag_len l =
    let n = plain_len l in
    pick (eqb (get_or l n 0) 93) (suc n) n

-- how many of the bytes l, which follow b, are in the slice that starts with b: "a leading [[ or ]] is a slice of two bytes";
-- "any other slice ends before a ], or is that ] alone"
unfoldable pub rest_len : ℕ → List ℕ → ℕ
rest_len b l =
    let tag = tag_len l in
    let text = plain_len l in
    pick (eqb b 91) (pick (eqb (get_or l 0 0) 91) 1 tag)
    (pick (eqb b 93) (pick (eqb (get_or l 0 0) 93) 1 0) text)

-- the first slice's length
unfoldable pub slice_len : List ℕ → ℕ
slice_len [] = 0
slice_len (b ∷ l) = suc (rest_len b l)

-- a slice: where it starts in the message, and its bytes
pub record Slice : Type 0 where
  pub start : ℕ
  pub bytes : List ℕ

-- the slices of l, which stands at a place of the message and whose first k bytes belong to the slice before
abbrev pub cuts : ℕ → ℕ → List ℕ → List Slice
cuts at k [] = []
cuts at zero (b ∷ l) = record { start = at; bytes = b ∷ take (rest_len b l) l } ∷ cuts (suc at) (rest_len b l) l
cuts at (suc k) (b ∷ l) = cuts (suc at) k l

-- the slices of a message
unfoldable pub slices : List ℕ → List Slice
slices l = cuts 0 0 l

-- those of the slices of a message that start at a place or past it, where one starts there
abbrev pub slices_from : ℕ → List ℕ → List Slice
slices_from at l = cuts at 0 (drop at l)

-- a place and the bytes that start there, as a slice
abbrev pub slice_at : ℕ × Bor (List ℕ) → Slice
slice_at it = record { start = it.0; bytes = it.1.now }

-- the bytes of slices in a row
unfoldable pub joined : List Slice → List ℕ
joined [] = []
joined (s ∷ ss) = s.bytes ++ joined ss

-- the bytes are two brackets b
unfoldable pub is_pair : ℕ → List ℕ → Bool
is_pair b s = pick (eqb (length s) 2) (pick (eqb (get_or s 0 0) b) (eqb (get_or s 1 0) b) false) false

unfoldable pub last_byte : List ℕ → ℕ
last_byte s = get_or s (length s - 1) 0

-- `Value::try_from`: [[ and ]]; what starts with [ and ends with ]; what starts with another bracket; text
unfoldable pub shape_of : List ℕ → Shape
shape_of s =
    pick (is_pair 91 s) Bracket
    (pick (is_pair 93 s) Bracket
    (pick (eqb (get_or s 0 0) 91) (pick (eqb (last_byte s) 93) Tag Stray)
    (pick (eqb (get_or s 0 0) 93) Stray
    Text)))
