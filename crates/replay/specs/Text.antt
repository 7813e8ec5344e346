-- What the contracts of the readers cite.
use Rattle.std.specs.Prelude.{ℕ, ◌+◌, ◌-◌, ◌*◌, ◌&&◌, Bool, List, [], ◌∷◌, Option, Some, None, ltb, leb, eqb, length, get_or, slice_get, unwrap_or, false}
use Rattle.std.specs.List.{slice_split, list_all, enumerate_from}
use Rattle.base.specs.Pick.{pick}
use Rattle.number.specs.Number.{read_number}

-- the words of a line, parted by spaces, and the one of a number, nothing past the last
abbrev pub words_of : List ℕ → List (List ℕ)
words_of line = slice_split (λ b. eqb b 32) line

abbrev pub word_of : List ℕ → ℕ → List ℕ
word_of line n = unwrap_or (slice_get (words_of line) n) []

-- a decimal number without a sign and without leading zeros
unfoldable pub plain_number : List ℕ → Option ℕ
plain_number w =
    pick (eqb (get_or w 0 0) 43) None
    (pick (eqb (get_or w 0 0) 48) (pick (ltb 1 (length w)) None (Some 0)) (read_number 10 4294967295 w))

-- word n of a line as a number
abbrev pub number_of : List ℕ → ℕ → Option ℕ
number_of line n = plain_number (word_of line n)

-- whether the first words of a line are numbers, and whether these are all its words
abbrev pub is_number : Option ℕ → ℕ → Bool
is_number (Some m) n = eqb m n
is_number None n = false

abbrev pub starts : List ℕ → List ℕ → Bool
starts line numbers = list_all (λ p. is_number (number_of line p.0) p.1) (enumerate_from 0 numbers)

abbrev pub is_all : List ℕ → List ℕ → Bool
is_all line numbers = eqb (length (words_of line)) (length numbers) && starts line numbers

-- the value of a hexadecimal digit in lower case
unfoldable pub nibble_of : ℕ → Option ℕ
nibble_of b =
    pick (ltb b 48) None (pick (leb b 57) (Some (b - 48)) (pick (ltb b 97) None (pick (leb b 102) (Some (b - 97 + 10)) None)))

-- the byte of two digits
abbrev pub byte_by : Option ℕ → Option ℕ → Option ℕ
byte_by (Some h) (Some l) = Some (h * 16 + l)
byte_by (Some h) None = None
byte_by None l = None

unfoldable pub pair_of : ℕ → ℕ → Option ℕ
pair_of h l = byte_by (nibble_of h) (nibble_of l)

-- a byte before others
abbrev pub put_first : Option ℕ → Option (List ℕ) → Option (List ℕ)
put_first (Some b) (Some l) = Some (b ∷ l)
put_first (Some b) None = None
put_first None l = None

-- the bytes of pairs of digits
unfoldable pub pairs_of : List ℕ → Option (List ℕ)
pairs_of [] = Some []
pairs_of (h ∷ []) = None
pairs_of (h ∷ l ∷ w) = put_first (pair_of h l) (pairs_of w)

-- the digits of a word; a - stands for none
unfoldable pub digits_in : List ℕ → List ℕ
digits_in w = pick (eqb (length w) 1) (pick (eqb (get_or w 0 0) 45) [] w) w
