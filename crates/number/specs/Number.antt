-- Document 01, "Number readers": Rust's unsigned `parse` and `from_str_radix`. One leading + allowed, leading zeros allowed,
-- empty or a lone + refused, too large refused. Hexadecimal takes both letter cases.
use Rattle.std.specs.Prelude.{ℕ, ◌+◌, ◌-◌, ◌*◌, List, [], ◌∷◌, ltb, leb, eqb, length, Option, Some, None}
use Rattle.base.specs.Pick.{pick}

-- the value of a byte as a digit, 0 to 9, A to F or a to f; 255 where it is no digit
unfoldable pub digit_of : ℕ → ℕ
digit_of b =
    pick (leb b 57) (pick (leb 48 b) (b - 48) 255)
    (pick (leb b 70) (pick (leb 65 b) (b - 55) 255)
    (pick (leb b 102) (pick (leb 97 b) (b - 87) 255) 255))

-- the digits l, after digits that made acc: refused at the first byte that is no digit, or that takes the number above max
unfoldable pub read_from : ℕ → ℕ → ℕ → List ℕ → Option ℕ
read_from radix max acc [] = Some acc
read_from radix max acc (b ∷ l) =
    pick (ltb (digit_of b) radix)
    (pick (leb (acc * radix + digit_of b) max) (read_from radix max (acc * radix + digit_of b) l) None)
    None

-- one digit or more
unfoldable pub read_digits : ℕ → ℕ → List ℕ → Option ℕ
read_digits radix max [] = None
read_digits radix max (b ∷ l) = read_from radix max 0 (b ∷ l)

-- one or more digits, after a + or not: a number of at most max
unfoldable pub read_number : ℕ → ℕ → List ℕ → Option ℕ
read_number radix max [] = None
read_number radix max (b ∷ l) = pick (eqb b 43) (read_digits radix max l) (read_digits radix max (b ∷ l))

-- "A version id is exactly four bytes, so "+0FF" reads as hexadecimal FF."
unfoldable pub version_id : List ℕ → Option ℕ
version_id l = pick (eqb (length l) 4) (read_number 16 65535 l) None
