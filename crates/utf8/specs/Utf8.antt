-- UTF-8: which bytes are well formed (the Unicode Standard, Table 3-7, "Well-Formed UTF-8 Byte Sequences"), and which
-- code points they are (Table 3-6, "UTF-8 Bit Distribution"). Document 01, refusals 3, 4 and 7.
use Rattle.std.specs.Prelude.{ℕ, zero, suc, ◌+◌, ◌-◌, ◌*◌, ◌%◌, List, [], ◌∷◌, Bool, true, false, ltb, leb, eqb, get_or, drop}
use Rattle.base.specs.Pick.{pick}
use Rattle.utf8.specs.declared.Due.{Due}
use Rattle.utf8.specs.declared.Code.{Code}

-- a first byte of a character: 00 to 7F, C2 to F4
unfoldable pub first : ℕ → Bool
first b = pick (ltb b 128) true (pick (ltb b 194) false (ltb b 245))

-- how many bytes follow a first byte: none after 00 to 7F, 1 after C2 to DF, 2 after E0 to EF, 3 after F0 to F4
unfoldable pub extra : ℕ → ℕ
extra b = pick (ltb b 192) 0 (pick (ltb b 224) 1 (pick (ltb b 240) 2 3))

-- the lowest second byte: A0 after E0, 90 after F0, else 80
unfoldable pub low : ℕ → ℕ
low b = pick (eqb b 224) 160 (pick (eqb b 240) 144 128)

-- the highest second byte: 9F after ED, 8F after F4, else BF
unfoldable pub high : ℕ → ℕ
high b = pick (eqb b 237) 159 (pick (eqb b 244) 143 191)

-- k bytes of a character are due, the next one from lo to hi
abbrev pub due : ℕ → ℕ → ℕ → Due
due k lo hi = record { left = k; low = lo; high = hi }

-- whether the byte b may come: a first byte where none is due, else one in the range
unfoldable pub fits : Due → ℕ → Bool
fits d b = pick (eqb d.left 0) (first b) (pick (ltb b d.low) false (leb b d.high))

-- what is due after it: the third and the fourth byte are 80 to BF
unfoldable pub after_byte : Due → ℕ → Due
after_byte d b = pick (eqb d.left 0) (due (extra b) (low b) (high b)) (due (d.left - 1) 128 191)

-- each byte may come, and none is due at the end
unfoldable pub well_formed_from : Due → List ℕ → Bool
well_formed_from d [] = eqb d.left 0
well_formed_from d (b ∷ l) =
    let on = well_formed_from (after_byte d b) l in
    pick (fits d b) on false

unfoldable pub well_formed : List ℕ → Bool
well_formed l = well_formed_from (due 0 128 191) l

-- each byte is ASCII, from a code on to 7F
unfoldable pub all_ascii : ℕ → List ℕ → Bool
all_ascii from [] = true
all_ascii from (b ∷ l) =
    let on = all_ascii from l in
    pick (ltb b from) false (pick (ltb b 128) on false)

-- the six low bits of the byte at i, past the end those of 0
abbrev pub bits : List ℕ → ℕ → ℕ
bits l i = get_or l i 0 % 64

-- the code point of a character, from its first byte and the bytes after it, by the rows of Table 3-6: 0xxxxxxx;
-- 110yyyyy 10xxxxxx; 1110zzzz 10yyyyyy 10xxxxxx; 11110uuu 10uuzzzz 10yyyyyy 10xxxxxx. 80 to BF, no first bytes, are themselves
unfoldable pub code_of : ℕ → List ℕ → ℕ
code_of b l =
    pick (ltb b 192) b
    (pick (ltb b 224) (b % 32 * 64 + bits l 0)
    (pick (ltb b 240) ((b % 16 * 64 + bits l 0) * 64 + bits l 1)
    (((b % 8 * 64 + bits l 0) * 64 + bits l 1) * 64 + bits l 2)))

-- the code points of l, without its first k bytes
unfoldable pub codes_from : ℕ → List ℕ → List ℕ
codes_from k [] = []
codes_from zero (b ∷ l) = code_of b l ∷ codes_from (extra b) l
codes_from (suc k) (b ∷ l) = codes_from k l

-- the code points of a text
unfoldable pub codes : List ℕ → List ℕ
codes l = codes_from 0 l

-- the code point at a place, and how many bytes it takes
abbrev pub coded : ℕ → ℕ → Code
coded c n = record { code = c; len = n }

unfoldable pub code_at : List ℕ → ℕ → Code
code_at l at = coded (code_of (get_or l at 0) (drop (at + 1) l)) (suc (extra (get_or l at 0)))

-- each code point is 1 to 255
unfoldable pub all_latin1 : List ℕ → Bool
all_latin1 [] = true
all_latin1 (c ∷ l) =
    let on = all_latin1 l in
    pick (ltb c 1) false (pick (ltb 255 c) false on)

-- a byte that goes on with a character: 80 to BF
unfoldable pub continues : ℕ → Bool
continues b = pick (ltb b 128) false (ltb b 192)

-- there is a byte at the place k and it goes on with a character (past the end of l stands 0, which does not)
unfoldable pub inside_character : List ℕ → ℕ → Bool
inside_character l k = continues (get_or l k 0)
