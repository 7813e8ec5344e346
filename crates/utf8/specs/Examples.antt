-- Worked texts, by computation.
use Rattle.std.specs.Prelude.{ℕ, ◌≡◌, refl, List, [], ◌∷◌, Bool, true, false}
use Rattle.utf8.specs.Utf8.{first, extra, low, high, fits, after_byte, well_formed_from, well_formed, code_of, codes_from, codes, code_at, coded, all_latin1, continues, inside_character}

-- the bytes l are well formed and stand for the code points cs; t: these are all 1 to 255
abbrev Reads : List ℕ → List ℕ → Bool → Type 0
Reads l cs t = (well_formed l ≡ true) × (codes l ≡ cs) × (all_latin1 cs ≡ t)

abbrev Ill : List ℕ → Type 0
Ill l = well_formed l ≡ false

-- nothing
empty : Reads ([]) ([]) true
unfolding well_formed well_formed_from fits after_byte first extra low high codes codes_from code_of all_latin1
empty = (refl, refl, refl)

-- A
letter : Reads (0x41 ∷ []) (65 ∷ []) true
unfolding well_formed well_formed_from fits after_byte first extra low high codes codes_from code_of all_latin1
letter = (refl, refl, refl)

-- é
e_acute : Reads (0xC3 ∷ 0xA9 ∷ []) (233 ∷ []) true
unfolding well_formed well_formed_from fits after_byte first extra low high codes codes_from code_of all_latin1
e_acute = (refl, refl, refl)

-- €
euro : Reads (0xE2 ∷ 0x82 ∷ 0xAC ∷ []) (8364 ∷ []) false
unfolding well_formed well_formed_from fits after_byte first extra low high codes codes_from code_of all_latin1
euro = (refl, refl, refl)

-- 😀
smile : Reads (0xF0 ∷ 0x9F ∷ 0x98 ∷ 0x80 ∷ []) (128512 ∷ []) false
unfolding well_formed well_formed_from fits after_byte first extra low high codes codes_from code_of all_latin1
smile = (refl, refl, refl)

-- ÿ, the last of Latin-1
last_latin1 : Reads (0xC3 ∷ 0xBF ∷ []) (255 ∷ []) true
unfolding well_formed well_formed_from fits after_byte first extra low high codes codes_from code_of all_latin1
last_latin1 = (refl, refl, refl)

-- Ā, the next code point
first_above : Reads (0xC4 ∷ 0x80 ∷ []) (256 ∷ []) false
unfolding well_formed well_formed_from fits after_byte first extra low high codes codes_from code_of all_latin1
first_above = (refl, refl, refl)

-- code point 0 is no Latin-1 text
nul : Reads (0x00 ∷ []) (0 ∷ []) false
unfolding well_formed well_formed_from fits after_byte first extra low high codes codes_from code_of all_latin1
nul = (refl, refl, refl)

-- the ends of the ranges: 7F, 80, 7FF, 800, D7FF, E000, FFFF, 10000, 10FFFF
ends : Reads
    (0x7F ∷ 0xC2 ∷ 0x80 ∷ 0xDF ∷ 0xBF ∷ 0xE0 ∷ 0xA0 ∷ 0x80 ∷ 0xED ∷ 0x9F ∷ 0xBF ∷ 0xEE ∷ 0x80 ∷ 0x80 ∷ 0xEF ∷ 0xBF ∷ 0xBF ∷ 0xF0 ∷ 0x90 ∷ 0x80
    ∷ 0x80 ∷ 0xF4 ∷ 0x8F ∷ 0xBF ∷ 0xBF ∷ []) (127 ∷ 128 ∷ 2047 ∷ 2048 ∷ 55295 ∷ 57344 ∷ 65535 ∷ 65536 ∷ 1114111 ∷ []) false
unfolding well_formed well_formed_from fits after_byte first extra low high codes codes_from code_of all_latin1
ends = (refl, refl, refl)

-- Aé€😀
mixed : Reads (0x41 ∷ 0xC3 ∷ 0xA9 ∷ 0xE2 ∷ 0x82 ∷ 0xAC ∷ 0xF0 ∷ 0x9F ∷ 0x98 ∷ 0x80 ∷ []) (65 ∷ 233 ∷ 8364 ∷ 128512 ∷ []) false
unfolding well_formed well_formed_from fits after_byte first extra low high codes codes_from code_of all_latin1
mixed = (refl, refl, refl)

-- longer than need be: NUL in two bytes
long_2 : Ill (0xC0 ∷ 0x80 ∷ [])
unfolding well_formed well_formed_from fits after_byte first extra low high
long_2 = refl

-- and in three
long_3 : Ill (0xE0 ∷ 0x80 ∷ 0x80 ∷ [])
unfolding well_formed well_formed_from fits after_byte first extra low high
long_3 = refl

-- and in four
long_4 : Ill (0xF0 ∷ 0x80 ∷ 0x80 ∷ 0x80 ∷ [])
unfolding well_formed well_formed_from fits after_byte first extra low high
long_4 = refl

-- D800
surrogate : Ill (0xED ∷ 0xA0 ∷ 0x80 ∷ [])
unfolding well_formed well_formed_from fits after_byte first extra low high
surrogate = refl

-- 110000
too_high : Ill (0xF4 ∷ 0x90 ∷ 0x80 ∷ 0x80 ∷ [])
unfolding well_formed well_formed_from fits after_byte first extra low high
too_high = refl

-- € without its last byte
cut_short : Ill (0xE2 ∷ 0x82 ∷ [])
unfolding well_formed well_formed_from fits after_byte first extra low high
cut_short = refl

-- a byte of no character
lone : Ill (0x80 ∷ [])
unfolding well_formed well_formed_from fits after_byte first extra low high
lone = refl

-- F5 starts none
no_first : Ill (0xF5 ∷ 0x80 ∷ 0x80 ∷ 0x80 ∷ [])
unfolding well_formed well_formed_from fits after_byte first extra low high
no_first = refl

-- a letter where a byte is due
broken : Ill (0xE2 ∷ 0x82 ∷ 0x41 ∷ [])
unfolding well_formed well_formed_from fits after_byte first extra low high
broken = refl

-- the code point at a place, in A€
at_euro : code_at (0x41 ∷ 0xE2 ∷ 0x82 ∷ 0xAC ∷ []) 1 ≡ coded 8364 3
unfolding code_at code_of extra
at_euro = refl

-- its places: A and € start at 0 and 1; 2 and 3 are inside; 4 is the end
places : (inside_character (0x41 ∷ 0xE2 ∷ 0x82 ∷ 0xAC ∷ []) 0 ≡ false) × (inside_character (0x41 ∷ 0xE2 ∷ 0x82 ∷ 0xAC ∷ []) 1 ≡ false)
    × (inside_character (0x41 ∷ 0xE2 ∷ 0x82 ∷ 0xAC ∷ []) 2 ≡ true) × (inside_character (0x41 ∷ 0xE2 ∷ 0x82 ∷ 0xAC ∷ []) 3 ≡ true)
    × (inside_character (0x41 ∷ 0xE2 ∷ 0x82 ∷ 0xAC ∷ []) 4 ≡ false)
unfolding inside_character continues
places = (refl, refl, refl, refl, refl)
