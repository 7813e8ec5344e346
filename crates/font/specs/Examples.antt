-- Worked widths, and counts of characters looked up, by computation: a font of A, 5 wide, B, 0 wide, and C, 1 wide.
use Rattle.std.specs.Prelude.{ℕ, ◌≡◌, refl, List, [], ◌∷◌, map, true, false, Ok, Err}
use Rattle.utf8.specs.Utf8.{extra, code_of, codes_from, codes}
use Rattle.sign.specs.Sign.{Character}
use Rattle.font.specs.Character.{lookup, character_in, is_capital, stand_ins, letters_of}
use Rattle.font.specs.Measure.{Measure, widened, width_after, text_width, looked_up, measure_of}
use Rattle.font.specs.declared.Looked.{Looked}

abbrev ch : ℕ → ℕ → Character
ch n w = record { number = n; width = w; bitmap = 0 }

abbrev missing : ℕ → Measure
missing n = Err (record { code = n })

abbrev letters : List Character
letters = ch 65 5 ∷ ch 66 0 ∷ ch 67 1 ∷ []

-- nothing; A; AA; CA: spacing between them
plain : map (text_width letters 2) ([] ∷ (65 ∷ []) ∷ (65 ∷ 65 ∷ []) ∷ (67 ∷ 65 ∷ []) ∷ []) ≡ Ok 0 ∷ Ok 5 ∷ Ok 12 ∷ Ok 8 ∷ []
unfolding text_width width_after widened character_in lookup
plain = refl

-- BA: none after a width of 0; AB: before B; code 0 counts as B does
narrow : map (text_width letters 2) ((66 ∷ 65 ∷ []) ∷ (65 ∷ 66 ∷ []) ∷ (66 ∷ 66 ∷ []) ∷ (65 ∷ 0 ∷ 65 ∷ []) ∷ []) ≡ Ok 5 ∷ Ok 7 ∷ Ok 0 ∷ Ok 14 ∷ []
unfolding text_width width_after widened character_in lookup
narrow = refl

-- the first character that is not there
gaps : map (text_width letters 2) ((65 ∷ 68 ∷ 69 ∷ []) ∷ (65536 ∷ []) ∷ []) ≡ missing 68 ∷ missing 65536 ∷ []
unfolding text_width width_after widened character_in lookup
gaps = refl

abbrev looks : ℕ → List ℕ → ℕ
looks n l = looked_up (ch n 2 ∷ letters) (codes l)

-- A2, by the bytes of a text: nothing; A; AAB; é, two bytes and one character, and AéA
each_once : map (looks 233) ([] ∷ (65 ∷ []) ∷ (65 ∷ 65 ∷ 66 ∷ []) ∷ (0xC3 ∷ 0xA9 ∷ []) ∷ (65 ∷ 0xC3 ∷ 0xA9 ∷ 65 ∷ []) ∷ []) ≡ 0 ∷ 1 ∷ 3 ∷ 1 ∷ 3 ∷ []
unfolding looked_up character_in lookup codes codes_from code_of extra
each_once = refl

-- code 0 is looked up like any other; so is €, above 255
other_codes : map (looks 8364) ((0 ∷ []) ∷ (65 ∷ 0 ∷ 65 ∷ []) ∷ (0xE2 ∷ 0x82 ∷ 0xAC ∷ 65 ∷ []) ∷ []) ≡ 1 ∷ 3 ∷ 2 ∷ []
unfolding looked_up character_in lookup codes codes_from code_of extra
other_codes = refl

abbrev looked : Measure → ℕ → Looked
looked m n = record { measure = m; count = n }

-- the third letter of ABDEA is missing, and none after it is looked up; so is the first of DA
up_to_missing : map (measure_of letters 2) ((65 ∷ 66 ∷ 68 ∷ 69 ∷ 65 ∷ []) ∷ (68 ∷ 65 ∷ []) ∷ (65 ∷ 65 ∷ []) ∷ [])
    ≡ looked (missing 68) 3 ∷ looked (missing 68) 1 ∷ looked (Ok 12) 2 ∷ []
unfolding text_width width_after widened looked_up character_in lookup
up_to_missing = refl

-- A4: ac, Ac and abc with capitals that stand in, and without; d, é and { have none; @ and [ are no capitals
stood_in_read : map (text_width (letters_of true letters) 2) ((97 ∷ 99 ∷ []) ∷ (65 ∷ 99 ∷ []) ∷ (97 ∷ 98 ∷ 99 ∷ []) ∷ (97 ∷ 100 ∷ []) ∷ (233 ∷ []) ∷ [])
    ≡ Ok 8 ∷ Ok 8 ∷ Ok 10 ∷ missing 100 ∷ missing 233 ∷ []
unfolding text_width width_after widened character_in lookup is_capital stand_ins
stood_in_read = refl

without : map (text_width (letters_of false letters) 2) ((97 ∷ 99 ∷ []) ∷ (65 ∷ 99 ∷ []) ∷ []) ≡ missing 97 ∷ missing 99 ∷ []
unfolding text_width width_after widened character_in lookup
without = refl

edges : map (text_width (letters_of true (ch 64 1 ∷ ch 65 5 ∷ ch 90 4 ∷ ch 91 3 ∷ [])) 2) ((96 ∷ []) ∷ (97 ∷ []) ∷ (122 ∷ []) ∷ (123 ∷ []) ∷ [])
    ≡ missing 96 ∷ Ok 5 ∷ Ok 4 ∷ missing 123 ∷ []
unfolding text_width width_after widened character_in lookup is_capital stand_ins
edges = refl

-- a font that has the small letter uses that, whether it comes before the capital or after it
own_small : map (λ (chs : List Character). text_width (letters_of true chs) 2 (97 ∷ 65 ∷ [])) ((ch 97 3 ∷ ch 65 5 ∷ []) ∷ (ch 65 5 ∷ ch 97 3 ∷ []) ∷ [])
    ≡ Ok 10 ∷ Ok 10 ∷ []
unfolding text_width width_after widened character_in lookup is_capital stand_ins
own_small = refl
