-- Worked sign files, by computation.
use Rattle.std.specs.Prelude.{ℕ, zero, suc, ◌/◌, ◌%◌, ◌≡◌, refl, List, [], ◌∷◌, ◌++◌, map, Bool, true, false, take}
use Rattle.records.specs.Record.{little_at, body_len, kind_of, whole, first_piece, rest_len, cut_from, pieces}
use Rattle.records.specs.declared.Config.{Config}
use Rattle.records.specs.Config.{config_of, size_ok, just_ok, not_zero, bits_ok, tags_ok, config_ok, is_config}
use Rattle.sign.specs.Sign.{characters_of, fonts_of, has_option, past_option, past_options, config_in, member, is_font, bitmap_len, is_character, Fine, FailsAt, fault_from, first_fault, fault, Accepted, sign_file}

-- board P of document 01: kind 1
config : List ℕ
config = 15 ∷ 0 ∷ 1 ∷ 0 ∷ 50 ∷ 0 ∷ 24 ∷ 0 ∷ 0 ∷ 0 ∷ 1 ∷ 2 ∷ 2 ∷ 30 ∷ 0 ∷ 232 ∷ 60 ∷ 0 ∷ 8 ∷ []

-- a font of a number, and its characters A, B and [, dark
font : ℕ → List ℕ
font n = 6 ∷ 0 ∷ 2 ∷ 0 ∷ n ∷ 7 ∷ 2 ∷ 3 ∷ 0 ∷ 0 ∷ []

a : List ℕ
a = 8 ∷ 0 ∷ 3 ∷ 0 ∷ 65 ∷ 0 ∷ 5 ∷ 0 ∷ 0 ∷ 0 ∷ 0 ∷ 0 ∷ []

b : List ℕ
b = 9 ∷ 0 ∷ 3 ∷ 0 ∷ 66 ∷ 0 ∷ 6 ∷ 0 ∷ 0 ∷ 0 ∷ 0 ∷ 0 ∷ 0 ∷ []

bracket : List ℕ
bracket = 6 ∷ 0 ∷ 3 ∷ 0 ∷ 91 ∷ 0 ∷ 3 ∷ 0 ∷ 0 ∷ 0 ∷ []

p_board : sign_file (config ++ font 1 ++ a ++ b ++ bracket)
    ≡ Accepted
    (record {
      width = 50;
      height = 24;
      char_width = 0;
      char_height = 0;
      font = 1;
      line_just = 2;
      page_just = 2;
      on_time = 30;
      off_time = 0;
      tags = 134233320;
      capitals = false;
      long_times = false;
      groups = false;
    })
    (record {
      number = 1;
      height = 7;
      char_spacing = 2;
      line_spacing = 3;
      version = 0;
      first = 29;
      characters =
          record { number = 65; width = 5; bitmap = 36 } ∷ record { number = 66; width = 6; bitmap = 48 }
          ∷ record { number = 91; width = 3; bitmap = 61 } ∷ [];
    } ∷ [])
unfolding sign_file fault first_fault past_options past_option has_option fault_from is_character bitmap_len is_font member config_in fonts_of characters_of
    is_config config_ok tags_ok bits_ok not_zero just_ok size_ok config_of pieces cut_from rest_len first_piece whole kind_of body_len little_at config font a b bracket
p_board = refl

-- fonts n, .., 2, 1
fonts : ℕ → List ℕ
fonts zero = []
fonts (suc n) = font (suc n) ++ fonts n

-- no font and two fonts; then empty, cut in a header, in a body and in a second header, no kind 1 first, kind 1 twice,
-- a character before a font, a font twice, a character twice, a bitmap one byte short and one long, kind 7; 24 fonts and 25
faults : map fault
    (config ∷ (config ++ font 1 ++ a ++ font 2 ++ a) ∷ [] ∷ take 3 config ∷ take 18 config ∷ (config ++ take 2 (font 1)) ∷ font 1
    ∷ (config ++ config) ∷ (config ++ a) ∷ (config ++ font 1 ++ a ++ font 1) ∷ (config ++ font 1 ++ a ++ b ++ a)
    ∷ (config ++ font 1 ++ 7 ∷ 0 ∷ 3 ∷ 0 ∷ 65 ∷ 0 ∷ 5 ∷ 0 ∷ 0 ∷ 0 ∷ 0 ∷ [])
    ∷ (config ++ font 1 ++ 9 ∷ 0 ∷ 3 ∷ 0 ∷ 65 ∷ 0 ∷ 5 ∷ 0 ∷ 0 ∷ 0 ∷ 0 ∷ 0 ∷ 0 ∷ []) ∷ (config ++ 0 ∷ 0 ∷ 7 ∷ 0 ∷ []) ∷ (config ++ fonts 24)
    ∷ (config ++ fonts 25) ∷ []) ≡ Fine ∷ Fine ∷ FailsAt 0 ∷ FailsAt 0 ∷ FailsAt 0 ∷ FailsAt 19 ∷ FailsAt 0 ∷ FailsAt 19 ∷ FailsAt 19
    ∷ FailsAt 41 ∷ FailsAt 54 ∷ FailsAt 29 ∷ FailsAt 29 ∷ FailsAt 19 ∷ Fine ∷ FailsAt 259 ∷ []
unfolding fault first_fault past_options past_option has_option fault_from is_character bitmap_len is_font member is_config config_ok tags_ok bits_ok not_zero
    just_ok size_ok config_of pieces cut_from rest_len first_piece whole kind_of body_len little_at config font a b fonts
faults = refl

-- characters n, .., 2, 1 of width 0
characters : ℕ → List ℕ
characters zero = []
characters (suc n) = 3 ∷ 0 ∷ 3 ∷ 0 ∷ suc n % 256 ∷ suc n / 256 ∷ 0 ∷ characters n

-- 256 characters, and 257
counts : map fault ((config ++ font 1 ++ characters 256) ∷ (config ++ font 1 ++ characters 257) ∷ []) ≡ Fine ∷ FailsAt 1821 ∷ []
unfolding fault first_fault past_options past_option has_option fault_from is_character bitmap_len is_font member is_config config_ok tags_ok bits_ok not_zero
    just_ok size_ok config_of pieces cut_from rest_len first_piece whole kind_of body_len little_at config font characters
counts = refl

-- an empty record of a kind
empty : ℕ → List ℕ
empty kind = 0 ∷ 0 ∷ kind ∷ 0 ∷ []

-- kind 4, kind 5, kind 6, and those that follow each other in this order, directly after kind 1, with and without a font after them
options : map fault
    ((config ++ empty 4) ∷ (config ++ empty 5) ∷ (config ++ empty 6) ∷ (config ++ empty 4 ++ empty 5) ∷ (config ++ empty 4 ++ empty 6)
    ∷ (config ++ empty 5 ++ empty 6) ∷ (config ++ empty 4 ++ empty 5 ++ empty 6) ∷ (config ++ empty 4 ++ font 1 ++ a) ∷ (config ++ empty 5 ++ font 1)
    ∷ (config ++ empty 6 ++ font 1) ∷ (config ++ empty 4 ++ empty 5 ++ font 1) ∷ (config ++ empty 4 ++ empty 5 ++ empty 6 ++ font 1) ∷ [])
    ≡ Fine ∷ Fine ∷ Fine ∷ Fine ∷ Fine ∷ Fine ∷ Fine ∷ Fine ∷ Fine ∷ Fine ∷ Fine ∷ Fine ∷ []
unfolding fault first_fault past_options past_option has_option fault_from is_character bitmap_len is_font member is_config config_ok tags_ok bits_ok not_zero just_ok
    size_ok config_of pieces cut_from rest_len first_piece whole kind_of body_len little_at config font a empty
options = refl

-- kind 4 twice, kind 5 twice, kind 6 twice, kind 4 after kind 5, kind 4 and kind 5 after kind 6, after a font, after a character, first, with a
-- body, cut short twice
no_options : map fault
    ((config ++ empty 4 ++ empty 4 ++ font 1) ∷ (config ++ empty 4 ++ empty 5 ++ empty 5) ∷ (config ++ empty 4 ++ empty 6 ++ empty 6)
    ∷ (config ++ empty 5 ++ empty 4) ∷ (config ++ empty 6 ++ empty 4) ∷ (config ++ empty 4 ++ empty 6 ++ empty 5) ∷ (config ++ font 1 ++ empty 4)
    ∷ (config ++ font 1 ++ a ++ empty 5) ∷ (config ++ font 1 ++ empty 6) ∷ (empty 4 ++ config) ∷ (config ++ 1 ∷ 0 ∷ 4 ∷ 0 ∷ 0 ∷ [])
    ∷ (config ++ 1 ∷ 0 ∷ 6 ∷ 0 ∷ 0 ∷ []) ∷ (config ++ empty 4 ++ 1 ∷ 0 ∷ 5 ∷ 0 ∷ []) ∷ (config ++ take 3 (empty 4)) ∷ [])
    ≡ FailsAt 23 ∷ FailsAt 27 ∷ FailsAt 27 ∷ FailsAt 23 ∷ FailsAt 23 ∷ FailsAt 27 ∷ FailsAt 29 ∷ FailsAt 41 ∷ FailsAt 29 ∷ FailsAt 0 ∷ FailsAt 19
    ∷ FailsAt 19 ∷ FailsAt 23 ∷ FailsAt 19 ∷ []
unfolding fault first_fault past_options past_option has_option fault_from is_character bitmap_len is_font member is_config config_ok tags_ok bits_ok not_zero just_ok
    size_ok config_of pieces cut_from rest_len first_piece whole kind_of body_len little_at config font a empty
no_options = refl

-- whether capitals stand in, whether times may be long, and whether the spans of a group are numbered one after the other
abbrev flags : List ℕ → Bool × Bool × Bool
flags options =
    let c : Config = config_in (pieces (config ++ options ++ font 1)) in
    (c.capitals, c.long_times, c.groups)

told : map flags ([] ∷ empty 4 ∷ empty 5 ∷ empty 6 ∷ (empty 4 ++ empty 5) ∷ (empty 4 ++ empty 6) ∷ (empty 5 ++ empty 6) ∷ (empty 4 ++ empty 5 ++ empty 6) ∷ [])
    ≡ (false, false, false) ∷ (true, false, false) ∷ (false, true, false) ∷ (false, false, true) ∷ (true, true, false) ∷ (true, false, true)
    ∷ (false, true, true) ∷ (true, true, true) ∷ []
unfolding config_in has_option past_option config_of pieces cut_from rest_len first_piece whole kind_of body_len little_at config font empty
told = refl
