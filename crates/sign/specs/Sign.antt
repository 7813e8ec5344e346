-- What a sign file holds, and where it breaks a rule. Document 01, "Sign file", and refusal 1.
use Rattle.std.specs.Prelude.{ℕ, ◌+◌, ◌*◌, ◌/◌, List, [], ◌∷◌, Bool, true, false, not, ltb, eqb, length, get_or, drop}
use Rattle.base.specs.Pick.{pick}
use Rattle.records.specs.Record.{all, little_at, Piece, Record, CutShort, pieces}
use Rattle.records.specs.Config.{not_zero, config_of, with_options, is_config}
use Rattle.records.specs.declared.Config.{Config}

-- The content

-- "Kind 3, a character": its number, its width, and the offset in the file at which its bitmap starts
pub record Character : Type 0 where
  pub number : ℕ
  pub width : ℕ
  pub bitmap : ℕ

-- "Kind 2, a font": its values, the offset after its record, and its characters
pub record Font : Type 0 where
  pub number : ℕ
  pub height : ℕ
  pub char_spacing : ℕ
  pub line_spacing : ℕ
  pub version : ℕ
  pub first : ℕ
  pub characters : List Character

-- "number (16 bits ..), width (a byte), and a bitmap": the bitmap is 4 + 3 bytes past the record's offset
abbrev pub character_of : ℕ → List ℕ → Character
character_of at body = record { number = little_at 2 0 body; width = get_or body 2 0; bitmap = at + 7 }

-- "6 bytes: number, height .., character spacing, line spacing, version id (16 bits ..)"
abbrev pub font_of : ℕ → List ℕ → List Character → Font
font_of at body cs =
    record {
      number = get_or body 0 0;
      height = get_or body 1 0;
      char_spacing = get_or body 2 0;
      line_spacing = get_or body 3 0;
      version = little_at 2 4 body;
      first = at + 4 + length body;
      characters = cs;
    }

-- "a character of the font before it": the records of kind 3 up to the first of another kind
unfoldable pub characters_of : List Piece → List Character
characters_of [] = []
characters_of (CutShort at ∷ ps) = []
characters_of (Record at kind body ∷ ps) = pick (eqb kind 3) (character_of at body ∷ characters_of ps) []

-- the fonts: each record of kind 2, with the characters that follow it
unfoldable pub fonts_of : List Piece → List Font
fonts_of [] = []
fonts_of (CutShort at ∷ ps) = fonts_of ps
fonts_of (Record at kind body ∷ ps) = pick (eqb kind 2) (font_of at body (characters_of ps) ∷ fonts_of ps) (fonts_of ps)

-- Document 02, the options: A4, "an empty record of kind 4, directly after kind 1"; A5, "an empty record of kind 5, directly after kind 1, or
-- after kind 4 if that is there"; A6, "an empty record of kind 6, directly after kind 1 and any of kinds 4 and 5"

-- the records start with the option of a kind: its record is empty
unfoldable pub has_option : ℕ → List Piece → Bool
has_option option [] = false
has_option option (CutShort at ∷ ps) = false
has_option option (Record at kind body ∷ ps) = all (eqb kind option ∷ eqb (length body) 0 ∷ [])

-- the records after that option, or all where it is not there
unfoldable pub past_option : ℕ → List Piece → List Piece
past_option option ps = pick (has_option option ps) (drop 1 ps) ps

-- the records after all options, each of which is there at most once, in the order of their kinds
unfoldable pub past_options : List Piece → List Piece
past_options ps = past_option 6 (past_option 5 (past_option 4 ps))

-- a configuration with the options that the records after it start with
abbrev pub optioned : List Piece → Config → Config
optioned ps c = with_options (has_option 4 ps) (has_option 5 (past_option 4 ps)) (has_option 6 (past_option 5 (past_option 4 ps))) c

-- the configuration: the first record, with the options after it
unfoldable pub config_in : List Piece → Config
config_in [] = config_of []
config_in (CutShort at ∷ ps) = config_of []
config_in (Record at kind body ∷ ps) = optioned ps (config_of body)

-- The rules

-- n stands in the list
unfoldable pub member : ℕ → List ℕ → Bool
member n [] = false
member n (m ∷ l) = pick (eqb n m) true (member n l)

-- the font before a record, if any: its height, and the numbers of its characters so far
pub data Before : Type 0 where
  NoFont : Before
  After : ℕ → List ℕ → Before

-- a font: "6 bytes: number, height (neither 0)", "at most 24 fonts with distinct numbers"; ns are the numbers of the fonts before
unfoldable pub is_font : List ℕ → ℕ → List ℕ → Bool
is_font ns kind body =
    all (eqb kind 2 ∷ eqb (length body) 6 ∷ not_zero (get_or body 0 0) ∷ not_zero (get_or body 1 0) ∷ not (member (get_or body 0 0) ns) ∷ ltb (length ns) 24 ∷ [])

-- "a bitmap of width × height bits rounded up to bytes"
unfoldable pub bitmap_len : ℕ → ℕ → ℕ
bitmap_len width height = (width * height + 7) / 8

-- a character: "a character of the font before it: number (16 bits, not 0), width (a byte), and a bitmap",
-- "256 characters each with numbers distinct within their font"
unfoldable pub is_character : Before → ℕ → List ℕ → Bool
is_character NoFont kind body = false
is_character (After height cs) kind body =
    all
    (eqb kind 3 ∷ eqb (length body) (3 + bitmap_len (get_or body 2 0) height) ∷ not_zero (little_at 2 0 body) ∷ not (member (little_at 2 0 body) cs)
    ∷ ltb (length cs) 256 ∷ [])

-- one character more
abbrev pub adding : ℕ → Before → Before
adding n NoFont = NoFont
adding n (After height cs) = After height (n ∷ cs)

-- the records keep the rules, or the one at an offset is the first that fails
pub data Verdict : Type 0 where
  Fine : Verdict
  FailsAt : ℕ → Verdict

-- the records after the first and its options, where ns are the numbers of the fonts before: each is a font, or a character, by the rules, or fails
unfoldable pub fault_from : List ℕ → Before → List Piece → Verdict
fault_from ns b [] = Fine
fault_from ns b (CutShort at ∷ ps) = FailsAt at
fault_from ns b (Record at kind body ∷ ps) =
    pick (is_font ns kind body) (fault_from (get_or body 0 0 ∷ ns) (After (get_or body 1 0) []) ps)
    (pick (is_character b kind body) (fault_from ns (adding (little_at 2 0 body) b) ps) (FailsAt at))

-- "Kind 1, first and once", the options, then fonts and characters: no other kind. An empty file fails at 0
unfoldable pub first_fault : List Piece → Verdict
first_fault [] = FailsAt 0
first_fault (CutShort at ∷ ps) = FailsAt at
first_fault (Record at kind body ∷ ps) = pick (is_config kind body) (fault_from [] NoFont (past_options ps)) (FailsAt at)

-- "65,535 bytes in all"; "start is 0 if the file is too long (looked at first) or empty, otherwise the offset of the first record that
-- fails, one cut short included"
unfoldable pub fault : List ℕ → Verdict
fault file = pick (ltb 65535 (length file)) (FailsAt 0) (first_fault (pieces file))

-- The answer: the whole content, or the refusal's start
pub data Sign : Type 0 where
  Accepted : Config → List Font → Sign
  RefusedAt : ℕ → Sign

abbrev pub answer : Verdict → Config → List Font → Sign
answer Fine c fs = Accepted c fs
answer (FailsAt at) c fs = RefusedAt at

unfoldable pub sign_file : List ℕ → Sign
sign_file file = answer (fault file) (config_in (pieces file)) (fonts_of (pieces file))
