-- What the reader's inner functions answer, in terms of the definitions, and what its loops keep. Nothing here is part of what a file means.
use Rattle.std.specs.Prelude.{ℕ, ◌+◌, ◌-◌, ◌≤◌, ◌≡◌, List, [], ◌∷◌, ◌++◌, map, Bool, true, false, not, ltb, eqb, length, get_or, take, drop, Option, Some, None, Result, IsSome}
use Rattle.base.specs.Pick.{pick}
use Rattle.records.specs.Record.{all, little_at, Piece, Record, CutShort, pieces_at, head_at}
use Rattle.records.specs.Config.{not_zero}
use Rattle.records.specs.declared.Config.{Config}
use Rattle.records.specs.declared.Record.{Record as Head}
use Rattle.sign.specs.Sign.{characters_of, fonts_of, has_option, past_option, past_options, optioned, member, Before, NoFont, After, is_character, bitmap_len, Fine, fault_from, answer}
use Rattle.sign.specs.declared.FontEntry.{FontEntry}
use Rattle.sign.specs.declared.CharRecord.{CharRecord}
use Rattle.sign.specs.declared.CharRun.{CharRun}
use Rattle.sign.specs.declared.RefusedAt.{RefusedAt}
use Rattle.sign.specs.Given.{entry_of, no_fonts, given}
use Rattle.sign.specs.declared.SignFile.{SignFile}

-- a font's entry, from its record's body, and with its count of characters
abbrev pub entry_with : List ℕ → ℕ → ℕ → ℕ → FontEntry
entry_with body version first n =
    record {
      number = get_or body 0 0;
      height = get_or body 1 0;
      char_spacing = get_or body 2 0;
      line_spacing = get_or body 3 0;
      version_id = version;
      first = first;
      characters = n;
    }

abbrev pub font_entry : List ℕ → ℕ → FontEntry
font_entry body first = entry_with body (little_at 2 4 body) first 0

abbrev pub filled : FontEntry → ℕ → FontEntry
filled f n =
    record {
      number = f.number;
      height = f.height;
      char_spacing = f.char_spacing;
      line_spacing = f.line_spacing;
      version_id = f.version_id;
      first = f.first;
      characters = n;
    }

-- what is given of the records from an offset on, after the configuration
unfoldable pub given_from : List ℕ → ℕ → Config → Result SignFile RefusedAt
given_from file from c =
    given (answer (fault_from [] NoFont (pieces_at file from)) c (fonts_of (pieces_at file from)))

-- the same, where options may stand first
unfoldable pub given_after : List ℕ → ℕ → Config → Result SignFile RefusedAt
given_after file from c =
    given
    (answer (fault_from [] NoFont (past_options (pieces_at file from))) (optioned (pieces_at file from) c) (fonts_of (pieces_at file from)))

-- what `past_option` answers: where the records after an option start, or an offset itself if no such option is there
pub record PastOption (file : List ℕ) (at option r : ℕ) : Type 0 where
  pub inside : at ≤ length file → r ≤ length file
  pub rest : pieces_at file r ≡ past_option option (pieces_at file at)
  pub has : ltb at r ≡ has_option option (pieces_at file at)

-- the bytes from an offset to another
abbrev pub part : List ℕ → ℕ → ℕ → List ℕ
part file start end = take (end - start) (drop start file)

-- the part of a font's rules that its record alone shows
unfoldable pub font_shape : ℕ → List ℕ → Bool
font_shape kind body = all (eqb kind 2 ∷ eqb (length body) 6 ∷ not_zero (get_or body 0 0) ∷ not_zero (get_or body 1 0) ∷ [])

unfoldable pub font_in : ℕ → List ℕ → ℕ → Option FontEntry
font_in kind body end = pick (font_shape kind body) (Some (font_entry body end)) None

abbrev pub font_by : List ℕ → Option Head → Option FontEntry
font_by file (Some h) = font_in h.kind (part file h.start h.end) h.end
font_by file None = None

unfoldable pub font_at : List ℕ → ℕ → Option FontEntry
font_at file at = font_by file (head_at file at)

-- the part of a character's rules that its record and its font's height show
unfoldable pub char_shape : ℕ → ℕ → List ℕ → Bool
char_shape height kind body =
    all (eqb kind 3 ∷ eqb (length body) (3 + bitmap_len (get_or body 2 0) height) ∷ not_zero (little_at 2 0 body) ∷ [])

-- a character's number, from its record's body, and where the record ends
abbrev pub char_of : List ℕ → ℕ → CharRecord
char_of body end = record { code = little_at 2 0 body; end = end }

unfoldable pub char_in : ℕ → ℕ → List ℕ → ℕ → Option CharRecord
char_in height kind body end = pick (char_shape height kind body) (Some (char_of body end)) None

abbrev pub char_by : List ℕ → ℕ → Option Head → Option CharRecord
char_by file height (Some h) = char_in height h.kind (part file h.start h.end) h.end
char_by file height None = None

unfoldable pub char_at : List ℕ → ℕ → ℕ → Option CharRecord
char_at file at height = char_by file height (head_at file at)

-- a table by number: true stands at the numbers of ns and nowhere else
pub record Marked (ns : List ℕ) (table : List Bool) : Type 0 where
  pub at_number : (n : ℕ) → member n ns ≡ get_or table n false

-- the records from an offset on start with no character by the rules
unfoldable pub stops : Before → List Piece → Bool
stops b [] = true
stops b (CutShort at ∷ ps) = true
stops b (Record at kind body ∷ ps) = not (is_character b kind body)

-- n characters were read, from an offset on, and the next record is at `at`: cs are their numbers
pub record Run (file : List ℕ) (from height n at : ℕ) : Type 0 where
  pub cs : List ℕ
  pub few : length cs ≡ n
  pub most : n ≤ 256
  pub onward : from ≤ at
  pub inside : at ≤ length file
  pub fault : (ns : List ℕ) → fault_from ns (After height []) (pieces_at file from) ≡ fault_from ns (After height cs) (pieces_at file at)
  pub count : length (characters_of (pieces_at file from)) ≡ n + length (characters_of (pieces_at file at))
  pub fonts : fonts_of (pieces_at file from) ≡ fonts_of (pieces_at file at)

-- the same, where the next record is no character
pub record Ran (file : List ℕ) (from height n at : ℕ) : Type 0 where
  pub run : Run file from height n at
  pub stop : stops (After height run.cs) (pieces_at file at) ≡ true

-- n characters were read, with their numbers in a table of a size
pub record Running (file : List ℕ) (from height size : ℕ) (table : List Bool) (n at : ℕ) : Type 0 where
  pub run : Run file from height n at
  pub marked : Marked run.cs table
  pub same : length table ≡ size

-- what is read with a table of a size: the run, or its table is too small, as none of 65,536 is
pub record RunIn (file : List ℕ) (from height size : ℕ) (r : Option CharRun) : Type 0 where
  pub ran : (q : CharRun) → r ≡ Some q → Ran file from height q.n q.at
  pub narrow : 65536 ≤ size → IsSome r

-- count fonts were read, from an offset on, and the next record is at `at`: ns are their numbers
pub record Reading (file : List ℕ) (from : ℕ) (used : List Bool) (fonts : List FontEntry) (count at : ℕ) : Type 0 where
  pub ns : List ℕ
  pub prior : Before
  pub few : length ns ≡ count
  pub most : count ≤ 24
  pub inside : at ≤ length file
  pub used_size : length used ≡ 256
  pub fonts_size : length fonts ≡ 24
  pub unused : drop count fonts ≡ no_fonts (24 - count)
  pub marked : Marked ns used
  pub stop : stops prior (pieces_at file at) ≡ true
  pub fault : fault_from [] NoFont (pieces_at file from) ≡ fault_from ns prior (pieces_at file at)
  pub listed : fault_from ns prior (pieces_at file at) ≡ Fine
      → map entry_of (fonts_of (pieces_at file from)) ≡ take count fonts ++ map entry_of (fonts_of (pieces_at file at))
