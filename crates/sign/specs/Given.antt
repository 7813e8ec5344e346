-- What `read_sign` gives of a file: the whole answer, field by field.
use Rattle.std.specs.Prelude.{ℕ, zero, suc, ◌-◌, List, [], ◌∷◌, ◌++◌, map, length, Result, Ok, Err}
use Rattle.records.specs.declared.Config.{Config}
use Rattle.sign.specs.Sign.{Font, Sign, Accepted as Content, RefusedAt as Refusal}
use Rattle.sign.specs.declared.FontEntry.{FontEntry}
use Rattle.sign.specs.declared.RefusedAt.{RefusedAt}
use Rattle.sign.specs.declared.SignFile.{SignFile}

-- a font's entry in the table: its values, where its characters start, and how many they are
abbrev pub entry_of : Font → FontEntry
entry_of f =
    record {
      number = f.number;
      height = f.height;
      char_spacing = f.char_spacing;
      line_spacing = f.line_spacing;
      version_id = f.version;
      first = f.first;
      characters = length f.characters;
    }

-- n places of the table without a font
unfoldable pub no_fonts : ℕ → List FontEntry
no_fonts zero = []
no_fonts (suc n) = record { number = 0; height = 0; char_spacing = 0; line_spacing = 0; version_id = 0; first = 0; characters = 0 } ∷ no_fonts n

-- an accepted file: its fonts stand first in the table
unfoldable pub content_of : Config → List Font → SignFile
content_of c fs = record { config = c; fonts = map entry_of fs ++ no_fonts (24 - length fs); count = length fs }

-- a refused file: nothing but the start
abbrev pub refusal_at : ℕ → Result SignFile RefusedAt
refusal_at at = Err (record { at = at })

abbrev pub given : Sign → Result SignFile RefusedAt
given (Content c fs) = Ok (content_of c fs)
given (Refusal at) = refusal_at at
