-- A font by its number.
use Rattle.std.specs.Prelude.{ℕ, List, [], ◌∷◌, eqb, Option, Some, None, option_map}
use Rattle.base.specs.Pick.{pick}
use Rattle.sign.specs.Sign.{Font}
use Rattle.sign.specs.Given.{entry_of}
use Rattle.sign.specs.declared.FontEntry.{FontEntry}

-- among the fonts of a file
abbrev pub font_numbered : ℕ → List Font → Option Font
font_numbered n [] = None
font_numbered n (f ∷ fs) = pick (eqb f.number n) (Some f) (font_numbered n fs)

-- among the entries of the table
unfoldable pub entry_numbered : ℕ → List FontEntry → Option FontEntry
entry_numbered n [] = None
entry_numbered n (e ∷ es) = pick (eqb e.number n) (Some e) (entry_numbered n es)

-- the entry of what is found among the fonts
abbrev pub entry_found : Option Font → Option FontEntry
entry_found o = option_map entry_of o
