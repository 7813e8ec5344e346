-- How a stand-in is found by the code, and put in a table of widths.
use Rattle.std.specs.Prelude.{ℕ, ◌-◌, List, Bool, true, Option, None}
use Rattle.base.specs.Pick.{pick}
use Rattle.sign.specs.Sign.{Character}
use Rattle.font.specs.Character.{character_in, is_small, letters_of}
use Rattle.font.specs.Widths.{Widths}
use Rattle.font.specs.declared.Found.{Found}

-- what may stand in for a code
unfoldable pub stand_in : Bool → ℕ → List Character → Option Found
stand_in capitals code chs = pick capitals (pick (is_small code) (character_in (code - 32) chs) None) None

-- a table with the stand-ins, from one of a font's own characters
abbrev pub StoodIn : List (Option ℕ) → List (Option ℕ) → Type 0
StoodIn old table = (chs : List Character) → Widths chs old → Widths (letters_of true chs) table
