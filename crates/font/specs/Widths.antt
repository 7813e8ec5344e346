-- A font's widths by code: none where it has no character.
use Rattle.std.specs.Prelude.{ℕ, ◌<◌, ◌≡◌, List, length, get_or, set, Option, Some, None}
use Rattle.std.specs.Option.{option_or}
use Rattle.sign.specs.Sign.{Character}
use Rattle.font.specs.Character.{character_in}
use Rattle.font.specs.declared.Found.{Found}

-- what stands in a table for what is found
abbrev pub width_of : Option Found → Option ℕ
width_of (Some f) = Some f.width
width_of None = None

-- a table with one width more: the first at a code counts
unfoldable pub filled : List (Option ℕ) → ℕ → Option ℕ → List (Option ℕ)
filled table code width = set table code (option_or (get_or table code None) width)

-- a table that is to be filled: no width stands in it
abbrev pub Unfilled : List (Option ℕ) → Type 0
Unfilled table = (c : ℕ) → get_or table c None ≡ None

-- a table of the codes below its length
abbrev pub Widths : List Character → List (Option ℕ) → Type 0
Widths chs table = (c : ℕ) → c < length table → get_or table c None ≡ width_of (character_in c chs)
