-- What a character adds to a width and to the count of those looked up, as the loop over a text keeps it.
use Rattle.std.specs.Prelude.{ℕ, ◌+◌, ◌≤◌, ◌≡◌, List, [], ◌∷◌, Ok, Err}
use Rattle.sign.specs.Sign.{Character}
use Rattle.font.specs.Measure.{Measure, width_after}
use Rattle.font.specs.declared.Looked.{Looked}

-- a spacing of 16 bits and a width of 8 bits at most
abbrev pub Grown : ℕ → Measure → Type 0
Grown w (Ok v) = v ≤ w + 65790
Grown w (Err missing) = Unit {0}

-- a width, and a count n of those looked up, with the character of a code more
pub record OneMore (chs : List Character) (spacing w n code : ℕ) (r : Looked) : Type 0 where
  pub is : r.measure ≡ width_after chs spacing w (code ∷ [])
  pub one : r.count ≡ n + 1
  pub grown : Grown w r.measure
