-- What writing a text to a lent buffer does.
use Rattle.std.specs.Prelude.{ℕ, ◌+◌, ◌≡◌, List, length}
use Rattle.std.proofs.lemmas.List.Edits.{sets}

-- the text stands in the buffer from a place on; past is the place past it, and every other byte stays
pub record Put (at : ℕ) (text lent after : List ℕ) (past : ℕ) : Type 0 where
  pub ends : past ≡ at + length text
  pub bytes : after ≡ sets lent at text
  pub size : length after ≡ length lent
