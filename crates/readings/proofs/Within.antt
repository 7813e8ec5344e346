-- How many slices a message can have, and where they lie.
use Rattle.std.specs.Prelude.{ℕ, zero, suc, ◌+◌, ◌≤◌, List, [], ◌∷◌, length}
use Rattle.std.proofs.Common.{arith}
use Rattle.std.proofs.lemmas.List.{length-take}
use Rattle.token.specs.Token.{Slice, cuts, slices, rest_len}

-- each ends by a place
abbrev pub Within : ℕ → List Slice → Type 0
Within n [] = Unit {0}
Within n (s ∷ ss) = (s.start + length s.bytes ≤ n) × Within n ss

pub cuts_within : (n at k : ℕ) (l : List ℕ) → at + length l ≤ n → Within n (cuts at k l)
cuts_within n at k [] h = tt
cuts_within n at zero (b ∷ l) h = (omega (arith, length-take (rest_len b l) l), cuts_within n (suc at) (rest_len b l) l (omega arith))
cuts_within n at (suc k) (b ∷ l) h = cuts_within n (suc at) k l (omega arith)

-- each has a byte or more
pub cuts_few : (at k : ℕ) (l : List ℕ) → length (cuts at k l) ≤ length l
cuts_few at k [] = omega arith
cuts_few at zero (b ∷ l) = omega (arith, cuts_few (suc at) (rest_len b l) l)
cuts_few at (suc k) (b ∷ l) = omega (arith, cuts_few (suc at) k l)

pub slices_few : (msg : List ℕ) → length (slices msg) ≤ length msg
unfolding slices
slices_few msg = cuts_few 0 0 msg
