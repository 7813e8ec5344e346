-- The start of a refused sign file has 16 bits.
use Prim.Native.Nat.{ℕ, zero, suc, ◌+◌, ◌≤◌, ◌<◌}
use mathlib.Core.Path.{◌≡◌, refl}
use mathlib.Core.Bool.{Bool, true, false}
use mathlib.Core.List.{List, [], ◌∷◌}
use native.Mathlib.Omega.{arith}
use lib.Dec.{ltb}
use lib.ListN.{length, get_or}
use borrow.Author.Tests.{ltb-false}
use Rattle.base.specs.Pick.{pick}
use Rattle.records.specs.Config.{is_config}
use Rattle.records.specs.Record.{little_at, whole, Piece, Record, CutShort, first_piece, rest_len, cut_from, pieces}
use Rattle.sign.specs.Sign.{past_options, Before, NoFont, After, is_font, is_character, adding, Verdict, Fine, FailsAt, fault_from, first_fault, fault, RefusedAt, answer, config_in, fonts_of, sign_file}
use Rattle.sign.specs.Given.{refusal_at, given as table_of}
use Rattle.sign.proofs.Answer.{refuses}
use Rattle.sign.proofs.Options.{options_keep}

-- a record's offset is below n
abbrev At : ℕ → Piece → Type 0
At n (Record at kind body) = at < n
At n (CutShort at) = at < n

abbrev All : ℕ → List Piece → Type 0
All n [] = Unit {0}
All n (p ∷ ps) = At n p × All n ps

-- a verdict's offset is no more than n
abbrev Small : ℕ → Verdict → Type 0
Small n Fine = Unit {0}
Small n (FailsAt at) = at ≤ n

pick_at : (n : ℕ) (t : Bool) (p q : Piece) → At n p → At n q → At n (pick t p q)
pick_at n true p q h k = h
pick_at n false p q h k = k

cuts_at : (n at k : ℕ) (l : List ℕ) → at + length l ≤ n → All n (cut_from at k l)
unfolding cut_from first_piece
cuts_at n at k [] h = tt
cuts_at n at zero (b ∷ l) h = (pick_at n (whole (b ∷ l)) _ _ (omega arith) (omega arith), cuts_at n (suc at) (rest_len (b ∷ l)) l (omega arith))
cuts_at n at (suc k) (b ∷ l) h = cuts_at n (suc at) k l (omega arith)

pick_small : (n : ℕ) (t : Bool) (v w : Verdict) → Small n v → Small n w → Small n (pick t v w)
pick_small n true v w h k = h
pick_small n false v w h k = k

from_small : (n : ℕ) (ns : List ℕ) (b : Before) (ps : List Piece) → All n ps → Small n (fault_from ns b ps)
unfolding fault_from
from_small n ns b [] h = tt
from_small n ns b (CutShort at ∷ ps) h = omega (arith, h.0)
from_small n ns b (Record at kind body ∷ ps) h =
    pick_small n (is_font ns kind body) _ _ (from_small n (get_or body 0 0 ∷ ns) (After (get_or body 1 0) []) ps h.1)
    (pick_small n (is_character b kind body) _ _ (from_small n ns (adding (little_at 2 0 body) b) ps h.1) (omega (arith, h.0)))

first_small : (n : ℕ) (ps : List Piece) → All n ps → Small n (first_fault ps)
unfolding first_fault
first_small n [] h = omega arith
first_small n (CutShort at ∷ ps) h = omega (arith, h.0)
first_small n (Record at kind body ∷ ps) h =
    pick_small n (is_config kind body) _ _ (from_small n [] NoFont (past_options ps) (past ps h.1)) (omega (arith, h.0))
  where
    past : (qs : List Piece) → All n qs → All n (past_options qs)
    past qs = options_keep (All n) (λ a k b rs g. g.1) qs

fault_small : (file : List ℕ) → Small 65535 (fault file)
unfolding fault pieces
fault_small file = go (ltb 65535 (length file)) refl
  where
    go : (t : Bool) → ltb 65535 (length file) ≡ t → Small 65535 (pick t (FailsAt 0) (first_fault (cut_from 0 0 file)))
    go true q = omega arith
    go false q = first_small 65535 (cut_from 0 0 file) (cuts_at 65535 0 0 file (omega (arith, ltb-false 65535 (length file) q)))

pub start_small : (file : List ℕ) (at : ℕ) → refusal_at at ≡ table_of (sign_file file) → at < 65536
unfolding sign_file
start_small file at e = go (fault file) (fault_small file) (refuses file at e)
  where
    go : (v : Verdict) → Small 65535 v → answer v (config_in (pieces file)) (fonts_of (pieces file)) ≡ RefusedAt at → at < 65536
    go Fine s q = cc
    go (FailsAt n) s q = let k : n ≡ at = cc in omega (arith, s)
