-- The place of refusal 1 lies within the sign file, at a record.
use Prim.Native.Nat.{ℕ, zero, suc, ◌+◌, ◌≤◌, ◌<◌}
use native.Mathlib.Omega.{arith}
use mathlib.Core.Path.{◌≡◌, refl}
use mathlib.Core.Bool.{Bool, true, false}
use mathlib.Core.List.{List, [], ◌∷◌, map}
use lib.Dec.{ltb}
use lib.ListN.{length, take, drop, get_or}
use Rattle.base.specs.Pick.{pick}
use Rattle.records.specs.declared.Config.{Config}
use Rattle.records.specs.Record.{little_at, body_len, kind_of, whole, Piece, Record, CutShort, first_piece, rest_len, cut_from, pieces}
use Rattle.records.specs.Config.{is_config}
use Rattle.sign.specs.Sign.{Font, past_options, Before, NoFont, After, adding, is_font, is_character, Verdict, Fine, FailsAt, fault_from, first_fault, fault, RefusedAt, answer, sign_file}
use Rattle.sign.proofs.Options.{options_keep}
use Rattle.layout.specs.Demand.{In, here, there}
use Rattle.layout.specs.Bounds.{offset, offsets}

-- ---- the first record that fails is one of them

found : (a n : ℕ) (l : List ℕ) → FailsAt a ≡ FailsAt n → In n (a ∷ l)
found a n l e =
    let q : n ≡ a = cc in
    rw q here

from_in : (ns : List ℕ) (b : Before) (ps : List Piece) (n : ℕ) → fault_from ns b ps ≡ FailsAt n → In n (map offset ps)
unfolding fault_from
from_in ns b [] n e = absurd cc
from_in ns b (CutShort a ∷ ps) n e = found a n (map offset ps) e
from_in ns b (Record a kind body ∷ ps) n e =
    go (is_font ns kind body) (is_character b kind body) (from_in (get_or body 0 0 ∷ ns) (After (get_or body 1 0) []) ps n)
    (from_in ns (adding (little_at 2 0 body) b) ps n) e
  where
    go : (t u : Bool) {x y : Verdict} → (x ≡ FailsAt n → In n (map offset ps)) → (y ≡ FailsAt n → In n (map offset ps))
        → pick t x (pick u y (FailsAt a)) ≡ FailsAt n → In n (a ∷ map offset ps)
    go true u f g q = there (f q)
    go false true f g q = there (g q)
    go false false f g q = found a n (map offset ps) q

first_in_law : (p : Piece) (ps : List Piece) (n : ℕ) → first_fault (p ∷ ps) ≡ FailsAt n → In n (map offset (p ∷ ps))
unfolding first_fault
first_in_law (CutShort a) ps n e = found a n (map offset ps) e
first_in_law (Record a kind body) ps n e = go (is_config kind body) (λ q. past ps (from_in [] NoFont (past_options ps) n q)) e
  where
    past : (qs : List Piece) → In n (map offset (past_options qs)) → In n (map offset qs)
    past qs = options_keep (λ rs. In n (map offset rs) → In n (map offset qs)) (λ b k c rs f i. f (there i)) qs (λ i. i)

    go : (t : Bool) {x : Verdict} → (x ≡ FailsAt n → In n (map offset ps)) → pick t x (FailsAt a) ≡ FailsAt n → In n (a ∷ map offset ps)
    go true f q = there (f q)
    go false f q = found a n (map offset ps) q

-- ---- the records of a file

-- the first piece stands at its place
piece_at : (a : ℕ) (l : List ℕ) → offset (first_piece a l) ≡ a
unfolding first_piece
piece_at a l = go (whole l)
  where
    go : (t : Bool) → offset (pick t (Record a (kind_of l) (take (body_len l) (drop 4 l))) (CutShort a)) ≡ a
    go true = refl
    go false = refl

-- they start within it
cut_below : (n a k : ℕ) (l : List ℕ) → In n (map offset (cut_from a k l)) → n < a + length l
unfolding cut_from
cut_below n a k [] i = elim i [ ]
cut_below n a zero (b ∷ l) i = look i (piece_at a (b ∷ l)) (cut_below n (suc a) (rest_len (b ∷ l)) l)
  where
    look : {m : ℕ} {ns : List ℕ} → In n (m ∷ ns) → m ≡ a → (In n ns → n < suc a + length l) → n < a + suc (length l)
    look here q f = omega arith
    look (there j) q f = omega (arith, f j)
cut_below n a (suc k) (b ∷ l) i = omega (arith, cut_below n (suc a) k l i)

-- ---- refusal 1

refused_fault : (v : Verdict) (c : Config) (fs : List Font) (n : ℕ) → answer v c fs ≡ RefusedAt n → v ≡ FailsAt n
refused_fault Fine c fs n e = absurd cc
refused_fault (FailsAt a) c fs n e = cc

fault_in_law : (b : ℕ) (l : List ℕ) (n : ℕ) → fault (b ∷ l) ≡ FailsAt n → In n (offsets (b ∷ l))
unfolding fault pieces cut_from
fault_in_law b l n e = go (ltb 65535 (suc (length l))) e
  where
    go : (t : Bool) → pick t (FailsAt 0) (first_fault (first_piece 0 (b ∷ l) ∷ cut_from 1 (rest_len (b ∷ l)) l)) ≡ FailsAt n → In n (offsets (b ∷ l))
    go true q =
        let z : n ≡ 0 = cc in
        rw (z, piece_at 0 (b ∷ l)) here
    go false q = first_in_law (first_piece 0 (b ∷ l)) (cut_from 1 (rest_len (b ∷ l)) l) n q

empty_fault : (n : ℕ) → fault [] ≡ FailsAt n → n ≡ 0
unfolding fault pieces cut_from first_fault
empty_fault n e = cc

pub sign_place : (file : List ℕ) (start : ℕ) → sign_file file ≡ RefusedAt start → 0 < length file → In start (offsets file)
unfolding sign_file
sign_place [] start e h = absurd (omega arith)
sign_place (b ∷ l) start e h = fault_in_law b l start (refused_fault (fault (b ∷ l)) _ _ start e)

pub sign_start : (file : List ℕ) (start : ℕ) → sign_file file ≡ RefusedAt start → start ≤ length file
unfolding sign_file pieces
sign_start [] start e = omega (arith, empty_fault start (refused_fault (fault []) _ _ start e))
sign_start (b ∷ l) start e = omega (arith, cut_below start 0 0 (b ∷ l) (sign_place (b ∷ l) start e (omega arith)))
