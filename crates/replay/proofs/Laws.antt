-- Pairs of hexadecimal digits, one more at each turn.
use Rattle.std.proofs.Common.{ℕ, ◌≤◌, ◌≡◌, refl, sym, ◌∙◌, ◌-◌, ap, List, [], ◌∷◌, ◌++◌, length, get_or, take, drop, append-nil, append_assoc, arith, Bor}
use Rattle.std.specs.Prelude.{Option, Some, None, slice_get}
use Rattle.std.specs.Option.{UnwrapsOrElse, option_map}
use Rattle.base.specs.Lists.{drop_step, rest_is}
use Rattle.replay.specs.Text.{words_of, word_of, pair_of, put_first, pairs_of}

-- bytes before those of the rest
abbrev pub joined : List ℕ → Option (List ℕ) → Option (List ℕ)
joined xs (Some l) = Some (xs ++ l)
joined xs None = None

pub joined_none : (o : Option (List ℕ)) → joined [] o ≡ o
joined_none (Some l) = refl
joined_none None = refl

pub pairs_on : (xs : List ℕ) (h l b : ℕ) (w : List ℕ) → pair_of h l ≡ Some b → joined (xs ++ (b ∷ [])) (pairs_of w) ≡ joined xs (pairs_of (h ∷ l ∷ w))
unfolding pairs_of
pairs_on xs h l b w e = rw e (go (pairs_of w))
  where
    go : (o : Option (List ℕ)) → joined (xs ++ (b ∷ [])) o ≡ joined xs (put_first (Some b) o)
    go (Some l) = ap Some (append_assoc xs (b ∷ []) l)
    go None = refl

-- the digits in front of the rest give b
pub pairs_more : (xs s : List ℕ) (b : ℕ) → 2 ≤ length s → pair_of (get_or s 0 0) (get_or s 1 0) ≡ Some b
    → joined (xs ++ (b ∷ [])) (pairs_of (take (length s - 2) (drop 2 s))) ≡ joined xs (pairs_of s)
pairs_more xs s b h e = rw rest_is (pairs_on xs (get_or s 0 0) (get_or s 1 0) b (drop 2 s) e ∙ rw two)
  where
    two : get_or s 0 0 ∷ get_or s 1 0 ∷ drop 2 s ≡ s
    two = sym (rw (drop_step s 0 (omega arith), drop_step s 1 (omega arith)) refl)

pub pairs_end : (xs s : List ℕ) → length s ≡ 0 → joined xs (pairs_of s) ≡ Some xs
unfolding pairs_of
pairs_end xs [] h = rw append-nil
pairs_end xs (b ∷ s) h = absurd (omega arith)

pub ruleset pair_ways = (joined_none, pairs_more, pairs_end)

-- ---- the words of a line

pub word_is : (line : List ℕ) (n : ℕ) (o : Option (Bor (List ℕ))) (r : Bor (List ℕ)) → option_map (λ x. x.now) o ≡ slice_get (words_of line) n
    → UnwrapsOrElse o (λ x. x.now ≡ []) r → r.now ≡ word_of line n
word_is line n (Some x) r found is = rw (is, ← found) refl
word_is line n None r found is = rw (is, ← found) refl
