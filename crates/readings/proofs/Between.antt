-- A slice of a well-formed message ends at a byte below 128 or after one, so that no slice starts inside a character.
use Rattle.std.specs.Prelude.{ℕ, suc, ◌+◌, ◌<◌, ◌≡◌, Bool, true, false, eqb, List, [], ◌∷◌, length, get_or, drop}
use Rattle.std.proofs.Common.{refl, sym, ◌∙◌, ap, arith, inl, inr, ◌⊎◌}
use mathlib.Core.Path.{subst}
use borrow.Author.Tests.{eqb-true}
use lib.Seq.{get_or-drop}
use Rattle.base.specs.Pick.{pick}
use Rattle.base.specs.Lists.{drop_step}
use Rattle.utf8.specs.Utf8.{well_formed, inside_character}
use Rattle.utf8.proofs.Text.{at_below, past_below}
use Rattle.token.specs.Token.{plain_len, tag_len, rest_len, slice_len}

plain_below : (l : List ℕ) → get_or l (plain_len l) 0 < 128
unfolding plain_len
plain_below [] = omega arith
plain_below (b ∷ l) = go (eqb b 91) (eqb b 93) refl refl (plain_below l)
  where
    go : (t u : Bool) → eqb b 91 ≡ t → eqb b 93 ≡ u → get_or l (plain_len l) 0 < 128 → get_or (b ∷ l) (pick t 0 (pick u 0 (suc (plain_len l)))) 0 < 128
    go true u e f h = omega (arith, eqb-true b 91 e)
    go false true e f h = omega (arith, eqb-true b 93 f)
    go false false e f h = h

-- the byte after k of the bytes l, which follow b, is below 128 (past the end stands 0), or the last of them is
Below : ℕ → List ℕ → ℕ → Type 0
Below b l k = (get_or l k 0 < 128) ⊎ (get_or (b ∷ l) k 0 < 128)

tag_below : (b : ℕ) (l : List ℕ) → Below b l (tag_len l)
unfolding tag_len Below
tag_below b l = go (eqb (get_or l (plain_len l) 0) 93) refl
  where
    go : (t : Bool) → eqb (get_or l (plain_len l) 0) 93 ≡ t → Below b l (pick t (suc (plain_len l)) (plain_len l))
    go true e = inr (omega (arith, eqb-true (get_or l (plain_len l) 0) 93 e))
    go false e = inl (plain_below l)

cut_below : (b : ℕ) (l : List ℕ) → Below b l (rest_len b l)
unfolding rest_len Below
cut_below b l = go (eqb b 91) (eqb b 93) (eqb (get_or l 0 0) 91) (eqb (get_or l 0 0) 93) refl refl refl refl
  where
    go :
        (t u v w : Bool)
        → eqb b 91 ≡ t
        → eqb b 93 ≡ u
        → eqb (get_or l 0 0) 91 ≡ v
        → eqb (get_or l 0 0) 93 ≡ w
        → Below b l (pick t (pick v 1 (tag_len l)) (pick u (pick w 1 0) (plain_len l)))
    go true u true w e f g h = inr (omega (arith, eqb-true (get_or l 0 0) 91 g))
    go true u false w e f g h = tag_below b l
    go false true v true e f g h = inr (omega (arith, eqb-true (get_or l 0 0) 93 h))
    go false true v false e f g h = inr (omega (arith, eqb-true b 93 f))
    go false false v w e f g h = inl (plain_below l)

module _ (msg : List ℕ) (formed : well_formed msg ≡ true) (at : ℕ) (h : at < length msg) where
  abbrev b : ℕ
  b = get_or msg at 0

  abbrev l : List ℕ
  l = drop (at + 1) msg

  after_b : (k : ℕ) → get_or l k 0 ≡ get_or msg (at + suc k) 0
  after_b k = get_or-drop (at + 1) msg k 0 ∙ ap (λ (i : ℕ). get_or msg i 0) (let e : at + 1 + k ≡ at + suc k = omega arith in e)

  from_b : (k : ℕ) → get_or (b ∷ l) k 0 ≡ get_or msg (at + k) 0
  from_b k = ap (λ (z : List ℕ). get_or z k 0) (sym (drop_step msg at h)) ∙ get_or-drop at msg k 0

  cut_between : (k : ℕ) → Below b l k → inside_character msg (at + suc k) ≡ false
  unfolding Below
  cut_between k (inl p) = at_below msg (at + suc k) (subst (λ (x : ℕ). x < 128) (after_b k) p)
  cut_between k (inr p) =
      subst (λ (i : ℕ). inside_character msg i ≡ false) (let e : at + k + 1 ≡ at + suc k = omega arith in e)
      (past_below msg (at + k) formed (subst (λ (x : ℕ). x < 128) (from_b k) p))

  pub end_between : inside_character msg (at + slice_len (drop at msg)) ≡ false
  unfolding slice_len
  end_between = subst (λ (y : List ℕ). inside_character msg (at + slice_len y) ≡ false) (sym (drop_step msg at h)) (cut_between (rest_len b l) (cut_below b l))
