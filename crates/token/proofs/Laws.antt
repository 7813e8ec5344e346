-- The tokenizer's searches, and the laws of slices for the layers above.
use Rattle.std.proofs.Common.{ℕ, zero, suc, ◌+◌, ◌-◌, ◌≤◌, ◌<◌, ◌≡◌, refl, sym, ◌∙◌, ap, List, [], ◌∷◌, length, get_or, take, drop, Bool, true, false, cond, ◌||◌, add-zero, arith, length-drop}
use Rattle.std.specs.Prelude.{nat_lt, not, unwrap_or, Some, None}
use Rattle.std.specs.List.{position, position_or_len}
use Rattle.std.proofs.lemmas.List.Sums.{prefix_len-le-length}
use Rattle.std.proofs.lemmas.List.Recursion.{is_position_or_len}
use native.Mathlib.Nat.{add-sub_cancel_left}
use Rattle.std.specs.List.{All}
use Rattle.std.proofs.lemmas.List.{length-take-le}
use Rattle.std.proofs.lemmas.List.Elements.{All-nil, All-cons}
use borrow.Author.Tests.{eqb-true, ltb-true, ltb-false}
use lib.Dec.{eqb, ltb}
use lib.ListN.{take-append-drop, drop_of_length-le}
use lib.Seq.{drop-drop}
use Rattle.base.specs.Pick.{pick, picks}
use Rattle.base.specs.Lists.{drop_step, inside}
use Rattle.token.specs.Token.{plain_len, tag_len, rest_len, slice_len, Slice, cuts, slices, slices_from, joined}

-- ---- the search for a bracket

abbrev pub bracket : ℕ → Bool
bracket b = eqb b 91 || eqb b 93

pub plain_is : (l : List ℕ) → plain_len l ≡ position_or_len bracket l
unfolding plain_len
plain_is l = is_position_or_len plain_len bracket refl step l
  where
    step : (b : ℕ) (l : List ℕ) → plain_len (b ∷ l) ≡ cond (bracket b) 0 (1 + plain_len l)
    step b l = go (eqb b 91) (eqb b 93)
      where
        go : (t u : Bool) → pick t 0 (pick u 0 (suc (plain_len l))) ≡ cond (t || u) 0 (1 + plain_len l)
        go true u = refl
        go false true = refl
        go false false = omega arith

-- the place of the first bracket, or the end
pub place_is : (l : List ℕ) → unwrap_or (position bracket l) (length l) ≡ plain_len l
place_is l = rw (plain_is l) (go (nat_lt n (length l)) refl)
  where
    n : ℕ
    n = position_or_len bracket l

    go : (t : Bool) → nat_lt n (length l) ≡ t → unwrap_or (cond t (Some n) None) (length l) ≡ n
    go true e = refl
    go false e = omega (arith, ltb-false n (length l) e, prefix_len-le-length (λ b. not (bracket b)) l)

-- ---- the end of a slice

-- a slice is its first byte and those that follow
pub slice_is : (l : List ℕ) → 0 < length l → slice_len l ≡ 1 + rest_len (get_or l 0 0) (drop 1 l)
unfolding slice_len
slice_is [] h = absurd (omega arith)
slice_is (b ∷ l) h = omega arith

pub slice_past : (at : ℕ) (l : List ℕ) → length l ≤ at → slice_len (drop at l) ≡ 0
unfolding slice_len
slice_past at l h = rw (drop_of_length-le l h)

-- ---- a slice lies within the message

pub plain_le : (l : List ℕ) → plain_len l ≤ length l
unfolding plain_len
plain_le [] = omega arith
plain_le (b ∷ l) = go (eqb b 91) (eqb b 93) (plain_le l)
  where
    go : (t u : Bool) → plain_len l ≤ length l → pick t 0 (pick u 0 (suc (plain_len l))) ≤ suc (length l)
    go true true h = omega arith
    go true false h = omega arith
    go false true h = omega arith
    go false false h = omega arith

-- one byte more, if it is b
more_le : (b : ℕ) (l : List ℕ) (n m : ℕ) → 0 < b → n < suc (length l) → m ≤ length l → pick (eqb (get_or l n 0) b) (suc n) m ≤ length l
more_le b l n m p h k = go (eqb (get_or l n 0) b) refl
  where
    go : (t : Bool) → eqb (get_or l n 0) b ≡ t → pick t (suc n) m ≤ length l
    go true e = inside l n b (sym (eqb-true (get_or l n 0) b e)) p
    go false e = k

pub tag_le : (l : List ℕ) → tag_len l ≤ length l
unfolding tag_len
tag_le l = more_le 93 l (plain_len l) (plain_len l) (omega arith) (omega (arith, plain_le l)) (plain_le l)

rest_le : (b : ℕ) (l : List ℕ) → rest_len b l ≤ length l
unfolding rest_len
rest_le b l = go (eqb b 91) (eqb b 93)
  where
    go : (t u : Bool) → pick t (pick (eqb (get_or l 0 0) 91) 1 (tag_len l)) (pick u (pick (eqb (get_or l 0 0) 93) 1 0) (plain_len l)) ≤ length l
    go true true = more_le 91 l 0 (tag_len l) (omega arith) (omega arith) (tag_le l)
    go true false = more_le 91 l 0 (tag_len l) (omega arith) (omega arith) (tag_le l)
    go false true = more_le 93 l 0 0 (omega arith) (omega arith) (omega arith)
    go false false = plain_le l

pub slice_le : (l : List ℕ) → slice_len l ≤ length l
unfolding slice_len
slice_le [] = omega arith
slice_le (b ∷ l) = omega (arith, rest_le b l)

pub ruleset slice_ways = (slice_is, slice_past, slice_le, tag_le, plain_le)

-- ---- the list of slices

-- the slices joined are the message
cuts_joined : (at k : ℕ) (l : List ℕ) → joined (cuts at k l) ≡ drop k l
unfolding joined
cuts_joined at zero [] = refl
cuts_joined at (suc k) [] = refl
cuts_joined at zero (b ∷ l) = ap (λ (r : List ℕ). b ∷ r) (rw (cuts_joined (suc at) (rest_len b l) l) (take-append-drop (rest_len b l) l))
cuts_joined at (suc k) (b ∷ l) = cuts_joined (suc at) k l

pub slices_joined : (l : List ℕ) → joined (slices l) ≡ l
unfolding slices
slices_joined l = cuts_joined 0 0 l

-- bytes that belong to the slice before are bytes passed
cuts_skip : (at k : ℕ) (l : List ℕ) → cuts at k l ≡ cuts (at + k) 0 (drop k l)
cuts_skip at zero l = rw add-zero
cuts_skip at (suc k) [] = refl
cuts_skip at (suc k) (b ∷ l) = cuts_skip (suc at) k l ∙ ap (λ (n : ℕ). cuts n 0 (drop k l)) (omega arith)

cuts_head : (at : ℕ) (l : List ℕ) → 0 < length l
    → cuts at 0 l ≡ record { start = at; bytes = take (slice_len l) l } ∷ cuts (at + slice_len l) 0 (drop (slice_len l) l)
unfolding slice_len
cuts_head at [] h = absurd (omega arith)
cuts_head at (b ∷ l) h =
    ap (λ (ss : List Slice). record { start = at; bytes = b ∷ take (rest_len b l) l } ∷ ss)
    (cuts_skip (suc at) (rest_len b l) l ∙ ap (λ (n : ℕ). cuts n 0 (drop (rest_len b l) l)) (omega arith))

-- the slices from a place on are none at the end
pub cuts_end : (at : ℕ) (l : List ℕ) → length l ≤ at → cuts at 0 (drop at l) ≡ []
cuts_end at l h = rw (drop_of_length-le l h)

-- what `slice_end` answered is the end of the first of the slices from at on
module _ (at : ℕ) (l : List ℕ) (h : at < length l) (r : ℕ) (e : r ≡ at + slice_len (drop at l)) where
  left : 0 < length (drop at l)
  left = rw (drop_step l at h) (omega arith)

  pub cuts_next : cuts at 0 (drop at l) ≡ record { start = at; bytes = take (r - at) (drop at l) } ∷ cuts r 0 (drop r l)
  cuts_next = rw (e, ← drop-drop (slice_len (drop at l)) at l, add-sub_cancel_left) (cuts_head at (drop at l) left)

  pub next_le : r ≤ length l
  next_le = omega (arith, slice_le (drop at l), length-drop at l)

  pub next_from : at ≤ r
  next_from = omega arith

  -- a slice has a byte or more
  pub next_more : at < r
  next_more = omega (arith, e, slice_is (drop at l) left)

pub ruleset slices_ways = (cuts_next, cuts_end, next_le, next_from, next_more)

-- for a loop over the slices from at on: s is the first, and ss are those that follow
module _ (at : ℕ) (l : List ℕ) (s : Slice) (ss : List Slice) (e : slices_from at l ≡ s ∷ ss) where
  -- one starts there
  pub first_inside : at < length l
  first_inside = go (ltb at (length l)) refl
    where
      go : (t : Bool) → ltb at (length l) ≡ t → at < length l
      go true h = ltb-true at (length l) h
      go false h =
          let none : [] ≡ s ∷ ss = sym (cuts_end at l (ltb-false at (length l) h)) ∙ e in
          absurd cc

  abbrev len : ℕ
  len = slice_len (drop at l)

  both : record { start = at; bytes = take len (drop at l) } ∷ slices_from (at + len) l ≡ s ∷ ss
  both = sym (rw (add-sub_cancel_left at len) at (cuts_next at l first_inside (at + len) refl)) ∙ e

  pub first_is : s ≡ record { start = at; bytes = take len (drop at l) }
  first_is = let h = both in cc

  pub first_start : s.start ≡ at
  first_start = ap (λ (x : Slice). x.start) first_is

  pub first_bytes : s.bytes ≡ take len (drop at l)
  first_bytes = ap (λ (x : Slice). x.bytes) first_is

  pub first_len : length s.bytes ≡ len
  first_len = ap length first_bytes ∙ length-take-le len (drop at l) (slice_le (drop at l))

  pub first_rest : ss ≡ slices_from (at + len) l
  first_rest = let h = both in cc

-- each slice ends within the message
abbrev pub EndsBy : ℕ → Slice → Type 0
EndsBy n s = s.start + length s.bytes ≤ n

cuts_within : (n at k : ℕ) (l : List ℕ) → at + length l ≤ n → All (EndsBy n) (cuts at k l)
cuts_within n at k [] h = All-nil (EndsBy n)
cuts_within n at zero (b ∷ l) h =
    All-cons (EndsBy n) _ _ (omega (arith, length-take-le (rest_len b l) l (rest_le b l), rest_le b l)) (cuts_within n (suc at) (rest_len b l) l (omega arith))
cuts_within n at (suc k) (b ∷ l) h = cuts_within n (suc at) k l (omega arith)

pub slices_within : (n at : ℕ) (l : List ℕ) → length l ≤ n → All (EndsBy n) (slices_from at l)
slices_within n at l h = go (ltb at (length l)) refl
  where
    go : (t : Bool) → ltb at (length l) ≡ t → All (EndsBy n) (slices_from at l)
    go true e = cuts_within n at 0 (drop at l) (omega (arith, ltb-true at (length l) e, length-drop at l))
    go false e = rw (cuts_end at l (ltb-false at (length l) e)) (All-nil (EndsBy n))

-- ---- after a text comes a bracket, or the end

plain_then : (l : List ℕ) → plain_len l < length l → (get_or l (plain_len l) 0 ≡ 91 → ⊥) → get_or l (plain_len l) 0 ≡ 93
unfolding plain_len
plain_then [] h n = absurd (omega arith)
plain_then (b ∷ l) h n = go (eqb b 91) (eqb b 93) refl refl (plain_then l) h n
  where
    go :
        (t u : Bool)
        → eqb b 91 ≡ t
        → eqb b 93 ≡ u
        → (plain_len l < length l → (get_or l (plain_len l) 0 ≡ 91 → ⊥) → get_or l (plain_len l) 0 ≡ 93)
        → pick t 0 (pick u 0 (suc (plain_len l))) < suc (length l)
        → (get_or (b ∷ l) (pick t 0 (pick u 0 (suc (plain_len l)))) 0 ≡ 91 → ⊥)
        → get_or (b ∷ l) (pick t 0 (pick u 0 (suc (plain_len l)))) 0 ≡ 93
    go true u p q k h n = absurd (n (eqb-true b 91 p))
    go false true p q k h n = eqb-true b 93 q
    go false false p q k h n = k (omega arith) n

module _ (b : ℕ) (l : List ℕ) (n : b ≡ 91 → ⊥) (m : b ≡ 93 → ⊥) where
  text_len : slice_len (b ∷ l) ≡ suc (plain_len l)
  unfolding slice_len rest_len
  text_len = sym (ap suc (search picks depth 9))

  pub text_then : slice_len (b ∷ l) < length (b ∷ l) → (get_or (b ∷ l) (slice_len (b ∷ l)) 0 ≡ 91 → ⊥) → get_or (b ∷ l) (slice_len (b ∷ l)) 0 ≡ 93
  text_then h k = rw text_len (plain_then l (omega (arith, text_len)) (rw text_len at k))
