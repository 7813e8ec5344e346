-- The tags that are known, and how a record that was read cuts the file.
use Prim.Native.Nat.{ℕ, zero, suc, ◌+◌, ◌-◌, ◌^◌, ◌≤◌, ◌<◌, min}
use mathlib.Core.Path.{◌≡◌, refl, sym, ◌∙◌, ap}
use mathlib.Core.List.{List, [], ◌∷◌}
use mathlib.Core.Bool.{Bool, true, false}
use native.Mathlib.Nat.{add-zero, add-suc, suc-add}
use native.Mathlib.Omega.{arith}
use Rattle.std.proofs.Math.Dec.{lit<}
use lib.Dec.{leb, eqb}
use lib.Bits.{bit_and}
use Rattle.std.specs.Prelude.{Some, None, nat_eq}
use Rattle.std.specs.Int.{w32}
use Rattle.std.specs.Cmp.{both_ways}
use Rattle.std.proofs.lemmas.Nat.{and_le_l}
use Rattle.std.proofs.lemmas.Nat.Bits.{bit_at_and, bit_at_not, bit_at-zero, bit_at-lt, same_from_bits_below}
use lib.ListN.{length, take, drop, drop_of_length-le, length-drop}
use lib.Seq.{drop-drop}
use borrow.Author.Tests.{eqb-true, eqb-false, leb-true, le-leb, eq-eqb}
use Rattle.base.specs.Pick.{pick}
use Rattle.records.specs.Record.{all, body_len, kind_of, whole, Record, CutShort, first_piece, rest_len, cut_from, pieces, pieces_at, head_of, head_at}
use Rattle.records.specs.Config.{mask, bit, bits_ok, tags_ok}
use Rattle.records.specs.declared.Record.{Record as Head}

-- each of the tests holds
abbrev pub Tests : List Bool → Type 0
Tests [] = Unit {0}
Tests (t ∷ ts) = (t ≡ true) × Tests ts

pub tests : (ts : List Bool) → all ts ≡ true → Tests ts
tests [] e = tt
tests (t ∷ []) e = (e, tt)
tests (true ∷ u ∷ ts) e = (refl, tests (u ∷ ts) e)
tests (false ∷ u ∷ ts) e = cc

-- of n bits from k on none is set that is not in the mask
pub bits_known : (n k tags j : ℕ) → bits_ok n k tags ≡ true → k ≤ j → j < k + n → bit j tags ≤ bit j mask
unfolding bits_ok
bits_known zero k tags j e p q = absurd (omega arith)
bits_known (suc n) k tags j e p q = go (leb (bit k tags) (bit k mask)) (eqb k j) refl refl (bits_known n (k + 1) tags j) e
  where
    go : (t u : Bool) → leb (bit k tags) (bit k mask) ≡ t → eqb k j ≡ u
        → (bits_ok n (k + 1) tags ≡ true → k + 1 ≤ j → j < k + 1 + n → bit j tags ≤ bit j mask) → pick t (bits_ok n (k + 1) tags) false ≡ true
        → bit j tags ≤ bit j mask
    go true true a b f r = rw (← eqb-true k j b) (leb-true (bit k tags) (bit k mask) a)
    go true false a b f r =
        let no : k ≡ j → ⊥ = eqb-false k j b in
        f r (omega arith) (omega arith)
    go false u a b f r = cc

bits_made : (n k tags : ℕ) → ((j : ℕ) → k ≤ j → j < k + n → bit j tags ≤ bit j mask) → bits_ok n k tags ≡ true
unfolding bits_ok
bits_made zero k tags h = refl
bits_made (suc n) k tags h =
    rw (le-leb (bit k tags) (bit k mask) (h k (omega arith) (omega arith))) (bits_made n (k + 1) tags (λ j p q. h j (omega arith) (omega arith)))

-- the bits outside the mask
abbrev outside : ℕ → ℕ
outside tags = bit_and tags 4160733975

module _ (tags k : ℕ) (h : k < 32) where
  outside_bit : bit k (outside tags) ≡ min (bit k tags) (1 - bit k mask)
  outside_bit = bit_at_and tags 4160733975 k ∙ ap (min (bit k tags)) (bit_at_not w32 mask k (lit< tt) h)

  in_mask : bit k (outside tags) ≡ 0 → bit k tags ≤ bit k mask
  in_mask e = omega (arith, outside_bit, bit_at-lt tags k, bit_at-lt mask k)

  out_none : bit k tags ≤ bit k mask → bit k (outside tags) ≡ 0
  out_none e = omega (arith, outside_bit, bit_at-lt tags k, bit_at-lt mask k)

-- `tags_ok`: none of them is set
pub mask_test : (tags : ℕ) → tags < 2 ^ 32 → nat_eq (outside tags) 0 ≡ tags_ok tags
unfolding tags_ok
mask_test tags h =
    both_ways (eqb (outside tags) 0) (bits_ok 32 0 tags)
    (λ p. bits_made 32 0 tags (λ k i j. in_mask tags k j (rw (eqb-true (outside tags) 0 p) (bit_at-zero k))))
    (λ q. eq-eqb (outside tags) 0
    (same_from_bits_below 32 (outside tags) 0 (omega (arith, and_le_l tags 4160733975)) (lit< tt)
    (λ k j. out_none tags k j (bits_known 32 0 tags k q (omega arith) j) ∙ sym (bit_at-zero k))))

-- bytes to skip are bytes dropped
pub skips : (at k : ℕ) (l : List ℕ) → cut_from at k l ≡ cut_from (at + k) 0 (drop k l)
unfolding cut_from
skips at zero [] = refl
skips at (suc k) [] = refl
skips at zero (b ∷ l) = rw (add-zero at)
skips at (suc k) (b ∷ l) = rw (add-suc at k, ← suc-add at k) (skips (suc at) k l)

pub pieces_end : (file : List ℕ) (at : ℕ) → length file ≤ at → pieces_at file at ≡ []
unfolding pieces_at cut_from
pieces_end file at h = rw (drop_of_length-le file h)

-- what is whole has its bytes
pub room : (l : List ℕ) → whole l ≡ true → (4 ≤ length l) × (4 + body_len l ≤ length l)
unfolding whole
room l e =
    let ok : Tests (leb 4 (length l) ∷ leb (4 + body_len l) (length l) ∷ []) = tests (leb 4 (length l) ∷ leb (4 + body_len l) (length l) ∷ []) e in
    (leb-true 4 (length l) ok.0, leb-true (4 + body_len l) (length l) ok.1.0)

-- the records from an offset on where one is whole
module _ (file : List ℕ) (at : ℕ) (h : Head) (e : head_at file at ≡ Some h) where
  told : (whole (drop at file) ≡ true) × (kind_of (drop at file) ≡ h.kind) × (at + 4 ≡ h.start) × (at + 4 + body_len (drop at file) ≡ h.end)
  unfolding head_at
  told = go (whole (drop at file)) refl e
    where
      go : (t : Bool) → whole (drop at file) ≡ t → pick t (Some (head_of at (drop at file))) None ≡ Some h
          → (whole (drop at file) ≡ true) × (kind_of (drop at file) ≡ h.kind) × (at + 4 ≡ h.start) × (at + 4 + body_len (drop at file) ≡ h.end)
      go true p q =
          let same : head_of at (drop at file) ≡ h = cc in
          (p, ap (λ (x : Head). x.kind) same, ap (λ (x : Head). x.start) same, ap (λ (x : Head). x.end) same)
      go false p q = cc

  -- a whole record lies within the file
  pub head_start : h.start ≡ at + 4
  head_start = omega (arith, told.2)

  pub head_from : h.start ≤ h.end
  head_from = omega (arith, told.2, told.3)

  pub head_to : h.end ≤ length file
  head_to = omega (arith, told.3, (room (drop at file) told.0).0, (room (drop at file) told.0).1, length-drop at file)

-- the first record of l, and the records past it
cut_head : (at : ℕ) (l : List ℕ) → 0 < length l → cut_from at 0 l ≡ first_piece at l ∷ cut_from (at + suc (rest_len l)) 0 (drop (suc (rest_len l)) l)
unfolding cut_from
cut_head at [] h = absurd (omega arith)
cut_head at (b ∷ l) h = rw (add-suc at (rest_len (b ∷ l)), ← suc-add at (rest_len (b ∷ l)), skips (suc at) (rest_len (b ∷ l)) l)

-- a record that is whole: what stands in it, and the records past it
pub pieces_next : (file : List ℕ) (at : ℕ) (h : Head) → head_at file at ≡ Some h
    → pieces_at file at ≡ Record at h.kind (take (h.end - h.start) (drop h.start file)) ∷ pieces_at file h.end
unfolding pieces_at
pieces_next file at h e = cut_head at l some ∙ both
  where
    l : List ℕ
    l = drop at file

    is : (whole l ≡ true) × (kind_of l ≡ h.kind) × (at + 4 ≡ h.start) × (at + 4 + body_len l ≡ h.end)
    is = told file at h e

    some : 0 < length l
    some = omega (arith, (room l is.0).0)

    len : suc (rest_len l) ≡ 4 + body_len l
    len = unfold rest_len in rw is.0 (omega arith)

    size : body_len l ≡ h.end - h.start
    size = omega (arith, is.2, is.3)

    past : at + (4 + body_len l) ≡ h.end
    past = omega (arith, is.3)

    here : first_piece at l ≡ Record at h.kind (take (h.end - h.start) (drop h.start file))
    here = unfold first_piece in rw (is.0, is.1, size, drop-drop 4 at file, is.2)

    both : first_piece at l ∷ cut_from (at + suc (rest_len l)) 0 (drop (suc (rest_len l)) l)
        ≡ Record at h.kind (take (h.end - h.start) (drop h.start file)) ∷ cut_from h.end 0 (drop h.end file)
    both = rw (here, len, drop-drop (4 + body_len l) at file, past)

-- a record that is cut short is the last
pub pieces_short : (file : List ℕ) (at : ℕ) → at < length file → head_at file at ≡ None → pieces_at file at ≡ CutShort at ∷ []
unfolding pieces_at
pieces_short file at h e = cut_head at l some ∙ both
  where
    l : List ℕ
    l = drop at file

    w : whole l ≡ false
    w = unfold head_at in go (whole l) e
      where
        go : (t : Bool) → pick t (Some (head_of at l)) None ≡ None → t ≡ false
        go true p = cc
        go false p = refl

    some : 0 < length l
    some = omega (arith, length-drop at file)

    here : first_piece at l ≡ CutShort at
    here = unfold first_piece in rw w

    all_of : length l ≤ suc (rest_len l)
    all_of = unfold rest_len in rw w (omega arith)

    none : drop (suc (rest_len l)) l ≡ []
    none = drop_of_length-le l all_of

    both : first_piece at l ∷ cut_from (at + suc (rest_len l)) 0 (drop (suc (rest_len l)) l) ≡ CutShort at ∷ []
    both = unfold cut_from in rw (here, none)

pub pieces_all : (file : List ℕ) → pieces file ≡ pieces_at file 0
unfolding pieces pieces_at
pieces_all file = refl
