-- What is read of rows and records after one is put, and how a list is walked.
use Rattle.std.specs.Prelude.{ℕ, zero, suc, ◌+◌, ◌≤◌, ◌<◌, ◌≡◌, List, [], ◌∷◌, ◌++◌, length, get_or, set, take, drop, Bool, true, false, eqb, Option, Some, None}
use Rattle.std.proofs.Common.{refl, ◌∙◌, ap, arith}
use borrow.Author.Tests.{eqb-true, eqb-false}
use Rattle.std.proofs.lemmas.List.{get_or-set_same, get_or-set_other, take_more_set}
use Rattle.std.proofs.Math.Seq.{length-take-le, drop-cons}
use Rattle.std.specs.Option.{option_or}
use Rattle.layout.specs.declared.Fault.{Fault}
use Rattle.layout.specs.declared.Span.{Span}
use Rattle.layout.specs.Placing.{or_else}
use Rattle.rows.specs.declared.Row.{Row}
use Rattle.rows.specs.Rows.{cells, RowRoom, rows_of, SpanRoom, blank_span, span_at, spans_of, link_at, mark_at, LinkPut, MarkPut}

-- ---- cells

module _ {A : Type 0} where
  pub cells_same : (f g : ℕ → A) (i k : ℕ) → ((j : ℕ) → j < i + k → f j ≡ g j) → cells f i k ≡ cells g i k
  cells_same f g i zero h = refl
  cells_same f g i (suc k) h = rw (h i (omega arith)) (ap (λ (l : List A). g i ∷ l) (cells_same f g (suc i) k (λ j p. h j (omega arith))))

  pub cells_last : (f : ℕ → A) (i k : ℕ) → cells f i (suc k) ≡ cells f i k ++ (f (i + k) ∷ [])
  cells_last f i zero = rw (let e : i + 0 ≡ i = omega arith in e)
  cells_last f i (suc k) =
      let e : suc i + k ≡ i + suc k = omega arith in
      ap (λ (l : List A). f i ∷ l) (cells_last f (suc i) k ∙ ap (λ (n : ℕ). cells f (suc i) k ++ (f n ∷ [])) e)

  pub cells_length : (f : ℕ → A) (i k : ℕ) → length (cells f i k) ≡ k
  cells_length f i zero = refl
  cells_length f i (suc k) = ap suc (cells_length f (suc i) k)

  -- the places of a list
  pub cells_take : (l : List A) (d : A) (i k : ℕ) → i + k ≤ length l → cells (λ j. get_or l j d) i k ≡ take k (drop i l)
  cells_take l d i zero h = refl
  cells_take l d i (suc k) h =
      rw (drop-cons l i d (omega arith)) (ap (λ (y : List A). get_or l i d ∷ y) (cells_take l d (suc i) k (omega arith)))

-- ---- rows and records

pub rows_put : (l : List Row) (i : ℕ) (r : Row) → RowRoom (i + 1) l → rows_of (set l i r) (i + 1) ≡ rows_of l i ++ (r ∷ [])
rows_put l i r h = take_more_set l i r (omega arith)

pub spans_length : (l : List Span) (n : ℕ) → SpanRoom n l → length (spans_of l n) ≡ n
spans_length l n h = length-take-le n l h

-- a record s was put at i
module _ (l : List Span) (i : ℕ) (s : Span) (l' : List Span) (p : l' ≡ set l i s) where
  pub span_put : i < length l → span_at l' i ≡ s
  span_put h = ap (λ (y : List Span). span_at y i) p ∙ get_or-set_same l i s blank_span h

  pub span_stays : (j : ℕ) → (j ≡ i → ⊥) → span_at l' j ≡ span_at l j
  span_stays j n = ap (λ (y : List Span). span_at y j) p ∙ get_or-set_other l i j s blank_span n

-- ---- records that are not written yet

-- what a field says once a record s was put at i
module _ (field : Span → ℕ) (l : List Span) (i : ℕ) (s : Span) (l' : List Span) (p : l' ≡ set l i s) where
  field_put : i < length l → field (span_at l' i) ≡ field s
  field_put h = ap field (span_put l i s l' p h)

  field_stays : (j : ℕ) → (j ≡ i → ⊥) → field (span_at l' j) ≡ field (span_at l j)
  field_stays j n = ap field (span_stays l i s l' p j n)

  -- it was not changed
  field_kept : i < length l → field s ≡ field (span_at l i) → (j : ℕ) → field (span_at l' j) ≡ field (span_at l j)
  field_kept h e j = look (eqb j i) refl
    where
      look : (t : Bool) → eqb j i ≡ t → field (span_at l' j) ≡ field (span_at l j)
      look true q = rw (eqb-true j i q) (field_put h ∙ e)
      look false q = field_stays j (eqb-false j i q)

module _ {l : List Span} {i k : ℕ} {l' : List Span} (p : LinkPut l i k l') (h : i < length l) where
  pub link_put : link_at l' i ≡ k
  link_put = field_put (λ (y : Span). y.kind) _ _ _ _ p.put h

  pub link_stays : (j : ℕ) → (j ≡ i → ⊥) → link_at l' j ≡ link_at l j
  link_stays = field_stays (λ (y : Span). y.kind) _ _ _ _ p.put

  pub marks_stay : (j : ℕ) → mark_at l' j ≡ mark_at l j
  marks_stay = field_kept (λ (y : Span). y.x) _ _ _ _ p.put h refl

module _ {l : List Span} {i x : ℕ} {l' : List Span} (p : MarkPut l i x l') (h : i < length l) where
  pub mark_put : mark_at l' i ≡ x
  mark_put = field_put (λ (y : Span). y.x) _ _ _ _ p.put h

  pub mark_stays : (j : ℕ) → (j ≡ i → ⊥) → mark_at l' j ≡ mark_at l j
  mark_stays = field_stays (λ (y : Span). y.x) _ _ _ _ p.put

  pub links_stay : (j : ℕ) → link_at l' j ≡ link_at l j
  links_stay = field_kept (λ (y : Span). y.kind) _ _ _ _ p.put h refl

-- ---- faults

-- the first of two
pub earlier_is : (a b : Option Fault) → option_or a b ≡ or_else a b
unfolding or_else
earlier_is None b = refl
earlier_is (Some f) b = refl
