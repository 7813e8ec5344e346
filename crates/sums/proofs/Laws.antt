-- The sums of a pass are those of the definition.
use Prim.Native.Nat.{ℕ, suc, ◌+◌, ◌/◌}
use native.Mathlib.Omega.{arith}
use mathlib.Core.Path.{◌≡◌, refl, ◌∙◌, ap}
use mathlib.Core.Bool.{Bool, true, false}
use Rattle.std.specs.Prelude.{Option, Some, None, is_some, unwrap_or}
use Rattle.std.specs.Option.{option_or}
use mathlib.Core.List.{List, [], ◌∷◌, map}
use lib.Dec.{eqb}
use borrow.Author.Tests.{eq-eqb, ne_eqb}
use Rattle.base.specs.Pick.{pick}
use Rattle.layout.specs.declared.Entry.{Entry}
use Rattle.layout.specs.Types.{Meter}
use Rattle.layout.specs.Placing.{or_else, first_fault, keep, select, same, due, gap, sum_before, sum_after}
use Rattle.layout.specs.declared.Fault.{Fault}
use Rattle.rows.specs.declared.Row.{Row}
use Rattle.rows.specs.Measured.{row_of, RowTells}
use Rattle.rows.proofs.Laws.{earlier_is}
use Rattle.sums.specs.declared.Sums.{Sums}
use Rattle.sums.specs.Sums.{same_row, gap_of, joined, advanced, sums, none_yet}

-- ---- the functions

-- `join`: at most a gap and a width more
pub halves : (t : Bool) (x : ℕ) → pick t x 0 + pick t 0 x ≡ x
halves true x = omega arith
halves false x = omega arith

-- what the default says of each part
pub none_is : {o : Sums} → (o.before ≡ 0) × ((o.after ≡ 0) × ((o.count ≡ 0) × ((o.spacing ≡ 0) × (o.fault ≡ None)))) → o ≡ none_yet
none_is {o} h = of_parts o.before o.after o.count o.spacing o.fault h.0 h.1.0 h.1.1.0 h.1.1.1.0 h.1.1.1.1
  where
    of_parts : (b a n s : ℕ) (f : Option Fault) → b ≡ 0 → a ≡ 0 → n ≡ 0 → s ≡ 0 → f ≡ None
        → record { before = b; after = a; count = n; spacing = s; fault = f } ≡ none_yet
    of_parts b a n s f p q r t u = rw (p, q, r, t, u) refl

-- `advance`
pub advance_yes : (r : Row) (o : Sums) (e : Row) → same_row r e ≡ true → advanced r o e ≡ joined r.span o e
unfolding advanced
advance_yes r o e h = rw h

pub advance_no : (r : Row) (o : Sums) (e : Row) → same_row r e ≡ false → advanced r o e ≡ o
unfolding advanced
advance_no r o e h = rw h

-- ---- the definitions

assoc : {A : Type 0} (a b c : Option A) → or_else (or_else a b) c ≡ or_else a (or_else b c)
unfolding or_else
assoc None b c = refl
assoc (Some x) b c = refl

module _ (m : Meter) (p : RowTells m) where
  -- the sums after the span before, if there is one
  abbrev Follows : Sums → Option Entry → Type 0
  Follows o None = o.count ≡ 0
  Follows o (Some q) = (eqb o.count 0 ≡ false) × (o.spacing ≡ m.spacing q)

  due_is : (e : Entry) (h : ℕ) (s : Option ℕ) → e.state.char_spacing ≡ s → pick (is_some s) (m.spacing e) h ≡ unwrap_or s h
  due_is e h None k = refl
  due_is e h (Some n) k = p.spaced e n k

  gap_is : (o : Sums) (q : Option Entry) (e : Entry) → Follows o q → gap_of o (row_of m e) ≡ gap m q e
  unfolding due
  gap_is o None e k = rw (eq-eqb o.count 0 k)
  gap_is o (Some q) e k = rw (k.0, k.1) (due_is e ((m.spacing q + m.spacing e + 1) / 2) e.state.char_spacing refl)

  fault_is_law : (o : Sums) (e : Entry) → option_or o.fault (row_of m e).fault ≡ or_else o.fault (m.fault e)
  fault_is_law o e = earlier_is o.fault (m.fault e)

  record Agree (n : ℕ) (o : Sums) (q : Option Entry) (l : List Entry) (s : Sums) : Type 0 where
    pub before : s.before ≡ o.before + sum_before m n q l
    pub after : s.after ≡ o.after + sum_after m n q l
    pub fault : s.fault ≡ or_else o.fault (first_fault m.fault l)

  agree_none : (n : ℕ) (o : Sums) (q : Option Entry) → Agree n o q [] o
  unfolding or_else
  agree_none n o q = record { before = omega arith; after = omega arith; fault = last o.fault }
    where
      last : (f : Option Fault) → f ≡ or_else f None
      last None = refl
      last (Some x) = refl

  -- e joins the sums o, and the rest es makes s of them
  agree_join : (n : ℕ) (o : Sums) (q : Option Entry) (e : Entry) (es : List Entry) (s : Sums) → Follows o q → Agree n (joined n o (row_of m e)) (Some e) es s
      → Agree n o q (e ∷ es) s
  agree_join n o q e es s k h =
      let g : gap_of o (row_of m e) ≡ gap m q e = gap_is o q e k in
      record {
        before = h.before ∙ rw g (omega arith);
        after = h.after ∙ rw g (omega arith);
        fault =
            h.fault ∙ ap (λ (f : Option Fault). or_else f (first_fault m.fault es)) (fault_is_law o e)
            ∙ assoc o.fault (m.fault e) (first_fault m.fault es);
      }

  agree : (r : Entry) (o : Sums) (q : Option Entry) (es : List Entry) → Follows o q
      → Agree r.state.span o q (select (same r) es) (sums (row_of m r) o (map (row_of m) es))
  unfolding advanced
  agree r o q [] k = agree_none r.state.span o q
  agree r o q (e ∷ es) k = step (same r e) (λ p x d. agree r p x es d)
    where
      step : (t : Bool)
          → ((p : Sums) (x : Option Entry) → Follows p x → Agree r.state.span p x (select (same r) es) (sums (row_of m r) p (map (row_of m) es)))
          → Agree r.state.span o q (keep t e (select (same r) es)) (sums (row_of m r) (pick t (joined r.state.span o (row_of m e)) o) (map (row_of m) es))
      step true ih =
          agree_join r.state.span o q e (select (same r) es) _ k
          (ih (joined r.state.span o (row_of m e)) (Some e) (ne_eqb (suc o.count) 0 (λ x. omega arith), refl))
      step false ih = ih o q k

  -- what stands before a span in its group, what from there on, and the group's first fault
  pub sums_before : (es : List Entry) (e : Entry)
      → (sums (row_of m e) none_yet (map (row_of m) es)).before ≡ sum_before m e.state.span None (select (same e) es)
  sums_before es e = omega (arith, (agree e none_yet None es refl).before)

  pub sums_after_law : (es : List Entry) (e : Entry)
      → (sums (row_of m e) none_yet (map (row_of m) es)).after ≡ sum_after m e.state.span None (select (same e) es)
  sums_after_law es e = omega (arith, (agree e none_yet None es refl).after)

  pub sums_fault : (es : List Entry) (e : Entry)
      → (let s : Sums = sums (row_of m e) none_yet (map (row_of m) es) in s.fault ≡ first_fault m.fault (select (same e) es))
  unfolding or_else
  sums_fault es e = (agree e none_yet None es refl).fault
