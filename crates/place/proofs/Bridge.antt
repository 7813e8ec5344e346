-- What a pass of measured entries answers is what the layout says of them.
use mathlib.Core.Path.{◌≡◌, refl, ◌∙◌, ap}
use mathlib.Core.Bool.{Bool, true, false, not, ◌&&◌}
use Rattle.std.specs.Prelude.{Option, Some, None}
use mathlib.Core.List.{List, [], ◌∷◌, map}
use native.Mathlib.Omega.{arith}
use lib.Dec.{eqb}
use borrow.Author.Tests.{le-ltb}
use Rattle.refusal.specs.declared.Refusal.{Refusal}
use Rattle.records.specs.declared.Config.{Config}
use Rattle.layout.specs.declared.Rect.{Rect}
use Rattle.layout.specs.declared.Span.{Span}
use Rattle.layout.specs.declared.Entry.{Entry}
use Rattle.layout.specs.declared.Fault.{Fault}
use Rattle.layout.specs.Types.{Meter, Board}
use Rattle.refusal.specs.Refusals.{refusal}
use Rattle.layout.specs.Placing as place
use Rattle.layout.specs.Placing.{or_else, unless, first_fault, select, same, same_page, before_of, after_of, lines_of, above_of, below_of, x_of, base_of, record_of, span_fault, goes_back, back_fault, pass_fault, pass_records}
use Rattle.rows.specs.declared.Row.{Row}
use Rattle.rows.specs.Measured.{row_of, RowTells}
use Rattle.sums.specs.declared.Sums.{Sums}
use Rattle.sums.specs.Sums.{sums, none_yet}
use Rattle.sums.proofs.Laws.{sums_before, sums_after_law, sums_fault}
use Rattle.lines.specs.Lines.{font_fault_from}
use Rattle.lines.proofs.Laws.{lines_measured, faults_measured}
use Rattle.place.specs.Placed.{goes_back_from, back_rows, fault_at, base_with, record_with, fault_with, above_at, below_at, record_at, span_fault_at, rows_fault, rows_records}

-- ---- lists

module _ (m : Meter) where
  first_map : (f : Row → Option Refusal) (g : Entry → Option Refusal) → ((e : Entry) → f (row_of m e) ≡ g e) → (es : List Entry)
      → first_fault f (map (row_of m) es) ≡ first_fault g es
  first_map f g h [] = refl
  first_map f g h (e ∷ es) = ap (λ (a : Option Refusal). or_else a (first_fault f (map (row_of m) es))) (h e) ∙ ap (or_else (g e)) (first_map f g h es)

  map_map : (f : Row → Span) (g : Entry → Span) → ((e : Entry) → f (row_of m e) ≡ g e) → (es : List Entry) → map f (map (row_of m) es) ≡ map g es
  map_map f g h [] = refl
  map_map f g h (e ∷ es) = ap (λ (a : Span). a ∷ map f (map (row_of m) es)) (h e) ∙ ap (λ (l : List Span). g e ∷ l) (map_map f g h es)

  -- ---- 9

  back_from : (x : Entry) (es : List Entry) → back_rows x.state.just_page x.state.line x.state.just_line (map (row_of m) es)
      ≡ back_fault (Some x) es
  back_from x [] = refl
  back_from x (e ∷ es) = ap (or_else (unless (not (goes_back x e)) (refusal 9 e.start e.len 0))) (back_from e es)

  neither : (a b : Bool) → a && (b && false) ≡ false
  neither true true = refl
  neither true false = refl
  neither false b = refl

  -- nothing goes back from 0
  from_zero : (r : Row) → goes_back_from 0 0 0 r ≡ false
  from_zero r = rw (le-ltb r.just_page 0 (omega arith), le-ltb r.just_line 0 (omega arith)) (neither (eqb r.just_page 0) (eqb r.line 0))

  goes : (t : Bool) (f : Refusal) (b : Option Refusal) → t ≡ false → or_else (unless (not t) f) b ≡ b
  unfolding or_else unless
  goes t f b e = rw e

  back_same : (es : List Entry) → back_rows 0 0 0 (map (row_of m) es) ≡ back_fault None es
  back_same [] = refl
  back_same (e ∷ es) = goes (goes_back_from 0 0 0 (row_of m e)) (refusal 9 e.start e.len 0) _ (from_zero (row_of m e)) ∙ back_from e es

-- ---- a span

chain : (a b c d e a' b' c' d' e' : Option Refusal) → a ≡ a' → b ≡ b' → c ≡ c' → d ≡ d' → e ≡ e'
    → or_else a (or_else b (or_else c (or_else d e))) ≡ or_else a' (or_else b' (or_else c' (or_else d' e')))
chain a b c d e a' b' c' d' e' h i j k l = rw (h, i, j, k, l)

module _ (m : Meter) (p : RowTells m) (c : Config) (q : Rect) (es : List Entry) where
  abbrev board : Board
  board = record { config = c; meter = m }

  record_same : (e : Entry) → record_at c q (map (row_of m) es) (row_of m e) ≡ record_of board q es e
  unfolding record_at record_with base_with above_at below_at record_of x_of base_of before_of after_of lines_of above_of below_of
  record_same e = rw (sums_before m p es e, sums_after_law m p es e, lines_measured m p es e)

  fault_at_law : (e : Entry) (f : Option Fault) → fault_at (row_of m e) f ≡ place.fault_at board q es e f
  fault_at_law e None = refl
  fault_at_law e (Some f) = refl

  group_part : (e : Entry)
      → (let o : Sums = sums (row_of m e) none_yet (map (row_of m) es) in
      fault_at (row_of m e) o.fault ≡ place.fault_at board q es e (first_fault m.fault (select (same e) es)))
  group_part e = ap (fault_at (row_of m e)) (sums_fault m p es e) ∙ fault_at_law e (first_fault m.fault (select (same e) es))

  font_part : (e : Entry) → fault_at (row_of m e) (font_fault_from e.state.just_page (map (row_of m) es))
      ≡ place.fault_at board q es e (first_fault m.font_fault (select (same_page e) es))
  font_part e = ap (fault_at (row_of m e)) (faults_measured m p es e) ∙ fault_at_law e (first_fault m.font_fault (select (same_page e) es))

  fault_same : (e : Entry) → span_fault_at c q (map (row_of m) es) (row_of m e) ≡ span_fault board q es e
  unfolding span_fault_at fault_with base_with above_at below_at span_fault base_of before_of after_of lines_of above_of below_of
  fault_same e =
      chain _ _ _ _ _ _ _ _ _ _
      (group_part e)
      (rw (sums_before m p es e, sums_after_law m p es e))
      (font_part e)
      (rw (lines_measured m p es e))
      (rw (lines_measured m p es e))

  -- ---- a pass

  pub pass_fault_law : rows_fault c q (map (row_of m) es) ≡ pass_fault (record { config = c; meter = m }) q es
  unfolding rows_fault pass_fault
  pass_fault_law =
      ap (λ (a : Option Refusal). or_else a (first_fault (span_fault_at c q (map (row_of m) es)) (map (row_of m) es))) (back_same m es)
      ∙ ap (or_else (back_fault None es)) (first_map m (span_fault_at c q (map (row_of m) es)) (span_fault board q es) fault_same es)

  pub pass_records_law : rows_records c q (map (row_of m) es) ≡ pass_records (record { config = c; meter = m }) q es
  unfolding rows_records pass_records
  pass_records_law = map_map m (record_at c q (map (row_of m) es)) (record_of board q es) record_same es
