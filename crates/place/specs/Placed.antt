-- Document 01, "Placing", over the measured rows of a pass: the records, and the first of refusals 9 to 14.
use Rattle.std.specs.Prelude.{ℕ, suc, ◌+◌, ◌-◌, ◌/◌, ◌≤◌, ◌≡◌, Bool, not, ◌&&◌, ◌||◌, List, [], ◌∷◌, map, leb, ltb, eqb, length, take, drop}
use Rattle.std.specs.Prelude.{Option, Some, None, Result, Ok, Err}
use Rattle.std.specs.Option.{option_or}
use Rattle.std.specs.Result.{result_err}
use Rattle.base.specs.Pick.{pick}
use Rattle.refusal.specs.declared.Refusal.{Refusal}
use Rattle.records.specs.declared.Config.{Config}
use Rattle.layout.specs.declared.Rect.{Rect}
use Rattle.layout.specs.declared.Span.{Span}
use Rattle.refusal.specs.Refusals.{refusal}
use Rattle.layout.specs.Placing.{trunc, or_else, unless, first_fault, place_x, above, below, baseline}
use Rattle.layout.specs.declared.Fault.{Fault}
use Rattle.rows.specs.declared.Row.{Row}
use Rattle.sums.specs.declared.Sums.{Sums}
use Rattle.sums.specs.Sums.{sums, none_yet}
use Rattle.lines.specs.declared.PageLines.{PageLines}
use Rattle.lines.specs.declared.Heights.{Heights}
use Rattle.lines.specs.Lines.{lines_from, font_fault_from, PageHeights}
use Rattle.place.specs.declared.shared.Pass.{Pass}

-- ---- 9

-- `check_justification`: compared with page justification j, line l and line justification k of the row before
abbrev pub goes_back_from : ℕ → ℕ → ℕ → Row → Bool
goes_back_from j l k e = ltb e.just_page j || (eqb e.just_page j && (eqb e.line l && ltb e.just_line k))

abbrev pub back_rows : ℕ → ℕ → ℕ → List Row → Option Refusal
back_rows j l k [] = None
back_rows j l k (e ∷ es) =
    or_else (unless (not (goes_back_from j l k e)) (refusal 9 e.start e.len 0)) (back_rows e.just_page e.line e.just_line es)

-- ---- a row's place

-- both `place_x` and `baseline`: 2 at the start, 3 in the middle on the grid u, 4 at the end
abbrev pub stands_at : ℕ → ℕ → ℕ → ℕ → ℕ → ℕ → ℕ
stands_at j u from size a b = pick (eqb j 2) (from + a) (pick (eqb j 3) (trunc u (from + (size - a - b) / 2 + a)) (from + size - b))

abbrev pub record_by : Rect → Row → ℕ → ℕ → Span
record_by q r x y =
    record {
      kind = r.kind;
      start = r.start;
      length = r.len;
      code = r.code;
      x = x;
      y = y;
      width = r.width;
      height = r.height;
      font = r.font;
      line = r.line;
      span = r.span;
      rect_x = suc q.left;
      rect_y = suc q.top;
      rect_width = q.width;
      rect_height = q.height;
    }

abbrev pub refusal_of : Row → ℕ → ℕ → Refusal
refusal_of r n d = refusal n r.start r.len d

abbrev pub fault_at : Row → Option Fault → Option Refusal
fault_at r None = None
fault_at r (Some f) = Some (refusal_of r f.number f.detail)

-- a row with the sums o of its group, a above the foot of its line and b below it, and the first font fault f of its page's lines
module _ (c : Config) (q : Rect) (r : Row) (o : Sums) (a b : ℕ) where
  unfoldable pub base_with : ℕ
  base_with = baseline r.just_page c.char_height q a b

  unfoldable pub record_with : Span
  record_with = record_by q r (place_x r.just_line c.char_width q o.before o.after) (base_with - r.height)

  unfoldable pub fault_with : Option Fault → Option Refusal
  fault_with f =
      or_else (fault_at r o.fault)
      (or_else (unless (leb (o.before + o.after) q.width) (refusal_of r 13 0))
      (or_else (fault_at r f)
      (or_else (unless (leb (a + b) q.height) (refusal_of r 13 0))
      (unless (leb r.height base_with) (refusal_of r 14 0)))))

-- the fault of a group by its sums: its first, or 13
abbrev pub across_fault : Rect → Sums → Option Fault
across_fault q o = option_or o.fault (pick (ltb q.width (o.before + o.after)) (Some (record { number = 13; detail = 0 })) None)

-- a fault of a row refuses it
abbrev pub fault_end : Row → Option Fault → Result (Unit {0}) Refusal
fault_end r None = Ok tt
fault_end r (Some f) = Err (refusal_of r f.number f.detail)

-- where a row stands across, with a before it in its group and b from there on
abbrev pub across_at : Config → Rect → Row → ℕ → ℕ → ℕ
across_at c q r a b = stands_at r.just_line c.char_width q.left q.width a b

-- a row with the sums o of its group stands at x across, and the group fits
pub record Crossed (c : Config) (q : Rect) (r : Row) (o : Sums) (x : ℕ) : Type 0 where
  pub fine : o.fault ≡ None
  pub wide : o.before + o.after ≤ q.width
  pub is : x ≡ across_at c q r o.before o.after

-- a refusal, or else a record
abbrev pub placed_by : Option Refusal → Span → Result Span Refusal
placed_by None s = Ok s
placed_by (Some f) s = Err f

-- the same with the heights v
unfoldable pub placed_with : Config → Rect → Row → Sums → Heights → Result Span Refusal
placed_with c q r o v = placed_by (fault_with c q r o v.above v.below v.fault) (record_with c q r o v.above v.below)

-- a row and heights that it can be placed with
pub record SpanAsked (p : Pass) (r : Row) (v : Heights) : Type 0 where
  pub part : r.width ≤ p.rect.width
  pub high : v.above + v.below ≤ 33554432

-- the row at x across was placed as with its group's sums, whatever they are
abbrev pub SpanPlaced : Pass → Row → ℕ → Heights → Result Span Refusal → Type 0
SpanPlaced p r x v a = (o : Sums) → Crossed p.config p.rect r o x → a ≡ placed_with p.config p.rect r o v

-- ---- the rows of a pass

module _ (c : Config) (q : Rect) (rs : List Row) where
  unfoldable pub above_at : Row → ℕ
  above_at r = above c.char_height r.line None (lines_from r.just_page [] rs)

  unfoldable pub below_at : Row → ℕ
  below_at r = below c.char_height r.line None (lines_from r.just_page [] rs)

  unfoldable pub record_at : Row → Span
  record_at r = record_with c q r (sums r none_yet rs) (above_at r) (below_at r)

  unfoldable pub span_fault_at : Row → Option Refusal
  span_fault_at r = fault_with c q r (sums r none_yet rs) (above_at r) (below_at r) (font_fault_from r.just_page rs)

  -- 9, then row by row
  unfoldable pub rows_fault : Option Refusal
  rows_fault = or_else (back_rows 0 0 0 rs) (first_fault span_fault_at rs)

  unfoldable pub rows_records : List Span
  rows_records = map record_at rs

-- rows can be placed in the rectangle q, each in its record: of a slice the first ones
pub record Placeable (q : Rect) (rows : List Row) (out : List Span) : Type 0 where
  pub few : length rows ≤ 2048
  pub room : length rows ≤ length out
  pub across : q.left + q.width ≤ 4096
  pub down : q.top + q.height ≤ 4096

-- the lines of page, the last ones made, are those of a page justification
abbrev pub LinesMade : Pass → PageLines → Type 0
LinesMade p page = PageHeights p.config.char_height p.rows.now page.just page

-- they were placed row by row: a refusal, or all records
pub record RowByRow (p : Pass) (out : List Span) (r : Result (Unit {0}) Refusal) : Type 0 where
  pub fault : result_err r ≡ first_fault (span_fault_at p.config p.rect p.rows.now) p.rows.now
  pub written : r ≡ Ok tt → take (length p.rows.now) out ≡ rows_records p.config p.rect p.rows.now

-- the pass was placed: 9 before them; out' holds the rows' records, and behind these what out had
pub record PassPlaced (c : Config) (q : Rect) (rows : List Row) (out out' : List Span) (r : Result (Unit {0}) Refusal) : Type 0 where
  pub fault : result_err r ≡ rows_fault c q rows
  pub written : r ≡ Ok tt → take (length rows) out' ≡ rows_records c q rows
  pub behind : drop (length rows) out' ≡ drop (length rows) out
