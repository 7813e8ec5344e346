-- The rows of a pass and the records of an answer, each in a lent slice: what is at a place, and what stands there once it is written.
use Rattle.std.specs.Prelude.{ℕ, zero, suc, ◌≤◌, ◌≡◌, List, [], ◌∷◌, length, get_or, set, take, false, None}
use Rattle.layout.specs.declared.Span.{Span}
use Rattle.rows.specs.declared.Row.{Row}

-- the elements that f gives for the k places from i on
abbrev pub cells : {A : Type 0} → (ℕ → A) → ℕ → ℕ → List A
cells f i zero = []
cells f i (suc k) = f i ∷ cells f (suc i) k

-- ---- a measured span

-- room for n rows
abbrev pub RowRoom : ℕ → List Row → Type 0
RowRoom n l = n ≤ length l

-- what stands past the end of a slice, as indexing has it
abbrev pub blank_row : Row
blank_row =
    record {
      kind = 0;
      start = 0;
      len = 0;
      code = 0;
      just_page = 0;
      just_line = 0;
      font = 0;
      line = 0;
      span = 0;
      fixed = false;
      spacing = 0;
      lead = None;
      height = 0;
      font_spacing = 0;
      fault = None;
      width = 0;
    }

abbrev pub row_at : List Row → ℕ → Row
row_at l i = get_or l i blank_row

-- the first n rows
abbrev pub rows_of : List Row → ℕ → List Row
rows_of l n = take n l

-- ---- a record

-- room for n records
abbrev pub SpanRoom : ℕ → List Span → Type 0
SpanRoom n l = n ≤ length l

abbrev pub blank_span : Span
blank_span =
    record {
      kind = 0;
      start = 0;
      length = 0;
      code = 0;
      x = 0;
      y = 0;
      width = 0;
      height = 0;
      font = 0;
      line = 0;
      span = 0;
      rect_x = 0;
      rect_y = 0;
      rect_width = 0;
      rect_height = 0;
    }

abbrev pub span_at : List Span → ℕ → Span
span_at l i = get_or l i blank_span

-- the first n records
abbrev pub spans_of : List Span → ℕ → List Span
spans_of l n = take n l

-- ---- a record that is not written yet

-- how many rows there are from the next one of its line on
abbrev pub link_at : List Span → ℕ → ℕ
link_at l i = (span_at l i).kind

-- its place across, with 1 added; 0 until it is known
abbrev pub mark_at : List Span → ℕ → ℕ
mark_at l i = (span_at l i).x

-- a link was put
pub record LinkPut (out : List Span) (i k : ℕ) (out' : List Span) : Type 0 where
  pub put : out' ≡ set out i (record (span_at out i) { kind = k })
  pub room : length out' ≡ length out

-- a mark was put
pub record MarkPut (out : List Span) (i x : ℕ) (out' : List Span) : Type 0 where
  pub put : out' ≡ set out i (record (span_at out i) { x = x })
  pub room : length out' ≡ length out
