-- The rows of each line chained, so that they are walked without those of other lines. A row is told by how many rows there are from it on.
use Rattle.std.specs.Prelude.{ℕ, zero, suc, ◌-◌, ◌≤◌, ◌<◌, ◌≡◌, List, [], ◌∷◌, eqb, length, get_or}
use Rattle.base.specs.Pick.{pick}
use Rattle.layout.specs.declared.Span.{Span}
use Rattle.rows.specs.declared.Row.{Row}
use Rattle.rows.specs.Rows.{row_at, link_at, mark_at}

-- of the last k rows, how many there are from the first one with line number b on; 0 if there is none
abbrev pub first_in : List Row → ℕ → ℕ → ℕ
first_in rows b zero = 0
first_in rows b (suc k) = pick (eqb (row_at rows (length rows - suc k)).line b) (suc k) (first_in rows b k)

-- the rows with line number b among the last k
abbrev pub rows_in : List Row → ℕ → ℕ → List Row
rows_in rows b zero = []
rows_in rows b (suc k) =
    pick (eqb (row_at rows (length rows - suc k)).line b) (row_at rows (length rows - suc k) ∷ rows_in rows b k) (rows_in rows b k)

-- the rows of a line, from the one on from which there are k
abbrev pub rows_from : List Row → ℕ → List Row
rows_from rows k = rows_in rows (row_at rows (length rows - k)).line k

-- the rows of a pass, each with its record
pub record RowsAsked (rows : List Row) (out : List Span) : Type 0 where
  pub few : length rows ≤ 2048
  pub room : length rows ≤ length out

-- the last k rows are chained: heads tells each line's first, a row's record its line's next
pub record Linked (rows : List Row) (out : List Span) (heads : List ℕ) (k : ℕ) : Type 0 where
  pub size : length heads ≡ 256
  pub firsts : (b : ℕ) → b < 256 → get_or heads b 0 ≡ first_in rows b k
  pub nexts : (m : ℕ) → m < k → link_at out (length rows - suc m) ≡ first_in rows (row_at rows (length rows - suc m)).line m

-- all rows are
pub record Chained (rows : List Row) (out : List Span) (heads : List ℕ) : Type 0 where
  pub asked : RowsAsked rows out
  pub linked : Linked rows out heads (length rows)

-- each row's record tells its line's next
pub record Links (rows : List Row) (out : List Span) : Type 0 where
  pub asked : RowsAsked rows out
  pub nexts : (m : ℕ) → m < length rows → link_at out (length rows - suc m) ≡ first_in rows (row_at rows (length rows - suc m)).line m

-- they have been: no row is marked
pub record ChainedTo (rows : List Row) (heads : List ℕ) (out : List Span) : Type 0 where
  pub chained : Chained rows out heads
  pub blank : (m : ℕ) → m < length rows → mark_at out (length rows - suc m) ≡ 0

-- a walk stands at the row from which on there are k, one of r's line; 0: at the end
pub record Walk (rows : List Row) (r : Row) (k : ℕ) : Type 0 where
  pub within : k ≤ length rows
  pub line : 0 < k → (row_at rows (length rows - k)).line ≡ r.line
