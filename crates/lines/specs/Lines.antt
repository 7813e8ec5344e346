-- Document 01, "The line list holds at most 256 lines": the lines of the rows with a page justification, and what stands above each line's foot.
use Rattle.std.specs.Prelude.{ℕ, ◌-◌, ◌≤◌, ◌≡◌, List, [], ◌∷◌, eqb, ltb, length, get_or, take, map, Option, None, option_map}
use Rattle.base.specs.Pick.{pick}
use Rattle.layout.specs.Placing.{Line, add_line, first_fault, or_else, above, total}
use Rattle.layout.specs.declared.Fault.{Fault}
use Rattle.rows.specs.declared.Row.{Row}
use Rattle.rows.specs.Measured.{font_only}
use Rattle.lines.specs.declared.LineList.{LineList}
use Rattle.lines.specs.declared.TextLine.{TextLine}
use Rattle.lines.specs.declared.PageLines.{PageLines}
use Rattle.lines.specs.declared.Heights.{Heights}

-- ---- the list

abbrev pub line_is : TextLine → Line
line_is t = record { height = t.height; font_spacing = t.font_spacing; line_spacing = t.line_spacing }

-- the line above, if there is one
abbrev pub line_above : Option TextLine → Option Line
line_above o = option_map line_is o

-- the lines that a list holds
unfoldable pub lines_in : LineList → List Line
lines_in l = map line_is (take l.count l.lines)

-- ---- the rows

abbrev pub row_line : Row → Line
row_line r = record { height = r.height; font_spacing = r.font_spacing; line_spacing = r.lead }

-- of the rows with page justification j: their lines, each row added to those before
abbrev pub lines_from : ℕ → List Line → List Row → List Line
lines_from j ls [] = ls
lines_from j ls (r ∷ rs) = lines_from j (pick (eqb j r.just_page) (add_line r.line (row_line r) ls) ls) rs

abbrev pub row_fault : ℕ → Row → Option Fault
row_fault j r = pick (eqb j r.just_page) (font_only r.fault) None

-- and their first font fault
unfoldable pub font_fault_from : ℕ → List Row → Option Fault
font_fault_from j rs = first_fault (row_fault j) rs

-- a row was added to a list
pub record RowAdded (l : LineList) (r : Row) (l' : LineList) : Type 0 where
  pub lines : lines_in l' ≡ add_line r.line (row_line r) (lines_in l)
  pub few : l'.count ≤ 256
  pub font : l'.fault ≡ or_else l.fault (font_only r.fault)

-- the list holds the lines of the rows with a page justification
pub record LinesOf (rows : List Row) (just : ℕ) (l : LineList) : Type 0 where
  pub lines : lines_in l ≡ lines_from just [] rows
  pub few : l.count ≤ 256
  pub font : l.fault ≡ font_fault_from just rows

-- ---- the feet

-- what stands above the foot of a line; all that there is, where no line has the number
abbrev pub foot_in : PageLines → ℕ → ℕ
foot_in p line = pick (ltb line p.count) (get_or p.feet line 0) p.total

abbrev pub heights_in : PageLines → ℕ → Heights
heights_in p line =
    record {
      above = foot_in p line;
      below = p.total - foot_in p line;
      fault = p.fault;
    }

-- the lines of the rows with a page justification are summed up
pub record PageHeights (ch : ℕ) (rows : List Row) (just : ℕ) (p : PageLines) : Type 0 where
  pub page : p.just ≡ just
  pub few : p.count ≤ 256
  pub lines : p.count ≡ length (lines_from just [] rows)
  pub feet : (line : ℕ) → foot_in p line ≡ above ch line None (lines_from just [] rows)
  pub high : p.total ≡ total ch None (lines_from just [] rows)
  pub small : p.total ≤ 33554432
  pub font : p.fault ≡ font_fault_from just rows
