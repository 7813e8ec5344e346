-- The lines and the first font fault of measured entries are those of the layout.
use mathlib.Core.Path.{◌≡◌, refl, ◌∙◌, ap}
use mathlib.Core.Bool.{Bool, true, false}
use mathlib.Core.List.{List, [], ◌∷◌, map}
use Rattle.base.specs.Pick.{pick}
use Rattle.std.specs.Prelude.{Option, None}
use Rattle.layout.specs.declared.Entry.{Entry}
use Rattle.layout.specs.declared.Fault.{Fault}
use Rattle.layout.specs.Types.{Meter}
use Rattle.layout.specs.Placing.{Line, add_line, line_of, lines, or_else, first_fault, keep, select, same_page}
use Rattle.rows.specs.Measured.{row_of, font_only, RowTells}
use Rattle.lines.specs.Lines.{row_line, lines_from, row_fault, font_fault_from}

none_or : (a : Option Fault) → or_else None a ≡ a
unfolding or_else
none_or a = refl

module _ (m : Meter) where
  from_lines : (e : Entry) (ls : List Line) (es : List Entry) → lines_from e.state.just_page ls (map (row_of m) es) ≡ lines m ls (select (same_page e) es)
  from_lines e ls [] = refl
  from_lines e ls (x ∷ es) = look (same_page e x) (λ l. from_lines e l es)
    where
      gather : List Line → List Line
      gather l = lines_from e.state.just_page l (map (row_of m) es)

      look : (t : Bool) → ((l : List Line) → gather l ≡ lines m l (select (same_page e) es))
          → gather (pick t (add_line x.state.line (row_line (row_of m x)) ls) ls) ≡ lines m ls (keep t x (select (same_page e) es))
      look true h = h (add_line x.state.line (line_of m x) ls)
      look false h = h ls

  -- the lines of the rows of es are those of the entries with e's page justification
  pub lines_measured : RowTells m → (es : List Entry) (e : Entry) → lines_from e.state.just_page [] (map (row_of m) es)
      ≡ lines m [] (select (same_page e) es)
  lines_measured p es e = from_lines e [] es

  from_faults : RowTells m → (e : Entry) (es : List Entry) → first_fault (row_fault e.state.just_page) (map (row_of m) es)
      ≡ first_fault m.font_fault (select (same_page e) es)
  from_faults p e [] = refl
  from_faults p e (x ∷ es) = look (same_page e x) (from_faults p e es)
    where
      own : Option Fault
      own = font_only (m.fault x)

      rest : Option Fault
      rest = first_fault (row_fault e.state.just_page) (map (row_of m) es)

      look : (t : Bool) → rest ≡ first_fault m.font_fault (select (same_page e) es) → or_else (pick t own None) rest
          ≡ first_fault m.font_fault (keep t x (select (same_page e) es))
      look true h = ap (λ (o : Option Fault). or_else o rest) (p.font x) ∙ ap (or_else (m.font_fault x)) h
      look false h = none_or rest ∙ h

  -- and so is their first font fault
  pub faults_measured : RowTells m → (es : List Entry) (e : Entry) → font_fault_from e.state.just_page (map (row_of m) es)
      ≡ first_fault m.font_fault (select (same_page e) es)
  unfolding font_fault_from
  faults_measured p es e = from_faults p e es
