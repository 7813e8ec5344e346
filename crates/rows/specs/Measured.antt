-- The row of an entry: what the fonts say of it is taken once, and kept with it.
use Rattle.std.specs.Prelude.{ℕ, ◌≡◌, eqb, Option, Some, None, is_some}
use Rattle.base.specs.Pick.{pick}
use Rattle.layout.specs.declared.Entry.{Entry}
use Rattle.layout.specs.declared.Fault.{Fault}
use Rattle.layout.specs.Types.{Meter}
use Rattle.rows.specs.declared.Gauge.{Gauge}
use Rattle.rows.specs.declared.Row.{Row}

-- what the fonts say of a span
abbrev pub gauge_of : Meter → Entry → Gauge
gauge_of m e =
    record {
      spacing = m.spacing e;
      height = m.height e;
      font_spacing = m.line_spacing e;
      width = m.width e;
      fault = m.fault e;
    }

-- the row of a span with its gauge
abbrev pub row_by : Entry → Gauge → Row
row_by e g =
    record {
      kind = e.kind;
      start = e.start;
      len = e.len;
      code = e.code;
      just_page = e.state.just_page;
      just_line = e.state.just_line;
      font = e.state.font;
      line = e.state.line;
      span = e.state.span;
      fixed = is_some e.state.char_spacing;
      spacing = g.spacing;
      lead = e.state.line_spacing;
      height = g.height;
      font_spacing = g.font_spacing;
      fault = g.fault;
      width = g.width;
    }

abbrev pub row_of : Meter → Entry → Row
row_of m e = row_by e (gauge_of m e)

-- of 10 to 12 the faults of a font: 10 and 11
abbrev pub font_only : Option Fault → Option Fault
font_only None = None
font_only (Some f) = pick (eqb f.number 12) None (Some f)

-- rows tell what a meter says: a span's spacing is its [sc] value where one holds; a font's fault comes first
pub record RowTells (m : Meter) : Type 0 where
  pub spaced : (e : Entry) (n : ℕ) → e.state.char_spacing ≡ Some n → m.spacing e ≡ n
  pub font : (e : Entry) → font_only (m.fault e) ≡ m.font_fault e
