-- What the fonts of a sign file say of a span, as the code takes it.
use Rattle.std.specs.Prelude.{ℕ, ◌+◌, ◌≤◌, ◌<◌, ◌≡◌, List, [], ◌∷◌, Bool, eqb, length, take, drop, Option, Some, None, Ok, Err}
use Rattle.base.specs.Pick.{pick}
use Rattle.utf8.specs.Utf8.{codes}
use Rattle.sign.specs.Sign.{Character, Font, sign_file}
use Rattle.sign.specs.declared.FontEntry.{FontEntry}
use Rattle.sign.specs.declared.SignFile.{SignFile}
use Rattle.font.specs.Character.{characters_at}
use Rattle.font.specs.Table.{font_numbered, entry_numbered}
use Rattle.font.specs.Measure.{Measure, measure_of}
use Rattle.font.specs.declared.FontWidths.{FontWidths}
use Rattle.font.specs.declared.Looked.{Looked}
use Rattle.layout.specs.declared.Entry.{Entry}
use Rattle.layout.specs.declared.Fault.{Fault}
use Rattle.layout.specs.Types.{Meter}
use Rattle.layout.specs.Fonts.{fault, chars_of, fault_in, spacing_in, width_in, height_in, line_spacing_in, meter_of}
use Rattle.counts.specs.Placing.{fonts_in, capitals_in, looked_in}
use Rattle.rows.specs.Measured.{gauge_of, row_of}
use Rattle.rows.specs.declared.Gauge.{Gauge}
use Rattle.rows.specs.declared.Row.{Row}
use Rattle.meter.specs.declared.call.Call.{Call}

unfoldable pub meter_in : List ℕ → List ℕ → Meter
meter_in file msg = meter_of msg (capitals_in (sign_file file)) (fonts_in (sign_file file))

-- the font with a number, as a table has it
abbrev pub numbered_at : SignFile → ℕ → Option FontEntry
numbered_at t n = entry_numbered n (take t.count t.fonts)

-- the font w of a file is the one with a number
pub record FontAt (bytes : List ℕ) (t : SignFile) (n : ℕ) (w : FontWidths 256) : Type 0 where
  pub entry : numbered_at t n ≡ Some w.font.entry
  pub file : w.font.file.now ≡ bytes
  pub capitals : w.font.capitals ≡ t.config.capitals

-- so is a font that may be none
abbrev pub WidthsAt : List ℕ → SignFile → ℕ → Option (FontWidths 256) → Type 0
WidthsAt bytes t n None = numbered_at t n ≡ None
WidthsAt bytes t n (Some w) = FontAt bytes t n w

-- the same of a call
abbrev pub numbered_in : Call → ℕ → Option FontEntry
numbered_in call n = numbered_at call.table n

abbrev pub FontIs : Call → ℕ → FontWidths 256 → Type 0
FontIs call n w = FontAt call.file.now call.table n w

abbrev pub WidthsOf : Call → ℕ → Option (FontWidths 256) → Type 0
WidthsOf call n o = WidthsAt call.file.now call.table n o

-- code points that fit in 16 bits, as a refusal's detail has
abbrev pub CodesFit : List ℕ → Type 0
CodesFit [] = Unit {0}
CodesFit (c ∷ l) = (c < 65536) × CodesFit l

-- the code of a missing character fits
abbrev pub CodeFits : Measure → Type 0
CodeFits (Ok w) = Unit {0}
CodeFits (Err m) = m.code < 65536

-- the code points of the part of a message that is an entry's
abbrev pub part_codes : List ℕ → Entry → List ℕ
part_codes msg e = codes (take e.len (drop e.start msg))

-- the measure of these codes: their width, and how many were looked up
pub record WidthFound (chs : List Character) (spacing : ℕ) (l : List ℕ) (r : Looked) : Type 0 where
  pub is : r ≡ measure_of chs spacing l
  pub fits : CodeFits r.measure

-- an entry of a message: it lies inside, and the codes of a text fit
pub record EntryIn (call : Call) (e : Entry) : Type 0 where
  pub inside : e.start + e.len ≤ length call.msg.now
  pub codes_fit : e.kind ≡ 0 → CodesFit (part_codes call.msg.now e)

-- the font of an entry of the table
abbrev pub font_at : List ℕ → FontEntry → Font
font_at file f =
    record {
      number = f.number;
      height = f.height;
      char_spacing = f.char_spacing;
      line_spacing = f.line_spacing;
      version = f.version_id;
      first = f.first;
      characters = characters_at file f;
    }

-- 11 where the version ids differ
abbrev pub version_fault : Option ℕ → ℕ → Option Fault
version_fault None id = None
version_fault (Some v) id = pick (eqb v id) None (Some (fault 11 0))

-- what is said of a span in its font, if that is defined
abbrev pub gauge_for : List ℕ → Entry → Bool → Option Font → Gauge
gauge_for msg e capitals o =
    record {
      spacing = spacing_in msg e o;
      height = height_in o;
      font_spacing = line_spacing_in o;
      width = width_in msg e capitals o;
      fault = fault_in msg e capitals o;
    }

-- the same in the font w, and how many characters its measure looked up
pub record GaugedIn (call : Call) (e : Entry) (w : FontWidths 256) (r : Gauge × ℕ) : Type 0 where
  pub is : r.0 ≡ gauge_for call.msg.now e w.font.capitals (Some (font_at w.font.file.now w.font.entry))
  pub looked : r.1 ≡ looked_in w.font.capitals (chars_of call.msg.now e) (Some (font_at w.font.file.now w.font.entry))

-- how many characters the measure of a span looks up, in the fonts of a sign file
abbrev pub looked_by : List ℕ → List ℕ → Entry → ℕ
looked_by file msg e = looked_in (capitals_in (sign_file file)) (chars_of msg e) (font_numbered e.state.font (fonts_in (sign_file file)))

-- what the fonts of a sign file say of a span
pub record GaugedBy (call : Call) (e : Entry) (r : Gauge × ℕ) : Type 0 where
  pub is : r.0 ≡ gauge_of (meter_in call.file.now call.msg.now) e
  pub looked : r.1 ≡ looked_by call.file.now call.msg.now e

-- its row
pub record RowTaken (call : Call) (e : Entry) (r : Row × ℕ) : Type 0 where
  pub is : r.0 ≡ row_of (meter_in call.file.now call.msg.now) e
  pub looked : r.1 ≡ looked_by call.file.now call.msg.now e
