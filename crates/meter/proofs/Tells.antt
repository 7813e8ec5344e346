-- Rows tell what the fonts' meter says.
use Rattle.std.specs.Prelude.{ℕ, ◌≡◌, Bool, true, false, List, eqb, Option, Some, None, unwrap_or, Ok, Err}
use mathlib.Core.Path.{refl}
use Rattle.base.specs.Pick.{pick}
use Rattle.sign.specs.Sign.{Font, sign_file}
use Rattle.font.specs.Table.{font_numbered}
use Rattle.font.specs.Measure.{Measure}
use Rattle.layout.specs.declared.Entry.{Entry}
use Rattle.layout.specs.Fonts.{fault, version_fault, missing, measure_in, font_fault_in, spacing_in, char_fault_after, fault_in, meter_of}
use Rattle.rows.specs.Measured.{font_only, RowTells}
use Rattle.counts.specs.Placing.{fonts_in, capitals_in}
use Rattle.meter.specs.Gauges.{meter_in}

-- a span in its font: the faults of a font are 10 and 11
module _ (msg : List ℕ) (e : Entry) (capitals : Bool) where
  record Right (o : Option Font) : Type 0 where
    spaced : (n : ℕ) → e.state.char_spacing ≡ Some n → spacing_in msg e o ≡ n
    font : font_only (fault_in msg e capitals o) ≡ font_fault_in msg e o

  missing_font : (m : Measure) → font_only (missing m) ≡ None
  missing_font (Ok w) = refl
  missing_font (Err m) = refl

  version_font : (v : Option ℕ) (f : Font) → font_only (char_fault_after msg e capitals (version_fault v f) f) ≡ version_fault v f
  version_font None f = missing_font (measure_in msg e capitals f)
  version_font (Some n) f = go (eqb n f.version)
    where
      go : (t : Bool) → font_only (char_fault_after msg e capitals (pick t None (Some (fault 11 0))) f) ≡ pick t None (Some (fault 11 0))
      go true = missing_font (measure_in msg e capitals f)
      go false = refl

  spacing_none : (o : Option ℕ) (n d : ℕ) → o ≡ Some n → unwrap_or o d ≡ n
  spacing_none o n d p = rw p

  right : (o : Option Font) → Right o
  right None = record { spaced = λ n p. spacing_none e.state.char_spacing n 0 p; font = refl }
  right (Some f) =
      record { spaced = λ n q. spacing_none e.state.char_spacing n f.char_spacing q; font = version_font e.state.version f }

module _ (file msg : List ℕ) where
  pub meter_told : RowTells (meter_in file msg)
  unfolding meter_in meter_of
  meter_told =
      record {
        spaced = λ e n p. (right msg e (capitals_in (sign_file file)) (font_numbered e.state.font (fonts_in (sign_file file)))).spaced n p;
        font = λ e. (right msg e (capitals_in (sign_file file)) (font_numbered e.state.font (fonts_in (sign_file file)))).font;
      }
