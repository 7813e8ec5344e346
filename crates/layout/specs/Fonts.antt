-- Document 01, "Font measure", and refusals 10 to 12: what the fonts of a sign file say of a span.
use Rattle.std.specs.Prelude.{ℕ, List, [], ◌∷◌, Bool, eqb, take, drop, Option, Some, None, unwrap_or, Ok, Err}
use Rattle.base.specs.Pick.{pick}
use Rattle.records.specs.declared.Config.{Config}
use Rattle.sign.specs.Sign.{Font}
use Rattle.font.specs.Table.{font_numbered}
use Rattle.font.specs.Character.{letters_of}
use Rattle.font.specs.Measure.{Measure, text_width}
use Rattle.utf8.specs.Utf8.{codes}
use Rattle.layout.specs.declared.Entry.{Entry}
use Rattle.layout.specs.declared.Fault.{Fault}
use Rattle.layout.specs.Types.{Meter, Board}

-- a number, with its detail
abbrev pub fault : ℕ → ℕ → Fault
fault n d = record { number = n; detail = d }

-- 11: "Font version id differs", where the state has one
abbrev pub version_fault : Option ℕ → Font → Option Fault
version_fault None f = None
version_fault (Some v) f = pick (eqb v f.version) None (Some (fault 11 0))

-- the code points that a span prints: of kind 0 those of its text, of kind 1 its code, of kind 2 none
abbrev pub chars_of : List ℕ → Entry → List ℕ
chars_of msg e = pick (eqb e.kind 0) (codes (take e.len (drop e.start msg))) (pick (eqb e.kind 1) (e.code ∷ []) [])

-- 12: "Character not defined; detail its code"
abbrev pub missing : Measure → Option Fault
missing (Ok w) = None
missing (Err m) = Some (fault 12 m.code)

abbrev pub width_of : Measure → ℕ
width_of (Ok w) = w
width_of (Err m) = 0

-- a span in its font, if that is defined; capitals: they stand in for missing small letters (document 02, A4)
module _ (msg : List ℕ) (e : Entry) where
  -- 10: "Font not defined; detail its number"
  abbrev pub font_fault_in : Option Font → Option Fault
  font_fault_in None = Some (fault 10 e.state.font)
  font_fault_in (Some f) = version_fault e.state.version f

  -- "a span's spacing is its [sc] value, or its font's where none holds"
  abbrev pub spacing_in : Option Font → ℕ
  spacing_in None = unwrap_or e.state.char_spacing 0
  spacing_in (Some f) = unwrap_or e.state.char_spacing f.char_spacing

  -- "Font measure", of what the span prints: "Measuring, placing and painting follow the character found"
  unfoldable pub measure_in : Bool → Font → Measure
  measure_in capitals f = text_width (letters_of capitals f.characters) (spacing_in (Some f)) (chars_of msg e)

  -- 10, 11, then 12
  abbrev pub char_fault_after : Bool → Option Fault → Font → Option Fault
  char_fault_after capitals None f = missing (measure_in capitals f)
  char_fault_after capitals (Some r) f = Some r

  abbrev pub fault_in : Bool → Option Font → Option Fault
  fault_in capitals None = Some (fault 10 e.state.font)
  fault_in capitals (Some f) = char_fault_after capitals (version_fault e.state.version f) f

  abbrev pub width_in : Bool → Option Font → ℕ
  width_in capitals None = 0
  width_in capitals (Some f) = width_of (measure_in capitals f)

abbrev pub height_in : Option Font → ℕ
height_in None = 0
height_in (Some f) = f.height

abbrev pub line_spacing_in : Option Font → ℕ
line_spacing_in None = 0
line_spacing_in (Some f) = f.line_spacing

unfoldable pub meter_of : List ℕ → Bool → List Font → Meter
meter_of msg capitals fs =
    record {
      fault = λ e. fault_in msg e capitals (font_numbered e.state.font fs);
      font_fault = λ e. font_fault_in msg e (font_numbered e.state.font fs);
      width = λ e. width_in msg e capitals (font_numbered e.state.font fs);
      height = λ e. height_in (font_numbered e.state.font fs);
      spacing = λ e. spacing_in msg e (font_numbered e.state.font fs);
      line_spacing = λ e. line_spacing_in (font_numbered e.state.font fs);
    }

-- the sign of an accepted sign file, for a message
unfoldable pub board_of : List ℕ → Config → List Font → Board
board_of msg c fs = record { config = c; meter = meter_of msg c.capitals fs }
