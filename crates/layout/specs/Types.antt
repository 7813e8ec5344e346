-- What a listing goes over: the items of a message, what the fonts say of a span, and the sign. Rect, RenderState, Entry, Fault, Scan and Step are
-- declared in src/lib.rt.
use Rattle.std.specs.Prelude.{ℕ, ◌≤◌, List, map, length, Option, Result}
use Rattle.token.specs.Token.{Slice, slices}
use Rattle.value.specs.declared.Place.{Place}
use Rattle.value.specs.declared.SyntaxError.{SyntaxError}
use Rattle.value.specs.declared.Value.{Value}
use Rattle.records.specs.declared.Config.{Config}
use Rattle.reading.specs.Reading.{item_of}
use Rattle.layout.specs.declared.RenderState.{RenderState}
use Rattle.layout.specs.declared.Entry.{Entry}
use Rattle.layout.specs.declared.Fault.{Fault}

-- a slice of the message, and what it says: its value, or why it fails (5, 6 or 7)
pub record Item : Type 0 where
  pub start : ℕ
  pub len : ℕ
  pub says : Result Value SyntaxError

-- read as the sign has it: its times may be long (document 02, A5)
abbrev pub item_at : Config → Slice → Item
item_at c s = record { start = s.start; len = length s.bytes; says = item_of c.long_times s.start s.bytes }

-- where it stands; what a value does looks at no more of its item
abbrev pub place_of : Item → Place
place_of it = record { start = it.start; len = it.len }

-- the items of a message on a sign: its slices, read
unfoldable pub items : Config → List ℕ → List Item
items c msg = map (item_at c) (slices msg)

-- a page and a line justification: 2, 3 or 4
pub record Justs (page line : ℕ) : Type 0 where
  pub page_from : 2 ≤ page
  pub page_to : page ≤ 4
  pub line_from : 2 ≤ line
  pub line_to : line ≤ 4

-- those of a state, and of the sign
abbrev pub JustsOf : RenderState → Type 0
JustsOf st = Justs st.just_page st.just_line

abbrev pub DefaultJusts : Config → Type 0
DefaultJusts c = Justs c.page_just c.line_just

-- what the fonts say of a span: the first of refusals 10 to 12 that it meets, of 10 and 11 alone, and its measures
pub record Meter : Type 0 where
  pub fault : Entry → Option Fault
  pub font_fault : Entry → Option Fault
  pub width : Entry → ℕ
  pub height : Entry → ℕ
  pub spacing : Entry → ℕ
  pub line_spacing : Entry → ℕ

-- a sign, as the layout uses it: its configuration, and what its fonts say
pub record Board : Type 0 where
  pub config : Config
  pub meter : Meter
