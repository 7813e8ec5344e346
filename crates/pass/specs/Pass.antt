-- A pass as the code reads it: its spans, and how it ends. `read_pass` of proofs/Read.antt says that layout's `read` is made of these.
use Rattle.std.specs.Prelude.{ℕ, ◌+◌, ◌≤◌, ◌≡◌, Bool, true, List, [], ◌∷◌, ◌++◌, map, length, set, Option, Result, Ok, Err, IfSome, IfOk, sum_by}
use Rattle.font.specs.declared.FontWidths.{FontWidths}
use Rattle.refusal.specs.declared.Refusal.{Refusal}
use Rattle.records.specs.declared.Config.{Config}
use Rattle.layout.specs.declared.Rect.{Rect}
use Rattle.layout.specs.declared.RenderState.{RenderState}
use Rattle.layout.specs.declared.Entry.{Entry}
use Rattle.layout.specs.declared.Step.{Step}
use Rattle.layout.specs.declared.Step.TheVariants.{Go, Emit, Cut, Turn}
use Rattle.layout.specs.Types.{Item, item_at, JustsOf, DefaultJusts}
use Rattle.layout.specs.declared.Scan.{Scan}
use Rattle.layout.specs.Read.{step, scan, Event, pass, close, stop, stop_if, new_page, renumbered, read}
use Rattle.page.specs.Scan.{items_from}
use Rattle.rows.specs.Rows.{RowRoom, rows_of}
use Rattle.rows.specs.declared.Row.{Row}
use Rattle.rows.specs.Measured.{row_of}
use Rattle.meter.specs.Gauges.{FontIs, WidthsOf, EntryIn, meter_in, looked_by}
use Rattle.meter.specs.declared.call.Call.{Call}
use Rattle.pass.specs.declared.How.{How}
use Rattle.pass.specs.declared.How.TheVariants.{Cut as ByCut, Turn as ByTurn, End as ByEnd}
use Rattle.pass.specs.declared.PassDone.{PassDone}
use Rattle.pass.specs.declared.Reached.{Reached}

-- how a pass ends: a refusal; or what ended it, its rectangle, the state after [tr], before [np] or at the message's end, and the items left
pub data Ending : Type 0 where
  refused : Refusal → Ending
  ended : How → Rect → RenderState → List Item → Ending

abbrev pub entries_by : (RenderState → Bool → List Entry → List Entry) → List Entry → Result Step Refusal → List Entry
entries_by next acc (Err r) = []
entries_by next acc (Ok (Go st b)) = next st b acc
entries_by next acc (Ok (Emit e st b)) = e ∷ next st b (acc ++ (e ∷ []))
entries_by next acc (Ok (Cut st)) = []
entries_by next acc (Ok Turn) = []

-- the spans of a pass that are still to come; acc: those so far
abbrev pub entries_after : Config → List Item → RenderState → Bool → List Entry → List Entry
entries_after c [] st blank acc = []
entries_after c (it ∷ its) st blank acc = entries_by (entries_after c its) acc (step c (renumbered c acc st) blank it)

-- the spans of a pass
abbrev pub entries_of : Config → List Item → RenderState → Bool → List Entry
entries_of c its st blank = entries_after c its st blank []

abbrev pub ending_by : RenderState → List Item → (RenderState → Bool → List Entry → Ending) → List Entry → Result Step Refusal → Ending
ending_by st its next acc (Err r) = refused r
ending_by st its next acc (Ok (Go st' b)) = next st' b acc
ending_by st its next acc (Ok (Emit e st' b)) = next st' b (acc ++ (e ∷ []))
ending_by st its next acc (Ok (Cut st')) = ended ByCut st.rect st' its
ending_by st its next acc (Ok Turn) = ended ByTurn st.rect st its

-- how it ends
abbrev pub ending_after : Config → List Item → RenderState → Bool → List Entry → Ending
ending_after c [] st blank acc = ended ByEnd st.rect st []
ending_after c (it ∷ its) st blank acc =
    ending_by (renumbered c acc st) its (ending_after c its) acc (step c (renumbered c acc st) blank it)

abbrev pub ending_of : Config → List Item → RenderState → Bool → Ending
ending_of c its st blank = ending_after c its st blank []

-- what the slice s, which starts at a place, does
unfoldable pub step_at : Config → RenderState → Bool → ℕ → List ℕ → Result Step Refusal
step_at c st blank at s = step c st blank (item_at c (record { start = at; bytes = s }))

-- before the first span
abbrev pub start_at : ℕ → RenderState → Reached
start_at at st = record { at = at; count = 0; looked = 0; state = st }

-- the ending that the code tells
abbrev pub told : Config → List ℕ → Result PassDone Refusal → Ending
told c msg (Err r) = refused r
told c msg (Ok d) = ended d.how d.rect d.reached.state (items_from c d.reached.at msg)

-- a rectangle that lies inside the sign
pub record Inside (c : Config) (r : Rect) : Type 0 where
  pub across : r.left + r.width ≤ c.width
  pub down : r.top + r.height ≤ c.height

-- a state whose rectangle does, with justifications as a sign may have them, if the sign has such
pub record InSign (c : Config) (st : RenderState) : Type 0 where
  pub rect : Inside c st.rect
  pub justs : DefaultJusts c → JustsOf st

-- [tr] and [np] have a byte at least
abbrev pub tag_bytes : How → ℕ
tag_bytes ByCut = 1
tag_bytes ByTurn = 1
tag_bytes ByEnd = 0

-- the items of a message from a place on, the spans of their pass, and how it ends
abbrev pub items_in : Call → ℕ → List Item
items_in call at = items_from call.table.config at call.msg.now

abbrev pub entries_from : Call → ℕ → RenderState → Bool → List Entry
entries_from call at = entries_of call.table.config (items_in call at)

abbrev pub ending_from : Call → ℕ → RenderState → Bool → Ending
ending_from call at = ending_of call.table.config (items_in call at)

-- the row of a span, and how many characters its measure looks up
abbrev pub row_in : Call → Entry → Row
row_in call = row_of (meter_in call.file.now call.msg.now)

abbrev pub looked_in : Call → Entry → ℕ
looked_in call = looked_by call.file.now call.msg.now

-- the font held, if there is one, is that of its number
abbrev pub Holds : Call → Option (FontWidths 256) → Type 0
Holds call held = IfSome held (λ w. FontIs call w.font.entry.number w)

-- a span's row can be stored
pub record Storable (call : Call) (e : Entry) (held : Option (FontWidths 256)) (rows : List Row) (n : ℕ) : Type 0 where
  pub reads : EntryIn call e
  pub holds : Holds call held
  pub room : RowRoom (n + 1) rows

-- it was: the widths held are those of its font, and its measure looked so many characters up
pub record Stored (call : Call) (e : Entry) (rows : List Row) (n : ℕ) (held' : Option (FontWidths 256)) (rows' : List Row) (k : ℕ) : Type 0 where
  pub row : rows' ≡ set rows n (row_in call e)
  pub looked : k ≡ looked_in call e
  pub holds : WidthsOf call e.state.font held'
  pub room : length rows' ≡ length rows

-- a place in a message, with room for the message's rows
pub record PassAsked (call : Call) (from : ℕ) (first : RenderState) (rows : List Row) : Type 0 where
  pub within : from ≤ length call.msg.now
  pub rowed : RowRoom (length call.msg.now) rows
  pub inside : InSign call.table.config first

-- a pass that is done: the first rows are its spans', and their measures looked so many characters up; each has a byte beside those of its end; and its
-- rectangles lie inside the sign
pub record SpansRead (call : Call) (from : ℕ) (first : RenderState) (rows : List Row) (d : PassDone) : Type 0 where
  pub spans : rows_of rows d.reached.count ≡ map (row_in call) (entries_from call from first true)
  pub looked : d.reached.looked ≡ sum_by (looked_in call) (entries_from call from first true)
  pub counted : from + d.reached.count + tag_bytes d.how ≤ d.reached.at
  pub few : from + d.reached.looked ≤ d.reached.at
  pub within : d.reached.at ≤ length call.msg.now
  pub inside : Inside call.table.config d.rect
  pub next : InSign call.table.config d.reached.state

-- the pass from a place on was read, and ended so; rows were there before it, and rows' are after it
pub record PassRead (call : Call) (from : ℕ) (first : RenderState) (rows rows' : List Row) (r : Result PassDone Refusal)
    : Type 0 where
  pub ends : told call.table.config call.msg.now r ≡ ending_from call from first true
  pub done : IfOk r (SpansRead call from first rows')
  pub room : length rows' ≡ length rows

-- what follows a pass that is done
abbrev pub events_after : Config → ℕ → ℕ → How → RenderState → List Item → List Event
events_after c a b ByCut st its = read c its a b st true []
events_after c a b ByTurn st its =
    let s : Scan = scan c a b its in
    close s.on s.off ∷ stop_if s.fault (read c its s.on s.off (new_page c st) true [])
events_after c a b ByEnd st its = []

-- what is read from a pass on, by its spans and its ending
abbrev pub events_by : Config → ℕ → ℕ → List Entry → Ending → List Event
events_by c a b es (refused r) = stop r ∷ []
events_by c a b es (ended h r st its) = pass r es ∷ events_after c a b h st its
