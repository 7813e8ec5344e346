-- The pages of a message as the code goes through them: pass by pass, page by page, answer by answer. `pages_todo` of proofs/Answers.antt says that
-- layout's `pages` is what is to come before the first answer.
use Rattle.std.specs.Prelude.{ℕ, ◌+◌, ◌*◌, ◌≤◌, ◌≡◌, Bool, true, false, List, [], ◌∷◌, ◌++◌, ltb, length, IfSome, IfOk, IfErr, Some, None, Result, Ok, Err}
use Rattle.std.specs.Prelude.{Option}
use Rattle.base.specs.Pick.{pick}
use Rattle.refusal.specs.declared.Refusal.{Refusal}
use Rattle.records.specs.declared.Config.{Config}
use Rattle.sign.specs.Sign.{sign_file}
use Rattle.layout.specs.declared.RenderState.{RenderState}
use Rattle.layout.specs.declared.Entry.{Entry}
use Rattle.layout.specs.declared.Span.{Span}
use Rattle.layout.specs.Types.{Item, Board}
use Rattle.layout.specs.declared.Scan.{Scan}
use Rattle.layout.specs.Read.{scan, stop_if, start, new_page, read}
use Rattle.layout.specs.Placing.{pass_fault, pass_records}
use Rattle.layout.specs.Listing.{Page, on, off, refused as refused_page, offs, walk}
use Rattle.page.specs.declared.PageState.{PageState}
use Rattle.page.specs.declared.PageState.TheVariants.{On as OnState, Off as OffState, Done}
use Rattle.page.specs.State.{new_page as new_state, done_after, next_state}
use Rattle.page.specs.Scan.{items_from}
use Rattle.rows.specs.Rows.{RowRoom, SpanRoom, spans_of}
use Rattle.counts.specs.Placing.{chars_looked}
use Rattle.rows.specs.declared.Row.{Row}
use Rattle.meter.specs.declared.call.Call.{Call}
use Rattle.meter.specs.Gauges.{meter_in}
use Rattle.pass.specs.declared.PassDone.{PassDone}
use Rattle.pass.specs.declared.Reached.{Reached}
use Rattle.pass.specs.Pass.{Ending, refused, ended, items_in, entries_from, ending_from, told, InSign, tag_bytes}
use Rattle.pages.specs.declared.PageDone.{PageDone}
use Rattle.pages.specs.declared.Pages.{Pages}
use Rattle.pages.specs.declared.PageShown.{PageShown}
use Rattle.pages.specs.declared.PageShown.TheVariants.{On, Off}

-- the sign of an accepted file, for a message
abbrev pub board_in : List ℕ → List ℕ → Config → Board
board_in file msg c = record { config = c; meter = meter_in file msg }

abbrev pub board_of : Call → Board
board_of call = board_in call.file.now call.msg.now call.table.config

-- room for the rows and the records of the message
pub record Ready (call : Call) (rows : List Row) (out : List Span) : Type 0 where
  pub rowed : RowRoom (length call.msg.now) rows
  pub room : SpanRoom (length call.msg.now) out

-- how many characters were looked up for the first n records of out, in the fonts of a sign file
abbrev pub looked_for : List ℕ → List ℕ → List Span → ℕ → ℕ
looked_for file msg out n = chars_looked (sign_file file) msg (spans_of out n)

-- what is to be read and placed behind what was reached of its page
pub record RenderAsked (call : Call) (rows : List Row) (out : List Span) (p : Reached) : Type 0 where
  pub ready : Ready call rows out
  pub within : p.at ≤ length call.msg.now
  pub counted : p.count ≤ p.at
  pub looked : p.looked ≡ looked_for call.file.now call.msg.now out p.count
  pub few : p.looked ≤ p.at
  pub inside : InSign call.table.config p.state

-- ---- a pass that is placed

abbrev pub stop_by : Option Refusal → Ending → Ending
stop_by None e = e
stop_by (Some r) e = refused r

abbrev pub placed_ending : Board → List Entry → Ending → Ending
placed_ending s es (refused r) = refused r
placed_ending s es (ended h r st its) = stop_by (pass_fault s r es) (ended h r st its)

-- its spans are placed behind what was reached of its page: the first records are those before it and its own, no more than there are bytes, and so many
-- characters were looked up for them; out were there before it
pub record SpansPlaced (call : Call) (p : Reached) (out out' : List Span) (d : PassDone) : Type 0 where
  pub written : spans_of out' d.reached.count ≡ spans_of out p.count ++ pass_records (board_of call) d.rect (entries_from call p.at p.state true)
  pub looked : d.reached.looked ≡ looked_for call.file.now call.msg.now out' d.reached.count
  pub counted : d.reached.count ≤ d.reached.at
  pub few : d.reached.looked ≤ d.reached.at
  pub forward : p.at + tag_bytes d.how ≤ d.reached.at
  pub within : d.reached.at ≤ length call.msg.now
  pub inside : InSign call.table.config d.reached.state

-- it was read and placed, and ended so; rows and out were there before it, and rows' and out' are after it
pub record PassRendered (call : Call) (p : Reached) (rows : List Row) (out : List Span) (rows' : List Row) (out' : List Span) (r : Result PassDone Refusal)
    : Type 0 where
  pub ends :
      told call.table.config call.msg.now r
      ≡ placed_ending (board_of call) (entries_from call p.at p.state true) (ending_from call p.at p.state true)
  pub done : IfOk r (SpansPlaced call p out out')
  pub rowed : length rows' ≡ length rows
  pub room : length out' ≡ length out

-- ---- a page

-- layout's answers from a pass of a page on. a and b: the page's times; rs: its records so far; n: its passes so far
unfoldable pub run : Board → List Item → ℕ → ℕ → RenderState → List Span → ℕ → List Page
run s its a b st rs n = walk s (read s.config its a b st true []) a b rs n

-- layout's answers from a page on. a and b: the times before its scan
unfoldable pub turned : Board → List Item → ℕ → ℕ → RenderState → List Page
turned s its a b st =
    let c : Scan = scan s.config a b its in
    walk s (stop_if c.fault (read s.config its c.on c.off st true [])) c.on c.off [] 0

-- the page whose last pass is done
abbrev pub page_done : Config → Bool → Reached → PageDone
page_done c more p = record { more = more; reached = record { at = p.at; count = p.count; looked = p.looked; state = new_page c p.state } }

-- the answers that a page's end tells; l holds its records
abbrev pub page_told : Board → List ℕ → ℕ → ℕ → List Span → Result PageDone Refusal → List Page
page_told s msg a b l (Err r) = refused_page r ∷ []
page_told s msg a b l (Ok d) =
    on a (spans_of l d.reached.count) ∷ offs b (pick d.more (turned s (items_from s.config d.reached.at msg) a b d.reached.state) [])

-- a page from a place on that is done has no more records than bytes, and no more characters looked up for them, and lies in the message; [np] has a byte
-- at least; out holds its records
pub record PageInMessage (call : Call) (out : List Span) (from : ℕ) (d : PageDone) : Type 0 where
  pub few : d.reached.count ≤ length call.msg.now
  pub looked : d.reached.looked ≡ looked_for call.file.now call.msg.now out d.reached.count
  pub short : d.reached.looked ≤ length call.msg.now
  pub forward : from + pick d.more 1 0 ≤ d.reached.at
  pub within : d.reached.at ≤ length call.msg.now
  pub inside : InSign call.table.config d.reached.state

-- the page from a place on was read and placed, and ended so
pub record PageRendered (call : Call) (from : ℕ) (first : RenderState) (rows : List Row) (out : List Span) (rows' : List Row) (out' : List Span)
    (r : Result PageDone Refusal) : Type 0 where
  pub ends : (a b : ℕ)
      → run (board_of call) (items_in call from) a b first [] 0 ≡ page_told (board_of call) call.msg.now a b out' r
  pub done : IfOk r (PageInMessage call out' from)
  pub rowed : length rows' ≡ length rows
  pub room : length out' ≡ length out

-- ---- an answer

abbrev pub pages_at : ℕ → RenderState → ℕ → ℕ → PageState → Pages
pages_at at st a b p = record { at = at; render_state = st; times = record { on = a; off = b }; page_state = p }

-- on or off after an on page with the off time b
abbrev pub state_after : Bool → ℕ → PageState
state_after more b = pick more (new_state (ltb 0 b)) (done_after (ltb 0 b))

-- an off page, and what it leaves
abbrev pub off_shown : Pages → PageShown
off_shown p = Off p.times.off

abbrev pub off_left : Pages → Pages
off_left p = pages_at p.at p.render_state p.times.on p.times.off (next_state p.page_state)

-- before the first answer
abbrev pub first_of : Config → Pages
first_of c = pages_at 0 (start c) c.on_time c.off_time (OnState true)

-- the answers that are still to come
abbrev pub todo_by : Board → List ℕ → Pages → PageState → List Page
todo_by s msg p (OnState b) = turned s (items_from s.config p.at msg) p.times.on p.times.off p.render_state
todo_by s msg p (OffState true) = off p.times.off ∷ turned s (items_from s.config p.at msg) p.times.on p.times.off p.render_state
todo_by s msg p (OffState false) = off p.times.off ∷ []
todo_by s msg p Done = []

abbrev pub todo : Board → List ℕ → Pages → List Page
todo s msg p = todo_by s msg p p.page_state

-- layout's page of an answer; l holds its records
abbrev pub shown_page : List Span → PageShown → Page
shown_page l (On d n k) = on d (spans_of l n)
shown_page l (Off d) = off d

-- how many records an answer has, and how many characters were looked up for them
abbrev pub shown_count : PageShown → ℕ
shown_count (On d n k) = n
shown_count (Off d) = 0

abbrev pub shown_looked : PageShown → ℕ
shown_looked (On d n k) = k
shown_looked (Off d) = 0

-- the answers to come as the next one tells them, which leaves p
abbrev pub on_told : Board → List ℕ → List Span → Pages → Result PageShown Refusal → List Page
on_told s msg l p (Ok x) = shown_page l x ∷ todo s msg p
on_told s msg l p (Err r) = refused_page r ∷ []

abbrev pub next_told : Board → List ℕ → List Span → Pages → Result (Option PageShown) Refusal → List Page
next_told s msg l p (Ok (Some x)) = shown_page l x ∷ todo s msg p
next_told s msg l p (Ok None) = []
next_told s msg l p (Err r) = refused_page r ∷ []

-- in the message and on the sign
pub record InMessage (c : Config) (all : ℕ) (p : Pages) : Type 0 where
  pub within : p.at ≤ all
  pub inside : InSign c p.render_state

-- at most so many answers come from here to the next [np]: an off page that is due, an on page, and its off page
abbrev pub weight : PageState → ℕ
weight (OnState b) = 2
weight (OffState true) = 3
weight (OffState false) = 1
weight Done = 0

-- what is said of an answer, unless it is the end or a refusal
abbrev pub IfShown : (PageShown → Type 0) → Result (Option PageShown) Refusal → Type 0
IfShown P r = IfOk r (λ o. IfSome o P)

-- and what is said of these two
abbrev pub IfNoneShown : Type 0 → Result (Option PageShown) Refusal → Type 0
IfNoneShown P (Ok (Some x)) = Unit {0}
IfNoneShown P (Ok None) = P
IfNoneShown P (Err r) = P

-- an answer takes one of them, or bytes of the message; at is the place and w the weight before it, and out holds its records
pub record Advances (call : Call) (out : List Span) (at w : ℕ) (p : Pages) (x : PageShown) : Type 0 where
  pub stands : InMessage call.table.config (length call.msg.now) p
  pub less : 2 * at + weight p.page_state + 1 ≤ 2 * p.at + w
  pub few : shown_count x ≤ length call.msg.now
  pub looked : shown_looked x ≡ looked_for call.file.now call.msg.now out (shown_count x)
  pub short : shown_looked x ≤ length call.msg.now

-- an answer can be read
pub record NextAsked (call : Call) (p : Pages) (rows : List Row) (out : List Span) : Type 0 where
  pub ready : Ready call rows out
  pub stands : InMessage call.table.config (length call.msg.now) p

-- an on page was, and is r; p, rows and out were there before it, and p', rows' and out' are after it
pub record OnRead (call : Call) (p : Pages) (rows : List Row) (out : List Span) (p' : Pages) (rows' : List Row) (out' : List Span)
    (r : Result PageShown Refusal) : Type 0 where
  pub ends :
      turned (board_of call) (items_in call p.at) p.times.on p.times.off p.render_state ≡ on_told (board_of call) call.msg.now out' p' r
  pub next : IfOk r (Advances call out' p.at 2 p')
  pub stays : IfErr r (λ e. p' ≡ p)
  pub rowed : length rows' ≡ length rows
  pub room : length out' ≡ length out

-- an answer was: a refusal and the end leave the place where it was, so that they come again
pub record NextRead (call : Call) (p : Pages) (rows : List Row) (out : List Span) (p' : Pages) (rows' : List Row) (out' : List Span)
    (r : Result (Option PageShown) Refusal) : Type 0 where
  pub ends : todo (board_of call) call.msg.now p ≡ next_told (board_of call) call.msg.now out' p' r
  pub next : IfShown (Advances call out' p.at (weight p.page_state) p') r
  pub stays : IfNoneShown (p' ≡ p) r
  pub rowed : length rows' ≡ length rows
  pub room : length out' ≡ length out
