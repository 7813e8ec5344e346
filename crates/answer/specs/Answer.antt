-- An answer as the code gives it: with its records in a slice.
use Rattle.std.specs.Prelude.{ℕ, ◌≤◌, ◌<◌, ◌≡◌, List, [], length, Option, Some, None, Result, Ok, Err}
use Rattle.sign.specs.Sign.{sign_file}
use Rattle.refusal.specs.declared.Refusal.{Refusal}
use Rattle.layout.specs.declared.Span.{Span}
use Rattle.layout.specs.declared.Answer.{Answer}
use Rattle.layout.specs.declared.Answer.TheVariants.{On, Off, End, Refused}
use Rattle.layout.specs.Types.{items}
use Rattle.layout.specs.Listing.{Result as Told, pages, numbered, result}
use Rattle.counts.specs.declared.Placed.{Placed}
use Rattle.counts.specs.Placing.{chars_looked, with_counts}
use Rattle.rows.specs.Rows.{SpanRoom, spans_of}
use Rattle.meter.specs.declared.call.Call.{Call}
use Rattle.pages.specs.Pages.{board_of, shown_count, shown_looked, IfShown}
use Rattle.pages.specs.declared.PageShown.{PageShown}
use Rattle.pages.specs.declared.PageShown.TheVariants.{On as OnPage, Off as OffPage}

-- the records that an answer counts: the first of the slice
abbrev pub written_by : Answer → List Span → List Span
written_by (On d n) l = spans_of l n
written_by (Off d) l = []
written_by (End n) l = []
written_by (Refused r) l = []

abbrev pub told : Answer → List Span → Told
told a l = record { answer = a; written = written_by a l }

-- an answer without records
abbrev pub bare : Answer → Placed
bare a = record { answer = a; looked = 0; spans = 0 }

-- the answer that comes next, after c others
abbrev pub placed_by : Result (Option PageShown) Refusal → ℕ → Placed
placed_by (Ok (Some (OnPage d n k))) c = record { answer = On d n; looked = k; spans = n }
placed_by (Ok (Some (OffPage d))) c = bare (Off d)
placed_by (Ok None) c = bare (End c)
placed_by (Err r) c = bare (Refused r)

-- the answer that comes next, after count others, can be told in 16 bits
pub record Answerable (n : Result (Option PageShown) Refusal) (count : ℕ) : Type 0 where
  pub few : count < 65536
  pub countable : IfShown (λ x. (shown_count x < 65536) × (shown_looked x < 65536)) n

-- how many records an answer has
abbrev pub count_of : Answer → ℕ
count_of (On d n) = n
count_of (Off d) = 0
count_of (End n) = 0
count_of (Refused r) = 0

-- room for the records of a message that is not too long: one for each of its bytes
abbrev pub RecordRoom : List ℕ → List Span → Type 0
RecordRoom msg out = length msg ≤ 2048 → SpanRoom (length msg) out

-- the answer has these counts: how many characters were looked up for the records that it counts, the first of the slice l, and how many those are
pub record CountsTold (file msg : List ℕ) (l : List Span) (r : Placed) : Type 0 where
  pub looked : r.looked ≡ chars_looked (sign_file file) msg (written_by r.answer l)
  pub spans : r.spans ≡ count_of r.answer

-- the answer of a number; out was there before it, and out' is after it
pub record Numbered (call : Call) (number : ℕ) (out out' : List Span) (r : Placed) : Type 0 where
  pub ends : told r.answer out' ≡ numbered 0 (pages (board_of call) (items call.table.config call.msg.now)) number
  pub counts : CountsTold call.file.now call.msg.now out' r
  pub few : count_of r.answer ≤ length call.msg.now
  pub room : length out' ≡ length out

-- the answer of a call, with room records lent
pub record Computed (file msg : List ℕ) (number room : ℕ) (out out' : List Span) (r : Answer) : Type 0 where
  pub ends : told r out' ≡ result file msg number room
  pub few : SpanRoom (count_of r) out
  pub long : length out' ≡ length out

-- the same with its counts
pub record Answered (file msg : List ℕ) (number room : ℕ) (out out' : List Span) (r : Placed) : Type 0 where
  pub computed : Computed file msg number room out out' r.answer
  pub counts : CountsTold file msg out' r

-- A9's answer, and its records stand first in the slice and fit what is lent
pub record PlacedAs (file msg : List ℕ) (number room : ℕ) (out out' : List Span) (r : Placed) : Type 0 where
  pub computed : Computed file msg number room out out' r.answer
  pub placed : r ≡ with_counts (sign_file file) msg (result file msg number room)
  pub records : spans_of out' r.spans ≡ (result file msg number room).written
  pub most : r.spans ≤ 1400
  pub few : r.spans ≤ room
  pub long : SpanRoom r.spans out'
