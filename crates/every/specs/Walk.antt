-- The walk over all answers as the code makes it: answers and records stand first in two slices.
use Rattle.std.specs.Prelude.{ℕ, ◌*◌, ◌≤◌, ◌<◌, ◌≡◌, List, length, take, Result, MatchResult, IfOk}
use Rattle.refusal.specs.declared.Refusal.{Refusal}
use Rattle.sign.specs.declared.SignFile.{SignFile}
use Rattle.layout.specs.declared.Span.{Span}
use Rattle.layout.specs.Types.{items}
use Rattle.layout.specs.Listing.{pages}
use Rattle.rows.specs.declared.Row.{Row}
use Rattle.rows.specs.Rows.{RowRoom, spans_of}
use Rattle.meter.specs.declared.call.Call.{Call}
use Rattle.meter.specs.Opened.{AcceptedTable}
use Rattle.pages.specs.declared.PageShown.{PageShown}
use Rattle.pages.specs.declared.PageShown.TheVariants.{On, Off}
use Rattle.pages.specs.Pages.{board_in, board_of, shown_count}
use Rattle.every.specs.declared.Shown.{Shown}
use Rattle.every.specs.declared.Listed.{Listed}
use Rattle.every.specs.declared.Walked.{Walked}
use Rattle.every.specs.All.{shown, Gathered, gather, none_but, gathered, counts_of}

-- ---- an answer of a page

-- it can be told in 16 bits, after n records
pub record Countable (x : PageShown) (n : ℕ) : Type 0 where
  pub few : shown_count x < 65536
  pub before : n < 65536

-- the answer, after n records
abbrev pub shown_by : PageShown → ℕ → Shown
shown_by (On d c k) n = shown 1 d n c
shown_by (Off d) n = shown 2 d n 0

-- so it was told
pub record ShownAs (x : PageShown) (n : ℕ) (r : Shown) : Type 0 where
  pub is : r ≡ shown_by x n
  pub small : r.count < 65536

-- ---- the walk

-- the first n answers
abbrev pub showns_of : List Shown → ℕ → List Shown
showns_of l n = take n l

-- room for the answers, and for the records of a message twice, if it is not too long: those of the page at hand stand behind those before
pub record AllRoom (msg : List ℕ) (shown : List Shown) (out : List Span) : Type 0 where
  pub answers : 1026 ≤ length shown
  pub records : length msg ≤ 2048 → 2 * length msg ≤ length out

-- and with room for its rows
pub record WalkAsked (call : Call) (rows : List Row) (shown : List Shown) (out : List Span) : Type 0 where
  pub room : AllRoom call.msg.now shown out
  pub rowed : RowRoom (length call.msg.now) rows

-- what was gathered, as the slices tell it
abbrev pub told : Walked → List Shown → List Span → Gathered
told r shown out = record { answers = showns_of shown r.answers; records = spans_of out r.records; refusal = r.refused }

-- the slices have what was walked, and it is g
pub record WalkedTo (g : Gathered) (shown : List Shown) (out : List Span) (r : Walked) : Type 0 where
  pub ends : told r shown out ≡ g
  pub answers : r.answers ≤ length shown
  pub records : r.records ≤ length out

-- all that there is was gathered
abbrev pub Walks : Call → List Shown → List Span → Walked → Type 0
Walks call shown out r = WalkedTo (gather (pages (board_of call) (items call.table.config call.msg.now))) shown out r

-- ---- the call

-- a sign file and a message that are admitted, with a answers and k records lent
pub record OpenedTo (file msg : List ℕ) (a k : ℕ) (table : SignFile) : Type 0 where
  pub opened : AcceptedTable file table
  pub small : length msg ≤ 2048
  pub is : gathered file msg a k ≡ gather (pages (board_in file msg table.config) (items table.config msg))

-- so they are, or this refusal comes before any answer
abbrev pub Opened : List ℕ → List ℕ → ℕ → ℕ → Result SignFile Refusal → Type 0
Opened file msg a k r = MatchResult r (OpenedTo file msg a k) (λ x. gathered file msg a k ≡ none_but x)

abbrev pub Gathers : List ℕ → List ℕ → ℕ → ℕ → List Shown → List Span → Walked → Type 0
Gathers file msg a k shown out r = WalkedTo (gathered file msg a k) shown out r

-- the call's answer
abbrev pub listed_by : Walked → Result Listed Refusal
listed_by w = counts_of w.refused w.answers w.records

-- the answers and records that it counts stand in the slices, and fit what is lent
pub record Written (g : Gathered) (a k : ℕ) (shown : List Shown) (out : List Span) (n : Listed) : Type 0 where
  pub answers : showns_of shown n.answers ≡ g.answers
  pub records : spans_of out n.records ≡ g.records
  pub few_answers : n.answers ≤ 1026
  pub few_records : n.records ≤ 2048
  pub answers_fit : n.answers ≤ a
  pub records_fit : n.records ≤ k
  pub answers_stand : n.answers ≤ length shown
  pub records_stand : n.records ≤ length out

pub record Settles (file msg : List ℕ) (a k : ℕ) (shown : List Shown) (out : List Span) (r : Result Listed Refusal) : Type 0 where
  pub counts : r ≡ counts_of (gathered file msg a k).refusal (length (gathered file msg a k).answers) (length (gathered file msg a k).records)
  pub written : IfOk r (Written (gathered file msg a k) a k shown out)
