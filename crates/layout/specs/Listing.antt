-- Document 01, "The calls", Listing: the answers of a message, and the answer and the lent slice of one call.
use Rattle.std.specs.Prelude.{ℕ, zero, suc, List, [], ◌∷◌, ◌++◌, ltb, length, drop, Option, Some, None}
use Rattle.base.specs.Pick.{pick}
use Rattle.refusal.specs.declared.Refusal.{Refusal}
use Rattle.admit.specs.Admission.{Admission, denied, admitted, admission}
use Rattle.layout.specs.declared.Span.{Span}
use Rattle.layout.specs.declared.Answer.{Answer}
use Rattle.layout.specs.declared.Answer.TheVariants.{On, Off, End, Refused}
use Rattle.layout.specs.declared.Rect.{Rect}
use Rattle.layout.specs.declared.Entry.{Entry}
use Rattle.layout.specs.Types.{Item, items, Board}
use Rattle.refusal.specs.Refusals.{refusal}
use Rattle.layout.specs.Fonts.{board_of}
use Rattle.layout.specs.Placing.{or_else, unless, pass_fault, pass_records}
use Rattle.layout.specs.Read.{Event, pass, close, stop, opening, events}

-- ---- the answers of a message

pub data Page : Type 0 where
  on : ℕ → List Span → Page
  off : ℕ → Page
  refused : Refusal → Page

abbrev pub stop_at : Option Refusal → List Page → List Page
stop_at None l = l
stop_at (Some r) l = refused r ∷ []

-- "An off answer follows an on page when the off time is above 0"
abbrev pub offs : ℕ → List Page → List Page
offs zero l = l
offs (suc n) l = off (suc n) ∷ l

-- a pass is placed; then 15, "the page's 51st pass has been placed", which carries no place
abbrev pub pass_stop : Board → ℕ → Rect → List Entry → Option Refusal
pass_stop s n r es = or_else (pass_fault s r es) (unless (ltb n 50) (refusal 15 0 0 0))

-- "Then passes follow one another". a and b: the page's times; rs: the page's records so far; n: its passes so far
abbrev pub walk : Board → List Event → ℕ → ℕ → List Span → ℕ → List Page
walk s [] a b rs n = on a rs ∷ offs b []
walk s (pass r es ∷ evs) a b rs n = stop_at (pass_stop s n r es) (walk s evs a b (rs ++ pass_records s r es) (suc n))
walk s (close p q ∷ evs) a b rs n = on a rs ∷ offs b (walk s evs p q [] 0)
walk s (stop r ∷ evs) a b rs n = refused r ∷ []

unfoldable pub pages : Board → List Item → List Page
pages s its = walk s (events s.config its) (opening s.config its).on (opening s.config its).off [] 0

-- ---- one call

-- "The answer is on or off with its duration and record count, or end with the count of answers"
abbrev pub answer_of : Page → Answer
answer_of (on d rs) = On d (length rs)
answer_of (off d) = Off d
answer_of (refused r) = Refused r

-- the records that an answer writes
abbrev pub records_of : Page → List Span
records_of (on d rs) = rs
records_of (off d) = []
records_of (refused r) = []

-- an answer, and what it writes
pub record Result : Type 0 where
  pub answer : Answer
  pub written : List Span

abbrev pub said : Answer → Result
said a = record { answer = a; written = [] }

-- "From a refused answer on, every later answer is that refusal"
abbrev pub past : Page → Result → Result
past (on d rs) a = a
past (off d) a = a
past (refused r) a = said (Refused r)

-- answer number n of the answers l, c of which came before; past the last comes the end, with the count of answers
abbrev pub numbered : ℕ → List Page → ℕ → Result
numbered c [] n = said (End c)
numbered c (p ∷ l) zero = record { answer = answer_of p; written = records_of p }
numbered c (p ∷ l) (suc n) = past p (numbered (suc c) l n)

-- "In checking order": 1 to 3 are every call's, `admission`; then 4, "the slice has fewer than 1,400 records"
abbrev pub result_on : Admission → List ℕ → ℕ → ℕ → Result
result_on (denied r) msg n room = said (Refused r)
result_on (admitted c fs) msg n room = pick (ltb room 1400) (said (Refused (refusal 4 0 0 0))) (numbered 0 (pages (board_of msg c fs) (items c msg)) n)

-- the call: sign file, message, answer number from 0, and the records of the lent slice
unfoldable pub result : List ℕ → List ℕ → ℕ → ℕ → Result
result file msg n room = result_on (admission file msg) msg n room

-- the answer
unfoldable pub listing : List ℕ → List ℕ → ℕ → List Span → Answer
listing file msg n lent = (result file msg n (length lent)).answer

-- the slice after the call: "Records past the count stay"; off, end and a refusal write nothing
unfoldable pub after : List ℕ → List ℕ → ℕ → List Span → List Span
after file msg n lent = (result file msg n (length lent)).written ++ drop (length (result file msg n (length lent)).written) lent
