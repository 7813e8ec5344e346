-- A whole message in one call (docs/DECISIONS.md): all answers of a listing, made of the same `pages` that `listing` and `after` are made of.
use Rattle.std.specs.Prelude.{ℕ, ◌+◌, List, [], ◌∷◌, ◌++◌, ltb, length, drop, Option, Some, None, Result, Ok, Err}
use Rattle.base.specs.Pick.{pick}
use Rattle.refusal.specs.declared.Refusal.{Refusal}
use Rattle.refusal.specs.Refusals.{refusal}
use Rattle.admit.specs.Admission.{Admission, denied, admitted, admission}
use Rattle.layout.specs.declared.Span.{Span}
use Rattle.layout.specs.Types.{items}
use Rattle.layout.specs.Fonts.{board_of}
use Rattle.layout.specs.Listing.{Page, on, off, refused, pages}
use Rattle.every.specs.declared.Shown.{Shown}
use Rattle.every.specs.declared.Listed.{Listed}

-- ---- the answers of a message before its first refusal

-- an answer: 1 on, 2 off; its duration; where its records begin among all, and how many it has
abbrev pub shown : ℕ → ℕ → ℕ → ℕ → Shown
shown kind duration first count = record { kind = kind; duration = duration; first = first; count = count }

-- the answers, where n records came before
abbrev pub answers_in : ℕ → List Page → List Shown
answers_in n [] = []
answers_in n (on d rs ∷ l) = shown 1 d n (length rs) ∷ answers_in (n + length rs) l
answers_in n (off d ∷ l) = shown 2 d n 0 ∷ answers_in n l
answers_in n (refused r ∷ l) = []

-- their records, answer after answer
abbrev pub records_in : List Page → List Span
records_in [] = []
records_in (on d rs ∷ l) = rs ++ records_in l
records_in (off d ∷ l) = records_in l
records_in (refused r ∷ l) = []

-- the first refusal
abbrev pub refusal_in : List Page → Option Refusal
refusal_in [] = None
refusal_in (on d rs ∷ l) = refusal_in l
refusal_in (off d ∷ l) = refusal_in l
refusal_in (refused r ∷ l) = Some r

-- ---- the call

-- the answers and records that come before a refusal, and the refusal, if any
pub record Gathered : Type 0 where
  pub answers : List Shown
  pub records : List Span
  pub refusal : Option Refusal

abbrev pub none_but : Refusal → Gathered
none_but r = record { answers = []; records = []; refusal = Some r }

abbrev pub gather : List Page → Gathered
gather l = record { answers = answers_in 0 l; records = records_in l; refusal = refusal_in l }

-- 1 to 3 are every call's, `admission`; then 4, where there are "fewer than 1,026 answers or 2,048 records"; then the first refusal of the listing
abbrev pub gathered_on : Admission → List ℕ → ℕ → ℕ → Gathered
gathered_on (denied r) msg a k = none_but r
gathered_on (admitted c fs) msg a k =
    pick (ltb a 1026) (none_but (refusal 4 0 0 0))
    (pick (ltb k 2048) (none_but (refusal 4 0 0 0))
    (gather (pages (board_of msg c fs) (items c msg))))

-- sign file, message, and how many answers and records are lent
unfoldable pub gathered : List ℕ → List ℕ → ℕ → ℕ → Gathered
gathered file msg a k = gathered_on (admission file msg) msg a k

-- "the counts of answers and of records, or the first refusal of the listing"
abbrev pub listed_as : ℕ → ℕ → Listed
listed_as a k = record { answers = a; records = k }

abbrev pub counts_of : Option Refusal → ℕ → ℕ → Result Listed Refusal
counts_of None a k = Ok (listed_as a k)
counts_of (Some r) a k = Err r

-- "A refusal changes nothing in either slice"
abbrev pub unless_refused : {A : Type 0} → Option Refusal → List A → List A
unless_refused None l = l
unless_refused (Some r) l = []

-- "what is past the counts stays"
abbrev pub over : {A : Type 0} → List A → List A → List A
over l lent = l ++ drop (length l) lent

-- the answer of the call on a lent slice of answers and one of records
unfoldable pub listing_all : List ℕ → List ℕ → List Shown → List Span → Result Listed Refusal
listing_all file msg answers recs =
    let g : Gathered = gathered file msg (length answers) (length recs) in
    counts_of g.refusal (length g.answers) (length g.records)

-- the answers after it
unfoldable pub answers_after : List ℕ → List ℕ → List Shown → List Span → List Shown
answers_after file msg answers recs =
    let g : Gathered = gathered file msg (length answers) (length recs) in
    over (unless_refused g.refusal g.answers) answers

-- and the records
unfoldable pub records_after : List ℕ → List ℕ → List Shown → List Span → List Span
records_after file msg answers recs =
    let g : Gathered = gathered file msg (length answers) (length recs) in
    over (unless_refused g.refusal g.records) recs
