-- The whole listing and the listing calls one by one: the same answers, the same records, the same refusal. So what demand 3 says of `listed` it says of
-- the records of the whole listing too.
use Rattle.std.specs.Prelude.{ℕ, ◌≤◌, ◌<◌, ◌≡◌, List, eqb, length, get_or, take, drop, Ok, Err}
use Rattle.base.specs.Pick.{pick}
use Rattle.refusal.specs.declared.Refusal.{Refusal}
use Rattle.layout.specs.declared.Span.{Span}
use Rattle.layout.specs.declared.Answer.{Answer}
use Rattle.layout.specs.declared.Answer.TheVariants.{On, Off, Refused as RefusedAnswer}
use Rattle.layout.specs.Listing.{listing, after}
use Rattle.layout.specs.Demand.{Shows, Whole, listed}
use Rattle.every.specs.declared.Shown.{Shown}
use Rattle.every.specs.All.{shown, over, listed_as, listing_all, answers_after, records_after}

-- an answer of the slice as a call gives it: on is 1
abbrev pub answer_told : Shown → Answer
answer_told s = pick (eqb s.kind 1) (On s.duration s.count) (Off s.duration)

-- its records in the slice of all
abbrev pub records_told : Shown → List Span → List Span
records_told s l = take s.count (drop s.first l)

-- answer n of a slice
abbrev pub answer_at : List Shown → ℕ → Shown
answer_at l n = get_or l n (shown 0 0 0 0)

-- the slices of the calls have room
abbrev pub Roomy : (ℕ → List Span) → Type 0
Roomy lent = (n : ℕ) → 1400 ≤ length (lent n)

-- N answers and K records were listed, and answers and recs are the slices after the call
pub record AsCalled (file msg : List ℕ) (answers : List Shown) (recs : List Span) (N K : ℕ) : Type 0 where
  -- the calls for 0, 1 and on show N answers, and then comes the end
  pub whole : (lent : ℕ → List Span) → Roomy lent → Whole file msg lent N
  -- answer n is that of the call for n
  pub answer : (n : ℕ) → n < N → (lent : List Span) → 1400 ≤ length lent → listing file msg n lent ≡ answer_told (answer_at answers n)
  -- and its records are those that the call writes
  pub records : (n : ℕ) → n < N → (lent : List Span) → 1400 ≤ length lent → after file msg n lent ≡ over (records_told (answer_at answers n) recs) lent
  -- all records are those of the calls, answer after answer
  pub all_listed : (lent : ℕ → List Span) → Roomy lent → take K recs ≡ listed file msg lent 0 N

-- the calls for 0, 1 and on show answers, and then comes this refusal
pub record FirstRefused (file msg : List ℕ) (lent : ℕ → List Span) (x : Refusal) : Type 0 where
  pub at : ℕ
  pub shows : (n : ℕ) → n < at → Shows (listing file msg n (lent n))
  pub refuses : listing file msg at (lent at) ≡ RefusedAnswer x

pub record WholeListing (file msg : List ℕ) (answers : List Shown) (recs : List Span) : Type 0 where
  pub as_called : (N K : ℕ) → listing_all file msg answers recs ≡ Ok (listed_as N K)
      → AsCalled file msg (answers_after file msg answers recs) (records_after file msg answers recs) N K
  -- no listing needs more room
  pub few : (N K : ℕ) → listing_all file msg answers recs ≡ Ok (listed_as N K) → (N ≤ 1026) × (K ≤ 2048)
  -- "A refusal changes nothing in either slice"
  pub unchanged : (x : Refusal) → listing_all file msg answers recs ≡ Err x
      → (answers_after file msg answers recs ≡ answers) × (records_after file msg answers recs ≡ recs)
  -- it is the first refusal of the listing, where the slices are long enough
  pub first_refused : (x : Refusal) → listing_all file msg answers recs ≡ Err x → 1026 ≤ length answers → 2048 ≤ length recs
      → (lent : ℕ → List Span) → Roomy lent → FirstRefused file msg lent x
  pub keeps_answers : length (answers_after file msg answers recs) ≡ length answers
  pub keeps_records : length (records_after file msg answers recs) ≡ length recs
