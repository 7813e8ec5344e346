-- A9: what the two counts say, of a call's answer and the slice that it leaves.
use Rattle.std.specs.Prelude.{ℕ, ◌≡◌, List, length}
use Rattle.refusal.specs.declared.Refusal.{Refusal}
use Rattle.layout.specs.declared.Span.{Span}
use Rattle.layout.specs.declared.Answer.TheVariants.{On, Off, End, Refused}
use Rattle.layout.specs.Listing.{listing, after}
use Rattle.layout.specs.Demand.{counted_records}
use Rattle.counts.specs.declared.Placed.{Placed}
use Rattle.counts.specs.Placing.{chars_printed, placing}

-- the records that a call's answer counts, as it left them
abbrev pub page_records : List ℕ → List ℕ → ℕ → List Span → List Span
page_records file msg n lent = counted_records (listing file msg n lent) (after file msg n lent)

-- no character, and no span
pub record NonePlaced (p : Placed) : Type 0 where
  pub looked : p.looked ≡ 0
  pub spans : p.spans ≡ 0

pub record PageCounts (file msg : List ℕ) (n : ℕ) (lent : List Span) : Type 0 where
  -- the counts stand beside what the listing gives
  pub answer : (placing file msg n lent).answer ≡ listing file msg n lent
  -- "the characters that its measures looked up, equal to the page's printed characters"
  pub characters : (placing file msg n lent).looked ≡ chars_printed msg (page_records file msg n lent)
  -- "and the spans placed, equal to its records"
  pub spans : (placing file msg n lent).spans ≡ length (page_records file msg n lent)
  pub on_page : (d k : ℕ) → listing file msg n lent ≡ On d k → (placing file msg n lent).spans ≡ k
  -- "Where the old way refuses the page, its refusal is given and both counts are 0"; so they are for off and end
  pub refused : (x : Refusal) → listing file msg n lent ≡ Refused x → NonePlaced (placing file msg n lent)
  pub off_page : (d : ℕ) → listing file msg n lent ≡ Off d → NonePlaced (placing file msg n lent)
  pub at_end : (k : ℕ) → listing file msg n lent ≡ End k → NonePlaced (placing file msg n lent)
