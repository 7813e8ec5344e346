-- A pass placed group by group: the rows of a group are marked together, each with its place across and 1, in its record until that is written.
use Rattle.std.specs.Prelude.{ℕ, ◌+◌, ◌-◌, ◌≤◌, ◌<◌, ◌≡◌, List, map, length, take, Result, Ok, Err, None}
use Rattle.std.specs.Result.{result_err}
use Rattle.layout.specs.declared.Span.{Span}
use Rattle.layout.specs.Placing.{first_fault}
use Rattle.refusal.specs.declared.Refusal.{Refusal}
use Rattle.rows.specs.declared.Row.{Row}
use Rattle.rows.specs.Rows.{row_at, mark_at}
use Rattle.sums.specs.declared.Sums.{Sums}
use Rattle.sums.specs.Sums.{sums, none_yet, SumsOf}
use Rattle.sums.specs.Chain.{Chained}
use Rattle.sums.specs.Table.{TableOf}
use Rattle.place.specs.declared.Across.{Across}
use Rattle.place.specs.declared.shared.Pass.{Pass}
use Rattle.place.specs.Placed.{across_fault, Crossed, fault_end, record_at, span_fault_at}

-- the sums of row j
abbrev pub sums_at : Pass → ℕ → Sums
sums_at p j = sums (row_at p.rows.now j) none_yet p.rows.now

-- how the group of row j ends
abbrev pub end_at : Pass → ℕ → Result (Unit {0}) Refusal
end_at p j = fault_end (row_at p.rows.now j) (across_fault p.rect (sums_at p j))

-- row j is placed across
pub record Marked (p : Pass) (out : List Span) (j : ℕ) : Type 0 where
  pub some : 0 < mark_at out j
  pub is : Crossed p.config p.rect (row_at p.rows.now j) (sums_at p j) (mark_at out j - 1)

-- row i has a record, and a and b stand within the rectangle
pub record MarkAsked (p : Pass) (out : List Span) (i a b : ℕ) : Type 0 where
  pub low : i < length p.rows.now
  pub room : length p.rows.now ≤ length out
  pub wide : a + b ≤ p.rect.width

-- the rows are chained, and what is marked is placed across
pub record Ready (p : Pass) (out : List Span) : Type 0 where
  pub chained : Chained p.rows.now out p.heads.now
  pub told : (j : ℕ) → j < length p.rows.now → 0 < mark_at out j → Marked p out j

-- more rows may be marked
pub record CrossedTo (p : Pass) (out out' : List Span) : Type 0 where
  pub ready : Ready p out'
  pub grown : (j : ℕ) → 0 < mark_at out j → 0 < mark_at out' j

-- the group of r has no fault, takes total and fits; the table tells what stands before each of its rows
pub record GroupAsked (p : Pass) (out : List Span) (r : Row) (total : ℕ) (table : List ℕ) : Type 0 where
  pub ready : Ready p out
  pub fine : (sums r none_yet p.rows.now).fault ≡ None
  pub is : total ≡ (sums r none_yet p.rows.now).before + (sums r none_yet p.rows.now).after
  pub wide : total ≤ p.rect.width
  pub tabled : TableOf p.rows.now r table

-- the same before the table is made: o are the sums of r
pub record OthersAsked (p : Pass) (out : List Span) (r : Row) (o : Sums) : Type 0 where
  pub ready : Ready p out
  pub sums : SumsOf p.rows.now r o
  pub fine : o.fault ≡ None
  pub wide : o.before + o.after ≤ p.rect.width

-- row i is placed across, or its group is refused
pub record GroupPlaced (p : Pass) (out : List Span) (i : ℕ) (out' : List Span) (e : Result (Unit {0}) Refusal) : Type 0 where
  pub to : CrossedTo p out out'
  pub good : e ≡ Ok tt → 0 < mark_at out' i
  pub bad : (f : Refusal) → e ≡ Err f → e ≡ end_at p i

-- the first rows are placed across, and the next is refused
pub record PlacedAcross (p : Pass) (out : List Span) (a : Across) : Type 0 where
  pub few : a.count ≤ length p.rows.now
  pub room : length p.rows.now ≤ length out
  pub marked : (j : ℕ) → j < a.count → Marked p out j
  pub all : a.end ≡ Ok tt → a.count ≡ length p.rows.now
  pub stop : (f : Refusal) → a.end ≡ Err f → (a.count < length p.rows.now) × (a.end ≡ end_at p a.count)

-- the first m rows are placed across
pub record DownAsked (p : Pass) (out : List Span) (m : ℕ) : Type 0 where
  pub few : m ≤ length p.rows.now
  pub room : length p.rows.now ≤ length out
  pub marked : (j : ℕ) → j < m → Marked p out j

-- they were placed: a refusal, or their records
pub record PlacedDown (p : Pass) (m : ℕ) (out : List Span) (r : Result (Unit {0}) Refusal) : Type 0 where
  pub room : length p.rows.now ≤ length out
  pub fault : result_err r ≡ first_fault (span_fault_at p.config p.rect p.rows.now) (take m p.rows.now)
  pub written : r ≡ Ok tt → take m out ≡ map (record_at p.config p.rect p.rows.now) (take m p.rows.now)
