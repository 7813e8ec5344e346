-- The table of a group: a row of number k adds its gap at place k and its width at place k + 1, so that what stands before a number is the sum of
-- the places up to it.
use Rattle.std.specs.Prelude.{ℕ, zero, suc, ◌+◌, ◌*◌, ◌≤◌, ◌≡◌, true, List, [], ◌∷◌, ◌++◌, leb, ltb, length, get_or}
use Rattle.base.specs.Pick.{pick}
use Rattle.rows.specs.declared.Row.{Row}
use Rattle.sums.specs.declared.Sums.{Sums}
use Rattle.sums.specs.Sums.{same_row, sums, none_yet}

-- the sum of places 0 to k
abbrev pub upto : List ℕ → ℕ → ℕ
upto l zero = get_or l 0 0
upto l (suc k) = upto l k + get_or l (suc k) 0

-- a table's places hold at most b each
pub record Small (b : ℕ) (l : List ℕ) : Type 0 where
  pub size : length l ≡ 257
  pub most : (j : ℕ) → get_or l j 0 ≤ b

-- the row e was added to l, with the gap g before it
pub record AddedRow (l m : List ℕ) (e : Row) (g : ℕ) : Type 0 where
  pub sums : (k : ℕ) → upto m k ≡ upto l k + pick (leb e.span k) g 0 + pick (ltb e.span k) e.width 0
  pub small : (b : ℕ) → Small b l → Small (b + 8589934592) m

-- the table tells, of every row of r's group, what stands before it in rs
abbrev pub Tells : List Row → Row → List ℕ → Type 0
Tells rs r l = (q : Row) → same_row r q ≡ true → (sums q none_yet rs).before ≡ upto l q.span

pub record TableOf (rs : List Row) (r : Row) (l : List ℕ) : Type 0 where
  pub size : length l ≡ 257
  pub tells : Tells rs r l

-- i rows at most, rs, are added up: for r in o, for its group in l
pub record Gathered (i : ℕ) (rs : List Row) (r : Row) (l : List ℕ) (o : Sums) : Type 0 where
  pub own : o ≡ sums r none_yet rs
  pub tells : Tells rs r l
  pub small : Small (8589934592 * i) l
  pub most : o.before + o.after ≤ 8589934592 * i
  pub rows : o.count ≤ i

-- a table, and sums, with room for one row more
pub record Room (l : List ℕ) (o : Sums) : Type 0 where
  pub small : Small 17592186044416 l
  pub sum : o.before + o.after ≤ 17592186044416
  pub rows : o.count ≤ 2048

-- one row e more
abbrev pub Entered : Row → Row → List ℕ → Sums → List ℕ → Sums → Type 0
Entered r e l o m q = (i : ℕ) (rs : List Row) → Gathered i rs r l o → Gathered (i + 1) (rs ++ (e ∷ [])) r m q
