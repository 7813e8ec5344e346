-- Offsets across, one step for each row of the pass.
use Rattle.std.specs.Prelude.{ℕ, suc, ◌+◌, ◌/◌, ◌≤◌, ◌≡◌, Bool, ◌&&◌, List, [], ◌∷◌, leb, ltb, eqb, None}
use Rattle.std.specs.Option.{option_or}
use Rattle.base.specs.Pick.{pick}
use Rattle.rows.specs.declared.Row.{Row}
use Rattle.sums.specs.declared.Sums.{Sums}

-- `matches_span`
abbrev pub same_row : Row → Row → Bool
same_row r e = eqb r.just_page e.just_page && (eqb r.line e.line && eqb r.just_line e.just_line)

-- the spacing due before a row
abbrev pub gap_of : Sums → Row → ℕ
gap_of o e = pick (eqb o.count 0) 0 (pick e.fixed e.spacing ((o.spacing + e.spacing + 1) / 2))

-- a row of the group joins the sums for span number n, with the gap before it
abbrev pub joined_by : ℕ → Sums → Row → ℕ → Sums
joined_by n o e g =
    record {
      before = o.before + pick (leb e.span n) g 0 + pick (ltb e.span n) e.width 0;
      after = o.after + pick (leb e.span n) 0 g + pick (ltb e.span n) 0 e.width;
      count = suc o.count;
      spacing = e.spacing;
      fault = option_or o.fault e.fault;
    }

abbrev pub joined : ℕ → Sums → Row → Sums
joined n o e = joined_by n o e (gap_of o e)

-- one row more of the pass
unfoldable pub advanced : Row → Sums → Row → Sums
advanced r o e = pick (same_row r e) (joined r.span o e) o

-- the rows of a pass, for the span with the row r
abbrev pub sums : Row → Sums → List Row → Sums
sums r o [] = o
sums r o (e ∷ es) = sums r (advanced r o e) es

-- before the first row
abbrev pub none_yet : Sums
none_yet = record { before = 0; after = 0; count = 0; spacing = 0; fault = None }

-- sums with room for one row more
pub record Addable (o : Sums) : Type 0 where
  pub sum : o.before + o.after ≤ 17592186044416
  pub rows : o.count ≤ 2048

-- the sums o have become next: a gap and a width more at most
pub record GrownTo (o next q : Sums) : Type 0 where
  pub is : q ≡ next
  pub most : q.before + q.after ≤ o.before + o.after + 8589934592
  pub rows : q.count ≤ suc o.count

-- the sums of the rows of a pass, for the span with the row r
pub record SumsOf (rows : List Row) (r : Row) (s : Sums) : Type 0 where
  pub is : s ≡ sums r none_yet rows
  pub most : s.before + s.after ≤ 17592186044416
