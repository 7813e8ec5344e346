-- Rows of one group, and rows of other lines.
use Prim.Native.Nat.{ℕ, suc, ◌+◌}
use mathlib.Core.Path.{◌≡◌, refl, sym, ◌∙◌, ap}
use mathlib.Core.Bool.{Bool, true, false, ◌&&◌}
use mathlib.Core.List.{List, [], ◌∷◌, ◌++◌}
use native.Mathlib.Omega.{arith}
use lib.Dec.{leb, ltb, eqb}
use Rattle.std.proofs.lemmas.Bool.{and_parts}
use borrow.Author.Tests.{eq-eqb, ne_eqb, eqb-true, eqb-false}
use Rattle.base.specs.Pick.{pick}
use Rattle.rows.specs.declared.Row.{Row}
use Rattle.sums.specs.declared.Sums.{Sums}
use Rattle.sums.specs.Sums.{same_row, gap_of, joined, advanced, sums, none_yet}
use Rattle.sums.proofs.Laws.{halves, advance_no}

pub same_self : (r : Row) → same_row r r ≡ true
same_self r = rw (eq-eqb r.just_page r.just_page refl, eq-eqb r.line r.line refl, eq-eqb r.just_line r.just_line refl)

-- q is of the group of r
module _ (r q : Row) (h : same_row r q ≡ true) where
  page_is : r.just_page ≡ q.just_page
  page_is = eqb-true r.just_page q.just_page (and_parts _ _ h).0

  rest : eqb r.line q.line && eqb r.just_line q.just_line ≡ true
  rest = (and_parts (eqb r.just_page q.just_page) _ h).1

  pub line_is_law : r.line ≡ q.line
  line_is_law = eqb-true r.line q.line (and_parts (eqb r.line q.line) (eqb r.just_line q.just_line) rest).0

  just_is : r.just_line ≡ q.just_line
  just_is = eqb-true r.just_line q.just_line (and_parts (eqb r.line q.line) (eqb r.just_line q.just_line) rest).1

  pub same_as : (e : Row) → same_row r e ≡ same_row q e
  same_as e = rw (page_is, line_is_law, just_is)

-- all but where the sums are parted
pub record Alike (a b : Sums) : Type 0 where
  pub total : a.before + a.after ≡ b.before + b.after
  pub count : a.count ≡ b.count
  pub spacing : a.spacing ≡ b.spacing
  pub fault : a.fault ≡ b.fault

pub alike_gap : (a b : Sums) (e : Row) → Alike a b → gap_of a e ≡ gap_of b e
alike_gap a b e q = rw (q.count, q.spacing)

alike_join : (n k : ℕ) (a b : Sums) (e : Row) → Alike a b → Alike (joined n a e) (joined k b e)
alike_join n k a b e q =
    record {
      total =
          omega (
            arith,
            q.total,
            alike_gap a b e q,
            halves (leb e.span n) (gap_of a e),
            halves (ltb e.span n) e.width,
            halves (leb e.span k) (gap_of b e),
            halves (ltb e.span k) e.width,
          );
      count = ap suc q.count;
      spacing = refl;
      fault = rw q.fault;
    }

alike_on : (r q : Row) → same_row r q ≡ true → (a b : Sums) (e : Row) → Alike a b → Alike (advanced r a e) (advanced q b e)
unfolding advanced
alike_on r q h a b e k = step (same_row r e) (same_row q e) (same_as r q h e)
  where
    step : (t u : Bool) → t ≡ u → Alike (pick t (joined r.span a e) a) (pick u (joined q.span b e) b)
    step true true p = alike_join r.span q.span a b e k
    step true false p = cc
    step false true p = cc
    step false false p = k

alike : (r q : Row) → same_row r q ≡ true → (a b : Sums) (es : List Row) → Alike a b → Alike (sums r a es) (sums q b es)
alike r q h a b [] k = k
alike r q h a b (e ∷ es) k = alike r q h (advanced r a e) (advanced q b e) es (alike_on r q h a b e k)

-- the group's total, count and first fault are those of each of its rows
pub alike_all : (r q : Row) → same_row r q ≡ true → (es : List Row) → Alike (sums r none_yet es) (sums q none_yet es)
alike_all r q h es = alike r q h none_yet none_yet es (record { total = refl; count = refl; spacing = refl; fault = refl })

-- ---- one row more

pub sums_last : (r : Row) (o : Sums) (es : List Row) (e : Row) → sums r o (es ++ (e ∷ [])) ≡ advanced r (sums r o es) e
sums_last r o [] e = refl
sums_last r o (x ∷ es) e = sums_last r (advanced r o x) es e

apart : (a b c : Bool) → b ≡ false → a && (b && c) ≡ false
apart true b c h = rw h
apart false b c h = refl

-- a row of another line adds nothing
pub other_line : (r : Row) (o : Sums) (e : Row) (b : ℕ) → r.line ≡ b → eqb e.line b ≡ false → advanced r o e ≡ o
other_line r o e b h k =
    advance_no r o e
    (apart (eqb r.just_page e.just_page) (eqb r.line e.line) (eqb r.just_line e.just_line)
    (ne_eqb r.line e.line (λ x. eqb-false e.line b k (sym x ∙ h))))
