-- The table of a group tells the sums of its rows.
use Prim.Native.Nat.{ℕ, zero, suc, ◌+◌, ◌-◌, ◌*◌, ◌≤◌, ◌<◌}
use mathlib.Core.Path.{◌≡◌, refl, sym, ◌∙◌, ap}
use mathlib.Core.Bool.{Bool, true, false}
use mathlib.Core.List.{List, [], ◌∷◌, ◌++◌, append_assoc, append-nil}
use native.Mathlib.Numerals.{add-one}
use native.Mathlib.Omega.{arith}
use lib.Dec.{leb, eqb}
use lib.ListN.{length, get_or, set, take, drop, length-set, length-append, replicate}
use lib.Seq.{get_or-set_same, get_or-set_other}
use Rattle.std.specs.List.{sum}
use Rattle.std.proofs.lemmas.List.{take-take, drop-take}
use Rattle.std.proofs.lemmas.List.Sums.{sum_by_more, sum_by-take-drop}
use borrow.Author.Tests.{le-leb, lt-leb, leb-true, leb-false, eqb-true, eqb-false}
use Rattle.base.specs.Pick.{pick}
use Rattle.rows.specs.declared.Row.{Row}
use Rattle.sums.specs.declared.Sums.{Sums}
use Rattle.sums.specs.Sums.{same_row, gap_of, joined, sums, none_yet, GrownTo}
use Rattle.sums.specs.Chain.{rows_in}
use Rattle.sums.specs.Table.{upto, Small, AddedRow, Gathered, Room, Entered, TableOf}
use Rattle.sums.proofs.Laws.{advance_yes, advance_no}
use Rattle.sums.proofs.Groups.{line_is_law, same_as, alike_gap, alike_all, sums_last}
use Rattle.sums.proofs.Chain.{rows_length, sums_rows}

-- ---- `add_row`

pub small_more : {b d : ℕ} {l : List ℕ} → Small b l → b ≤ d → Small d l
small_more s h = record { size = s.size; most = λ j. omega (arith, s.most j) }

-- x was added at place s of l
pub record Added (l m : List ℕ) (s x : ℕ) : Type 0 where
  pub sums : (k : ℕ) → upto m k ≡ upto l k + pick (leb s k) x 0
  pub small : (b : ℕ) → Small b l → Small (b + x) m

module _ (l : List ℕ) (s x : ℕ) (h : s < length l) where
  at_place : (j : ℕ) → get_or (set l s (get_or l s 0 + x)) j 0 ≡ get_or l j 0 + pick (eqb s j) x 0
  at_place j = step (eqb s j) refl
    where
      step : (t : Bool) → eqb s j ≡ t → get_or (set l s (get_or l s 0 + x)) j 0 ≡ get_or l j 0 + pick t x 0
      step true q = rw (← eqb-true s j q) (get_or-set_same l s (get_or l s 0 + x) 0 h)
      step false q = omega (arith, get_or-set_other l s j (get_or l s 0 + x) 0 (λ e. eqb-false s j q (sym e)))

  first_test : pick (leb s 0) x 0 ≡ pick (eqb s 0) x 0
  first_test = step (eqb s 0) refl
    where
      step : (t : Bool) → eqb s 0 ≡ t → pick (leb s 0) x 0 ≡ pick t x 0
      step true q = let e : s ≡ 0 = eqb-true s 0 q in rw (le-leb s 0 (omega arith))
      step false q = let n : s ≡ 0 → ⊥ = eqb-false s 0 q in rw (lt-leb s 0 (omega arith))

  next_test : (k : ℕ) → pick (leb s (suc k)) x 0 ≡ pick (leb s k) x 0 + pick (eqb s (suc k)) x 0
  next_test k = step (leb s k) (eqb s (suc k)) refl refl
    where
      step : (t u : Bool) → leb s k ≡ t → eqb s (suc k) ≡ u → pick (leb s (suc k)) x 0 ≡ pick t x 0 + pick u x 0
      step true true p q = absurd (omega (arith, leb-true s k p, eqb-true s (suc k) q))
      step true false p q = let e : s ≤ k = leb-true s k p in rw (le-leb s (suc k) (omega arith)) (omega arith)
      step false true p q = let e : s ≡ suc k = eqb-true s (suc k) q in rw (le-leb s (suc k) (omega arith)) (omega arith)
      step false false p q =
          let e : k < s = leb-false s k p in
          let n : s ≡ suc k → ⊥ = eqb-false s (suc k) q in
          rw (lt-leb s (suc k) (omega arith)) (omega arith)

  add_sums : (k : ℕ) → upto (set l s (get_or l s 0 + x)) k ≡ upto l k + pick (leb s k) x 0
  add_sums zero = omega (arith, at_place 0, first_test)
  add_sums (suc k) = omega (arith, add_sums k, at_place (suc k), next_test k)

  add_small : (b : ℕ) → Small b l → Small (b + x) (set l s (get_or l s 0 + x))
  add_small b q =
      record { size = length-set l s (get_or l s 0 + x) ∙ q.size; most = λ j. omega (arith, q.most j, at_place j, most (eqb s j)) }
    where
      most : (t : Bool) → pick t x 0 ≤ x
      most true = omega arith
      most false = omega arith

  pub adds : Added l (set l s (get_or l s 0 + x)) s x
  adds = record { sums = add_sums; small = add_small }

-- both places of a row: s is its number, w its width
pub adds_row : {l : List ℕ} {e : Row} {g s : ℕ} → s ≡ e.span → s < 256 → g < 65536 → length l ≡ 257 → {w : ℕ} → w ≡ e.width → w < 4294967296
    → AddedRow l (set (set l s (get_or l s 0 + g)) (s + 1) (get_or (set l s (get_or l s 0 + g)) (s + 1) 0 + w)) e g
adds_row {l} {e} {g} {s} es hs hg hl {w} ew hw =
    let m : List ℕ = set l s (get_or l s 0 + g) in
    let x : Added l m s g = adds l s g (omega arith) in
    let y : Added m (set m (s + 1) (get_or m (s + 1) 0 + w)) (s + 1) w = adds m (s + 1) w (omega (arith, length-set l s (get_or l s 0 + g))) in
    record {
      sums = λ k. y.sums k ∙ rw (x.sums k, add-one s, es, ew);
      small = λ b h. small_more (y.small _ (x.small b h)) (omega arith);
    }

-- ---- `enter`: t is what `matches_span` answered

module _ (r e : Row) {t : Bool} (f : t ≡ same_row r e) (l : List ℕ) (o : Sums) where
  pub enter_stay : t ≡ false → Entered r e l o l o
  enter_stay h i rs k =
      let m : same_row r e ≡ false = sym f ∙ h in
      record {
        own = k.own ∙ sym (sums_last r none_yet rs e ∙ advance_no r (sums r none_yet rs) e m);
        tells = λ q s.
            ap (λ (x : Sums). x.before) (sums_last q none_yet rs e ∙ advance_no q (sums q none_yet rs) e (sym (same_as r q s e) ∙ m)) ∙ k.tells q s;
        small = small_more k.small (omega arith);
        most = omega (arith, k.most);
        rows = omega (arith, k.rows);
      }

  pub enter_join : t ≡ true → {g : ℕ} → (g ≡ gap_of o e) × (g < 65536) → {m : List ℕ} → AddedRow l m e g → {q : Sums} → GrownTo o (joined r.span o e) q
      → Entered r e l o m q
  enter_join h {g} eg {m} a {q} d i rs k =
      let y : same_row r e ≡ true = sym f ∙ h in
      record {
        own = d.is ∙ ap (λ (x : Sums). joined r.span x e) k.own ∙ sym (sums_last r none_yet rs e ∙ advance_yes r (sums r none_yet rs) e y);
        tells = λ p s.
            let z : gap_of (sums p none_yet rs) e ≡ g =
            sym (alike_gap (sums r none_yet rs) (sums p none_yet rs) e (alike_all r p s rs)) ∙ ap (λ (x : Sums). gap_of x e) (sym k.own) ∙ sym eg.0 in
            ap (λ (x : Sums). x.before) (sums_last p none_yet rs e ∙ advance_yes p (sums p none_yet rs) e (sym (same_as r p s e) ∙ y))
            ∙ rw (z, k.tells p s) (sym (a.sums p.span));
        small = small_more (a.small (8589934592 * i) k.small) (omega arith);
        most = omega (arith, d.most, k.most);
        rows = omega (arith, d.rows, k.rows);
      }

-- ---- `gather`: the rows done are added up, and es are left

pub nil_at : (n j : ℕ) → get_or (replicate {A = ℕ} n 0) j 0 ≡ 0
nil_at zero j = refl
nil_at (suc n) zero = refl
nil_at (suc n) (suc j) = nil_at n j

nil_sums : (k : ℕ) → upto (replicate {A = ℕ} 257 0) k ≡ 0
nil_sums zero = refl
nil_sums (suc k) = omega (arith, nil_sums k, nil_at 257 (suc k))

pub record Gathering (rows : List Row) (r : Row) (l : List ℕ) (o : Sums) (es : List Row) : Type 0 where
  pub done : List Row
  pub gathered : Gathered (length done) done r l o
  pub parts : done ++ es ≡ rows_in rows r.line (length rows)
  pub few : length done + length es ≤ 2048

module _ {rows : List Row} {r : Row} where
  pub gather_start : length rows ≤ 2048 → {l : List ℕ} → l ≡ replicate 257 0 → {o : Sums} → o ≡ none_yet
      → Gathering rows r l o (rows_in rows r.line (length rows))
  gather_start h {l} el eo =
      record {
        done = [];
        gathered =
            record {
              own = eo;
              tells = λ q s. sym (ap (λ (x : List ℕ). upto x q.span) el ∙ nil_sums q.span);
              small = record { size = ap length el; most = λ j. omega (arith, ap (λ (x : List ℕ). get_or x j 0) el ∙ nil_at 257 j) };
              most = rw eo (omega arith);
              rows = rw eo (omega arith);
            };
        parts = refl;
        few = omega (arith, rows_length rows r.line (length rows));
      }

  pub gather_room : {l : List ℕ} {o : Sums} {es : List Row} → Gathering rows r l o es → Room l o
  gather_room z =
      let g = z.gathered in
      record { small = small_more g.small (omega (arith, z.few)); sum = omega (arith, g.most, z.few); rows = omega (arith, g.rows, z.few) }

  pub gather_on : {l : List ℕ} {o : Sums} {e : Row} {es : List Row} → Gathering rows r l o (e ∷ es) → {m : List ℕ} {q : Sums}
      → Entered r e l o m q → Gathering rows r m q es
  gather_on {e = e} {es = es} z {m} {q} d =
      let n : length (z.done ++ (e ∷ [])) ≡ length z.done + 1 = length-append z.done (e ∷ []) in
      record {
        done = z.done ++ (e ∷ []);
        gathered = rw n (d (length z.done) z.done z.gathered);
        parts = append_assoc z.done (e ∷ []) es ∙ z.parts;
        few = omega (arith, n, z.few);
      }

  pub gather_done : {l : List ℕ} {o : Sums} {es : List Row} → Gathering rows r l o es → es ≡ [] → TableOf rows r l
  gather_done z e =
      let all : z.done ≡ rows_in rows r.line (length rows) = sym (append-nil z.done) ∙ ap (λ (x : List Row). z.done ++ x) (sym e) ∙ z.parts in
      record {
        size = z.gathered.small.size;
        tells = λ q s.
            let b : q.line ≡ r.line = sym (line_is_law r q s) in
            ap (λ (x : Sums). x.before)
            (sym (sums_rows rows q none_yet) ∙ ap (λ (d : ℕ). sums q none_yet (rows_in rows d (length rows))) b ∙ ap (sums q none_yet) (sym all))
            ∙ z.gathered.tells q s;
      }

-- ---- `reach`

-- the sum of the places up to k is that of the first k + 1, and splits at p
pub upto_is : (l : List ℕ) (k : ℕ) → k < length l → upto l k ≡ sum (take (k + 1) l)
upto_is l zero h = omega (arith, sum_by_more (λ (x : ℕ). x) l 0 0 h)
upto_is l (suc k) h =
    let e : suc k ≡ k + 1 = omega arith in
    rw (sum_by_more (λ (x : ℕ). x) l (suc k) 0 h, e, ← upto_is l k (omega arith)) refl

pub upto_split : (l : List ℕ) (p k : ℕ) → p ≤ k → k < length l → upto l k ≡ upto l p + sum (take (k + 1 - (p + 1)) (drop (p + 1) l))
upto_split l p k h q =
    let m : ℕ = k + 1 - (p + 1) in
    let e : k + 1 ≡ p + 1 + m = omega arith in
    let x : List ℕ = take (p + 1 + m) l in
    upto_is l k q ∙ ap (λ (n : ℕ). sum (take n l)) e ∙ sym (sum_by-take-drop (λ (y : ℕ). y) x (p + 1))
    ∙ rw (take-take (p + 1) (p + 1 + m) l (omega arith), drop-take (p + 1) m l, ← upto_is l p (omega arith)) refl
