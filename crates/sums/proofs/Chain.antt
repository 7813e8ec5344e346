-- Walking the rows of a line by their links.
use Prim.Native.Nat.{ℕ, zero, suc, ◌+◌, ◌-◌, ◌*◌, ◌≤◌, ◌<◌}
use mathlib.Core.Path.{◌≡◌, refl, sym, ◌∙◌, ap}
use mathlib.Core.Bool.{Bool, true, false}
use mathlib.Core.List.{List, [], ◌∷◌}
use native.Mathlib.Omega.{arith}
use lib.Dec.{eqb}
use lib.ListN.{length, get_or, set, drop, length-set, replicate}
use lib.Seq.{get_or-set_same, get_or-set_other}
use borrow.Author.Tests.{eq-eqb, eqb-true, eqb-false}
use Rattle.std.proofs.lemmas.List.{drop_all, get_or-replicate}
use Rattle.std.proofs.Common.{drop-cons}
use Rattle.base.specs.Pick.{pick}
use Rattle.layout.specs.declared.Span.{Span}
use Rattle.rows.specs.declared.Row.{Row}
use Rattle.rows.specs.Rows.{blank_row, row_at, link_at, mark_at, LinkPut, MarkPut}
use Rattle.rows.proofs.Laws.{link_put, link_stays, marks_stay, mark_put, mark_stays, links_stay}
use Rattle.sums.specs.declared.Sums.{Sums}
use Rattle.sums.specs.Sums.{advanced, sums, none_yet, GrownTo, SumsOf}
use Rattle.sums.specs.Chain.{first_in, rows_in, rows_from, RowsAsked, Linked, Chained, Links, Walk}
use Rattle.sums.proofs.Groups.{other_line}

-- ---- the first of a line

module _ (rows : List Row) (b : ℕ) where
  first_le : (k : ℕ) → first_in rows b k ≤ k
  first_le zero = omega arith
  first_le (suc k) = step (eqb (row_at rows (length rows - suc k)).line b) (first_le k)
    where
      step : (t : Bool) → first_in rows b k ≤ k → pick t (suc k) (first_in rows b k) ≤ suc k
      step true h = omega arith
      step false h = omega arith

  first_line : (k : ℕ) → 0 < first_in rows b k → (row_at rows (length rows - first_in rows b k)).line ≡ b
  first_line zero h = absurd (omega arith)
  first_line (suc k) h = step (eqb (row_at rows (length rows - suc k)).line b) refl (first_line k) h
    where
      step : (t : Bool) → eqb (row_at rows (length rows - suc k)).line b ≡ t
          → (0 < first_in rows b k → (row_at rows (length rows - first_in rows b k)).line ≡ b) → 0 < pick t (suc k) (first_in rows b k)
          → (row_at rows (length rows - pick t (suc k) (first_in rows b k))).line ≡ b
      step true q ih p = eqb-true (row_at rows (length rows - suc k)).line b q
      step false q ih p = ih p

-- ---- the rows of a line

module _ (rows : List Row) (b : ℕ) where
  -- before its first one there is none
  rows_first : (k : ℕ) → rows_in rows b (first_in rows b k) ≡ rows_in rows b k
  rows_first zero = refl
  rows_first (suc k) = step (eqb (row_at rows (length rows - suc k)).line b) refl (rows_first k)
    where
      step : (t : Bool) → eqb (row_at rows (length rows - suc k)).line b ≡ t → rows_in rows b (first_in rows b k) ≡ rows_in rows b k
          → rows_in rows b (pick t (suc k) (first_in rows b k)) ≡ pick t (row_at rows (length rows - suc k) ∷ rows_in rows b k) (rows_in rows b k)
      step true q ih = rw q refl
      step false q ih = ih

  pub rows_length : (k : ℕ) → length (rows_in rows b k) ≤ k
  rows_length zero = omega arith
  rows_length (suc k) = step (eqb (row_at rows (length rows - suc k)).line b) (rows_length k)
    where
      step : (t : Bool) → length (rows_in rows b k) ≤ k
          → length (pick t (row_at rows (length rows - suc k) ∷ rows_in rows b k) (rows_in rows b k)) ≤ suc k
      step true h = omega (arith, h)
      step false h = omega (arith, h)

  from_in : (k : ℕ) → (0 < k → (row_at rows (length rows - k)).line ≡ b) → rows_from rows k ≡ rows_in rows b k
  from_in zero h = refl
  from_in (suc k) h = ap (λ (d : ℕ). rows_in rows d (suc k)) (h (omega arith))

  -- from the first one on
  from_first : (k : ℕ) → rows_from rows (first_in rows b k) ≡ rows_in rows b k
  from_first k = from_in (first_in rows b k) (first_line rows b k) ∙ rows_first k

-- the sums are those of the line's rows
sums_line : (rows : List Row) (q : Row) (o : Sums) (k : ℕ) → k ≤ length rows
    → sums q o (rows_in rows q.line k) ≡ sums q o (drop (length rows - k) rows)
sums_line rows q o zero h = ap (sums q o) (sym (drop_all (length rows - 0) rows (omega arith)))
sums_line rows q o (suc k) h =
    let next : suc (length rows - suc k) ≡ length rows - k = omega arith in
    step
    (λ p. sums_line rows q p k (omega arith) ∙ ap (λ (m : ℕ). sums q p (drop m rows)) (sym next))
    (eqb (row_at rows (length rows - suc k)).line q.line) refl
    ∙ sym (ap (sums q o) (drop-cons rows (length rows - suc k) blank_row (omega arith)))
  where
    step : ((p : Sums) → sums q p (rows_in rows q.line k) ≡ sums q p (drop (suc (length rows - suc k)) rows))
        → (t : Bool) → eqb (row_at rows (length rows - suc k)).line q.line ≡ t
        → sums q o (pick t (row_at rows (length rows - suc k) ∷ rows_in rows q.line k) (rows_in rows q.line k))
        ≡ sums q (advanced q o (row_at rows (length rows - suc k))) (drop (suc (length rows - suc k)) rows)
    step others true p = others (advanced q o (row_at rows (length rows - suc k)))
    step others false p =
        others o
        ∙ ap (λ (y : Sums). sums q y (drop (suc (length rows - suc k)) rows)) (sym (other_line q o (row_at rows (length rows - suc k)) q.line refl p))

pub sums_rows : (rows : List Row) (q : Row) (o : Sums) → sums q o (rows_in rows q.line (length rows)) ≡ sums q o rows
sums_rows rows q o =
    let z : length rows - length rows ≡ 0 = omega arith in
    sums_line rows q o (length rows) (omega arith) ∙ ap (λ (m : ℕ). sums q o (drop m rows)) z

-- ---- `link_rows`: the last k rows are chained, and none of them is marked

pub record Linking (rows : List Row) (out : List Span) (heads : List ℕ) (k : ℕ) : Type 0 where
  pub asked : RowsAsked rows out
  pub linked : Linked rows out heads k
  pub blank : (m : ℕ) → m < k → mark_at out (length rows - suc m) ≡ 0

pub link_start : {rows : List Row} {out : List Span} → RowsAsked rows out → {k : ℕ} → k ≡ 0 → Linking rows out (replicate 256 0) k
link_start a e =
    record {
      asked = a;
      linked = record { size = refl; firsts = λ b h. rw e (get_or-replicate 256 b 0 0 h); nexts = λ m h. absurd (omega arith) };
      blank = λ m h. absurd (omega arith);
    }

-- i is the row before the last k, b its line number; its link and its mark were put
module _ {rows : List Row} {out : List Span} {heads : List ℕ} {k : ℕ} (z : Linking rows out heads k) (more : k < length rows) {i : ℕ}
    (here : i ≡ length rows - suc k) {b : ℕ} (eb : b ≡ (row_at rows i).line) (hb : b < 256) {out₁ : List Span} (p : LinkPut out i (get_or heads b 0) out₁)
    {out₂ : List Span} (q : MarkPut out₁ i 0 out₂) where
  line_here : (row_at rows (length rows - suc k)).line ≡ b
  line_here = ap (λ (j : ℕ). (row_at rows j).line) (sym here) ∙ sym eb

  room₁ : i < length out
  room₁ = omega (arith, z.asked.room)

  room₂ : i < length out₁
  room₂ = omega (arith, z.asked.room, p.room)

  firsts_on : (d : ℕ) → d < 256 → get_or (set heads b (suc k)) d 0 ≡ first_in rows d (suc k)
  firsts_on d h = step (eqb (row_at rows (length rows - suc k)).line d) refl
    where
      step : (t : Bool) → eqb (row_at rows (length rows - suc k)).line d ≡ t → get_or (set heads b (suc k)) d 0 ≡ pick t (suc k) (first_in rows d k)
      step true s =
          let e : d ≡ b = sym (eqb-true (row_at rows (length rows - suc k)).line d s) ∙ line_here in
          rw e (get_or-set_same heads b (suc k) 0 (omega (arith, z.linked.size)))
      step false s =
          get_or-set_other heads b d (suc k) 0 (λ e. eqb-false (row_at rows (length rows - suc k)).line d s (line_here ∙ sym e)) ∙ z.linked.firsts d h

  nexts_on : (m : ℕ) → m < suc k → link_at out₂ (length rows - suc m) ≡ first_in rows (row_at rows (length rows - suc m)).line m
  nexts_on m h = links_stay q room₂ (length rows - suc m) ∙ step (eqb m k) refl
    where
      step : (t : Bool) → eqb m k ≡ t → link_at out₁ (length rows - suc m) ≡ first_in rows (row_at rows (length rows - suc m)).line m
      step true s = rw (eqb-true m k s, line_here, ← here) (link_put p room₁ ∙ z.linked.firsts b hb)
      step false s =
          let d : m ≡ k → ⊥ = eqb-false m k s in
          link_stays p room₁ (length rows - suc m) (λ x. omega (arith, d)) ∙ z.linked.nexts m (omega (arith, d))

  blank_on : (m : ℕ) → m < suc k → mark_at out₂ (length rows - suc m) ≡ 0
  blank_on m h = step (eqb m k) refl
    where
      step : (t : Bool) → eqb m k ≡ t → mark_at out₂ (length rows - suc m) ≡ 0
      step true s = rw (eqb-true m k s, ← here) (mark_put q room₂)
      step false s =
          let d : m ≡ k → ⊥ = eqb-false m k s in
          mark_stays q room₂ (length rows - suc m) (λ x. omega (arith, d)) ∙ marks_stay p room₁ (length rows - suc m) ∙ z.blank m (omega (arith, d))

  pub link_on : {n : ℕ} → n ≡ suc k → Linking rows out₂ (set heads b n) n
  link_on e =
      rw e
      (record {
        asked = record { few = z.asked.few; room = omega (arith, z.asked.room, p.room, q.room) };
        linked = record { size = length-set heads b (suc k) ∙ z.linked.size; firsts = firsts_on; nexts = nexts_on };
        blank = blank_on;
      })

-- ---- a walk

module _ {rows : List Row} {out : List Span} {heads : List ℕ} (c : Chained rows out heads) where
  module _ (r : Row) (h : r.line < 256) {k : ℕ} (e : k ≡ get_or heads r.line 0) where
    first_is : k ≡ first_in rows r.line (length rows)
    first_is = e ∙ c.linked.firsts r.line h

    pub walk_start : Walk rows r k
    walk_start =
        rw first_is (record { within = first_le rows r.line (length rows); line = first_line rows r.line (length rows) })

  module _ {r : Row} {k : ℕ} (w : Walk rows r k) (more : 0 < k) {k' : ℕ} (e : k' ≡ link_at out (length rows - k)) where
    one_back : suc (k - 1) ≡ k
    one_back = omega arith

    next_is : k' ≡ first_in rows r.line (k - 1)
    next_is =
        e ∙ ap (λ (m : ℕ). link_at out (length rows - m)) (sym one_back) ∙ c.linked.nexts (k - 1) (omega (arith, w.within))
        ∙ ap (λ (m : ℕ). first_in rows (row_at rows (length rows - m)).line (k - 1)) one_back
        ∙ ap (λ (b : ℕ). first_in rows b (k - 1)) (w.line more)

    pub walk_less : k' < k
    walk_less = omega (arith, next_is, first_le rows r.line (k - 1))

    pub walk_on : Walk rows r k'
    walk_on =
        record {
          within = omega (arith, walk_less, w.within);
          line = λ h. rw next_is (first_line rows r.line (k - 1) (omega (arith, next_is)));
        }

-- ---- `Chain`

pub links_of : {rows : List Row} {out : List Span} {heads : List ℕ} → Chained rows out heads → Links rows out
links_of c = record { asked = c.asked; nexts = c.linked.nexts }

module _ {rows : List Row} {out : List Span} {heads : List ℕ} (c : Chained rows out heads) {b : ℕ} (h : b < 256) {k : ℕ} (e : k ≡ get_or heads b 0) where
  begins : k ≡ first_in rows b (length rows)
  begins = e ∙ c.linked.firsts b h

  pub chain_in : k ≤ length rows
  chain_in = omega (arith, begins, first_le rows b (length rows))

  pub chain_of : rows_from rows k ≡ rows_in rows b (length rows)
  chain_of = ap (rows_from rows) begins ∙ from_first rows b (length rows)

-- the first of its rows, and the others
module _ {rows : List Row} {out : List Span} (c : Links rows out) {k : ℕ} (w : k ≤ length rows) (more : 0 < k) {k' : ℕ}
    (e : k' ≡ link_at out (length rows - k)) where
  last_but : suc (k - 1) ≡ k
  last_but = omega arith

  follows : k' ≡ first_in rows (row_at rows (length rows - k)).line (k - 1)
  follows =
      e ∙ ap (λ (m : ℕ). link_at out (length rows - m)) (sym last_but) ∙ c.nexts (k - 1) (omega arith)
      ∙ ap (λ (m : ℕ). first_in rows (row_at rows (length rows - m)).line (k - 1)) last_but

  pub next_in : k' ≤ length rows
  next_in = omega (arith, follows, first_le rows (row_at rows (length rows - k)).line (k - 1))

  pub next_first : rows_from rows k ≡ row_at rows (length rows - k) ∷ rows_from rows k'
  next_first =
      ap (rows_from rows) (sym last_but) ∙ own (k - 1)
      ∙ ap (λ (m : ℕ). row_at rows (length rows - m) ∷ rows_in rows (row_at rows (length rows - m)).line (k - 1)) last_but
      ∙ ap (λ (l : List Row). row_at rows (length rows - k) ∷ l)
      (sym (ap (rows_from rows) follows ∙ from_first rows (row_at rows (length rows - k)).line (k - 1)))
    where
      own : (m : ℕ) → rows_from rows (suc m) ≡ row_at rows (length rows - suc m) ∷ rows_in rows (row_at rows (length rows - suc m)).line m
      own m = rw (eq-eqb (row_at rows (length rows - suc m)).line (row_at rows (length rows - suc m)).line refl) refl

-- ---- `offset_horiz`: o are the sums so far, and es the rows that are left

pub record Summing (rows : List Row) (r : Row) (o : Sums) (es : List Row) : Type 0 where
  pub is : sums r o es ≡ sums r none_yet rows
  pub most : o.before + o.after + 8589934592 * length es ≤ 17592186044416
  pub few : o.count + length es ≤ 2048

module _ {rows : List Row} {r : Row} where
  pub sums_start : length rows ≤ 2048 → {o : Sums} → o ≡ none_yet → Summing rows r o (rows_in rows r.line (length rows))
  sums_start h e =
      let l : length (rows_in rows r.line (length rows)) ≤ length rows = rows_length rows r.line (length rows) in
      rw e (record { is = sums_rows rows r none_yet; most = omega arith; few = omega arith })

  pub sums_on : {o : Sums} {e : Row} {es : List Row} → Summing rows r o (e ∷ es) → {p : Sums} → GrownTo o (advanced r o e) p → Summing rows r p es
  sums_on {o} {e} {es} z d =
      record {
        is = ap (λ (y : Sums). sums r y es) d.is ∙ z.is;
        most = omega (arith, d.most, z.most);
        few = omega (arith, d.rows, z.few);
      }

  pub sums_done : {o : Sums} → Summing rows r o [] → SumsOf rows r o
  sums_done z = record { is = z.is; most = omega (arith, z.most) }
