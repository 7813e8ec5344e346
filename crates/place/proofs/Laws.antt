-- What the code of a pass answers, way by way.
use Prim.Native.Nat.{ℕ, zero, suc, ◌+◌, ◌-◌, ◌≤◌, ◌<◌}
use mathlib.Core.Path.{◌≡◌, refl, sym, ◌∙◌, ap, subst}
use mathlib.Core.Bool.{Bool, true, false, not}
use mathlib.Core.List.{List, [], ◌∷◌, ◌++◌, map}
use native.Mathlib.Omega.{arith}
use lib.Dec.{leb, ltb}
use lib.ListN.{length, set, take, drop}
use Rattle.std.specs.Prelude.{Option, Some, None, Result, Ok, Err}
use Rattle.std.specs.Option.{option_or}
use borrow.Rule.Slice.PartMut.{put_mid}
use Rattle.std.proofs.lemmas.Slice.{take-put_mid, drop-put_mid}
use Rattle.std.proofs.lemmas.List.{length-map, length-drop, length-take-le, length-set, at_drop_more, at_drop_all, take_more, take_more_set, take_all}
use Rattle.std.proofs.lemmas.List.{get_or-take, map-append, take-append-drop, nil_from_length, length-take, take-append-le}
use lib.Seq.{take-append-add}
use borrow.Author.Tests.{le-ltb, le-leb, lt-leb, ltb-true}
use Rattle.base.specs.Pick.{pick}
use Rattle.refusal.specs.declared.Refusal.{Refusal}
use Rattle.records.specs.declared.Config.{Config}
use Rattle.layout.specs.declared.Rect.{Rect}
use Rattle.layout.specs.declared.Span.{Span}
use Rattle.refusal.specs.Refusals.{refusal}
use Rattle.layout.specs.Placing.{or_else, unless, first_fault, place_x}
use Rattle.layout.specs.declared.Fault.{Fault}
use Rattle.rows.specs.declared.Row.{Row}
use Rattle.rows.specs.Rows.{blank_row, row_at, rows_of, spans_of, mark_at}
use Rattle.rows.proofs.Laws.{span_stays}
use Rattle.sums.specs.declared.Sums.{Sums}
use Rattle.sums.specs.Sums.{same_row, joined, advanced, sums, none_yet}
use Rattle.sums.specs.Chain.{ChainedTo}
use Rattle.sums.proofs.Groups.{same_self}
use Rattle.lines.specs.declared.PageLines.{PageLines}
use Rattle.lines.specs.declared.Heights.{Heights}
use Rattle.lines.specs.Lines.{PageHeights, heights_in}
use Rattle.lines.proofs.Feet.{HeightsOf, heights_are}
use Rattle.place.specs.declared.Across.{Across}
use Rattle.place.specs.declared.shared.Pass.{Pass}
use Rattle.place.specs.Placed.{goes_back_from, back_rows, stands_at, record_by, refusal_of, fault_at, base_with, record_with, fault_with}
use Rattle.place.specs.Placed.{placed_by, placed_with, across_fault, fault_end, Crossed, SpanAsked, SpanPlaced, above_at, below_at}
use Rattle.place.specs.Placed.{record_at, span_fault_at, rows_fault, rows_records, Placeable, LinesMade, RowByRow, PassPlaced}
use Rattle.place.specs.Groups.{sums_at, end_at, Marked, Ready, PlacedAcross, PlacedDown}
use Rattle.place.proofs.Groups.{marked_as}

-- ---- `check_justification`: the rows from i on, after the row r

abbrev pub back_after : Row → List Row → Option Refusal
back_after r es = back_rows r.just_page r.line r.just_line es

stops : (t : Bool) (f : Refusal) (o : Option Refusal) → t ≡ true → or_else (unless (not t) f) o ≡ Some f
unfolding or_else unless
stops t f o p = rw p

goes : (t : Bool) (f : Refusal) (o : Option Refusal) → t ≡ false → or_else (unless (not t) f) o ≡ o
unfolding or_else unless
goes t f o p = rw p

pub record Checking (rows : List Row) (r : Row) (i : ℕ) : Type 0 where
  pub rest : back_after r (drop i rows) ≡ back_rows 0 0 0 rows

-- b is what `goes_back` answered
module _ {rows : List Row} {r : Row} {i : ℕ} (z : Checking rows r i) (h : i < length rows) {b : Bool}
    (f : b ≡ goes_back_from r.just_page r.line r.just_line (row_at rows i)) where
  next : back_after r (row_at rows i ∷ drop (i + 1) rows) ≡ back_rows 0 0 0 rows
  next = sym (at_drop_more (back_after r) rows i blank_row h) ∙ z.rest

  pub check_stop : b ≡ true → Some (refusal 9 (row_at rows i).start (row_at rows i).len 0) ≡ back_rows 0 0 0 rows
  check_stop p =
      sym (stops (goes_back_from r.just_page r.line r.just_line (row_at rows i)) _ (back_after (row_at rows i) (drop (i + 1) rows)) (sym f ∙ p)) ∙ next

  pub check_on : b ≡ false → Checking rows (row_at rows i) (i + 1)
  check_on p =
      record {
        rest =
            sym (goes (goes_back_from r.just_page r.line r.just_line (row_at rows i)) _ (back_after (row_at rows i) (drop (i + 1) rows)) (sym f ∙ p)) ∙ next;
      }

-- ---- `place_span`

-- the first of five
module _ (a b c d e : Option Refusal) (s : Span) (f : Refusal) where
  answer : Result Span Refusal
  answer = placed_by (or_else a (or_else b (or_else c (or_else d e)))) s

  way3 : a ≡ None → b ≡ None → c ≡ Some f → Err f ≡ answer
  unfolding answer or_else
  way3 h i j = rw (h, i, j)

  way4 : a ≡ None → b ≡ None → c ≡ None → d ≡ Some f → Err f ≡ answer
  unfolding answer or_else
  way4 h i j k = rw (h, i, j, k)

  way5 : a ≡ None → b ≡ None → c ≡ None → d ≡ None → e ≡ Some f → Err f ≡ answer
  unfolding answer or_else
  way5 h i j k l = rw (h, i, j, k, l)

way6 : (a b c d e : Option Refusal) (s : Span) → a ≡ None → b ≡ None → c ≡ None → d ≡ None → e ≡ None
    → Ok s ≡ placed_by (or_else a (or_else b (or_else c (or_else d e)))) s
unfolding or_else
way6 a b c d e s h i j k l = rw (h, i, j, k, l)

fits : (x y : ℕ) (f : Refusal) → x ≤ y → unless (leb x y) f ≡ None
unfolding unless
fits x y f h = rw (le-leb x y h)

exceeds : (x y : ℕ) (f : Refusal) → y < x → unless (leb x y) f ≡ Some f
unfolding unless
exceeds x y f h = rw (lt-leb x y h)

-- a group that is refused across
module _ (c : Config) (q : Rect) (r : Row) (o : Sums) where
  first_of_all : (a b : Option Refusal) (f : Refusal) → a ≡ Some f → or_else a b ≡ Some f
  unfolding or_else
  first_of_all a b f h = rw h

  second : (a b d : Option Refusal) (f : Refusal) → a ≡ None → b ≡ Some f → or_else a (or_else b d) ≡ Some f
  unfolding or_else
  second a b d f h k = rw (h, k)

  pub across_stops : (f : Refusal) → fault_end r (across_fault q o) ≡ Err f → (a b : ℕ) (d : Option Fault) → fault_with c q r o a b d ≡ Some f
  unfolding fault_with
  across_stops f h a b d = step o.fault (ltb q.width (o.before + o.after)) refl h
    where
      step : (m : Option Fault) (u : Bool) → ltb q.width (o.before + o.after) ≡ u
          → fault_end r (option_or m (pick u (Some (record { number = 13; detail = 0 })) None)) ≡ Err f
          → or_else (fault_at r m) (or_else (unless (leb (o.before + o.after) q.width) (refusal_of r 13 0))
          (or_else (fault_at r d) (or_else (unless (leb (a + b) q.height) (refusal_of r 13 0))
          (unless (leb r.height (base_with c q r o a b)) (refusal_of r 14 0)))))
          ≡ Some f
      step None true l g =
          let e : refusal_of r 13 0 ≡ f = cc in
          rw (← e) (second _ _ _ (refusal_of r 13 0) refl (exceeds (o.before + o.after) q.width (refusal_of r 13 0) (ltb-true q.width (o.before + o.after) l)))
      step None false l g = cc
      step (Some x) u l g = let e : refusal_of r x.number x.detail ≡ f = cc in first_of_all _ _ f (ap (λ (y : Refusal). Some y) e)

-- v are the heights of the row's line
module _ (c : Config) (q : Rect) (r : Row) (o : Sums) (v : Heights) {x : ℕ} (k : Crossed c q r o x) where
  a_none : fault_at r o.fault ≡ None
  a_none = rw k.fine

  b_none : unless (leb (o.before + o.after) q.width) (refusal_of r 13 0) ≡ None
  b_none = fits (o.before + o.after) q.width (refusal_of r 13 0) k.wide

  pub font_faulty : {f : Fault} → v.fault ≡ Some f → Err (refusal_of r f.number f.detail) ≡ placed_with c q r o v
  unfolding placed_with fault_with answer
  font_faulty h = way3 _ _ _ _ _ _ _ a_none b_none (rw h)

  module _ (z : v.fault ≡ None) where
    c_none : fault_at r v.fault ≡ None
    c_none = rw z

    pub too_high : q.height < v.above + v.below → Err (refusal_of r 13 0) ≡ placed_with c q r o v
    unfolding placed_with fault_with answer
    too_high h = way4 _ _ _ _ _ _ _ a_none b_none c_none (exceeds (v.above + v.below) q.height (refusal_of r 13 0) h)

    -- t is the baseline
    module _ (y : v.above + v.below ≤ q.height) {t : ℕ} (et : t ≡ stands_at r.just_page c.char_height q.top q.height v.above v.below) where
      d_none : unless (leb (v.above + v.below) q.height) (refusal_of r 13 0) ≡ None
      d_none = fits (v.above + v.below) q.height (refusal_of r 13 0) y

      base : ℕ
      base = base_with c q r o v.above v.below

      base_is : t ≡ base
      unfolding base base_with
      base_is = et

      pub too_low : t < r.height → Err (refusal_of r 14 0) ≡ placed_with c q r o v
      unfolding placed_with fault_with answer base
      too_low h = way5 _ _ _ _ _ _ _ a_none b_none c_none d_none (exceeds r.height base (refusal_of r 14 0) (omega (arith, base_is)))

      pub placed : r.height ≤ t → Ok (record_by q r x (t - r.height)) ≡ placed_with c q r o v
      unfolding placed_with fault_with record_with answer base
      placed h =
          ap (λ (w : ℕ). Ok (record_by q r w (t - r.height))) k.is
          ∙ ap (λ (w : ℕ). Ok (record_by q r (place_x r.just_line c.char_width q o.before o.after) (w - r.height))) base_is
          ∙ way6 _ _ _ _ _ _ a_none b_none c_none d_none (fits r.height base (refusal_of r 14 0) (omega (arith, base_is)))

-- ---- a row's width is part of what stands from it on

after_grows : (r : Row) (o : Sums) (e : Row) → o.after ≤ (advanced r o e).after
unfolding advanced
after_grows r o e = step (same_row r e)
  where
    step : (t : Bool) → o.after ≤ (pick t (joined r.span o e) o).after
    step true = omega arith
    step false = omega arith

after_keeps : (r : Row) (o : Sums) (es : List Row) → o.after ≤ (sums r o es).after
after_keeps r o [] = omega arith
after_keeps r o (e ∷ es) = omega (arith, after_grows r o e, after_keeps r (advanced r o e) es)

own_width : (r : Row) (o : Sums) → r.width ≤ (advanced r o r).after
unfolding advanced
own_width r o = rw (same_self r) (rw (le-ltb r.span r.span (omega arith)) (omega arith))

pub width_part : (rs : List Row) (i : ℕ) (o : Sums) → i < length rs → (row_at rs i).width ≤ (sums (row_at rs i) o rs).after
width_part [] i o h = absurd (omega arith)
width_part (e ∷ es) zero o h = omega (arith, own_width e o, after_keeps e (advanced e o e) es)
width_part (e ∷ es) (suc i) o h = width_part es i (advanced (row_at es i) o e) (omega arith)

-- ---- `place_down`

none_first : (a b : Option Refusal) → a ≡ None → or_else a b ≡ b
unfolding or_else
none_first a b e = rw e

some_first : (f : Refusal) (a b : Option Refusal) → a ≡ Some f → or_else a b ≡ Some f
unfolding or_else
some_first f a b e = rw e

err_is : (f : Refusal) (w : Option Refusal) (s : Span) → Err f ≡ placed_by w s → w ≡ Some f
err_is f None s e = cc
err_is f (Some g) s e = cc

ok_is : (a : Span) (w : Option Refusal) (s : Span) → Ok a ≡ placed_by w s → (w ≡ None) × (a ≡ s)
ok_is a None s e = (refl, cc)
ok_is a (Some g) s e = cc

pub below_m : (m : ℕ) (rs : List Row) → m ≤ length rs → {i : ℕ} → i < length (take m rs) → i < m
below_m m rs h k = omega (arith, length-take-le m rs h)

-- the first i of m rows are placed, the others placed across
pub record Placing (p : Pass) (m : ℕ) (out : List Span) (page : PageLines) (i : ℕ) : Type 0 where
  pub few : m ≤ length p.rows.now
  pub room : length p.rows.now ≤ length out
  pub lines : LinesMade p page
  pub faults : first_fault (span_fault_at p.config p.rect p.rows.now) (drop i (take m p.rows.now))
      ≡ first_fault (span_fault_at p.config p.rect p.rows.now) (take m p.rows.now)
  pub records : take i out ≡ map (record_at p.config p.rect p.rows.now) (take i p.rows.now)
  pub marked : (j : ℕ) → i ≤ j → j < m → Marked p out j

-- the lines kept are those of their own justification
own_lines : {ch : ℕ} {rows : List Row} {just : ℕ} {page : PageLines} → PageHeights ch rows just page → PageHeights ch rows page.just page
own_lines {ch} {rows} {just} {page} h = subst (λ (j : ℕ). PageHeights ch rows j page) (sym h.page) h

module _ {p : Pass} {m : ℕ} {out : List Span} {page : PageLines} {i : ℕ} (z : Placing p m out page i) where
  module _ (more : i < m) where
    -- r is the row, v its heights; the lines of page' are its own
    module _ {r : Row} (er : r ≡ row_at p.rows.now i) {page' : PageLines} (h : PageHeights p.config.char_height p.rows.now r.just_page page')
        {v : Heights} (ev : v ≡ heights_in page' r.line) where
      tall : HeightsOf p.config.char_height p.rows.now r.just_page r.line v
      tall = heights_are h r.line ev

      own : Sums
      own = sums r none_yet p.rows.now

      crossed : Crossed p.config p.rect r own (mark_at out i - 1)
      unfolding own
      crossed = rw er (z.marked i (omega arith) more).is

      pub span_asks : SpanAsked p r v
      unfolding own
      span_asks =
          let w : r.width ≤ (sums r none_yet p.rows.now).after = rw er (width_part p.rows.now i none_yet (omega (arith, z.few))) in
          record { part = omega (arith, w, crossed.wide); high = tall.small }

      -- w is its mark, a the answer of `place_span`
      module _ {w : ℕ} (ew : w ≡ mark_at out i) {a : Result Span Refusal} (ea : SpanPlaced p r (w - 1) v a) where
        fault : Option Refusal
        fault = span_fault_at p.config p.rect p.rows.now r

        answered : a ≡ placed_by fault (record_at p.config p.rect p.rows.now r)
        unfolding fault placed_with span_fault_at record_at above_at below_at own
        answered = rw (← tall.over, ← tall.under, ← tall.font) (ea own (rw ew crossed))

        later : Option Refusal
        later = first_fault (span_fault_at p.config p.rect p.rows.now) (drop (i + 1) (take m p.rows.now))

        here : or_else fault later ≡ first_fault (span_fault_at p.config p.rect p.rows.now) (take m p.rows.now)
        unfolding fault later
        here =
            ap (λ (x : Row). first_fault (span_fault_at p.config p.rect p.rows.now) (x ∷ drop (i + 1) (take m p.rows.now)))
            (er ∙ sym (get_or-take m p.rows.now i blank_row more))
            ∙ sym (at_drop_more (first_fault (span_fault_at p.config p.rect p.rows.now)) (take m p.rows.now) i blank_row
            (omega (arith, length-take-le m p.rows.now z.few)))
            ∙ z.faults

        pub placing_stop : {f : Refusal} → a ≡ Err f → PlacedDown p m out (Err f)
        placing_stop {f} k =
            record {
              fault = sym (some_first f fault later (err_is f fault _ (sym k ∙ answered))) ∙ here;
              written = λ x. cc;
              room = z.room;
            }

        pub placing_on : {s : Span} → a ≡ Ok s → Placing p m (set out i s) page' (i + 1)
        unfolding fault later
        placing_on {s} k =
            let fit : (fault ≡ None) × (s ≡ record_at p.config p.rect p.rows.now r) = ok_is s fault _ (sym k ∙ answered) in
            let done : List Span = map (record_at p.config p.rect p.rows.now) (take i p.rows.now) in
            record {
              few = z.few;
              room = omega (arith, z.room, length-set out i s);
              lines = own_lines h;
              faults = sym (none_first fault later fit.0) ∙ here;
              records =
                  take_more_set out i s (omega (arith, z.room, z.few)) ∙ ap (λ (l : List Span). l ++ (s ∷ [])) z.records
                  ∙ ap (λ (t : Span). done ++ (t ∷ [])) fit.1
                  ∙ ap (λ (x : Row). done ++ (record_at p.config p.rect p.rows.now x ∷ [])) er
                  ∙ sym (map-append (record_at p.config p.rect p.rows.now) (take i p.rows.now) (row_at p.rows.now i ∷ []))
                  ∙ ap (map (record_at p.config p.rect p.rows.now)) (sym (take_more p.rows.now i blank_row (omega (arith, z.few))));
              marked = λ j d g.
                  marked_as (ap (λ (y : Span). y.x) (sym (span_stays out i s (set out i s) refl j (λ x. omega arith)))) (z.marked j (omega arith) g);
            }

-- ---- `place_rows`

pub rows_ready : {p : Pass} {out : List Span} → ChainedTo p.rows.now p.heads.now out → Ready p out
rows_ready {p} {out} h =
    record {
      chained = h.chained;
      told = λ j q k.
          let e : length p.rows.now - suc (length p.rows.now - suc j) ≡ j = omega arith in
          let b : mark_at out (length p.rows.now - suc (length p.rows.now - suc j)) ≡ 0 = h.blank (length p.rows.now - suc j) (omega arith) in
          let d : mark_at out j ≡ 0 = rw e at b in
          absurd (omega arith);
    }

else_assoc : (a b d : Option Refusal) → or_else (or_else a b) d ≡ or_else a (or_else b d)
unfolding or_else
else_assoc None b d = refl
else_assoc (Some y) b d = refl

faults_split : (f : Row → Option Refusal) (xs ys : List Row) → first_fault f (xs ++ ys) ≡ or_else (first_fault f xs) (first_fault f ys)
unfolding or_else
faults_split f [] ys = refl
faults_split f (x ∷ xs) ys = ap (or_else (f x)) (faults_split f xs ys) ∙ sym (else_assoc (f x) (first_fault f xs) (first_fault f ys))

faults_at : Pass → Row → Option Refusal
faults_at p = span_fault_at p.config p.rect p.rows.now

module _ {p : Pass} {out : List Span} {a : Across} (x : PlacedAcross p out a) where
  split : first_fault (faults_at p) p.rows.now
      ≡ or_else (first_fault (faults_at p) (take a.count p.rows.now)) (first_fault (faults_at p) (drop a.count p.rows.now))
  split =
      ap (first_fault (faults_at p)) (sym (take-append-drop a.count p.rows.now))
      ∙ faults_split (faults_at p) (take a.count p.rows.now) (drop a.count p.rows.now)

  pub rows_refused : {out' : List Span} {f : Refusal} → PlacedDown p a.count out' (Err f) → RowByRow p out' (Err f)
  unfolding faults_at
  rows_refused {f = f} y =
      record { fault = sym (some_first f _ (first_fault (faults_at p) (drop a.count p.rows.now)) (sym y.fault)) ∙ sym split; written = λ g. cc }

  module _ {out' : List Span} (y : PlacedDown p a.count out' (Ok tt)) where
    after : first_fault (faults_at p) (drop a.count p.rows.now) ≡ first_fault (faults_at p) p.rows.now
    unfolding faults_at
    after = sym (none_first _ (first_fault (faults_at p) (drop a.count p.rows.now)) (sym y.fault)) ∙ sym split

    stop_here : (f : Refusal) → a.end ≡ Err f → RowByRow p out' (Err f)
    unfolding faults_at span_fault_at
    stop_here f e =
        let s : (a.count < length p.rows.now) × (a.end ≡ end_at p a.count) = x.stop f e in
        record {
          fault =
              sym (some_first f (faults_at p (row_at p.rows.now a.count)) (first_fault (faults_at p) (drop (a.count + 1) p.rows.now))
              (across_stops p.config p.rect (row_at p.rows.now a.count) (sums_at p a.count) f (sym s.1 ∙ e) _ _ _))
              ∙ sym (at_drop_more (first_fault (faults_at p)) p.rows.now a.count blank_row s.0) ∙ after;
          written = λ g. cc;
        }

    all_here : a.end ≡ Ok tt → RowByRow p out' (Ok tt)
    unfolding faults_at rows_records
    all_here e =
        let n : a.count ≡ length p.rows.now = x.all e in
        record {
          fault = sym (at_drop_all (first_fault (faults_at p)) p.rows.now a.count (omega arith)) ∙ after;
          written = λ _.
              ap (λ (m : ℕ). take m out') (sym n) ∙ y.written refl
              ∙ ap (map (record_at p.config p.rect p.rows.now)) (take_all a.count p.rows.now (omega arith));
        }

    pub rows_done : RowByRow p out' a.end
    rows_done = step a.end refl
      where
        step : (e : Result (Unit {0}) Refusal) → a.end ≡ e → RowByRow p out' e
        step (Ok t) k = all_here k
        step (Err f) k = stop_here f k

-- ---- `place_pass`

-- a pass without spans
pub pass_empty : {c : Config} {q : Rect} {rows : List Row} {out : List Span} → length rows ≡ 0 → PassPlaced c q rows out out (Ok tt)
unfolding rows_fault rows_records or_else
pass_empty {c} {q} {rows} e =
    let x : rows ≡ [] = nil_from_length rows e in
    record { fault = rw x; written = λ _. rw x; behind = refl }

-- 9, and else row by row
pub pass_back : {c : Config} {q : Rect} {rows : List Row} {out : List Span} {f : Refusal} → Some f ≡ back_rows 0 0 0 rows
    → PassPlaced c q rows out out (Err f)
unfolding rows_fault
pass_back {c} {q} {rows} {f = f} e =
    record { fault = sym (some_first f (back_rows 0 0 0 rows) (first_fault (span_fault_at c q rows) rows) (sym e)); written = λ g. cc; behind = refl }

-- part are the records that stand first, and were lent alone
pub pass_on : {p : Pass} → None ≡ back_rows 0 0 0 p.rows.now → {part : List Span} {r : Result (Unit {0}) Refusal} → RowByRow p part r → {n : ℕ}
    → n ≡ length p.rows.now → {out : List Span} → n ≤ length out → length part ≡ length (take n out)
    → PassPlaced p.config p.rect p.rows.now out (put_mid 0 n out part) r
unfolding rows_fault
pass_on {p} e {part} d {n} here {out} room long =
    let m : length part ≡ n = long ∙ length-take-le n out room in
    record {
      fault = d.fault ∙ sym (none_first (back_rows 0 0 0 p.rows.now) (first_fault (span_fault_at p.config p.rect p.rows.now) p.rows.now) (sym e));
      written = λ g. take-put_mid 0 n out part (length p.rows.now) (omega arith) (omega arith) ∙ sym (take_all (length p.rows.now) part (omega arith))
          ∙ d.written g;
      behind = drop-put_mid 0 n out part (length p.rows.now) (omega arith) (omega arith) m;
    }

-- ---- a pass of the first n rows of a slice, with the records from number at on of another

pub asks_part : {q : Rect} (rows : List Row) (n : ℕ) (out : List Span) (at : ℕ) → at + n ≤ 2048 → n ≤ length rows → at + n ≤ length out
    → q.left + q.width ≤ 4096 → q.top + q.height ≤ 4096 → Placeable q (rows_of rows n) (take (length out - at) (drop at out))
asks_part rows n out at f h k a d =
    let x : length (rows_of rows n) ≡ n = length-take-le n rows h in
    let y : length (take (length out - at) (drop at out)) ≡ length out - at =
    length-take-le (length out - at) (drop at out) (omega (arith, length-drop at out)) in
    record { few = omega (arith, x); room = omega (arith, x, y); across = a; down = d }

pub written_part : {c : Config} {q : Rect} (rows : List Row) (n : ℕ) {part : List Span} {r : Result (Unit {0}) Refusal}
    → {was : List Span} → PassPlaced c q (rows_of rows n) was part r → r ≡ Ok tt → n ≤ length rows → (out : List Span) (at k : ℕ) → at ≤ length out
    → spans_of (put_mid at k out part) (at + n) ≡ spans_of out at ++ rows_records c q (rows_of rows n)
unfolding rows_records
written_part {c} {q} rows n {part} p e h out at k a =
    let x : length (rows_of rows n) ≡ n = length-take-le n rows h in
    let y : take n part ≡ rows_records c q (rows_of rows n) = ap (λ (m : ℕ). take m part) (sym x) ∙ p.written e in
    let z : n ≤ length part =
    omega (arith, x, length-take n part, ap length y, length-map (rows_of rows n) (record_at c q (rows_of rows n))) in
    ap (λ (m : ℕ). take (m + n) (put_mid at k out part)) (sym (length-take-le at out a)) ∙ take-append-add (spans_of out at) (part ++ drop k (drop at out)) n
    ∙ ap (λ (l : List Span). spans_of out at ++ l) (take-append-le n part (drop k (drop at out)) z ∙ y)
