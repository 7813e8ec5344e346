-- Placing across: groups are marked, and what is marked is placed.
use Prim.Native.Nat.{ℕ, suc, ◌+◌, ◌-◌, ◌≤◌, ◌<◌}
use mathlib.Core.Path.{◌≡◌, refl, sym, ◌∙◌, ap, subst}
use mathlib.Core.Bool.{Bool, true, false}
use mathlib.Core.List.{List}
use native.Mathlib.Omega.{arith}
use lib.Dec.{ltb, eqb}
use lib.ListN.{length, get_or}
use Rattle.std.specs.Prelude.{Option, Some, None, Result, Ok, Err}
use Rattle.std.specs.Option.{option_or}
use borrow.Author.Tests.{ltb-false, eqb-true, eqb-false}
use Rattle.base.specs.Pick.{pick}
use Rattle.refusal.specs.declared.Refusal.{Refusal}
use Rattle.layout.specs.declared.Rect.{Rect}
use Rattle.layout.specs.declared.Span.{Span}
use Rattle.layout.specs.declared.Fault.{Fault}
use Rattle.rows.specs.declared.Row.{Row}
use Rattle.rows.specs.Rows.{row_at, link_at, mark_at, MarkPut}
use Rattle.rows.proofs.Laws.{mark_put, mark_stays, links_stay}
use Rattle.sums.specs.declared.Sums.{Sums}
use Rattle.sums.specs.Sums.{same_row, sums, none_yet, SumsOf}
use Rattle.sums.specs.Chain.{Walk}
use Rattle.sums.specs.Table.{upto}
use Rattle.sums.proofs.Groups.{Alike, alike_all}
use Rattle.sums.proofs.Chain.{walk_start, walk_less, walk_on}
use Rattle.place.specs.declared.shared.Pass.{Pass}
use Rattle.place.specs.Placed.{across_fault, across_at, fault_end, Crossed}
use Rattle.place.specs.Groups.{sums_at, Marked, MarkAsked, Ready, CrossedTo, GroupAsked, OthersAsked, GroupPlaced, PlacedAcross}

-- ---- marks

module _ {p : Pass} where
  -- the same mark elsewhere
  pub marked_as : {out out' : List Span} {j : ℕ} → mark_at out j ≡ mark_at out' j → Marked p out j → Marked p out' j
  marked_as e m = record { some = rw (← e) m.some; is = rw (← e) m.is }

  pub crossed_same : {out : List Span} → Ready p out → CrossedTo p out out
  crossed_same h = record { ready = h; grown = λ j k. k }

  pub crossed_then : {a b d : List Span} → CrossedTo p a b → CrossedTo p b d → CrossedTo p a d
  crossed_then x y = record { ready = y.ready; grown = λ j k. y.grown j (x.grown j k) }

  -- row j, which stands at x, is marked
  module _ {out : List Span} (h : Ready p out) {j : ℕ} (low : j < length p.rows.now) {x : ℕ} (k : Crossed p.config p.rect (row_at p.rows.now j) (sums_at p j) x)
      {out' : List Span} (u : MarkPut out j (x + 1) out') where
    room : j < length out
    room = omega (arith, h.chained.asked.room)

    own_mark : Marked p out' j
    own_mark =
        let e : x + 1 - 1 ≡ x = omega arith in
        record { some = omega (arith, mark_put u room); is = rw (mark_put u room, e) k }

    told : (i : ℕ) → i < length p.rows.now → 0 < mark_at out' i → Marked p out' i
    told i l m = step (eqb i j) refl
      where
        step : (t : Bool) → eqb i j ≡ t → Marked p out' i
        step true e = rw (eqb-true i j e) own_mark
        step false e =
            let s : mark_at out' i ≡ mark_at out i = mark_stays u room i (eqb-false i j e) in
            marked_as (sym s) (h.told i l (rw s at m))

    grown : (i : ℕ) → 0 < mark_at out i → 0 < mark_at out' i
    grown i m = step (eqb i j) refl
      where
        step : (t : Bool) → eqb i j ≡ t → 0 < mark_at out' i
        step true e = rw (eqb-true i j e) own_mark.some
        step false e = rw (mark_stays u room i (eqb-false i j e)) m

    pub crossed_mark : CrossedTo p out out'
    crossed_mark =
        record {
          ready =
              record {
                chained =
                    record {
                      asked = record { few = h.chained.asked.few; room = omega (arith, h.chained.asked.room, u.room) };
                      linked =
                          record {
                            size = h.chained.linked.size;
                            firsts = h.chained.linked.firsts;
                            nexts = λ m l. links_stay u room (length p.rows.now - suc m) ∙ h.chained.linked.nexts m l;
                          };
                    };
                told = told;
              };
          grown = grown;
        }

-- ---- `mark_group`: the rows of the group before the last k are marked, and sum is what stands before number s

pub record Marking (p : Pass) (out₀ : List Span) (r : Row) (total : ℕ) (table : List ℕ) (out : List Span) (s sum k : ℕ) : Type 0 where
  pub asked : GroupAsked p out r total table
  pub to : CrossedTo p out₀ out
  pub walk : Walk p.rows.now r k
  pub reached : sum ≡ upto table s

pub mark_start : {p : Pass} {out : List Span} {r : Row} {total : ℕ} {table : List ℕ} → GroupAsked p out r total table → r.line < 256 → {k : ℕ}
    → k ≡ get_or p.heads.now r.line 0 → Marking p out r total table out 0 (get_or table 0 0) k
mark_start {r = r} a h e = record { asked = a; to = crossed_same a.ready; walk = walk_start a.ready.chained r h e; reached = refl }

module _ {p : Pass} {out₀ : List Span} {r : Row} {total : ℕ} {table : List ℕ} {out : List Span} {s sum k : ℕ}
    (z : Marking p out₀ r total table out s sum k) (more : 0 < k) {k' : ℕ} (ek : k' ≡ link_at out (length p.rows.now - k)) where
  pub mark_less : k' < k
  mark_less = walk_less z.asked.ready.chained z.walk more ek

  pub mark_skip : Marking p out₀ r total table out s sum k'
  mark_skip = record { asked = z.asked; to = z.to; walk = walk_on z.asked.ready.chained z.walk more ek; reached = z.reached }

  -- the row is of the group; s' is its number
  module _ {b : Bool} (eb : b ≡ same_row r (row_at p.rows.now (length p.rows.now - k))) (yes : b ≡ true) {s' : ℕ}
      (es : s' ≡ (row_at p.rows.now (length p.rows.now - k)).span) where
    e : Row
    e = row_at p.rows.now (length p.rows.now - k)

    own_sums : Sums
    own_sums = sums e none_yet p.rows.now

    alike : Alike (sums r none_yet p.rows.now) own_sums
    unfolding own_sums e
    alike = alike_all r e (sym eb ∙ yes) p.rows.now

    before_is : own_sums.before ≡ upto table s'
    unfolding own_sums e
    before_is = z.asked.tabled.tells e (sym eb ∙ yes) ∙ ap (upto table) (sym es)

    total_is : total ≡ own_sums.before + own_sums.after
    unfolding own_sums e
    total_is = z.asked.is ∙ alike.total

    wide : total ≤ 4096
    wide =
        let w : p.rect.left + p.rect.width ≤ 4096 = p.across in
        omega (arith, z.asked.wide)

    pub mark_reach : upto table s' ≤ 17592186044416
    mark_reach = omega (arith, before_is, total_is, wide)

    module _ {sum' : ℕ} (er : sum' ≡ upto table s') where
      pub mark_within : sum' ≤ total
      mark_within = omega (arith, before_is, total_is)

      pub mark_asks : MarkAsked p out (length p.rows.now - k) sum' (total - sum')
      mark_asks =
          let l : k ≤ length p.rows.now = z.walk.within in
          record {
            low = omega arith;
            room = z.asked.ready.chained.asked.room;
            wide = omega (arith, mark_within, z.asked.wide);
          }

      row_crossed : Crossed p.config p.rect e own_sums (across_at p.config p.rect e sum' (total - sum'))
      row_crossed =
          let x : sum' ≡ own_sums.before = er ∙ sym before_is in
          let y : total - sum' ≡ own_sums.after = omega (arith, total_is) in
          record {
            fine = sym alike.fault ∙ z.asked.fine;
            wide = omega (arith, total_is, z.asked.wide);
            is = ap (λ (a : ℕ). across_at p.config p.rect e a (total - sum')) x ∙ ap (across_at p.config p.rect e own_sums.before) y;
          }

      pub mark_on : {out' : List Span}
          → MarkPut out (length p.rows.now - k)
          (across_at p.config p.rect (row_at p.rows.now (length p.rows.now - k)) sum' (total - sum') + 1) out'
          → Marking p out₀ r total table out' s' sum' k'
      unfolding own_sums e
      mark_on {out'} u =
          let l : k ≤ length p.rows.now = z.walk.within in
          let v : CrossedTo p out out' = crossed_mark z.asked.ready (omega arith) row_crossed u in
          record {
            asked = record { ready = v.ready; fine = z.asked.fine; is = z.asked.is; wide = z.asked.wide; tabled = z.asked.tabled };
            to = crossed_then z.to v;
            walk = walk_on z.asked.ready.chained z.walk more ek;
            reached = er;
          }

-- ---- `mark_others`

-- ---- `place_group`

-- a group that ends well has no fault and fits
across_fits : (q : Rect) (r : Row) (o : Sums) → fault_end r (across_fault q o) ≡ Ok tt → (o.fault ≡ None) × (o.before + o.after ≤ q.width)
across_fits q r o h = step o.fault (ltb q.width (o.before + o.after)) refl refl h
  where
    step : (f : Option Fault) (u : Bool) → o.fault ≡ f → ltb q.width (o.before + o.after) ≡ u
        → fault_end r (option_or f (pick u (Some (record { number = 13; detail = 0 })) None)) ≡ Ok tt
        → (o.fault ≡ None) × (o.before + o.after ≤ q.width)
    step None true k l g = cc
    step None false k l g = (k, ltb-false q.width (o.before + o.after) l)
    step (Some f) u k l g = cc

-- o are the sums of row i
module _ {p : Pass} {out : List Span} {i : ℕ} (h : Ready p out × (i < length p.rows.now)) where
  module _ {o : Sums} (so : SumsOf p.rows.now (row_at p.rows.now i) o) {e : Result (Unit {0}) Refusal}
      (ee : e ≡ fault_end (row_at p.rows.now i) (across_fault p.rect o)) where
    module _ (fine : e ≡ Ok tt) where
      fits : (o.fault ≡ None) × (o.before + o.after ≤ p.rect.width)
      fits = across_fits p.rect (row_at p.rows.now i) o (sym ee ∙ fine)

      first_crossed : Crossed p.config p.rect (row_at p.rows.now i) (sums_at p i) (across_at p.config p.rect (row_at p.rows.now i) o.before o.after)
      first_crossed =
          subst (λ (x : Sums). Crossed p.config p.rect (row_at p.rows.now i) x (across_at p.config p.rect (row_at p.rows.now i) o.before o.after)) so.is
          (record { fine = fits.0; wide = fits.1; is = refl })

      module _ {out₁ : List Span} (u : MarkPut out i (across_at p.config p.rect (row_at p.rows.now i) o.before o.after + 1) out₁) where
        pub others_asks : OthersAsked p out₁ (row_at p.rows.now i) o
        others_asks = record { ready = (crossed_mark h.0 h.1 first_crossed u).ready; sums = so; fine = fits.0; wide = fits.1 }

-- ---- `place_across`: the first i rows are placed across

pub record Crossing (p : Pass) (out : List Span) (i : ℕ) : Type 0 where
  pub ready : Ready p out
  pub done : (j : ℕ) → j < i → 0 < mark_at out j

module _ {p : Pass} {out : List Span} {i : ℕ} (z : Crossing p out i) where
  pub cross_end : i ≡ length p.rows.now → PlacedAcross p out (record { count = length p.rows.now; end = Ok tt })
  cross_end h =
      record {
        few = omega arith;
        room = z.ready.chained.asked.room;
        marked = λ j k. z.ready.told j k (z.done j (omega arith));
        all = λ _. refl;
        stop = λ f g. cc;
      }

  module _ (more : i < length p.rows.now) {out' : List Span} {e : Result (Unit {0}) Refusal} (g : GroupPlaced p out i out' e) where
    pub cross_stop : {f : Refusal} → e ≡ Err f → PlacedAcross p out' (record { count = i; end = Err f })
    cross_stop {f} d =
        record {
          few = omega arith;
          room = g.to.ready.chained.asked.room;
          marked = λ j k. g.to.ready.told j (omega arith) (g.to.grown j (z.done j k));
          all = λ x. cc;
          stop = λ x y. (more, sym d ∙ g.bad f d);
        }
