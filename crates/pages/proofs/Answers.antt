-- The answers, one after the other.
use Prim.Native.Nat.{ℕ, zero, suc, ◌+◌, ◌*◌, ◌≤◌}
use mathlib.Core.Path.{◌≡◌, refl, sym, ◌∙◌, ap, subst}
use mathlib.Core.Bool.{Bool, true, false}
use mathlib.Core.List.{List, [], ◌∷◌}
use Rattle.std.specs.Prelude.{Result, Ok, Err, IfOk, Option, Some, None}
use native.Mathlib.Omega.{arith}
use borrow.Author.Tests.{lt-ltb}
use lib.Dec.{ltb}
use Rattle.token.specs.Token.{slices}
use Rattle.base.specs.Pick.{pick}
use Rattle.refusal.specs.declared.Refusal.{Refusal}
use Rattle.records.specs.declared.Config.{Config}
use Rattle.layout.specs.declared.RenderState.{RenderState}
use Rattle.layout.specs.Types.{Item, items, Board}
use Rattle.layout.specs.Read.{scan, stop_if, read, opening, events}
use Rattle.layout.specs.Listing.{Page, on, refused as refused_page, offs, walk, pages}
use Rattle.layout.specs.declared.Scan.{Scan}
use Rattle.page.specs.declared.PageState.{PageState}
use Rattle.page.specs.State.{new_page as new_state, done_after}
use Rattle.page.specs.Scan.{items_from}
use Rattle.rows.specs.Rows.{spans_of}
use Rattle.layout.specs.declared.Span.{Span}
use Rattle.rows.specs.declared.Row.{Row}
use Rattle.meter.specs.declared.call.Call.{Call}
use Rattle.pass.specs.Pass.{items_in}
use Rattle.pages.specs.declared.PageDone.{PageDone}
use Rattle.pages.specs.declared.Pages.{Pages}
use Rattle.pages.specs.declared.PageShown.TheVariants.{On}
use Rattle.pages.specs.Pages.{board_of, run, turned, page_told, PageInMessage, PageRendered, pages_at, state_after, first_of, todo, InMessage, weight, NextAsked, OnRead}
use Rattle.pages.proofs.Laws.{whole_inside}

-- ---- an on page

pub fault_none : (o : Option Refusal) → ((x : Refusal) → o ≡ Some x → ⊥) → o ≡ None
fault_none None h = refl
fault_none (Some x) h = absurd (h x refl)

-- q is the answer of the scan
module _ (s : Board) (its : List Item) (a b : ℕ) (st : RenderState) {q : Scan} (e : q ≡ scan s.config a b its) where
  -- layout's answers, by a scan and its fault
  by_fault : Scan → Option Refusal → List Page
  by_fault c o = walk s (stop_if o (read s.config its c.on c.off st true [])) c.on c.off [] 0

  scanned : turned s its a b st ≡ by_fault q q.fault
  unfolding turned by_fault
  scanned = ap (λ (c : Scan). by_fault c c.fault) (sym e)

  on_refused : {x : Refusal} → q.fault ≡ Some x → turned s its a b st ≡ refused_page x ∷ []
  unfolding by_fault
  on_refused h = scanned ∙ ap (by_fault q) h

  on_run : q.fault ≡ None → turned s its a b st ≡ run s its q.on q.off st [] 0
  unfolding by_fault run
  on_run h = scanned ∙ ap (by_fault q) h

-- what follows a page
new_todo : (s : Board) (msg : List ℕ) (at : ℕ) (st : RenderState) (a b : ℕ)
    → offs b (turned s (items_from s.config at msg) a b st) ≡ todo s msg (pages_at at st a b (new_state (ltb 0 b)))
new_todo s msg at st a zero = refl
new_todo s msg at st a (suc b) = rw (lt-ltb 0 (suc b) (omega arith))

done_todo : (s : Board) (msg : List ℕ) (at : ℕ) (st : RenderState) (a b : ℕ) → offs b [] ≡ todo s msg (pages_at at st a b (done_after (ltb 0 b)))
done_todo s msg at st a zero = refl
done_todo s msg at st a (suc b) = rw (lt-ltb 0 (suc b) (omega arith))

after_todo : (s : Board) (msg : List ℕ) (at : ℕ) (st : RenderState) (a b : ℕ) (m : Bool)
    → offs b (pick m (turned s (items_from s.config at msg) a b st) []) ≡ todo s msg (pages_at at st a b (state_after m b))
after_todo s msg at st a b true = new_todo s msg at st a b
after_todo s msg at st a b false = done_todo s msg at st a b

new_weight : (t : Bool) → weight (new_state t) ≤ 3
new_weight true = omega arith
new_weight false = omega arith

done_weight : (t : Bool) → weight (done_after t) ≤ 1
done_weight true = omega arith
done_weight false = omega arith

after_weight : (m : Bool) (b : ℕ) → weight (state_after m b) ≤ 2 * pick m 1 0 + 1
after_weight true b = new_weight (ltb 0 b)
after_weight false b = done_weight (ltb 0 b)

module _ {call : Call} {p : Pages} {rows : List Row} {out : List Span} (asked : NextAsked call p rows out)
    {q : Scan} (e : q ≡ scan call.table.config p.times.on p.times.off (items_in call p.at)) where
  abbrev s : Board
  s = board_of call

  abbrev its : List Item
  its = items_in call p.at

  pub on_stop : {x : Refusal} → q.fault ≡ Some x → OnRead call p rows out p rows out (Err x)
  on_stop h = record { ends = on_refused s its p.times.on p.times.off p.render_state e h; next = tt; stays = refl; rowed = refl; room = refl }

  -- a page ended so
  module _ {rows' : List Row} {out' : List Span} {v : Result PageDone Refusal} (h : q.fault ≡ None)
      (t : PageRendered call p.at p.render_state rows out rows' out' v) where
    tells : {u : Result PageDone Refusal} → v ≡ u → turned s its p.times.on p.times.off p.render_state ≡ page_told s call.msg.now q.on q.off out' u
    tells g = on_run s its p.times.on p.times.off p.render_state e h ∙ t.ends q.on q.off ∙ ap (page_told s call.msg.now q.on q.off out') g

    pub on_refuse : {x : Refusal} → v ≡ Err x → OnRead call p rows out p rows' out' (Err x)
    on_refuse g = record { ends = tells g; next = tt; stays = refl; rowed = t.rowed; room = t.room }

    pub on_page : {d : PageDone} {x : PageState} → v ≡ Ok d → x ≡ state_after d.more q.off
        → OnRead call p rows out (pages_at d.reached.at d.reached.state q.on q.off x) rows' out'
        (Ok (On q.on d.reached.count d.reached.looked))
    on_page {d} g k =
        let f : PageInMessage call out' p.at d =
        subst (λ (r : Result PageDone Refusal). IfOk r (PageInMessage call out' p.at)) g t.done in
        record {
          ends =
              tells g
              ∙ ap (λ (x : List Page). on q.on (spans_of out' d.reached.count) ∷ x)
              (after_todo s call.msg.now d.reached.at d.reached.state q.on q.off d.more
              ∙ ap (λ (x : PageState). todo s call.msg.now (pages_at d.reached.at d.reached.state q.on q.off x)) (sym k));
          next =
              record {
                stands = record { within = f.within; inside = f.inside };
                less = rw k (omega (arith, after_weight d.more q.off, f.forward));
                few = f.few;
                looked = f.looked;
                short = f.short;
              };
          stays = tt;
          rowed = t.rowed;
          room = t.room;
        }

-- ---- before the first answer

pub pages_todo : (s : Board) (msg : List ℕ) → pages s (items s.config msg) ≡ todo s msg (first_of s.config)
unfolding pages events opening turned items items_from slices
pages_todo s msg = refl

pub first_in_law : (c : Config) (all : ℕ) → InMessage c all (first_of c)
first_in_law c all = record { within = omega arith; inside = record { rect = whole_inside c; justs = λ j. j } }
