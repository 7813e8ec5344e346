-- A page, pass by pass.
use Prim.Native.Nat.{ℕ, suc, ◌+◌, ◌≤◌, ◌<◌}
use mathlib.Core.Path.{◌≡◌, refl, sym, ◌∙◌, ap, subst}
use mathlib.Core.Bool.{Bool, true, false}
use Rattle.std.specs.Prelude.{Option, Some, None, Result, Ok, Err, IfOk}
use mathlib.Core.List.{List, [], ◌∷◌, ◌++◌}
use native.Mathlib.Omega.{arith}
use native.Mathlib.Numerals.{add-one}
use lib.Dec.{ltb}
use lib.ListN.{length}
use borrow.Author.Tests.{lt-ltb, le-ltb}
use Rattle.base.specs.Pick.{pick}
use Rattle.refusal.specs.declared.Refusal.{Refusal}
use Rattle.records.specs.declared.Config.{Config}
use Rattle.layout.specs.declared.RenderState.{RenderState}
use Rattle.layout.specs.declared.Entry.{Entry}
use Rattle.layout.specs.declared.Span.{Span}
use Rattle.layout.specs.Types.{Item, Board}
use Rattle.refusal.specs.Refusals.{refusal}
use Rattle.layout.specs.Read.{Event, new_page, whole}
use Rattle.layout.specs.Placing.{or_else, unless, pass_fault, pass_records}
use Rattle.layout.specs.Listing.{Page, on, refused as refused_page, offs, stop_at, walk}
use Rattle.rows.specs.Rows.{spans_of}
use Rattle.pass.specs.declared.How.{How}
use Rattle.pass.specs.declared.How.TheVariants.{Cut as ByCut, Turn as ByTurn, End as ByEnd}
use Rattle.pass.specs.declared.PassDone.{PassDone}
use Rattle.pass.specs.declared.Reached.{Reached}
use Rattle.pass.specs.Pass.{Ending, refused, ended, entries_of, ending_of, events_after, events_by, start_at, told, items_in, entries_from, Inside, InSign, tag_bytes}
use Rattle.pass.proofs.Read.{read_pass}
use Rattle.rows.specs.declared.Row.{Row}
use Rattle.meter.specs.declared.call.Call.{Call}
use Rattle.pages.specs.declared.PageDone.{PageDone}
use Rattle.pages.specs.Pages.{board_of, Ready, looked_for, RenderAsked, stop_by, placed_ending, SpansPlaced, PassRendered, run, turned, page_done, page_told, PageRendered}

-- ---- layout's answers, by a pass's ending

-- 15
abbrev full : ℕ → Option Refusal
full n = unless (ltb n 50) (refusal 15 0 0 0)

-- what follows a pass that is placed, without 15; rs are the page's records with its own
abbrev onward : Board → ℕ → ℕ → ℕ → List Span → How → RenderState → List Item → List Page
onward s a b n rs ByCut st its = run s its a b st rs (suc n)
onward s a b n rs ByTurn st its = on a rs ∷ offs b (turned s its a b (new_page s.config st))
onward s a b n rs ByEnd st its = on a rs ∷ offs b []

abbrev run_by : Board → ℕ → ℕ → ℕ → List Span → List Entry → Ending → List Page
run_by s a b n rs es (refused r) = refused_page r ∷ []
run_by s a b n rs es (ended h r st its) = stop_at (full n) (onward s a b n (rs ++ pass_records s r es) h st its)

module _ (s : Board) (a b n : ℕ) (rs : List Span) (es : List Entry) where
  by_fault : (o : Option Refusal) (l : List Page) (e : Ending) → run_by s a b n rs es e ≡ stop_at (full n) l
      → stop_at (or_else o (full n)) l ≡ run_by s a b n rs es (stop_by o e)
  unfolding or_else
  by_fault None l e q = sym q
  by_fault (Some r) l e q = refl

  by_how : (l : List Span) (h : How) (st : RenderState) (its : List Item)
      → walk s (events_after s.config a b h st its) a b l (suc n) ≡ onward s a b n l h st its
  unfolding run turned
  by_how l ByCut st its = refl
  by_how l ByTurn st its = refl
  by_how l ByEnd st its = refl

  by_ending : (e : Ending) → walk s (events_by s.config a b es e) a b rs n ≡ run_by s a b n rs es (placed_ending s es e)
  by_ending (refused r) = refl
  by_ending (ended h r st its) = by_fault (pass_fault s r es) _ (ended h r st its) (ap (stop_at (full n)) (sym (by_how (rs ++ pass_records s r es) h st its)))

module _ (s : Board) (its : List Item) (a b : ℕ) (st : RenderState) (rs : List Span) (n : ℕ) where
  abbrev spans : List Entry
  spans = entries_of s.config its st true

  abbrev end : Ending
  end = ending_of s.config its st true

  run_pass : run s its a b st rs n ≡ run_by s a b n rs spans (placed_ending s spans end)
  unfolding run
  run_pass = ap (λ (l : List Event). walk s l a b rs n) (read_pass s.config a b its st) ∙ by_ending s a b n rs spans end

-- ---- the loop over the passes of a page

-- where the loop stands: first is the state it began with, rows₀ and out₀ the slices
pub record Stands (call : Call) (from : ℕ) (first : RenderState) (rows₀ : List Row) (out₀ : List Span) (rows : List Row) (out : List Span)
    (p : Reached) (k : ℕ) : Type 0 where
  pub ready : Ready call rows₀ out₀
  pub counted : p.count ≤ p.at
  pub summed : p.looked ≡ looked_for call.file.now call.msg.now out p.count
  pub few : p.looked ≤ p.at
  pub begun : from ≤ p.at
  pub within : p.at ≤ length call.msg.now
  pub inside : InSign call.table.config p.state
  pub rowed : length rows ≡ length rows₀
  pub room : length out ≡ length out₀
  pub same : (a b : ℕ)
      → run (board_of call) (items_in call p.at) a b p.state (spans_of out p.count) k
      ≡ run (board_of call) (items_in call from) a b first [] 0

pub page_start : {call : Call} {from : ℕ} {first : RenderState} {rows : List Row} {out : List Span} {p : Reached}
    → RenderAsked call rows out (start_at from first) → p ≡ start_at from first → Stands call from first rows out rows out p 0
page_start {call} {from} {first} {rows} {out} h e =
    subst (λ (p : Reached). Stands call from first rows out rows out p 0) (sym e)
    (record {
      ready = h.ready;
      counted = omega arith;
      summed = refl;
      few = omega arith;
      begun = omega arith;
      within = h.within;
      inside = h.inside;
      rowed = refl;
      room = refl;
      same = λ a b. refl;
    })

pub whole_inside : (c : Config) → Inside c (whole c)
whole_inside c = record { across = omega arith; down = omega arith }

module _ {call : Call} {from : ℕ} {first : RenderState} {rows₀ : List Row} {out₀ : List Span} {rows : List Row} {out : List Span}
    {p : Reached} {k : ℕ} (z : Stands call from first rows₀ out₀ rows out p k) where
  pub page_asks : RenderAsked call rows out p
  page_asks =
      record {
        ready = record { rowed = omega (arith, z.ready.rowed); room = omega (arith, z.ready.room) };
        within = z.within;
        counted = z.counted;
        looked = z.summed;
        few = z.few;
        inside = z.inside;
      }

  abbrev s : Board
  s = board_of call

  abbrev es : List Entry
  es = entries_from call p.at p.state true

  -- the whole page
  abbrev whole_run : ℕ → ℕ → List Page
  whole_run a b = run s (items_in call from) a b first [] 0

  -- a pass was read and placed: t is its end
  module _ {rows' : List Row} {out' : List Span} {t : Result PassDone Refusal} (g : PassRendered call p rows out rows' out' t) where
    -- a page that ended so
    abbrev Ends : Result PageDone Refusal → Type 0
    Ends = PageRendered call from first rows₀ out₀ rows' out'

    pub page_rowed : length rows' ≡ length rows₀
    page_rowed = g.rowed ∙ z.rowed

    pub page_room : length out' ≡ length out₀
    page_room = g.room ∙ z.room

    came : (a b : ℕ) {u : Result PassDone Refusal} → t ≡ u → run_by s a b k (spans_of out p.count) es (told s.config call.msg.now u) ≡ whole_run a b
    came a b q =
        ap (λ (x : Result PassDone Refusal). run_by s a b k (spans_of out p.count) es (told s.config call.msg.now x)) (sym q)
        ∙ ap (run_by s a b k (spans_of out p.count) es) g.ends
        ∙ sym (run_pass s (items_in call p.at) a b p.state (spans_of out p.count) k)
        ∙ z.same a b

    pub page_refuse : {x : Refusal} → t ≡ Err x → Ends (Err x)
    page_refuse q = record { ends = λ a b. sym (came a b q); done = tt; rowed = page_rowed; room = page_room }

    -- it is done, by h, and not the 51st
    module _ {d : PassDone} (q : t ≡ Ok d) {h : How} (e : d.how ≡ h) (few : k < 50) where
      placed : SpansPlaced call p out out' d
      placed = subst (λ (r : Result PassDone Refusal). IfOk r (SpansPlaced call p out out')) q g.done

      not_full : full k ≡ None
      unfolding unless
      not_full = rw (lt-ltb k 50 few)

      -- what follows it, with the records rs
      abbrev next : List Span → How → ℕ → ℕ → List Page
      next rs u a b = onward s a b k rs u d.reached.state (items_in call d.reached.at)

      here : (a b : ℕ) → next (spans_of out' d.reached.count) h a b ≡ whole_run a b
      here a b =
          ap (λ (u : How). next (spans_of out' d.reached.count) u a b) (sym e) ∙ ap (λ (rs : List Span). next rs d.how a b) placed.written
          ∙ sym (ap (λ (o : Option Refusal). stop_at o (next (spans_of out p.count ++ pass_records s d.rect es) d.how a b)) not_full) ∙ came a b q

      forth : p.at + tag_bytes h ≤ d.reached.at
      forth = subst (λ (u : How). p.at + tag_bytes u ≤ d.reached.at) e placed.forward

      finish : {m : Bool} {v : PageDone} → ((a b : ℕ) → whole_run a b ≡ page_told s call.msg.now a b out' (Ok (page_done s.config m d.reached)))
          → pick m 1 0 ≤ tag_bytes h → v ≡ page_done s.config m d.reached → Ends (Ok v)
      finish f l w =
          subst (λ (x : PageDone). Ends (Ok x)) (sym w)
          (record {
            ends = f;
            done =
                record {
                  few = omega (arith, placed.counted, placed.within);
                  looked = placed.looked;
                  short = omega (arith, placed.few, placed.within);
                  forward = omega (arith, forth, z.begun, l);
                  within = placed.within;
                  inside = record { rect = whole_inside call.table.config; justs = placed.inside.justs };
                };
            rowed = page_rowed;
            room = page_room;
          })

      on_cut : h ≡ ByCut → Stands call from first rows₀ out₀ rows' out' d.reached (k + 1)
      on_cut i =
          record {
            ready = z.ready;
            counted = placed.counted;
            summed = placed.looked;
            few = placed.few;
            begun = omega (arith, forth, z.begun);
            within = placed.within;
            inside = placed.inside;
            rowed = page_rowed;
            room = page_room;
            same = λ a b.
                ap (run s (items_in call d.reached.at) a b d.reached.state (spans_of out' d.reached.count)) (add-one k)
                ∙ ap (λ (u : How). next (spans_of out' d.reached.count) u a b) (sym i) ∙ here a b;
          }

    pub page_cut : {d : PassDone} → t ≡ Ok d → d.how ≡ ByCut → k < 50 → Stands call from first rows₀ out₀ rows' out' d.reached (k + 1)
    page_cut q e h = on_cut q e h refl

    pub page_turn : {d : PassDone} {v : PageDone} → t ≡ Ok d → d.how ≡ ByTurn → k < 50 → v ≡ page_done call.table.config true d.reached → Ends (Ok v)
    page_turn q e h w = finish q e h (λ a b. sym (here q e h a b)) (omega arith) w

    pub page_end : {d : PassDone} {v : PageDone} → t ≡ Ok d → d.how ≡ ByEnd → k < 50 → v ≡ page_done call.table.config false d.reached → Ends (Ok v)
    page_end q e h w = finish q e h (λ a b. sym (here q e h a b)) (omega arith) w

    -- the 51st
    is_full : 50 ≤ k → full k ≡ Some (refusal 15 0 0 0)
    unfolding unless
    is_full h = rw (le-ltb k 50 h)

    stopped : 50 ≤ k → (l : List Page) → stop_at (full k) l ≡ refused_page (refusal 15 0 0 0) ∷ []
    stopped h l = ap (λ (o : Option Refusal). stop_at o l) (is_full h)

    pub page_last : {d : PassDone} {x : Refusal} → 50 ≤ k → t ≡ Ok d → x ≡ refusal 15 0 0 0 → Ends (Err x)
    page_last h q w =
        subst (λ (x : Refusal). Ends (Err x)) (sym w)
        (record {
          ends = λ a b. sym (came a b q) ∙ stopped h _;
          done = tt;
          rowed = page_rowed;
          room = page_room;
        })
