-- What a call writes fits the lent slice: a page has at most 1,400 records. A refusal changes none.
use Prim.Native.Nat.{ℕ, zero, suc, ◌+◌, ◌≤◌}
use native.Mathlib.Omega.{arith}
use mathlib.Core.Path.{◌≡◌, refl, ap}
use Rattle.std.specs.Prelude.{Option, Some, None}
use mathlib.Core.List.{List, [], ◌∷◌, ◌++◌}
use lib.ListN.{length, drop, length-append, length-drop}
use Rattle.std.proofs.lemmas.List.{length-map}
use Rattle.admit.specs.Admission.{admission}
use Rattle.admit.proofs.Laws.{admits}
use Rattle.refusal.specs.declared.Refusal.{Refusal}
use Rattle.layout.specs.declared.Span.{Span}
use Rattle.layout.specs.declared.Answer.TheVariants.{On, Refused}
use Rattle.layout.specs.declared.Rect.{Rect}
use Rattle.layout.specs.declared.RenderState.{RenderState}
use Rattle.layout.specs.declared.Entry.{Entry}
use Rattle.records.specs.declared.Config.{Config}
use Rattle.layout.specs.Types.{Item, items, Board}
use Rattle.layout.specs.Fonts.{board_of}
use Rattle.layout.specs.Placing.{pass_records, record_of}
use Rattle.layout.specs.declared.Scan.{Scan}
use Rattle.layout.specs.Read.{Event, pass, close, stop, opening, events}
use Rattle.layout.specs.Listing.{Page, on, off, refused, stop_at, offs, pass_stop, walk, pages, Result, numbered, result_on, result, listing, after}
use Rattle.layout.proofs.Cover.{ReadAs, ends, refuses, goes, emits, cuts, turns, fails, EventsAs, refused_at_once, begun, events_as, entries}
use Rattle.layout.proofs.Checks.{any_result}
use Rattle.layout.proofs.Items.{okays, reads_okay, items_honest, items_few}

-- ---- the spans of a message

read_few : {s : Config} {its : List Item} {st : RenderState} {acc : List Entry} {l : List Event} → ReadAs s its st acc l
    → length (entries l) ≤ length acc + okays its
read_few (ends {acc = acc}) = omega (arith, length-append acc [])
read_few (refuses f) = omega arith
read_few (goes f q r) = omega (arith, read_few r)
read_few (emits {it = it} {acc = acc} {e = e} f q o r) = omega (arith, read_few r, length-append acc (e ∷ []), reads_okay it.says f.reads)
read_few (cuts {acc = acc} {l = l} f q r) = omega (arith, read_few r, length-append acc (entries l))
read_few (turns {acc = acc} {l = l} f q r) = omega (arith, read_few r, length-append acc (entries l))
read_few (fails {acc = acc} f q x y e) = omega (arith, length-append acc [])

events_few : {s : Config} {its : List Item} {l : List Event} → EventsAs s its l → length (entries l) ≤ okays its
events_few (refused_at_once a b e) = omega arith
events_few (begun r) = omega (arith, read_few r)

-- ---- the records of a page

-- each page has at most so many
abbrev Small : ℕ → List Page → Type 0
Small top [] = Unit {0}
Small top (on d rs ∷ l) = (length rs ≤ top) × Small top l
Small top (off d ∷ l) = Small top l
Small top (refused r ∷ l) = Small top l

small_offs : (top n : ℕ) (l : List Page) → Small top l → Small top (offs n l)
small_offs top zero l h = h
small_offs top (suc n) l h = h

small_stop : (top : ℕ) (f : Option Refusal) (l : List Page) → Small top l → Small top (stop_at f l)
small_stop top None l h = h
small_stop top (Some r) l h = tt

pass_length : (s : Board) (r : Rect) (es : List Entry) → length (pass_records s r es) ≡ length es
unfolding pass_records
pass_length s r es = length-map es (record_of s r es)

walk_small : (top : ℕ) (s : Board) (evs : List Event) (a b : ℕ) (rs : List Span) (n : ℕ) → length rs + length (entries evs) ≤ top
    → Small top (walk s evs a b rs n)
walk_small top s [] a b rs n h = (omega arith, small_offs top b [] tt)
walk_small top s (pass r es ∷ evs) a b rs n h =
    small_stop top (pass_stop s n r es) _
    (walk_small top s evs a b (rs ++ pass_records s r es) (suc n)
    (omega (arith, length-append rs (pass_records s r es), pass_length s r es, length-append es (entries evs))))
walk_small top s (close p q ∷ evs) a b rs n h = (omega arith, small_offs top b _ (walk_small top s evs p q [] 0 (omega arith)))
walk_small top s (stop r ∷ evs) a b rs n h = tt

numbered_small : (top c : ℕ) (l : List Page) (n : ℕ) → Small top l → length (numbered c l n).written ≤ top
numbered_small top c [] n h = omega arith
numbered_small top c (on d rs ∷ l) zero h = h.0
numbered_small top c (off d ∷ l) zero h = omega arith
numbered_small top c (refused r ∷ l) zero h = omega arith
numbered_small top c (on d rs ∷ l) (suc n) h = numbered_small top (suc c) l n h.1
numbered_small top c (off d ∷ l) (suc n) h = numbered_small top (suc c) l n h
numbered_small top c (refused r ∷ l) (suc n) h = omega arith

-- "records always fit": a page has at most 1,400
pub pages_small : (msg : List ℕ) (s : Board) → length msg ≤ 2048 → (n : ℕ) → length (numbered 0 (pages s (items s.config msg)) n).written ≤ 1400
unfolding pages
pages_small msg s h n =
    let o : Scan = opening s.config (items s.config msg) in
    numbered_small 1400 0 (pages s (items s.config msg)) n
    (walk_small 1400 s (events s.config (items s.config msg)) o.on o.off [] 0
    (omega (arith, events_few (events_as s.config (items s.config msg) (items_honest s.config msg)), items_few s.config msg)))

-- ---- the slice after a call

module _ (file msg : List ℕ) (n room : ℕ) where
  written_small : length (result_on (admission file msg) msg n room).written ≤ 1400
  unfolding board_of
  written_small =
      any_result msg n room (λ r. length r.written ≤ 1400) (λ x. omega arith) (admission file msg)
      (λ c fs e q. pages_small msg (board_of msg c fs) (admits e).small n)

  written_room : length (result_on (admission file msg) msg n room).written ≤ room
  unfolding board_of
  written_room =
      any_result msg n room (λ r. length r.written ≤ room) (λ x. omega arith) (admission file msg)
      (λ c fs e q. omega (arith, pages_small msg (board_of msg c fs) (admits e).small n))

-- what a call writes is at most 1,400 records, and fits into the slice
pub result_room : (file msg : List ℕ) (n room : ℕ) → (length (result file msg n room).written ≤ 1400) × (length (result file msg n room).written ≤ room)
unfolding result
result_room file msg n room = (written_small file msg n room, written_room file msg n room)

pub keeps : (file msg : List ℕ) (n : ℕ) (lent : List Span) → length (after file msg n lent) ≡ length lent
unfolding after result
keeps file msg n lent =
    let w : List Span = (result_on (admission file msg) msg n (length lent)).written in
    omega (arith, length-append w (drop (length w) lent), length-drop (length w) lent, written_room file msg n (length lent))

-- "a refusal changes no record of the slice"
abbrev Quiet : Result → Type 0
Quiet r = (x : Refusal) → r.answer ≡ Refused x → r.written ≡ []

numbered_quiet : (c : ℕ) (l : List Page) (n : ℕ) → Quiet (numbered c l n)
numbered_quiet c [] n x e = refl
numbered_quiet c (on d rs ∷ l) zero x e = absurd cc
numbered_quiet c (off d ∷ l) zero x e = refl
numbered_quiet c (refused r ∷ l) zero x e = refl
numbered_quiet c (on d rs ∷ l) (suc n) x e = numbered_quiet (suc c) l n x e
numbered_quiet c (off d ∷ l) (suc n) x e = numbered_quiet (suc c) l n x e
numbered_quiet c (refused r ∷ l) (suc n) x e = refl

result_quiet : (file msg : List ℕ) (n room : ℕ) → Quiet (result_on (admission file msg) msg n room)
result_quiet file msg n room =
    any_result msg n room Quiet (λ y x e. refl) (admission file msg) (λ c fs p q. numbered_quiet 0 (pages (board_of msg c fs) (items c msg)) n)

pub unchanged : (file msg : List ℕ) (n : ℕ) (lent : List Span) (x : Refusal) → listing file msg n lent ≡ Refused x → after file msg n lent ≡ lent
unfolding after listing result
unchanged file msg n lent x e =
    ap (λ (w : List Span). w ++ drop (length w) lent) (result_quiet file msg n (length lent) x e)

-- an on answer counts what it wrote
abbrev pub Counts : Result → Type 0
Counts r = (d k : ℕ) → r.answer ≡ On d k → k ≡ length r.written

pub numbered_counts : (c : ℕ) (l : List Page) (n : ℕ) → Counts (numbered c l n)
numbered_counts c [] n d k e = absurd cc
numbered_counts c (on a rs ∷ l) zero d k e = cc
numbered_counts c (off a ∷ l) zero d k e = absurd cc
numbered_counts c (refused r ∷ l) zero d k e = absurd cc
numbered_counts c (on a rs ∷ l) (suc n) d k e = numbered_counts (suc c) l n d k e
numbered_counts c (off a ∷ l) (suc n) d k e = numbered_counts (suc c) l n d k e
numbered_counts c (refused r ∷ l) (suc n) d k e = absurd cc

pub fits : (file msg : List ℕ) (n : ℕ) (lent : List Span) (d k : ℕ) → listing file msg n lent ≡ On d k → k ≤ 1400
unfolding listing result board_of
fits file msg n lent d k =
    any_result msg n (length lent) (λ r. r.answer ≡ On d k → k ≤ 1400) (λ x e. absurd cc) (admission file msg)
    (λ c fs p q e. omega (arith, pages_small msg (board_of msg c fs) (admits p).small n, numbered_counts 0 (pages (board_of msg c fs) (items c msg)) n d k e))
