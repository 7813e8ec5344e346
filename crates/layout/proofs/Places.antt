-- The place of a refusal lies within the message, that of 1 within the sign file; 1 to 3 do not depend on the slice.
use Prim.Native.Nat.{ℕ, zero, suc, ◌+◌, ◌≤◌, ◌<◌}
use native.Mathlib.Omega.{arith}
use mathlib.Core.Path.{◌≡◌, refl, sym, ap, ◌∙◌}
use mathlib.Core.Bool.{Bool, true, false, not}
use Rattle.std.specs.Prelude.{Option, Some, None, Result, Ok, Err}
use mathlib.Core.List.{List, [], ◌∷◌, ◌++◌}
use lib.Dec.{eqb}
use mathlib.Core.Logic.{◌⊎◌, inl, inr}
use borrow.Author.Tests.{ne_eqb}
use lib.ListN.{length}
use Rattle.base.specs.Pick.{pick}
use Rattle.value.specs.declared.SyntaxError.{SyntaxError}
use Rattle.records.specs.declared.Config.{Config}
use Rattle.sign.specs.Sign.{Font, RefusedAt, sign_file}
use Rattle.admit.specs.Admission.{Admission, denied, admitted, admission}
use Rattle.admit.proofs.Laws.{Denies, by_sign, by_length, by_form, denies}
use Rattle.refusal.specs.declared.Refusal.{Refusal}
use Rattle.layout.specs.declared.Span.{Span}
use Rattle.layout.specs.declared.Answer.{Answer}
use Rattle.layout.specs.declared.Answer.TheVariants.{On, Off, End, Refused}
use Rattle.layout.specs.declared.Rect.{Rect}
use Rattle.layout.specs.declared.RenderState.{RenderState}
use Rattle.layout.specs.declared.Entry.{Entry}
use Rattle.layout.specs.declared.Fault.{Fault}
use Rattle.layout.specs.declared.Mark.{Mark}
use Rattle.layout.specs.declared.Mark.TheVariants.{Plain, Ends, Timed}
use Rattle.layout.specs.declared.Scan.{Scan}
use Rattle.layout.specs.Types.{Item, items, Board}
use Rattle.refusal.specs.Refusals.{refusal}
use Rattle.font.specs.Table.{font_numbered}
use Rattle.font.specs.Measure.{Measure}
use Rattle.layout.specs.Fonts.{fault, version_fault, missing, measure_in, font_fault_in, char_fault_after, fault_in, meter_of, board_of}
use Rattle.layout.specs.Placing.{or_else, unless, first_fault, group, page, fault_at, span_fault, goes_back, back_fault, pass_fault, pass_records}
use Rattle.layout.specs.Read.{mark_item, scan_by, scan, Event, pass, close, stop, opening, events}
use Rattle.layout.specs.Listing.{Page, on, off, refused, stop_at, offs, pass_stop, walk, pages, numbered, result_on, listing}
use Rattle.layout.proofs.Cover.{number_late, ReadAs, ends, refuses, goes, emits, cuts, turns, fails, EventsAs, refused_at_once, begun, events_as}
use Rattle.layout.proofs.Checks.{admitted_result, answer_on}
use Rattle.layout.proofs.SignPlace.{sign_start}
use Rattle.layout.proofs.Items.{AllIn, items_honest, items_in}

-- ---- numbers

-- P holds of the fault, if there is one
data Holds {A : Type 0} (P : A → Type 0) : Option A → Type 0 where
  fine : Holds P None
  faulty : {x : A} → P x → Holds P (Some x)

or_fault : {A : Type 0} {P : A → Type 0} {a b : Option A} → Holds P a → Holds P b → Holds P (or_else a b)
unfolding or_else
or_fault fine q = q
or_fault (faulty h) q = faulty h

first_fault_law : {A B : Type 0} {P : B → Type 0} (f : A → Option B) → ((a : A) → Holds P (f a)) → (l : List A) → Holds P (first_fault f l)
first_fault_law f h [] = fine
first_fault_law f h (a ∷ l) = or_fault (h a) (first_fault_law f h l)

-- what the fonts say of a span has number 5 or more
abbrev Late : Option Fault → Type 0
Late = Holds (λ x. 4 < x.number)

version_late : (o : Option ℕ) (f : Font) → Late (version_fault o f)
version_late None f = fine
version_late (Some v) f = go (eqb v f.version)
  where
    go : (t : Bool) → Late (pick t None (Some (fault 11 0)))
    go true = fine
    go false = faulty {x = fault 11 0} (omega arith)

missing_late : (m : Measure) → Late (missing m)
missing_late (Ok w) = fine
missing_late (Err m) = faulty {x = fault 12 m.code} (omega arith)

module _ (msg : List ℕ) (e : Entry) where
  font_late : (o : Option Font) → Late (font_fault_in msg e o)
  font_late None = faulty {x = fault 10 e.state.font} (omega arith)
  font_late (Some f) = version_late e.state.version f

  module _ (capitals : Bool) where
    char_late : (x : Option Fault) (f : Font) → Late x → Late (char_fault_after msg e capitals x f)
    char_late None f h = missing_late (measure_in msg e capitals f)
    char_late (Some x) f h = h

    fault_late : (o : Option Font) → Late (fault_in msg e capitals o)
    fault_late None = faulty {x = fault 10 e.state.font} (omega arith)
    fault_late (Some f) = char_late (version_fault e.state.version f) f (version_late e.state.version f)

-- of every span
record LateFaults (s : Board) : Type 0 where
  fault : (e : Entry) → Late (s.meter.fault e)
  font : (e : Entry) → Late (s.meter.font_fault e)

board_late : (msg : List ℕ) (c : Config) (fs : List Font) → LateFaults (board_of msg c fs)
unfolding board_of meter_of
board_late msg c fs =
    record {
      fault = λ e. fault_late msg e c.capitals (font_numbered e.state.font fs);
      font = λ e. font_late msg e (font_numbered e.state.font fs);
    }

-- top: the message's length
module _ (top : ℕ) where
  -- a refusal after 4, with its place in the message
  pub record Inside (r : Refusal) : Type 0 where
    pub late : 4 < r.number
    pub place : r.start + r.length ≤ top

  -- each span lies within the message
  abbrev pub Spans : List Entry → Type 0
  Spans [] = Unit {0}
  Spans (e ∷ es) = (e.start + e.len ≤ top) × Spans es

  -- ---- a pass

  unless_fault : (t : Bool) (r : Refusal) → Inside r → Holds Inside (unless t r)
  unfolding unless
  unless_fault true r h = fine
  unless_fault false r h = faulty h

  back_fault_law : (p : Option Entry) (es : List Entry) → Spans es → Holds Inside (back_fault p es)
  back_fault_law p [] h = fine
  back_fault_law None (e ∷ es) h = back_fault_law (Some e) es h.1
  back_fault_law (Some p) (e ∷ es) h =
      or_fault (unless_fault (not (goes_back p e)) _ (record { late = omega arith; place = h.0 })) (back_fault_law (Some e) es h.1)

  module _ (s : Board) (b : LateFaults s) (r : Rect) (all : List Entry) where
    at_fault : (e : Entry) (x : Option Fault) → e.start + e.len ≤ top → Late x → Holds Inside (fault_at s r all e x)
    at_fault e None h l = fine
    at_fault e (Some x) h (faulty l) = faulty (record { late = l; place = h })

    span_fault_law : (e : Entry) → e.start + e.len ≤ top → Holds Inside (span_fault s r all e)
    unfolding span_fault
    span_fault_law e h =
        let of-fonts : Late (first_fault s.meter.fault (group s r all e)) = first_fault_law s.meter.fault b.fault (group s r all e) in
        let of-lines : Late (first_fault s.meter.font_fault (page s r all e)) = first_fault_law s.meter.font_fault b.font (page s r all e) in
        let wide : Inside (refusal 13 e.start e.len 0) = record { late = omega arith; place = h } in
        let low : Inside (refusal 14 e.start e.len 0) = record { late = omega arith; place = h } in
        search (or_fault, at_fault, unless_fault) depth 12

    spans_fault : (es : List Entry) → Spans es → Holds Inside (first_fault (span_fault s r all) es)
    spans_fault [] h = fine
    spans_fault (e ∷ es) h = or_fault (span_fault_law e h.0) (spans_fault es h.1)

  pass_fault_law : (s : Board) (b : LateFaults s) (n : ℕ) (r : Rect) (es : List Entry) → Spans es → Holds Inside (pass_stop s n r es)
  unfolding pass_fault
  pass_fault_law s b n r es h =
      or_fault (or_fault (back_fault_law None es h) (spans_fault s b r es es h))
      (unless_fault _ (refusal 15 0 0 0) (record { late = omega arith; place = omega arith }))

  -- ---- a page's scan

  scan_by_law : (s : Config) (a b : ℕ) (it : Item) (m : Result Mark SyntaxError) (next : ℕ → ℕ → Scan) → it.start + it.len ≤ top
      → ((p q : ℕ) → Holds Inside (next p q).fault) → Holds Inside (scan_by s a b it m next).fault
  scan_by_law s a b it (Ok Plain) next h k = k a b
  scan_by_law s a b it (Ok Ends) next h k = fine
  scan_by_law s a b it (Ok (Timed p q)) next h k = k _ _
  scan_by_law s a b it (Err e) next h k = faulty (record { late = number_late e; place = h })

  scan_fault : (s : Config) (a b : ℕ) (its : List Item) → AllIn top its → Holds Inside (scan s a b its).fault
  scan_fault s a b [] h = fine
  scan_fault s a b (it ∷ its) h =
      scan_by_law s a b it (mark_item s.tags it.says) (λ p q. scan s p q its) h.0 (λ p q. scan_fault s p q its h.1)

  -- ---- the events of a message

  abbrev pub Events : List Event → Type 0
  Events [] = Unit {0}
  Events (pass r es ∷ evs) = Spans es × Events evs
  Events (close a b ∷ evs) = Events evs
  Events (stop r ∷ evs) = Inside r × Events evs

  snoc_spans : (es : List Entry) (e : Entry) → Spans es → e.start + e.len ≤ top → Spans (es ++ (e ∷ []))
  snoc_spans [] e h p = (p, tt)
  snoc_spans (x ∷ es) e h p = (h.0, snoc_spans es e h.1 p)

  scan_stop : (s : Config) (its : List Item) (a b : ℕ) (r : Refusal) → AllIn top its → (scan s a b its).fault ≡ Some r → Inside r
  scan_stop s its a b r h e = look (rw e at (scan_fault s a b its h))
    where
      look : Holds Inside (Some r) → Inside r
      look (faulty i) = i

  -- what is read lies within the message
  pub read_in : {s : Config} {its : List Item} {st : RenderState} {acc : List Entry} {l : List Event} → ReadAs s its st acc l → AllIn top its
      → Spans acc → Events l
  read_in ends h u = (u, tt)
  read_in (refuses f) h u = (record { late = f.late; place = omega (arith, f.start, f.length) }, tt)
  read_in (goes f q r) h u = read_in r h.1 u
  read_in (emits {acc = acc} {e = e} f q p r) h u = read_in r h.1 (snoc_spans acc e u (omega (arith, p.start, p.len)))
  read_in (cuts f q r) h u = (u, read_in r h.1 tt)
  read_in (turns f q r) h u = (u, read_in r h.1 tt)
  read_in {s = s} (fails {its = its} {r = r} f q x y e) h u = (u, (scan_stop s its x y r h.1 e, tt))

  pub events_in : {s : Config} {its : List Item} {l : List Event} → EventsAs s its l → AllIn top its → Events l
  events_in {s = s} {its = its} (refused_at_once {r = r} a b e) h = (scan_stop s its a b r h e, tt)
  events_in (begun r) h = read_in r h tt

  -- ---- the pages

  abbrev Pages : List Page → Type 0
  Pages [] = Unit {0}
  Pages (on d rs ∷ l) = Pages l
  Pages (off d ∷ l) = Pages l
  Pages (refused r ∷ l) = Inside r × Pages l

  pages_stop : {f : Option Refusal} (l : List Page) → Holds Inside f → Pages l → Pages (stop_at f l)
  pages_stop l fine h = h
  pages_stop l (faulty i) h = (i, tt)

  pages_offs : (n : ℕ) (l : List Page) → Pages l → Pages (offs n l)
  pages_offs zero l h = h
  pages_offs (suc n) l h = h

  walk_in : (s : Board) (m : LateFaults s) (evs : List Event) (a b : ℕ) (rs : List Span) (n : ℕ) → Events evs → Pages (walk s evs a b rs n)
  walk_in s m [] a b rs n h = pages_offs b [] tt
  walk_in s m (pass r es ∷ evs) a b rs n h =
      pages_stop _ (pass_fault_law s m n r es h.0) (walk_in s m evs a b (rs ++ pass_records s r es) (suc n) h.1)
  walk_in s m (close p q ∷ evs) a b rs n h = pages_offs b _ (walk_in s m evs p q [] 0 h)
  walk_in s m (stop r ∷ evs) a b rs n h = (h.0, tt)

  -- ---- one call

  abbrev Placed : Answer → Type 0
  Placed (On d n) = Unit {0}
  Placed (Off d) = Unit {0}
  Placed (End n) = Unit {0}
  Placed (Refused r) = Inside r

  numbered_in : (c : ℕ) (l : List Page) (n : ℕ) → Pages l → Placed (numbered c l n).answer
  numbered_in c [] n h = tt
  numbered_in c (on d rs ∷ l) zero h = tt
  numbered_in c (off d ∷ l) zero h = tt
  numbered_in c (refused r ∷ l) zero h = h.0
  numbered_in c (on d rs ∷ l) (suc n) h = numbered_in (suc c) l n h
  numbered_in c (off d ∷ l) (suc n) h = numbered_in (suc c) l n h
  numbered_in c (refused r ∷ l) (suc n) h = h.0

pages_in : (msg : List ℕ) (s : Board) → LateFaults s → Pages (length msg) (pages s (items s.config msg))
unfolding pages
pages_in msg s m =
    let o : Scan = opening s.config (items s.config msg) in
    walk_in (length msg) s m (events s.config (items s.config msg)) o.on o.off [] 0
    (events_in (length msg) (events_as s.config (items s.config msg) (items_honest s.config msg)) (items_in s.config msg))

answers_in_law : (c : Config) (fs : List Font) (msg : List ℕ) (n : ℕ) → Placed (length msg) (numbered 0 (pages (board_of msg c fs) (items c msg)) n).answer
unfolding board_of
answers_in_law c fs msg n = numbered_in (length msg) 0 (pages (board_of msg c fs) (items c msg)) n (pages_in msg (board_of msg c fs) (board_late msg c fs))

-- ---- 1 to 3

answers_late : (c : Config) (fs : List Font) (msg : List ℕ) (n : ℕ) (x : Refusal) → (numbered 0 (pages (board_of msg c fs) (items c msg)) n).answer ≡ Refused x
    → Inside (length msg) x
answers_late c fs msg n x e = rw e at (answers_in_law c fs msg n)

result_early : (a : Admission) (msg : List ℕ) (n m p q : ℕ) (x : Refusal) → x.number ≤ 3 → (result_on a msg n p).answer ≡ Refused x
    → (result_on a msg m q).answer ≡ Refused x
result_early (denied r) msg n m p q x h e = e
result_early (admitted c fs) msg n m p q x h e =
    admitted_result msg n p (λ r. r.answer ≡ Refused x → (result_on (admitted c fs) msg m q).answer ≡ Refused x) c fs
    (λ d. let z : refusal 4 0 0 0 ≡ x = cc in absurd (omega (arith, ap (λ (r : Refusal). r.number) z)))
    (λ _ d. absurd (omega (arith, (answers_late c fs msg n x d).late))) e

pub early : (file msg : List ℕ) (n m : ℕ) (a b : List Span) (x : Refusal) → x.number ≤ 3 → listing file msg n a ≡ Refused x → listing file msg m b ≡ Refused x
early file msg n m a b x h e =
    let s : Admission = admission file msg in
    answer_on file msg m b s refl ∙ result_early s msg n m (length a) (length b) x h (sym (answer_on file msg n a s refl) ∙ e)

-- ---- a refusal's place

-- within the message, of 2 and on
record Elsewhere (msg : List ℕ) (x : Refusal) : Type 0 where
  later : 1 < x.number
  place : x.start + x.length ≤ length msg

admitted_place : (c : Config) (fs : List Font) (msg : List ℕ) (n room : ℕ) (x : Refusal) → (result_on (admitted c fs) msg n room).answer ≡ Refused x
    → Elsewhere msg x
admitted_place c fs msg n room x =
    admitted_result msg n room (λ r. r.answer ≡ Refused x → Elsewhere msg x) c fs
    (λ e. let q : refusal 4 0 0 0 ≡ x = cc in rw (← q) (record { later = omega arith; place = omega arith }))
    (λ _ e. let i : Inside (length msg) x = answers_late c fs msg n x e in record { later = omega (arith, i.late); place = i.place })

-- 1 where the sign file is refused; else it lies elsewhere
record SignRefused (file : List ℕ) (x : Refusal) : Type 0 where
  one : x.number ≡ 1
  no_length : x.length ≡ 0
  is : sign_file file ≡ RefusedAt x.start

denied_place : {file msg : List ℕ} {x : Refusal} → Denies file msg x → SignRefused file x ⊎ Elsewhere msg x
denied_place (by_sign e) = inl (record { one = refl; no_length = refl; is = e })
denied_place (by_length e h) = inr (record { later = omega arith; place = omega arith })
denied_place (by_form e h f) = inr (record { later = omega arith; place = omega arith })

module _ (file msg : List ℕ) (n : ℕ) (lent : List Span) (x : Refusal) (e : listing file msg n lent ≡ Refused x) where
  placed : SignRefused file x ⊎ Elsewhere msg x
  placed = look (admission file msg) refl
    where
      look : (a : Admission) → admission file msg ≡ a → SignRefused file x ⊎ Elsewhere msg x
      look (denied r) q =
          let d : Refused r ≡ Refused x = sym (answer_on file msg n lent (denied r) q) ∙ e in
          let same : r ≡ x = cc in
          denied_place (denies (q ∙ ap denied same))
      look (admitted c fs) q = inr (admitted_place c fs msg n (length lent) x (sym (answer_on file msg n lent (admitted c fs) q) ∙ e))

  pub places : x.start + x.length ≤ length (pick (eqb x.number 1) file msg)
  places = look placed
    where
      look : SignRefused file x ⊎ Elsewhere msg x → x.start + x.length ≤ length (pick (eqb x.number 1) file msg)
      look (inl s) = rw s.one (omega (arith, sign_start file x.start s.is, s.no_length))
      look (inr i) = rw (ne_eqb x.number 1 (λ z. omega (arith, i.later))) i.place

  pub sign : x.number ≡ 1 → sign_file file ≡ RefusedAt x.start
  sign one = look placed
    where
      look : SignRefused file x ⊎ Elsewhere msg x → sign_file file ≡ RefusedAt x.start
      look (inl s) = s.is
      look (inr i) = absurd (omega (arith, i.later))
