-- The pages of a message: if none is a refusal, their records are those of its spans, and every span is placed as demand 3 says.
use Prim.Native.Nat.{ℕ, zero, suc, ◌%◌, ◌≤◌}
use native.Mathlib.Nat.{zero-mod}
use native.Mathlib.Omega.{arith}
use mathlib.Core.Path.{◌≡◌, refl, sym, ap, ◌∙◌}
use mathlib.Core.Logic.{◌⊎◌, inl, inr}
use mathlib.Core.Bool.{Bool, true, false}
use Rattle.std.specs.Prelude.{Option, Some, None, Ok, Err}
use mathlib.Core.List.{List, [], ◌∷◌, ◌++◌, map, append_assoc}
use lib.Dec.{eqb}
use Rattle.std.proofs.lemmas.List.{map-append}
use Rattle.base.specs.Pick.{pick}
use Rattle.token.specs.Token.{Slice, slices}
use Rattle.records.specs.declared.Config.{Config}
use Rattle.sign.specs.Sign.{Font}
use Rattle.refusal.specs.declared.Refusal.{Refusal}
use Rattle.layout.specs.declared.Span.{Span}
use Rattle.layout.specs.declared.Rect.{Rect}
use Rattle.layout.specs.declared.Entry.{Entry}
use Rattle.layout.specs.declared.Fault.{Fault}
use Rattle.layout.specs.Types.{Item, item_at, items, Board}
use Rattle.font.specs.Table.{font_numbered}
use Rattle.font.specs.Measure.{Measure}
use Rattle.layout.specs.Fonts.{version_fault, missing, width_of, measure_in, char_fault_after, fault_in, width_in, height_in, meter_of, board_of}
use Rattle.layout.specs.Placing.{same, first_fault, fault_at, span_fault, pass_fault, pass_records, record_of, group}
use Rattle.layout.specs.declared.Scan.{Scan}
use Rattle.layout.specs.Read.{Event, pass, close, stop, whole, opening, events}
use Rattle.layout.specs.Listing.{Page, on, off, refused, stop_at, offs, pass_stop, walk, pages}
use Rattle.layout.specs.Demand.{Reads, rect_after, just_after, at_place, rect_at_place, just_at_place, Across, Down, In, here, there, From, Rises, printed_records, printed, placed, Tells, Measured, Divides, spans, Stands}
use Rattle.layout.proofs.Geometry.{next_left, from_rises}
use Rattle.layout.proofs.PassLaws.{Grid, Even, or_none, in_select, same_refl, of_select, across, down, spacing, clear}
use Rattle.layout.proofs.Groups.{InOrder, rises, read_in_order}
use Rattle.layout.proofs.RectLaws.{Seen, read_known, rises_low}
use Rattle.layout.proofs.Cover.{Runs, entries, printed_entries, Part, none_of, skip, both, starts, item_starts, Covers, EachPass, EventsAs, refused_at_once, begun, events_as, read_covers, read_grid, whole_grid}
use Rattle.layout.proofs.Items.{items_honest, slices_read, items_printed, items_rise}

-- ---- pages

abbrev pub NoRefusal : List Page → Type 0
NoRefusal [] = Unit {0}
NoRefusal (on d rs ∷ l) = NoRefusal l
NoRefusal (off d ∷ l) = NoRefusal l
NoRefusal (refused r ∷ l) = ⊥

-- the records of all on answers
abbrev pub records : List Page → List Span
records [] = []
records (on d rs ∷ l) = rs ++ records l
records (off d ∷ l) = records l
records (refused r ∷ l) = records l

-- ---- the walk

pub record Walked (s : Board) (evs : List Event) (rs : List Span) (l : List Page) : Type 0 where
  pub runs : Runs evs
  pub listed : records l ≡ rs ++ placed s evs
  pub fine : EachPass (λ r es. pass_fault s r es ≡ None) evs

pub no_stop : (f : Option Refusal) (l : List Page) → NoRefusal (stop_at f l) → (f ≡ None) × NoRefusal l × (stop_at f l ≡ l)
no_stop None l h = (refl, h, refl)
no_stop (Some r) l h = absurd h

pub no_offs : (n : ℕ) (l : List Page) → NoRefusal (offs n l) → NoRefusal l × (records (offs n l) ≡ records l)
no_offs zero l h = (h, refl)
no_offs (suc n) l h = (h, refl)

pub walked : (s : Board) (evs : List Event) (a b : ℕ) (rs : List Span) (n : ℕ) → NoRefusal (walk s evs a b rs n) → Walked s evs rs (walk s evs a b rs n)
walked s [] a b rs n h = record { runs = tt; listed = ap (λ (l : List Span). rs ++ l) (no_offs b [] h).1; fine = tt }
walked s (pass r es ∷ evs) a b rs n h =
    let l : List Page = walk s evs a b (rs ++ pass_records s r es) (suc n) in
    let (f, h', e) = no_stop (pass_stop s n r es) l h in
    let w : Walked s evs (rs ++ pass_records s r es) l = walked s evs a b (rs ++ pass_records s r es) (suc n) h' in
    record { runs = w.runs; listed = rw e (w.listed ∙ append_assoc rs _ _); fine = ((or_none _ _ f).0, w.fine) }
walked s (close p q ∷ evs) a b rs n h =
    let l : List Page = walk s evs p q [] 0 in
    let (h', e) = no_offs b l h in
    let w : Walked s evs [] l = walked s evs p q [] 0 h' in
    record { runs = w.runs; listed = ap (λ (x : List Span). rs ++ x) (e ∙ w.listed); fine = w.fine }
walked s (stop r ∷ evs) a b rs n h = absurd h

-- ---- records and spans: one for one

printed_append : (a b : List Span) → printed_records (a ++ b) ≡ printed_records a ++ printed_records b
printed_append [] b = refl
printed_append (q ∷ a) b = rw (printed_append a b) (simp append_assoc)

printed_entries_append : (a b : List Entry) → printed_entries (a ++ b) ≡ printed_entries a ++ printed_entries b
printed_entries_append [] b = refl
printed_entries_append (q ∷ a) b = rw (printed_entries_append a b) (simp append_assoc)

pass_printed : (s : Board) (r : Rect) (es l : List Entry) → printed_records (map (record_of s r es) l) ≡ printed_entries l
unfolding record_of
pass_printed s r es [] = refl
pass_printed s r es (e ∷ l) = rw (pass_printed s r es l)

pass_starts : (s : Board) (r : Rect) (es l : List Entry) → map (λ q. q.start) (map (record_of s r es) l) ≡ starts l
unfolding record_of
pass_starts s r es [] = refl
pass_starts s r es (e ∷ l) = ap (λ (x : List ℕ). e.start ∷ x) (pass_starts s r es l)

placed_printed : (s : Board) (evs : List Event) → printed_records (placed s evs) ≡ printed_entries (entries evs)
unfolding pass_records
placed_printed s [] = refl
placed_printed s (pass r es ∷ evs) =
    rw (printed_append (map (record_of s r es) es) (placed s evs), printed_entries_append es (entries evs), pass_printed s r es es, placed_printed s evs)
placed_printed s (close a b ∷ evs) = placed_printed s evs
placed_printed s (stop x ∷ evs) = placed_printed s evs

placed_starts : (s : Board) (evs : List Event) → map (λ q. q.start) (placed s evs) ≡ starts (entries evs)
unfolding pass_records
placed_starts s [] = refl
placed_starts s (pass r es ∷ evs) =
    map-append (λ q. q.start) (map (record_of s r es) es) (placed s evs)
    ∙ rw (pass_starts s r es es, placed_starts s evs) (sym (map-append (λ e. e.start) es (entries evs)))
placed_starts s (close a b ∷ evs) = placed_starts s evs
placed_starts s (stop x ∷ evs) = placed_starts s evs

-- ---- strictly rising

from_lower : (n k : ℕ) (ls : List ℕ) → n ≤ k → From k ls → From n ls
from_lower n k [] h f = tt
from_lower n k (l ∷ ls) h f = (omega arith, f.1)

part_from : (n : ℕ) {ks ls : List ℕ} → Part ks ls → From n ls → From n ks
part_from n none_of f = tt
part_from n (skip {k = k} {ls = ls} p) f = part_from n p (from_lower n k ls (omega arith) f.1)
part_from n (both {j = j} {k = k} e p) f = rw e (f.0, part_from k p f.1)

part_rises : {ks ls : List ℕ} → Part ks ls → Rises ls → Rises ks
part_rises none_of f = tt
part_rises (skip {k = k} {ls = ls} p) f = part_rises p (from_rises k ls f)
part_rises (both {k = k} e p) f = rw e (part_from k p f)

-- ---- the span of a record

record Origin (s : Board) (evs : List Event) (q : Span) : Type 0 where
  rect : Rect
  spans : List Entry
  span : Entry
  in_pass : In (pass rect spans) evs
  in_spans : In span spans
  is : q ≡ record_of s rect spans span

record Mapped {A B : Type 0} (f : A → B) (l : List A) (y : B) : Type 0 where
  of : A
  in_list : In of l
  is : y ≡ f of

in_map : {A B : Type 0} (f : A → B) (l : List A) {y : B} → In y (map f l) → Mapped f l y
in_map f (x ∷ l) here = record { of = x; in_list = here; is = refl }
in_map f (x ∷ l) (there i) =
    let m : Mapped f l _ = in_map f l i in
    record { of = m.of; in_list = there m.in_list; is = m.is }
in_map {A = A} {B = B} f [] {y = y} x' = elim x' [ ]

put_off : {A : Type 0} (y : A) {x : A} {a b : List A} → In x a ⊎ In x b → In x (y ∷ a) ⊎ In x b
put_off y (inl j) = inl (there j)
put_off y (inr j) = inr j

in_append : {A : Type 0} (a b : List A) {x : A} → In x (a ++ b) → In x a ⊎ In x b
in_append [] b i = inr i
in_append (y ∷ a) b here = inl here
in_append (y ∷ a) b (there i) = put_off y (in_append a b i)

module _ (s : Board) where
  further : (ev : Event) {evs : List Event} {q : Span} → Origin s evs q → Origin s (ev ∷ evs) q
  further ev o = record { rect = o.rect; spans = o.spans; span = o.span; in_pass = there o.in_pass; in_spans = o.in_spans; is = o.is }

  from_pass : (r : Rect) (es : List Entry) {evs : List Event} {q : Span} → Mapped (record_of s r es) es q → Origin s (pass r es ∷ evs) q
  from_pass r es m = record { rect = r; spans = es; span = m.of; in_pass = here; in_spans = m.in_list; is = m.is }

  either : (r : Rect) (es : List Entry) {evs : List Event} {q : Span} → (In q (placed s evs) → Origin s evs q)
      → In q (map (record_of s r es) es) ⊎ In q (placed s evs) → Origin s (pass r es ∷ evs) q
  either r es h (inl j) = from_pass r es (in_map (record_of s r es) es j)
  either r es h (inr j) = further (pass r es) (h j)

  placed_in : (evs : List Event) {q : Span} → In q (placed s evs) → Origin s evs q
  unfolding pass_records
  placed_in (pass r es ∷ evs) i = either r es (λ j. placed_in evs j) (in_append (map (record_of s r es) es) (placed s evs) i)
  placed_in (close a b ∷ evs) i = further (close a b) (placed_in evs i)
  placed_in (stop x ∷ evs) i = further (stop x) (placed_in evs i)
  placed_in [] {q = q} i = elim i [ ]

-- ---- a pass without a fault

pub first_none : {A : Type 0} {B : Type 0} (f : A → Option B) {e : A} {l : List A} → In e l → first_fault f l ≡ None → f e ≡ None
first_none f here q = (or_none _ _ q).0
first_none f (there i) q = first_none f i (or_none _ _ q).1

-- a span's font is there, and measures its text
measure_none : (m : Measure) → missing m ≡ None → m ≡ Ok (width_of m)
measure_none (Ok w) q = refl
measure_none (Err m) q = absurd cc

char_none : (msg : List ℕ) (e : Entry) (capitals : Bool) (f : Font) (x : Option Fault) → char_fault_after msg e capitals x f ≡ None
    → measure_in msg e capitals f ≡ Ok (width_in msg e capitals (Some f))
char_none msg e capitals f None q = measure_none (measure_in msg e capitals f) q
char_none msg e capitals f (Some x) q = absurd cc

measured_in : (c : Config) (msg : List ℕ) (fs : List Font) (e : Entry) (q : Span) (o : Option Font) → font_numbered e.state.font fs ≡ o
    → fault_in msg e c.capitals o ≡ None → q.width ≡ width_in msg e c.capitals o → q.height ≡ height_in o → Measured c msg fs e q
unfolding measure_in
measured_in c msg fs e q None p f w h = absurd cc
measured_in c msg fs e q (Some f) p g w h =
    record {
      font = f;
      found = p;
      width = char_none msg e c.capitals f (version_fault e.state.version f) g ∙ ap Ok (sym w);
      height = h;
    }

fault_none : (s : Board) (r : Rect) (es : List Entry) (e : Entry) (x : Option Fault) → fault_at s r es e x ≡ None → x ≡ None
fault_none s r es e None q = refl
fault_none s r es e (Some x) q = absurd cc

-- every span's height is a font's
height_even : (u n : ℕ) (fs : List Font) → ((f : Font) → In f fs → f.height % u ≡ 0) → height_in (font_numbered n fs) % u ≡ 0
height_even u n [] h = zero-mod u
height_even u n (f ∷ fs) h = go (eqb f.number n) (height_even u n fs (λ g i. h g (there i)))
  where
    go : (t : Bool) → height_in (font_numbered n fs) % u ≡ 0 → height_in (pick t (Some f) (font_numbered n fs)) % u ≡ 0
    go true k = h f here
    go false k = k

module _ (c : Config) (fs : List Font) (msg : List ℕ) where
  abbrev s : Board
  s = board_of msg c fs

  even : Divides c fs → Even s
  unfolding board_of meter_of
  even (inl z) = inl z
  even (inr d) = inr (λ e. height_even c.char_height e.state.font fs d)

  meter_fault : (r : Rect) (es : List Entry) (e : Entry) → In e es → span_fault s r es e ≡ None → s.meter.fault e ≡ None
  unfolding span_fault
  meter_fault r es e i q = first_none s.meter.fault (in_select (same e) (same_refl e) i) (fault_none s r es e _ (or_none _ _ q).0)

  pub measured : (r : Rect) (es : List Entry) (e : Entry) → In e es → span_fault s r es e ≡ None → Measured c msg fs e (record_of s r es e)
  unfolding record_of board_of meter_of
  measured r es e i q = measured_in c msg fs e (record_of s r es e) (font_numbered e.state.font fs) refl (meter_fault r es e i q) refl refl

  tells : (r : Rect) (es : List Entry) (e : Entry) → Tells r e (record_of s r es e)
  unfolding record_of
  tells r es e =
      record {
        kind = refl;
        start = refl;
        length = refl;
        code = refl;
        font = refl;
        line = refl;
        span = refl;
        rect_x = refl;
        rect_y = refl;
        rect_width = refl;
        rect_height = refl;
      }

  abbrev Known : Rect → List Entry → Type 0
  Known r es = (e : Entry) → In e es → Seen c (rect_at_place c msg) (just_at_place c msg) r e

  pass_fine : (r : Rect) (es : List Entry) → Grid c r → Known r es → (c.groups ≡ true → InOrder es) → pass_fault s r es ≡ None → Stands c fs msg r es
  unfolding pass_fault record_of board_of
  pass_fine r es g k n q =
      let u : (a : Entry) → (c.groups ≡ false → Rises (spans (group s r es a))) → Rises (spans (group s r es a)) =
      λ a. rises c.groups (spans (group s r es a)) (λ t. (n t a.state).numbers) in
      let h : first_fault (span_fault s r es) es ≡ None = (or_none _ _ q).1 in
      record {
        rect = λ e i. (k e i).rect;
        just = λ e i. (k e i).just;
        tells = λ e i. tells r es e;
        measured = λ e i. measured r es e i (first_none (span_fault s r es) i h);
        across = λ e i. across s r es e g i (first_none (span_fault s r es) i h);
        down = λ e i d. down s r es e g (λ j. even (d j)) i (first_none (span_fault s r es) i h);
        numbers = λ t e. (n t e.state).numbers;
        spacing = λ a b x p w. spacing s r es a b w x (u a p) (first_none (span_fault s r es) (of_select (same a) es (next_left x)) h);
        apart = λ a b x p w. clear s r es a b w x (u a p) (λ e i. first_none (span_fault s r es) i h);
      }

  each_fine : (evs : List Event) → EachPass (λ r es. Grid c r) evs → EachPass Known evs → (c.groups ≡ true → EachPass (λ r es. InOrder es) evs)
      → EachPass (λ r es. pass_fault s r es ≡ None) evs → {r : Rect} {es : List Entry} → In (pass r es) evs → Stands c fs msg r es
  each_fine (pass r es ∷ evs) g k n p here = pass_fine r es g.0 k.0 (λ t. (n t).0) p.0
  each_fine (pass r es ∷ evs) g k n p (there i) = each_fine evs g.1 k.1 (λ t. (n t).1) p.1 i
  each_fine (close a b ∷ evs) g k n p (there i) = each_fine evs g k n p i
  each_fine (stop x ∷ evs) g k n p (there i) = each_fine evs g k n p i
  each_fine [] g k n p {r = r} {es = es} x5 = elim x5 [ ]

  -- a record lies inside the rectangle at its place
  module _ (evs : List Event) (h : (r : Rect) (es : List Entry) → In (pass r es) evs → Stands c fs msg r es) where
    record_across : (q : Span) → In q (placed s evs) → Across (rect_at_place c msg q.start) q
    unfolding record_of
    record_across q i =
        let o : Origin s evs q = placed_in s evs i in
        let w : Stands c fs msg o.rect o.spans = h o.rect o.spans o.in_pass in
        rw (o.is, (w.tells o.span o.in_spans).start, ← w.rect o.span o.in_spans) (w.across o.span o.in_spans)

    record_down : (q : Span) → In q (placed s evs) → (just_at_place c msg q.start ≡ 3 → Divides c fs) → Down (rect_at_place c msg q.start) q
    unfolding record_of
    record_down q i d =
        let o : Origin s evs q = placed_in s evs i in
        let w : Stands c fs msg o.rect o.spans = h o.rect o.spans o.in_pass in
        let start : q.start ≡ o.span.start = ap (λ (x : Span). x.start) o.is in
        let j : just_at_place c msg q.start ≡ o.span.state.just_page = ap (just_at_place c msg) start ∙ sym (w.just o.span o.in_spans) in
        rw (o.is, (w.tells o.span o.in_spans).start, ← w.rect o.span o.in_spans) (w.down o.span o.in_spans (λ z. d (j ∙ z)))

-- what is known of the events of a message that is read without refusal
record Read (c : Config) (its : List Item) (evs : List Event) : Type 0 where
  cover : Covers its [] (entries evs)
  grid : EachPass (λ r es. Grid c r) evs
  known : EachPass (λ r es. (e : Entry) → In e es → Seen c (at_place (rect_after c) (whole c) its) (at_place (just_after c) c.page_just its) r e) evs
  in_order : c.groups ≡ true → EachPass (λ r es. InOrder es) evs

events_read : {c : Config} {its : List Item} {l : List Event} → EventsAs c its l → Rises (item_starts its) → Runs l → Read c its l
events_read (refused_at_once a b e) u n = absurd n
events_read {c = c} {its = its} (begun r) u n =
    record {
      cover = read_covers r n;
      grid = read_grid r (whole_grid c);
      in_order = λ g. read_in_order g r;
      known = read_known c _ _ r (rises_low its u) (record { rect = record { at = λ n _. refl }; just = record { at = λ n _. refl } }) (λ e i. elim i [ ]);
    }

-- demand 3 of the pages of a message
pub record Told (c : Config) (fs : List Font) (msg : List ℕ) (qs : List Span) : Type 0 where
  pub reads : (s : Slice) → In s (slices msg) → Reads (item_at c s).says
  pub printing : printed_records qs ≡ printed c (slices msg)
  pub rising : Rises (map (λ q. q.start) qs)
  pub listed : qs ≡ placed (board_of msg c fs) (events c (items c msg))
  pub passes : (r : Rect) (es : List Entry) → In (pass r es) (events c (items c msg)) → Stands c fs msg r es
  pub inside : (q : Span) → In q qs → Across (rect_at_place c msg q.start) q
  pub inside_down : (q : Span) → In q qs → (just_at_place c msg q.start ≡ 3 → Divides c fs) → Down (rect_at_place c msg q.start) q

pub told : (c : Config) (fs : List Font) (msg : List ℕ) → NoRefusal (pages (board_of msg c fs) (items c msg))
    → Told c fs msg (records (pages (board_of msg c fs) (items c msg)))
unfolding pages board_of
told c fs msg h =
    let s : Board = board_of msg c fs in
    let its : List Item = items c msg in
    let evs : List Event = events c its in
    let o : Scan = opening c its in
    let w : Walked s evs [] (pages s its) = walked s evs o.on o.off [] 0 h in
    let k : Read c its evs = events_read (events_as c its (items_honest c msg)) (items_rise c msg) w.runs in
    let f : (r : Rect) (es : List Entry) → In (pass r es) evs → Stands c fs msg r es =
    λ r es i. each_fine c fs msg evs k.grid k.known k.in_order w.fine i in
    let reads : (s : Slice) → In s (slices msg) → Reads (item_at c s).says = slices_read c msg k.cover.reads in
    record {
      reads = reads;
      printing = ap printed_records w.listed ∙ placed_printed s evs ∙ ap printed_entries k.cover.all ∙ k.cover.prints ∙ items_printed c msg reads;
      rising = rw (w.listed, placed_starts s evs, k.cover.all) (part_rises k.cover.order (items_rise c msg));
      listed = w.listed;
      passes = f;
      inside = rw w.listed (record_across c fs msg evs f);
      inside_down = rw w.listed (record_down c fs msg evs f);
    }
