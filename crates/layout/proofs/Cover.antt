-- Reading a message: its spans are the printed items and blank lines, in order, and its rectangles stand on the character grid.
use Prim.Native.Nat.{ℕ, ◌+◌, ◌%◌, ◌≤◌, ◌<◌}
use native.Mathlib.Nat.{le_refl, zero-mod}
use native.Mathlib.Omega.{arith}
use mathlib.Core.Path.{◌≡◌, refl, sym, ap, ◌∙◌}
use mathlib.Core.Bool.{Bool, true, false, ◌&&◌}
use Rattle.std.specs.Prelude.{Option, Some, None, Result, Ok, Err, unwrap_or}
use mathlib.Core.List.{List, [], ◌∷◌, ◌++◌, map, append_assoc, append-nil}
use lib.Dec.{leb, ltb, eqb}
use borrow.Author.Tests.{eqb-true, leb-true, leb-false, ltb-true}
use Rattle.std.proofs.lemmas.Bool.{and_parts}
use Rattle.base.specs.Pick.{pick}
use Rattle.value.specs.declared.SyntaxError.{SyntaxError}
use Rattle.value.specs.declared.SyntaxError.TheVariants.{UnsupportedTag, UnsupportedTagValue, Other}
use Rattle.value.specs.declared.Value.{Value}
use Rattle.value.specs.declared.Value.TheVariants.{ColorBackground, ColorForeground, ColorRectangle, Field, Flash, FlashEnd, Font, Graphic, HexadecimalCharacter, JustificationLine, JustificationPage, ManufacturerSpecific, ManufacturerSpecificEnd, MovingText, NewLine, NewPage, PageBackground, PageTime, SpacingCharacter, SpacingCharacterEnd, Text, TextRectangle}
use Rattle.value.specs.Syntax.{number_of}
use Rattle.refusal.specs.declared.Refusal.{Refusal}
use Rattle.records.specs.declared.Config.{Config}
use Rattle.layout.specs.declared.Rect.{Rect}
use Rattle.layout.specs.declared.RenderState.{RenderState}
use Rattle.layout.specs.declared.Entry.{Entry}
use Rattle.layout.specs.Types.{Item, place_of, JustsOf, DefaultJusts}
use Rattle.layout.specs.Demand.{In, here, there, Role, text, hexadecimal, rectangle, page_just, new_page as page_role, other, role_of, role_in, Reads, rect_after, just_after, printed_by}
use Rattle.layout.specs.declared.Step.{Step}
use Rattle.layout.specs.declared.Step.TheVariants.{Go, Emit, Cut, Turn}
use Rattle.layout.specs.Read.{refusal_at, surrogate, above0, with_just_line, with_just_page, with_char_spacing, with_font, font_step, rect_of, unit, fits, rect_fits, justified, go_if, line_step, value_step, item_step, step, scan, Event, pass, close, stop, whole, new_page, start, follow, renumbered, read, opening, events}
use Rattle.layout.proofs.PassLaws.{Grid}

-- ---- one item

-- what fails has number 5 or more
pub number_late : (e : SyntaxError) → 4 < number_of e
number_late UnsupportedTag = omega arith
number_late UnsupportedTagValue = omega arith
number_late Other = omega arith

-- what an item prints, by its value
abbrev pub printed_of : Role → ℕ → ℕ → List (ℕ × ℕ)
printed_of (text p) a n = (p.start, p.len) ∷ []
printed_of hexadecimal a n = (a, n) ∷ []
printed_of (rectangle r) a n = []
printed_of (page_just j) a n = []
printed_of page_role a n = []
printed_of other a n = []

abbrev pub printed_item : Item → List (ℕ × ℕ)
printed_item it = printed_of (role_in it.says) it.start it.len

abbrev pub printed_items : List Item → List (ℕ × ℕ)
printed_items [] = []
printed_items (it ∷ its) = printed_item it ++ printed_items its

-- a text starts where its slice of n bytes starts, and lies within it
abbrev pub TextIn : ℕ → ℕ → Role → Type 0
TextIn a n (text p) = (p.start ≡ a) × (p.len ≤ n)
TextIn a n hexadecimal = Unit {0}
TextIn a n (rectangle r) = Unit {0}
TextIn a n (page_just j) = Unit {0}
TextIn a n page_role = Unit {0}
TextIn a n other = Unit {0}

abbrev pub Within : ℕ → ℕ → Result Value SyntaxError → Type 0
Within a n (Ok v) = TextIn a n (role_of v)
Within a n (Err e) = Unit {0}

abbrev pub Honest : List Item → Type 0
Honest [] = Unit {0}
Honest (it ∷ its) = Within it.start it.len it.says × Honest its

abbrev pub printed_entry : Entry → List (ℕ × ℕ)
printed_entry e = printed_by e.kind e.start e.len

abbrev pub printed_entries : List Entry → List (ℕ × ℕ)
printed_entries [] = []
printed_entries (e ∷ es) = printed_entry e ++ printed_entries es

-- an entry is the text that its item says, or no text
abbrev pub Spoken : Entry → Role → Type 0
Spoken e (text p) = (e.start ≡ p.start) × (e.len ≡ p.len)
Spoken e hexadecimal = e.kind ≡ 0 → ⊥
Spoken e (rectangle r) = e.kind ≡ 0 → ⊥
Spoken e (page_just j) = e.kind ≡ 0 → ⊥
Spoken e page_role = e.kind ≡ 0 → ⊥
Spoken e other = e.kind ≡ 0 → ⊥

-- a refusal of the slice of n bytes at a place: 5 or more
pub record RefusedIn (a n : ℕ) (r : Refusal) : Type 0 where
  pub late : 4 < r.number
  pub start : r.start ≡ a
  pub length : r.length ≡ n

-- an item that is taken, with the spans es: it reads and prints them, and the next state has the rectangle and page justification after it, and
-- justifications as a sign may have them
pub record Taken (s : Config) (st : RenderState) (it : Item) (st' : RenderState) (es : List Entry) : Type 0 where
  pub reads : Reads it.says
  pub prints : printed_item it ≡ printed_entries es
  pub rect : rect_after s st.rect (role_in it.says) ≡ st'.rect
  pub just : just_after s st.just_page (role_in it.says) ≡ st'.just_page
  pub justs : DefaultJusts s → JustsOf st → JustsOf st'

-- the span of an item: it has the state, and starts with the item
pub record SpanOf (st : RenderState) (it : Item) (e : Entry) : Type 0 where
  pub state : e.state ≡ st
  pub start : e.start ≡ it.start
  pub len : e.len ≤ it.len
  pub spoken : Spoken e (role_in it.says)

-- what is known of a step; the rectangle stays within a pass, and with kind 6 each span has a number below 255
abbrev pub StepWithin : Config → RenderState → Item → Result Step Refusal → Type 0
StepWithin s st it (Err r) = RefusedIn it.start it.len r
StepWithin s st it (Ok (Go st' b)) = Taken s st it st' [] × (st'.rect ≡ st.rect)
StepWithin s st it (Ok (Emit e st' b)) = Taken s st it st' (e ∷ []) × (st'.rect ≡ st.rect) × SpanOf st it e × (s.groups ≡ true → st.span < 255)
StepWithin s st it (Ok (Cut st')) = Taken s st it st' [] × (rect_fits s st'.rect ≡ true)
StepWithin s st it (Ok Turn) = Taken s st it (new_page s st) [] × (role_in it.says ≡ page_role)

-- the same with the value apart
abbrev ValueWithin : Config → RenderState → Item → Value → Result Step Refusal → Type 0
ValueWithin s st it v t = StepWithin s st (record { start = it.start; len = it.len; says = Ok v }) t

pick_all : (P : Result Step Refusal → Type 0) (b : Bool) {x y : Result Step Refusal} → (b ≡ true → P x) → (b ≡ false → P y) → P (pick b x y)
pick_all P true f g = f refl
pick_all P false f g = g refl

fits_grid : (a n all u : ℕ) → fits a n all u ≡ true → a % unit u ≡ 0
fits_grid a n all u q =
    let (_, p) = and_parts (ltb 0 n) (leb (a + n) all && (eqb (a % unit u) 0 && eqb (n % unit u) 0)) q in
    let (_, o) = and_parts (leb (a + n) all) (eqb (a % unit u) 0 && eqb (n % unit u) 0) p in
    eqb-true _ _ (and_parts (eqb (a % unit u) 0) (eqb (n % unit u) 0) o).0

rect_grid : (s : Config) (r : Rect) → rect_fits s r ≡ true → Grid s r
rect_grid s r q =
    let (a, d) = and_parts (fits r.left r.width s.width s.char_width) (fits r.top r.height s.height s.char_height) q in
    record { across = fits_grid r.left r.width s.width s.char_width a; down = fits_grid r.top r.height s.height s.char_height d }

just_given : (j : Option ℕ) (d n : ℕ) → justified j d ≡ Some n → unwrap_or j d ≡ n
just_given None d n e = cc
just_given (Some k) d n e = go (leb 2 k) (leb k 4) e
  where
    go : (t u : Bool) → pick t (pick u (Some k) None) None ≡ Some n → k ≡ n
    go true true q = cc
    go true false q = absurd cc
    go false u q = absurd cc

-- a justification that is taken is one
just_in : (j : Option ℕ) (d n : ℕ) → 2 ≤ d → d ≤ 4 → justified j d ≡ Some n → (2 ≤ n) × (n ≤ 4)
just_in None d n h k e = let q : d ≡ n = cc in (omega arith, omega arith)
just_in (Some m) d n h k e = go (leb 2 m) (leb m 4) refl refl e
  where
    go : (t u : Bool) → leb 2 m ≡ t → leb m 4 ≡ u → pick t (pick u (Some m) None) None ≡ Some n → (2 ≤ n) × (n ≤ 4)
    go true true p q e = let o : m ≡ n = cc in (omega (arith, leb-true 2 m p), omega (arith, leb-true m 4 q))
    go true false p q e = absurd cc
    go false u p q e = absurd cc

-- fewer than 255 spans, where they count
uncrowded : (g : Bool) (n : ℕ) → (g && leb 255 n) ≡ false → g ≡ true → n < 255
uncrowded true n h e = leb-false 255 n h
uncrowded false n h e = absurd cc

module _ (s : Config) (st : RenderState) (blank : Bool) (it : Item) where
  refused : (n : ℕ) → 4 < n → RefusedIn it.start it.len (refusal_at (place_of it) n)
  refused n h = record { late = h; start = refl; length = refl }

  -- a value that is nothing to demand 3
  plain : (v : Value) (st' : RenderState) → role_of v ≡ other → st'.rect ≡ st.rect → st'.just_page ≡ st.just_page → (DefaultJusts s → JustsOf st → JustsOf st')
      → ValueWithin s st it v (Ok (Go st' blank))
  plain v st' e r j k = (record { reads = tt; prints = rw e; rect = rw e (sym r); just = rw e (sym j); justs = k }, r)

  -- and leaves the state
  idle : (v : Value) → role_of v ≡ other → ValueWithin s st it v (Ok (Go st blank))
  idle v e = plain v st e refl refl (λ d h. h)

  line_just_within : (j o : Option ℕ) → justified j s.line_just ≡ o
      → ValueWithin s st it (JustificationLine j) (go_if (place_of it) o (with_just_line st) blank)
  line_just_within j None e = refused 6 (omega arith)
  line_just_within j (Some n) e =
      plain (JustificationLine j) (with_just_line st n) refl refl refl
      (λ d h.
      let (a, b) = just_in j s.line_just n d.line_from d.line_to e in
      record { page_from = h.page_from; page_to = h.page_to; line_from = a; line_to = b })

  page_just_within : (j o : Option ℕ) → justified j s.page_just ≡ o
      → ValueWithin s st it (JustificationPage j) (go_if (place_of it) o (with_just_page st) blank)
  page_just_within j None e = refused 6 (omega arith)
  page_just_within j (Some n) e = (
    record {
      reads = tt;
      prints = refl;
      rect = refl;
      just = just_given j s.page_just n e;
      justs = λ d h.
          let (a, b) = just_in j s.page_just n d.page_from d.page_to e in
          record { page_from = a; page_to = b; line_from = h.line_from; line_to = h.line_to };
    },
    refl,
  )

  line_within : (l : Option ℕ) (b : Bool) → ValueWithin s st it (NewLine l) (line_step s (place_of it) st l b)
  line_within l true =
      pick_all (ValueWithin s st it (NewLine l)) (s.groups && leb 255 st.span) (λ _. refused 8 (omega arith))
      (λ f. (
        record { reads = tt; prints = refl; rect = refl; just = refl; justs = λ d h. h },
        refl,
        record { state = refl; start = refl; len = omega arith; spoken = λ q. omega arith },
        uncrowded s.groups st.span f,
      ))
  line_within l false = (record { reads = tt; prints = refl; rect = refl; just = refl; justs = λ d h. h }, refl)

  font_within : (f : Option (ℕ × Option ℕ)) → ValueWithin s st it (Font f) (Ok (Go (font_step s st f) blank))
  font_within (Some (n, v)) = plain (Font (Some (n, v))) (with_font st n v) refl refl refl (λ d h. h)
  font_within None = plain (Font None) (with_font st s.font None) refl refl refl (λ d h. h)

  value_within : (v : Value) → TextIn it.start it.len (role_of v) → ValueWithin s st it v (value_step s st blank (place_of it) v)
  value_within (ColorBackground c) h = idle (ColorBackground c) refl
  value_within (ColorForeground c) h = idle (ColorForeground c) refl
  value_within (ColorRectangle r c) h = idle (ColorRectangle r c) refl
  value_within (Field n w) h = idle (Field n w) refl
  value_within (Flash o a b) h = idle (Flash o a b) refl
  value_within FlashEnd h = idle FlashEnd refl
  value_within (Font f) h = font_within f
  value_within (Graphic n p) h = idle (Graphic n p) refl
  value_within (HexadecimalCharacter c) h =
      pick_all (ValueWithin s st it (HexadecimalCharacter c)) (surrogate c) (λ _. refused 6 (omega arith))
      (λ _. pick_all (ValueWithin s st it (HexadecimalCharacter c)) (ltb st.span 255)
      (λ f. (
        record { reads = tt; prints = refl; rect = refl; just = refl; justs = λ d h. h },
        refl,
        record { state = refl; start = refl; len = le_refl _; spoken = λ q. omega arith },
        λ _. ltb-true st.span 255 f,
      ))
      (λ _. refused 8 (omega arith)))
  value_within (JustificationLine j) h = line_just_within j (justified j s.line_just) refl
  value_within (JustificationPage j) h = page_just_within j (justified j s.page_just) refl
  value_within (ManufacturerSpecific m p) h = idle (ManufacturerSpecific m p) refl
  value_within (ManufacturerSpecificEnd m p) h = idle (ManufacturerSpecificEnd m p) refl
  value_within (MovingText m d t) h = idle (MovingText m d t) refl
  value_within (NewLine l) h =
      pick_all (ValueWithin s st it (NewLine l)) (above0 s.char_height (unwrap_or l 0)) (λ _. refused 6 (omega arith))
      (λ _. pick_all (ValueWithin s st it (NewLine l)) (ltb st.line 255) (λ _. line_within l blank) (λ _. refused 8 (omega arith)))
  value_within NewPage h = (record { reads = tt; prints = refl; rect = refl; just = refl; justs = λ d h. h }, refl)
  value_within (PageBackground c) h = idle (PageBackground c) refl
  value_within (PageTime a b) h = idle (PageTime a b) refl
  value_within (SpacingCharacter c) h =
      pick_all (ValueWithin s st it (SpacingCharacter c)) (above0 s.char_width c) (λ _. refused 6 (omega arith))
      (λ _. plain (SpacingCharacter c) (with_char_spacing st (Some c)) refl refl refl (λ d h. h))
  value_within SpacingCharacterEnd h = plain SpacingCharacterEnd (with_char_spacing st None) refl refl refl (λ d h. h)
  value_within (Text p) h =
      pick_all (ValueWithin s st it (Text p)) (ltb st.span 255)
      (λ f. (
        record { reads = tt; prints = refl; rect = refl; just = refl; justs = λ d h. h },
        refl,
        record { state = refl; start = h.0; len = h.1; spoken = (refl, refl) },
        λ _. ltb-true st.span 255 f,
      ))
      (λ _. refused 8 (omega arith))
  value_within (TextRectangle r) h =
      pick_all (ValueWithin s st it (TextRectangle r)) (rect_fits s (rect_of s r))
      (λ q. (record { reads = tt; prints = refl; rect = refl; just = refl; justs = λ d h. h }, q))
      (λ _. refused 6 (omega arith))

  said_within : (x : Result Value SyntaxError) → Within it.start it.len x
      → StepWithin s st (record { start = it.start; len = it.len; says = x }) (item_step s st blank (place_of it) x)
  said_within (Ok v) h = value_within v h
  said_within (Err e) h = refused (number_of e) (number_late e)

  pub step_within : Within it.start it.len it.says → StepWithin s st it (step s st blank it)
  unfolding step
  step_within h = said_within it.says h

-- a state's span number is nothing to what is taken
unnumbered : (s : Config) (acc : List Entry) (st : RenderState) {it : Item} {st' : RenderState} {es : List Entry} → Taken s (renumbered s acc st) it st' es
    → Taken s st it st' es
unnumbered s acc st t = record { reads = t.reads; prints = t.prints; rect = t.rect; just = t.just; justs = t.justs }

pub whole_grid : (s : Config) → Grid s (whole s)
whole_grid s = record { across = zero-mod _; down = zero-mod _ }

-- ---- a message

-- the items are read as the events, in a state and with the spans of the pass so far: one way for each step. A proof about `read` goes by these ways
pub data ReadAs (s : Config) : List Item → RenderState → List Entry → List Event → Type 0 where
  ends : {st : RenderState} {acc : List Entry} → ReadAs s [] st acc (pass st.rect acc ∷ [])
  refuses : {it : Item} {its : List Item} {st : RenderState} {acc : List Entry} {r : Refusal} → RefusedIn it.start it.len r
      → ReadAs s (it ∷ its) st acc (stop r ∷ [])
  goes : {it : Item} {its : List Item} {st st' : RenderState} {acc : List Entry} {l : List Event} → Taken s st it st' [] → st'.rect ≡ st.rect
      → ReadAs s its st' acc l → ReadAs s (it ∷ its) st acc l
  emits : {it : Item} {its : List Item} {st st' : RenderState} {acc : List Entry} {e : Entry} {l : List Event} → Taken s st it st' (e ∷ [])
      → st'.rect ≡ st.rect → SpanOf (renumbered s acc st) it e → ReadAs s its st' (acc ++ (e ∷ [])) l → ReadAs s (it ∷ its) st acc l
  cuts : {it : Item} {its : List Item} {st st' : RenderState} {acc : List Entry} {l : List Event} → Taken s st it st' [] → rect_fits s st'.rect ≡ true
      → ReadAs s its st' [] l → ReadAs s (it ∷ its) st acc (pass st.rect acc ∷ l)
  turns : {it : Item} {its : List Item} {st : RenderState} {acc : List Entry} {a b : ℕ} {l : List Event} → Taken s st it (new_page s st) []
      → role_in it.says ≡ page_role → ReadAs s its (new_page s st) [] l → ReadAs s (it ∷ its) st acc (pass st.rect acc ∷ close a b ∷ l)
  -- the next page's scan fails
  fails : {it : Item} {its : List Item} {st : RenderState} {acc : List Entry} {a b : ℕ} {r : Refusal} → Taken s st it (new_page s st) []
      → role_in it.says ≡ page_role → (p q : ℕ) → (scan s p q its).fault ≡ Some r
      → ReadAs s (it ∷ its) st acc (pass st.rect acc ∷ close a b ∷ stop r ∷ [])

module _ (s : Config) (it : Item) (its : List Item) (k : ℕ → ℕ → RenderState → Bool → List Entry → List Event)
    (hyp : (a b : ℕ) (st : RenderState) (bl : Bool) (acc : List Entry) → ReadAs s its st acc (k a b st bl acc)) where
  turn_as : (a b : ℕ) (st : RenderState) (acc : List Entry) (o : Option Refusal) → Taken s st it (new_page s st) [] → role_in it.says ≡ page_role
      → (scan s a b its).fault ≡ o → ReadAs s (it ∷ its) st acc (follow s a b st acc its k (Ok Turn))
  turn_as a b st acc None f p q = rw q (turns f p (hyp _ _ (new_page s st) true []))
  turn_as a b st acc (Some r) f p q = rw q (fails f p a b q)

  follow_as : (a b : ℕ) (st : RenderState) (acc : List Entry) (t : Result Step Refusal) → StepWithin s (renumbered s acc st) it t
      → ReadAs s (it ∷ its) st acc (follow s a b st acc its k t)
  follow_as a b st acc (Err r) f = refuses f
  follow_as a b st acc (Ok (Go st' bl)) f = goes (unnumbered s acc st f.0) f.1 (hyp a b st' bl acc)
  follow_as a b st acc (Ok (Emit e st' bl)) f = emits (unnumbered s acc st f.0) f.1 f.2 (hyp a b st' bl (acc ++ (e ∷ [])))
  follow_as a b st acc (Ok (Cut st')) f = cuts (unnumbered s acc st f.0) f.1 (hyp a b st' true [])
  follow_as a b st acc (Ok Turn) f = turn_as a b st acc (scan s a b its).fault (unnumbered s acc st f.0) f.1 refl

pub read_as : (s : Config) (its : List Item) (a b : ℕ) (st : RenderState) (bl : Bool) (acc : List Entry) → Honest its
    → ReadAs s its st acc (read s its a b st bl acc)
read_as s [] a b st bl acc h = ends
read_as s (it ∷ its) a b st bl acc h =
    follow_as s it its (read s its) (λ a b st bl acc. read_as s its a b st bl acc h.1) a b st acc
    (step s (renumbered s acc st) bl it) (step_within s (renumbered s acc st) bl it h.0)

-- the events of a message: its first page's scan fails, or it is read
pub data EventsAs (s : Config) (its : List Item) : List Event → Type 0 where
  refused_at_once : {r : Refusal} (a b : ℕ) → (scan s a b its).fault ≡ Some r → EventsAs s its (stop r ∷ [])
  begun : {l : List Event} → ReadAs s its (start s) [] l → EventsAs s its l

pub events_as : (s : Config) (its : List Item) → Honest its → EventsAs s its (events s its)
unfolding events opening
events_as s its h = look (scan s s.on_time s.off_time its).fault refl
  where
    look : (o : Option Refusal) → (scan s s.on_time s.off_time its).fault ≡ o → EventsAs s its (events s its)
    look None q = rw q (begun (read_as s its _ _ (start s) true [] h))
    look (Some r) q = rw q (refused_at_once s.on_time s.off_time q)

-- ---- the spans

abbrev pub Runs : List Event → Type 0
Runs [] = Unit {0}
Runs (pass r es ∷ evs) = Runs evs
Runs (close a b ∷ evs) = Runs evs
Runs (stop r ∷ evs) = ⊥

abbrev pub entries : List Event → List Entry
entries [] = []
entries (pass r es ∷ evs) = es ++ entries evs
entries (close a b ∷ evs) = entries evs
entries (stop r ∷ evs) = entries evs

-- the first list is the second with some left out
pub data Part : List ℕ → List ℕ → Type 0 where
  none_of : Part [] []
  skip : {k : ℕ} {ks ls : List ℕ} → Part ks ls → Part ks (k ∷ ls)
  both : {j k : ℕ} {ks ls : List ℕ} → j ≡ k → Part ks ls → Part (j ∷ ks) (k ∷ ls)

abbrev pub starts : List Entry → List ℕ
starts es = map (λ e. e.start) es

abbrev pub item_starts : List Item → List ℕ
item_starts its = map (λ e. e.start) its

pub record Covers (its : List Item) (acc : List Entry) (l : List Entry) : Type 0 where
  pub reads : (it : Item) → In it its → Reads it.says
  pub news : List Entry
  pub all : l ≡ acc ++ news
  pub prints : printed_entries news ≡ printed_items its
  pub order : Part (starts news) (item_starts its)

module _ {s : Config} {it : Item} {its : List Item} {st st' : RenderState} where
  all_read : {es : List Entry} → Taken s st it st' es → ((x : Item) → In x its → Reads x.says) → (x : Item) → In x (it ∷ its) → Reads x.says
  all_read t f x here = t.reads
  all_read t f x (there i) = f x i

  -- the item prints nothing
  silent : {acc l : List Entry} → Taken s st it st' [] → Covers its acc l → Covers (it ∷ its) acc l
  silent t c = record { reads = all_read t c.reads; news = c.news; all = c.all; prints = rw t.prints c.prints; order = skip c.order }

  -- and ends a pass
  fresh : (acc : List Entry) {l : List Entry} → Taken s st it st' [] → Covers its [] l → Covers (it ∷ its) acc (acc ++ l)
  fresh acc t c =
      record {
        reads = all_read t c.reads;
        news = c.news;
        all = ap (λ (r : List Entry). acc ++ r) c.all;
        prints = rw t.prints c.prints;
        order = skip c.order;
      }

  spoken : {acc l : List Entry} {e : Entry} → Taken s st it st' (e ∷ []) → SpanOf (renumbered s acc st) it e → Covers its (acc ++ (e ∷ [])) l
      → Covers (it ∷ its) acc l
  spoken {acc = acc} {e = e} t o c =
      record {
        reads = all_read t c.reads;
        news = e ∷ c.news;
        all = c.all ∙ append_assoc acc (e ∷ []) c.news;
        prints = rw (t.prints, append-nil (printed_entry e), c.prints);
        order = both o.start c.order;
      }

pub read_covers : {s : Config} {its : List Item} {st : RenderState} {acc : List Entry} {l : List Event} → ReadAs s its st acc l → Runs l
    → Covers its acc (entries l)
read_covers ends n = record { reads = λ it i. elim i [ ]; news = []; all = refl; prints = refl; order = none_of }
read_covers (refuses f) n = absurd n
read_covers (goes f q r) n = silent f (read_covers r n)
read_covers (emits f q o r) n = spoken f o (read_covers r n)
read_covers (cuts {acc = acc} f q r) n = fresh acc f (read_covers r n)
read_covers (turns {acc = acc} f q r) n = fresh acc f (read_covers r n)
read_covers (fails f q x y e) n = absurd n

-- ---- the rectangles

-- P holds of each pass
abbrev pub EachPass : (Rect → List Entry → Type 0) → List Event → Type 0
EachPass P [] = Unit {0}
EachPass P (pass r es ∷ evs) = P r es × EachPass P evs
EachPass P (close a b ∷ evs) = EachPass P evs
EachPass P (stop x ∷ evs) = EachPass P evs

pub read_grid : {s : Config} {its : List Item} {st : RenderState} {acc : List Entry} {l : List Event} → ReadAs s its st acc l → Grid s st.rect
    → EachPass (λ r es. Grid s r) l
read_grid ends g = (g, tt)
read_grid (refuses f) g = tt
read_grid (goes f q r) g = read_grid r (rw q g)
read_grid (emits f q o r) g = read_grid r (rw q g)
read_grid {s = s} (cuts {st' = st'} f q r) g = (g, read_grid r (rect_grid s st'.rect q))
read_grid {s = s} (turns f q r) g = (g, read_grid r (whole_grid s))
read_grid (fails f q x y e) g = (g, tt)
