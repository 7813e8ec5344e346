-- The ways on and out of a pass.
use Rattle.std.proofs.lemmas.List.Sums.{sum_by-cons}
use Rattle.std.proofs.lemmas.List.{map-append}
use Rattle.std.specs.Prelude.{sum_by, ◌⊎◌, Option, Some, None, Result, Ok, Err}
use Rattle.std.proofs.lemmas.Bool.{eqb-true}
use Prim.Native.Nat.{ℕ, ◌+◌, ◌%◌, ◌≤◌, ◌<◌}
use mathlib.Core.Path.{◌≡◌, refl, sym, ◌∙◌, ap, subst}
use mathlib.Core.Bool.{Bool, true, false, ◌&&◌}
use mathlib.Core.List.{List, [], ◌∷◌, ◌++◌, map, append_assoc, append-nil}
use native.Mathlib.Omega.{arith}
use lib.Dec.{leb, ltb, eqb}
use borrow.Author.Tests.{leb-true}
use lib.ListN.{length, take, drop}
use mir.Val as Val
use mir.Syntax.{w64}
use lib.Seq.{take-take}
use Rattle.token.specs.Token.{Slice, slice_len, slices_from}
use Rattle.token.proofs.Laws.{next_le, next_more, first_inside, first_start, first_bytes, first_len, first_rest}
use Rattle.utf8.specs.Utf8.{codes}
use Rattle.refusal.specs.declared.Refusal.{Refusal}
use Rattle.records.specs.declared.Config.{Config}
use Rattle.layout.specs.declared.Rect.{Rect}
use Rattle.layout.specs.declared.RenderState.{RenderState}
use Rattle.layout.specs.declared.Entry.{Entry}
use Rattle.layout.specs.declared.Step.{Step}
use Rattle.layout.specs.declared.Step.TheVariants.{Go, Emit, Cut, Turn}
use Rattle.layout.specs.Types.{Item, item_at, JustsOf, DefaultJusts}
use Rattle.layout.specs.Read.{unit, rect_fits, fits, step, renumbered}
use Rattle.std.proofs.lemmas.Bool.{and_parts}
use Rattle.layout.proofs.Cover.{StepWithin, step_within}
use Rattle.layout.proofs.Items.{item_within}
use Rattle.page.specs.Scan.{items_from}
use Rattle.rows.specs.declared.Row.{Row}
use Rattle.rows.specs.Rows.{rows_of}
use Rattle.rows.proofs.Laws.{rows_put}
use Rattle.sign.specs.Sign.{sign_file}
use Rattle.sign.specs.Accepted.{GoodConfig}
use Rattle.sign.proofs.Answer.{accepts}
use Rattle.base.specs.Pick.{pick}
use Rattle.sign.specs.declared.FontEntry.{FontEntry}
use Rattle.font.specs.Table.{font_numbered, entry_numbered}
use Rattle.font.specs.declared.FontWidths.{FontWidths}
use Rattle.counts.specs.Placing.{fonts_in, capitals_in}
use Rattle.counts.proofs.Laws.{looked_few}
use Rattle.meter.specs.declared.call.Call.{Call}
use Rattle.meter.specs.Gauges.{FontIs, WidthsOf, CodesFit, EntryIn}
use Rattle.pass.specs.declared.How.{How}
use Rattle.pass.specs.declared.How.TheVariants.{Cut as ByCut, Turn as ByTurn, End as ByEnd}
use Rattle.pass.specs.declared.PassDone.{PassDone}
use Rattle.pass.specs.declared.Reached.{Reached}
use Rattle.pass.specs.Pass.{Ending, ended, entries_by, entries_after, ending_by, ending_after, step_at, start_at, Inside, InSign, tag_bytes, items_in, entries_from, ending_from, row_in, looked_in, Holds, Storable, Stored, PassAsked, SpansRead, PassRead}
use Rattle.pass.specs.Groups.{Slotted, renumbered_by, numbers_with, Numbered}
use Rattle.pass.proofs.Items.{spoken_narrow}
use Rattle.pass.proofs.Groups.{slotted, few_left, renumbers, numbers_on}

-- ---- a rectangle inside the sign

fits_most : (a n all u : ℕ) → fits a n all u ≡ true → a + n ≤ all
fits_most a n all u e =
    let (_, p) = and_parts (ltb 0 n) (leb (a + n) all && (eqb (a % unit u) 0 && eqb (n % unit u) 0)) e in
    leb-true (a + n) all (and_parts (leb (a + n) all) (eqb (a % unit u) 0 && eqb (n % unit u) 0) p).0

fits_inside : (c : Config) (r : Rect) → rect_fits c r ≡ true → Inside c r
fits_inside c r e =
    let (a, d) = and_parts (fits r.left r.width c.width c.char_width) (fits r.top r.height c.height c.char_height) e in
    record { across = fits_most r.left r.width c.width c.char_width a; down = fits_most r.top r.height c.height c.char_height d }

-- ---- the sign's justifications

pub default_justs : (call : Call) → DefaultJusts call.table.config
default_justs call =
    let k : GoodConfig call.table.config = (accepts call.file.now call.table call.opened call.bytes).good.config in
    record { page_from = k.page_from; page_to = k.page_to; line_from = k.line_from; line_to = k.line_to }

-- ---- the widths of a font

-- an entry that is found has the number
found_numbered : (n : ℕ) (e : FontEntry) (es : List FontEntry) → entry_numbered n es ≡ Some e → e.number ≡ n
unfolding entry_numbered
found_numbered n e [] k = cc
found_numbered n e (x ∷ es) k = go (eqb x.number n) refl (found_numbered n e es) k
  where
    go : (t : Bool) → eqb x.number n ≡ t → (entry_numbered n es ≡ Some e → e.number ≡ n) → pick t (Some x) (entry_numbered n es) ≡ Some e → e.number ≡ n
    go true a h d =
        let same : x ≡ e = cc in
        ap (λ (y : FontEntry). y.number) (sym same) ∙ eqb-true x.number n a
    go false a h d = h d

-- the widths of the font with a number can be held
held_widths : (call : Call) (n : ℕ) (held : Option (FontWidths 256)) → WidthsOf call n held → Holds call held
held_widths call n None k = tt
held_widths call n (Some w) k = subst (λ (m : ℕ). FontIs call m w) (sym (found_numbered n w.font.entry (take call.table.count call.table.fonts) k.entry)) k

-- ---- the loop

items_end : (c : Config) (at : ℕ) (l : List ℕ) → slices_from at l ≡ [] → items_from c at l ≡ []
unfolding items_from
items_end c at l h = ap (map (item_at c)) h

-- the first of the slices from a place on is s, which starts at a, and the others are xs
record First (at : ℕ) (l : List ℕ) (a : ℕ) (s : List ℕ) (xs : List Slice) : Type 0 where
  start : at ≡ a
  more : 0 < length s
  within : a + length s ≤ length l
  bytes : s ≡ take (length s) (drop a l)
  rest : xs ≡ slices_from (a + length s) l

first_slice : (at : ℕ) (l : List ℕ) (a : ℕ) (s : List ℕ) (xs : List Slice) → slices_from at l ≡ record { start = a; bytes = s } ∷ xs → First at l a s xs
first_slice at l a s xs e =
    let x : Slice = record { start = a; bytes = s } in
    let h : at < length l = first_inside at l x xs e in
    let n : ℕ = slice_len (drop at l) in
    let start : at ≡ a = sym (first_start at l x xs e) in
    let size : length s ≡ n = first_len at l x xs e in
    let more : at < at + n = next_more at l h (at + n) refl in
    let past : at + n ≤ length l = next_le at l h (at + n) refl in
    record {
      start = start;
      more = omega (arith, size, more);
      within = rw (size, ← start) past;
      bytes = rw (size, ← start) (first_bytes at l x xs e);
      rest = rw (size, ← start) (first_rest at l x xs e);
    }

-- where the loop stands: first is the state it began with, rows₀ the rows, and the slices are left; so_far are the spans read
pub record Stands (call : Call) (from : ℕ) (first : RenderState) (rows₀ rows : List Row) (left : List Slice)
    (p : Reached) (blank : Bool) (held : Option (FontWidths 256)) (numbers : List ℕ) : Type 0 where
  pub counted : from + p.count ≤ p.at
  pub few : from + p.looked ≤ p.at
  pub within : p.at ≤ length call.msg.now
  pub asked : PassAsked call from first rows₀
  pub room : length rows ≡ length rows₀
  pub rect : p.state.rect ≡ first.rect
  pub justs : JustsOf p.state
  pub so_far : List Entry
  pub stored : rows_of rows p.count ≡ map (row_in call) so_far
  pub numbered : Numbered call.table.config so_far numbers
  pub ending : ending_after call.table.config (items_in call p.at) p.state blank so_far ≡ ending_from call from first true
  pub entries : so_far ++ entries_after call.table.config (items_in call p.at) p.state blank so_far ≡ entries_from call from first true
  pub sum :
      p.looked + sum_by (looked_in call) (entries_after call.table.config (items_in call p.at) p.state blank so_far)
      ≡ sum_by (looked_in call) (entries_from call from first true)
  pub holds : Holds call held
  pub slices : left ≡ slices_from p.at call.msg.now

module _ {call : Call} {from : ℕ} {first : RenderState} {rows₀ rows : List Row} {left : List Slice}
    {p : Reached} {blank : Bool} {held : Option (FontWidths 256)} {numbers : List ℕ}
    (z : Stands call from first rows₀ rows left p blank held numbers) where
  abbrev c : Config
  c = call.table.config

  abbrev at : ℕ
  at = p.at

  abbrev st : RenderState
  st = p.state

  -- the row of an entry
  abbrev f : Entry → Row
  f = row_in call

  -- the spans read
  abbrev acc : List Entry
  acc = z.so_far

  -- the whole pass: its ending, and its spans
  abbrev End : Ending
  End = ending_from call from first true

  abbrev All : List Entry
  All = entries_from call from first true

  -- how many characters are looked up for entries, and for the whole pass
  abbrev looked_for : List Entry → ℕ
  looked_for = sum_by (looked_in call)

  abbrev Looked : ℕ
  Looked = looked_for All

  -- what is promised of the end
  abbrev Ends : Result PassDone Refusal → Type 0
  Ends = PassRead call from first rows₀ rows

  abbrev done : How → Reached → PassDone
  done h q = record { how = h; rect = first.rect; reached = q }

  -- the pass is done
  finish : (h : How) (q : Reached) → ended h st.rect q.state (items_in call q.at) ≡ End → SpansRead call from first rows (done h q)
      → Ends (Ok (done h q))
  finish h q e s = record { ends = subst (λ (x : Rect). ended h x q.state (items_in call q.at) ≡ End) z.rect e; done = s; room = z.room }

  -- no span is to come: the rows are those of all
  all_stored : acc ++ [] ≡ All → rows_of rows p.count ≡ map f All
  all_stored e = z.stored ∙ ap (map f) (sym (append-nil acc) ∙ e)

  -- the state is on the sign
  on_sign : InSign c st
  on_sign = record { rect = rw z.rect z.asked.inside.rect; justs = λ j. z.justs }

  -- the message's end
  pub pass_end : left ≡ [] → Ends (Ok (done ByEnd p))
  pass_end h =
      finish ByEnd p (last_ending (items_in call at) none_left ∙ z.ending)
      (record {
        spans = all_stored (last_entries (items_in call at) none_left ∙ z.entries);
        looked = last_sum (items_in call at) none_left ∙ z.sum;
        counted = omega (arith, z.counted);
        few = z.few;
        within = z.within;
        inside = z.asked.inside.rect;
        next = on_sign;
      })
    where
      none_left : items_in call at ≡ []
      none_left = items_end c at call.msg.now (sym z.slices ∙ h)

      last_ending : (its : List Item) → its ≡ [] → ended ByEnd st.rect st its ≡ ending_after c its st blank acc
      last_ending its e = rw e

      last_entries : (its : List Item) → its ≡ [] → acc ++ [] ≡ acc ++ entries_after c its st blank acc
      last_entries its e = rw e

      last_sum : (its : List Item) → its ≡ [] → p.looked ≡ p.looked + looked_for (entries_after c its st blank acc)
      last_sum its e = rw e (omega arith)

  -- the first slice that is left
  module _ {a : ℕ} {s : List ℕ} {xs : List Slice} (y : left ≡ record { start = a; bytes = s } ∷ xs) where
    leads : First at call.msg.now a s xs
    leads = first_slice at call.msg.now a s xs (sym z.slices ∙ y)

    pub pass_asks : a + length s ≤ length call.msg.now
    pass_asks = leads.within

    pub pass_past : Val.Fits w64 (a + length s)
    pass_past = omega (arith, leads.within, call.small)

  pub pass_renumbers : Slotted numbers st
  pass_renumbers = slotted c z.numbered st z.justs

  -- v is the state that it is read in, t what it does
  module _ {a : ℕ} {s : List ℕ} {xs : List Slice} (y : left ≡ record { start = a; bytes = s } ∷ xs)
      {v : RenderState} (n : v ≡ renumbered_by numbers st) {t : Result Step Refusal} (g : t ≡ step_at c v blank a s) where
    here : First at call.msg.now a s xs
    here = leads y

    slice : Slice
    slice = record { start = a; bytes = s }

    -- its end
    abbrev r : ℕ
    r = a + length s

    past : r ≤ length call.msg.now
    past = here.within

    more : at < r
    more = omega (arith, here.start, here.more)

    from_next : items_in call at ≡ item_at c slice ∷ items_in call r
    unfolding items_from slice
    from_next = ap (map (item_at c)) (sym z.slices ∙ y ∙ ap (λ (l : List Slice). record { start = a; bytes = s } ∷ l) here.rest)

    -- its number is its group's, where they count
    abbrev now : RenderState
    now = renumbered c acc st

    v_now : v ≡ now
    v_now = n ∙ renumbers c z.numbered st z.justs

    stepped : step c now blank (item_at c slice) ≡ t
    unfolding step_at slice
    stepped = ap (λ (x : RenderState). step c x blank (item_at c slice)) (sym v_now) ∙ sym g

    -- the ending and the entries from here on, by a step
    abbrev ending : Result Step Refusal → Ending
    ending = ending_by now (items_in call r) (ending_after c (items_in call r)) acc

    abbrev entries : Result Step Refusal → List Entry
    entries = entries_by (entries_after c (items_in call r)) acc

    here_ending : ending_after c (items_in call at) st blank acc ≡ ending t
    here_ending = ap (λ (l : List Item). ending_after c l st blank acc) from_next ∙ ap ending stepped

    here_entries : entries_after c (items_in call at) st blank acc ≡ entries t
    here_entries = ap (λ (l : List Item). entries_after c l st blank acc) from_next ∙ ap entries stepped

    lies : StepWithin c now (item_at c slice) t
    unfolding slice
    lies =
        subst (StepWithin c now (item_at c slice)) stepped
        (step_within c now blank (item_at c slice) (item_within c.long_times a s here.more))

    -- the step is u
    module _ {u : Result Step Refusal} (q : t ≡ u) where
      ends_so : ending u ≡ End
      ends_so = sym (here_ending ∙ ap ending q) ∙ z.ending

      spans_so : acc ++ entries u ≡ All
      spans_so = ap (λ (l : List Entry). acc ++ l) (sym (here_entries ∙ ap entries q)) ∙ z.entries

      sum_so : p.looked + looked_for (entries u) ≡ Looked
      sum_so = ap (λ (l : List Entry). p.looked + looked_for l) (sym (here_entries ∙ ap entries q)) ∙ z.sum

      lies_so : StepWithin c now (item_at c slice) u
      lies_so = subst (StepWithin c now (item_at c slice)) q lies

    pub pass_refuse : {x : Refusal} → t ≡ Err x → Ends (Err x)
    pass_refuse q = record { ends = ends_so q; done = tt; room = z.room }

    -- the place past the slice
    abbrev next : RenderState → Reached
    next st' = record { at = r; count = p.count; looked = p.looked; state = st' }

    -- [tr] or [np]: no span comes after it
    closed : (h : How) (st' : RenderState) → acc ++ [] ≡ All → p.looked + 0 ≡ Looked → tag_bytes h ≤ 1 → InSign c st'
        → SpansRead call from first rows (done h (next st'))
    closed h st' e l k i =
        record {
          spans = all_stored e;
          looked = omega (arith, l);
          counted = omega (arith, z.counted, more, k);
          few = omega (arith, z.few, more);
          within = past;
          inside = z.asked.inside.rect;
          next = i;
        }

    -- the step is u, which is v
    goes : {u v : Step} → t ≡ Ok u → u ≡ v → t ≡ Ok v
    goes q e = q ∙ ap (λ (x : Step). Ok x) e

    pub pass_cut : {u : Step} {st' : RenderState} → t ≡ Ok u → u ≡ Cut st' → Ends (Ok (done ByCut (next st')))
    pass_cut {st' = st'} k e =
        let q : t ≡ Ok (Cut st') = goes k e in
        let i : InSign c st' = record { rect = fits_inside c st'.rect (lies_so q).1; justs = λ j. (lies_so q).0.justs j z.justs } in
        finish ByCut (next st') (ends_so q) (closed ByCut st' (spans_so q) (sum_so q) (omega arith) i)

    pub pass_turn : {u : Step} → t ≡ Ok u → u ≡ Turn → Ends (Ok (done ByTurn (next v)))
    pass_turn k e =
        let q : t ≡ Ok Turn = goes k e in
        let i : InSign c now = record { rect = on_sign.rect; justs = on_sign.justs } in
        subst (λ (x : RenderState). Ends (Ok (done ByTurn (next x)))) (sym v_now)
        (finish ByTurn (next now) (ends_so q) (closed ByTurn now (spans_so q) (sum_so q) (omega arith) i))

    pub pass_go : {u : Step} {st' : RenderState} {b : Bool} → t ≡ Ok u → u ≡ Go st' b → Stands call from first rows₀ rows xs (next st') b held numbers
    pass_go {st' = st'} {b} k e =
        let q : t ≡ Ok (Go st' b) = goes k e in
        record {
          counted = omega (arith, z.counted, more);
          few = omega (arith, z.few, more);
          within = past;
          asked = z.asked;
          room = z.room;
          rect = (lies_so q).1 ∙ z.rect;
          justs = (lies_so q).0.justs (default_justs call) z.justs;
          so_far = acc;
          stored = z.stored;
          numbered = z.numbered;
          ending = ends_so q;
          entries = spans_so q;
          sum = sum_so q;
          holds = z.holds;
          slices = here.rest;
        }

    -- a span: its row is stored
    module _ {u : Step} {x : Entry} {st' : RenderState} {b : Bool} (k : t ≡ Ok u) (e : u ≡ Emit x st' b) where
      q : t ≡ Ok (Emit x st' b)
      q = goes k e

      spoke : StepWithin c now (item_at c slice) (Ok (Emit x st' b))
      spoke = lies_so q

      starts : x.start ≡ a
      unfolding slice
      starts = spoke.2.start

      shorter : x.len ≤ length s
      unfolding slice
      shorter = spoke.2.len

      narrow : x.kind ≡ 0 → CodesFit (codes (take x.len s))
      unfolding slice
      narrow k = spoken_narrow c.long_times a s x spoke.2.spoken k

      pass_reads : EntryIn call x
      pass_reads =
          record {
            inside = omega (arith, starts, shorter, past);
            codes_fit = λ k. rw (starts, ← take-take x.len (length s) (drop a call.msg.now) shorter, ← here.bytes) (narrow k);
          }

      pub pass_stores : Storable call x held rows p.count
      pass_stores = record { reads = pass_reads; holds = z.holds; room = omega (arith, here.start, here.more, here.within) }

      -- its state has a place in the table, and its number counts
      x_justs : JustsOf x.state
      x_justs = rw spoke.2.state z.justs

      pub pass_takes : Slotted numbers x.state
      pass_takes = slotted c z.numbered x.state x_justs

      pub pass_few : numbers ≡ [] ⊎ x.state.span < 255
      pass_few = few_left c z.numbered (λ k. subst (λ (o : RenderState). o.span < 255) (sym spoke.2.state) (spoke.3 k))

      -- the spans from here on
      abbrev later : List Entry
      later = entries_after c (items_in call r) st' b (acc ++ (x ∷ []))

      -- no more characters than the slice has bytes
      looked_here : {held' : Option (FontWidths 256)} {rows' : List Row} {y : ℕ} → Stored call x rows p.count held' rows' y → y ≤ length s
      looked_here w =
          let found = font_numbered x.state.font (fonts_in (sign_file call.file.now)) in
          rw w.looked (looked_few call.msg.now x (capitals_in (sign_file call.file.now)) found (length s) shorter (omega (arith, here.more)))

      pub pass_adds : {held' : Option (FontWidths 256)} {rows' : List Row} {y : ℕ} → Stored call x rows p.count held' rows' y → Val.Fits w64 (p.looked + y)
      pass_adds w = omega (arith, looked_here w, z.few, more, past, call.small)

      pub pass_emit : {numbers' : List ℕ} {held' : Option (FontWidths 256)} {rows' : List Row} {y : ℕ} → x.state.line < 256
          → numbers' ≡ numbers_with numbers x.state → Stored call x rows p.count held' rows' y
          → Stands call from first rows₀ rows' xs (record { at = r; count = p.count + 1; looked = p.looked + y; state = st' }) b held' numbers'
      pass_emit {held' = held'} {y = y} h o w =
          record {
            counted = omega (arith, z.counted, more);
            few = omega (arith, looked_here w, z.few, here.start);
            within = past;
            asked = z.asked;
            room = w.room ∙ z.room;
            rect = spoke.1 ∙ z.rect;
            justs = spoke.0.justs (default_justs call) z.justs;
            so_far = acc ++ (x ∷ []);
            stored =
                ap (λ (y : List Row). rows_of y (p.count + 1)) w.row
                ∙ rows_put rows p.count (f x) pass_stores.room
                ∙ ap (λ (y : List Row). y ++ (f x ∷ [])) z.stored
                ∙ sym (map-append f acc (x ∷ []));
            numbered = rw o (numbers_on c z.numbered x x_justs h);
            ending = ends_so q;
            entries = append_assoc acc (x ∷ []) later ∙ spans_so q;
            sum = omega (arith, w.looked, sum_by-cons (looked_in call) x later, sum_so q);
            holds = held_widths call x.state.font held' w.holds;
            slices = here.rest;
          }

module _ {call : Call} {from : ℕ} {first : RenderState} {rows : List Row}
    (asked : PassAsked call from first rows) where
  -- where the loop begins
  pub pass_start : {q : Reached} {held : Option (FontWidths 256)} {numbers : List ℕ} {left : List Slice} → q ≡ start_at from first
      → held ≡ None → Numbered call.table.config [] numbers → left ≡ slices_from from call.msg.now → Stands call from first rows rows left q true held numbers
  pass_start {held = held} {numbers} {left} d e n k =
      subst (λ (q : Reached). Stands call from first rows rows left q true held numbers) (sym d)
      (record {
        counted = omega arith;
        few = omega arith;
        within = asked.within;
        asked = asked;
        room = refl;
        rect = refl;
        justs = asked.inside.justs (default_justs call);
        so_far = [];
        stored = refl;
        numbered = n;
        ending = refl;
        entries = refl;
        sum = omega arith;
        holds = rw e tt;
        slices = k;
      })
