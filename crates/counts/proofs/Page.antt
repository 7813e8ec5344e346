-- The counts of a page: its measures looked up what it prints.
use Prim.Native.Nat.{ℕ, zero, suc}
use native.Mathlib.Omega.{arith}
use mathlib.Core.Path.{◌≡◌, refl, sym, ◌∙◌, ap}
use Rattle.std.specs.Prelude.{Option, Some, None}
use mathlib.Core.List.{List, [], ◌∷◌, ◌++◌, map}
use lib.ListN.{length, drop}
use Rattle.records.specs.declared.Config.{Config}
use Rattle.refusal.specs.declared.Refusal.{Refusal}
use Rattle.sign.specs.Sign.{Font, Accepted, sign_file}
use Rattle.font.specs.Table.{font_numbered}
use Rattle.font.specs.Character.{letters_of}
use Rattle.font.proofs.Counts.{counts}
use Rattle.admit.specs.Admission.{admission}
use Rattle.admit.proofs.Laws.{admits}
use Rattle.layout.specs.declared.Rect.{Rect}
use Rattle.layout.specs.declared.Entry.{Entry}
use Rattle.layout.specs.declared.Span.{Span}
use Rattle.layout.specs.declared.Answer.{Answer}
use Rattle.layout.specs.declared.Answer.TheVariants.{Off, End, Refused}
use Rattle.layout.specs.Types.{items, Board}
use Rattle.layout.specs.Fonts.{chars_of, board_of}
use Rattle.layout.specs.Placing.{first_fault, span_fault, pass_fault, pass_records, record_of}
use Rattle.layout.specs.declared.Scan.{Scan}
use Rattle.layout.specs.Read.{Event, pass, close, stop, opening, events}
use Rattle.layout.specs.Listing.{Page, on, off, refused, stop_at, offs, pass_stop, walk, pages, Result, numbered, result, listing, after}
use Rattle.layout.specs.Demand.{In, here, there, counted_records, Measured}
use Rattle.layout.proofs.PassLaws.{or_none}
use Rattle.layout.proofs.Pages.{first_none, measured}
use Rattle.layout.proofs.Calls.{counted_is}
use Rattle.layout.proofs.Checks.{any_result}
use Rattle.layout.proofs.Room.{Counts, numbered_counts}
use Rattle.counts.specs.Placing.{chars_in, looked_in, chars_looked, chars_printed, placing}
use Rattle.counts.specs.Page.{page_records, NonePlaced, PageCounts}
use Rattle.std.proofs.lemmas.List.Sums.{sum_by-append, sum_by-cons}

-- ---- a pass without a fault

module _ (c : Config) (fs : List Font) (msg : List ℕ) where
  abbrev s : Board
  s = board_of msg c fs

  -- all that is printed was looked up, once
  abbrev Equal : List Span → Type 0
  Equal qs = chars_looked (Accepted c fs) msg qs ≡ chars_printed msg qs

  -- how many characters the measure of a text looks up
  abbrev looks : List ℕ → Option Font → ℕ
  looks = looked_in c.capitals

  found : (l : List ℕ) (o : Option Font) (f : Font) (w : ℕ) → o ≡ Some f → looks l (Some f) ≡ w → looks l o ≡ w
  found l o f w p q = rw p q

  span_looked : (r : Rect) (es : List Entry) (e : Entry) → In e es → span_fault s r es e ≡ None
      → looks (chars_of msg e) (font_numbered e.state.font fs) ≡ length (chars_of msg e)
  span_looked r es e i h =
      let m : Measured c msg fs e (record_of s r es e) = measured c fs msg r es e i h in
      found (chars_of msg e) (font_numbered e.state.font fs) m.font (length (chars_of msg e)) m.found
      ((counts (letters_of c.capitals m.font.characters) _ (chars_of msg e)).all _ m.width)

  spans_looked : (r : Rect) (es l : List Entry) → ((e : Entry) → In e l → In e es) → first_fault (span_fault s r es) es ≡ None
      → Equal (map (record_of s r es) l)
  unfolding record_of
  spans_looked r es [] i h = refl
  spans_looked r es (e ∷ l) i h =
      let a : looks (chars_of msg e) (font_numbered e.state.font fs) ≡ length (chars_of msg e) =
      span_looked r es e (i e here) (first_none (span_fault s r es) (i e here) h) in
      let b : Equal (map (record_of s r es) l) = spans_looked r es l (λ x j. i x (there j)) h in
      sum_by-cons (λ q. looks (chars_in msg q) (font_numbered q.font fs)) (record_of s r es e) (map (record_of s r es) l) ∙ omega (arith, a, b)
      ∙ sym (sum_by-cons (λ q. length (chars_in msg q)) (record_of s r es e) (map (record_of s r es) l))

  pass_looked : (r : Rect) (es : List Entry) → pass_fault s r es ≡ None → Equal (pass_records s r es)
  unfolding pass_fault pass_records
  pass_looked r es h = spans_looked r es es (λ e i. i) (or_none _ _ h).1

  -- ---- the pages

  abbrev Each : List Page → Type 0
  Each [] = Unit {0}
  Each (on d rs ∷ l) = Equal rs × Each l
  Each (off d ∷ l) = Each l
  Each (refused r ∷ l) = Each l

  each_offs : (n : ℕ) (l : List Page) → Each l → Each (offs n l)
  each_offs zero l h = h
  each_offs (suc n) l h = h

  each_stop : (o : Option Refusal) (l : List Page) → (o ≡ None → Each l) → Each (stop_at o l)
  each_stop None l h = h refl
  each_stop (Some r) l h = tt

  both : (a b : List Span) → Equal a → Equal b → Equal (a ++ b)
  both a b p q =
      sum_by-append (λ q. looks (chars_in msg q) (font_numbered q.font fs)) a b ∙ omega (arith, p, q)
      ∙ sym (sum_by-append (λ q. length (chars_in msg q)) a b)

  walk_each : (evs : List Event) (a b : ℕ) (rs : List Span) (n : ℕ) → Equal rs → Each (walk s evs a b rs n)
  walk_each [] a b rs n h = (h, each_offs b [] tt)
  walk_each (pass r es ∷ evs) a b rs n h =
      each_stop (pass_stop s n r es) _
      (λ f. walk_each evs a b (rs ++ pass_records s r es) (suc n) (both rs (pass_records s r es) h (pass_looked r es (or_none _ _ f).0)))
  walk_each (close p q ∷ evs) a b rs n h = (h, each_offs b _ (walk_each evs p q [] 0 refl))
  walk_each (stop r ∷ evs) a b rs n h = tt

  numbered_each : (k : ℕ) (l : List Page) (n : ℕ) → Each l → Equal (numbered k l n).written
  numbered_each k [] n h = refl
  numbered_each k (on d rs ∷ l) zero h = h.0
  numbered_each k (off d ∷ l) zero h = refl
  numbered_each k (refused r ∷ l) zero h = refl
  numbered_each k (on d rs ∷ l) (suc n) h = numbered_each (suc k) l n h.1
  numbered_each k (off d ∷ l) (suc n) h = numbered_each (suc k) l n h
  numbered_each k (refused r ∷ l) (suc n) h = refl

  pages_equal : (n : ℕ) → Equal (numbered 0 (pages s (items c msg)) n).written
  unfolding pages
  pages_equal n =
      let o : Scan = opening s.config (items c msg) in
      numbered_each 0 (pages s (items c msg)) n (walk_each (events s.config (items c msg)) o.on o.off [] 0 refl)

-- ---- a call

module _ (file msg : List ℕ) (n : ℕ) (lent : List Span) where
  abbrev r : Result
  r = result file msg n (length lent)

  characters : chars_looked (sign_file file) msg r.written ≡ chars_printed msg r.written
  unfolding result
  characters =
      any_result msg n (length lent) (λ x. chars_looked (sign_file file) msg x.written ≡ chars_printed msg x.written) (λ x. refl)
      (admission file msg) (λ c fs e q. rw (admits e).sign (pages_equal c fs msg n))

  counted : counted_records r.answer (r.written ++ drop (length r.written) lent) ≡ r.written
  unfolding result
  counted =
      any_result msg n (length lent) (λ x. counted_records x.answer (x.written ++ drop (length x.written) lent) ≡ x.written) (λ x. refl)
      (admission file msg) (λ c fs e q. counted_is 0 (pages (board_of msg c fs) (items c msg)) n lent)

  on_counts : Counts r
  unfolding result
  on_counts =
      any_result msg n (length lent) Counts (λ x d k e. absurd (let z : ◌≡◌ {A = ℕ} 0 1 = cc in omega arith)) (admission file msg)
      (λ c fs e q. numbered_counts 0 (pages (board_of msg c fs) (items c msg)) n)

  page_is : page_records file msg n lent ≡ r.written
  unfolding listing after
  page_is = counted

  -- an answer that counts no record
  none_placed : (a : Answer) → listing file msg n lent ≡ a → ((l : List Span) → counted_records a l ≡ []) → NonePlaced (placing file msg n lent)
  unfolding placing
  none_placed a e h =
      let w : r.written ≡ [] = sym page_is ∙ ap (λ (x : Answer). counted_records x (after file msg n lent)) e ∙ h (after file msg n lent) in
      record { looked = ap (chars_looked (sign_file file) msg) w; spans = ap length w }

  pub page_counts : PageCounts file msg n lent
  unfolding placing listing
  page_counts =
      record {
        answer = refl;
        characters = characters ∙ ap (chars_printed msg) (sym page_is);
        spans = ap length (sym page_is);
        on_page = λ d k e. sym (on_counts d k e);
        refused = λ x e. none_placed (Refused x) e (λ l. refl);
        off_page = λ d e. none_placed (Off d) e (λ l. refl);
        at_end = λ k e. none_placed (End k) e (λ l. refl);
      }
