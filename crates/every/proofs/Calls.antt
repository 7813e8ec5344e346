-- The whole listing gives what the calls one by one give.
use Prim.Native.Nat.{ℕ, zero, suc, ◌+◌, ◌≤◌, ◌<◌}
use native.Mathlib.Omega.{arith}
use native.Mathlib.Nat.{add-zero, zero-add}
use mathlib.Core.Path.{◌≡◌, refl, sym, ◌∙◌, ap, subst}
use mathlib.Core.Bool.{Bool, true, false}
use Rattle.std.specs.Prelude.{Option, Some, None, Ok, Err}
use mathlib.Core.List.{List, [], ◌∷◌, ◌++◌, append_assoc}
use Rattle.std.proofs.lemmas.List.{get_or_append_left}
use lib.Dec.{ltb, eqb}
use lib.ListN.{length, take, drop, length-append, length-drop}
use lib.Seq.{take-append_seam, take-append-le, drop-append-le, drop_at}
use borrow.Author.Tests.{le-ltb, ltb-true}
use Rattle.base.specs.Pick.{pick}
use Rattle.refusal.specs.declared.Refusal.{Refusal}
use Rattle.refusal.specs.Refusals.{refusal}
use Rattle.records.specs.declared.Config.{Config}
use Rattle.sign.specs.Sign.{Font}
use Rattle.admit.specs.Admission.{Admission, denied, admitted, admission}
use Rattle.layout.specs.declared.Span.{Span}
use Rattle.layout.specs.declared.Answer.TheVariants.{On, Off, End, Refused as RefusedAnswer}
use Rattle.layout.specs.Types.{items}
use Rattle.layout.specs.Fonts.{board_of}
use Rattle.layout.specs.Listing.{Page, on, off, refused, pages, Result, said, numbered, result_on, result, listing, after}
use Rattle.layout.specs.Demand.{Shows, counted_records, listed}
use Rattle.every.specs.declared.Shown.{Shown}
use Rattle.every.specs.declared.Listed.{Listed}
use Rattle.every.specs.All.{shown, answers_in, records_in, refusal_in, Gathered, none_but, gather, gathered_on, gathered, listed_as, counts_of, unless_refused, over, listing_all, answers_after, records_after}
use Rattle.every.specs.Calls.{answer_told, records_told, answer_at, Roomy, AsCalled, FirstRefused, WholeListing}
use Rattle.every.proofs.Laws.{counts_listed, counts_refused, Fits, gathered_fits}

-- ---- answers of a list of pages

-- what the call for a number gives, as answer s tells it with the records xs
record Tells (r : Result) (s : Shown) (xs : List Span) : Type 0 where
  answer : r.answer ≡ answer_told s
  written : r.written ≡ records_told s xs

tells_on : (d : ℕ) (rs xs zs : List Span) (n : ℕ) → length xs ≡ n
    → Tells (record { answer = On d (length rs); written = rs }) (shown 1 d n (length rs)) (xs ++ (rs ++ zs))
tells_on d rs xs zs n e = record { answer = refl; written = sym (ap (take (length rs)) (drop_at xs (rs ++ zs) n e) ∙ take-append_seam rs zs) }

-- answer n of the pages l, whose records stand behind xs
tells_at : (c k : ℕ) (l : List Page) (xs : List Span) (n : ℕ) → length xs ≡ k → n < length (answers_in k l)
    → Tells (numbered c l n) (answer_at (answers_in k l) n) (xs ++ records_in l)
tells_at c k [] xs n e h = absurd (omega arith)
tells_at c k (on d rs ∷ l) xs zero e h = tells_on d rs xs (records_in l) k e
tells_at c k (on d rs ∷ l) xs (suc n) e h =
    subst (Tells (numbered (suc c) l n) (answer_at (answers_in (k + length rs) l) n)) (append_assoc xs rs (records_in l))
    (tells_at (suc c) (k + length rs) l (xs ++ rs) n (length-append xs rs ∙ ap (λ (j : ℕ). j + length rs) e) (omega arith))
tells_at c k (off d ∷ l) xs zero e h = record { answer = refl; written = refl }
tells_at c k (off d ∷ l) xs (suc n) e h =
    let t : Tells (numbered (suc c) l n) (answer_at (answers_in k l) n) (xs ++ records_in l) = tells_at (suc c) k l xs n e (omega arith) in
    record { answer = t.answer; written = t.written }
tells_at c k (refused r ∷ l) xs n e h = absurd (omega arith)

-- after the answers: the end, or the refusal
last_end : (c : ℕ) (l : List Page) → refusal_in l ≡ None → (k : ℕ) → (numbered c l (length (answers_in k l))).answer ≡ End (c + length (answers_in k l))
last_end c [] e k = ap End (sym (add-zero c))
last_end c (on d rs ∷ l) e k =
    last_end (suc c) l e (k + length rs)
    ∙ ap End (let q : suc c + length (answers_in (k + length rs) l) ≡ c + suc (length (answers_in (k + length rs) l)) = omega arith in q)
last_end c (off d ∷ l) e k =
    last_end (suc c) l e k ∙ ap End (let q : suc c + length (answers_in k l) ≡ c + suc (length (answers_in k l)) = omega arith in q)
last_end c (refused r ∷ l) e k = absurd (cc)

last_refused : (x : Refusal) (c : ℕ) (l : List Page) → refusal_in l ≡ Some x → (k : ℕ) → (numbered c l (length (answers_in k l))).answer ≡ RefusedAnswer x
last_refused x c [] e k = absurd (cc)
last_refused x c (on d rs ∷ l) e k = last_refused x (suc c) l e (k + length rs)
last_refused x c (off d ∷ l) e k = last_refused x (suc c) l e k
last_refused x c (refused r ∷ l) e k = cc

pick_shows : (b : Bool) (d n : ℕ) → Shows (pick b (On d n) (Off d))
pick_shows true d n = tt
pick_shows false d n = tt

told_shows : (s : Shown) → Shows (answer_told s)
told_shows s = pick_shows (eqb s.kind 1) s.duration s.count

-- the records that a call counts are what it wrote
counted_is : (c : ℕ) (l : List Page) (n : ℕ) (lent : List Span)
    → counted_records (numbered c l n).answer (over (numbered c l n).written lent) ≡ (numbered c l n).written
counted_is c [] n lent = refl
counted_is c (on d rs ∷ l) zero lent = take-append_seam rs (drop (length rs) lent)
counted_is c (off d ∷ l) zero lent = refl
counted_is c (refused x ∷ l) zero lent = refl
counted_is c (on d rs ∷ l) (suc n) lent = counted_is (suc c) l n lent
counted_is c (off d ∷ l) (suc n) lent = counted_is (suc c) l n lent
counted_is c (refused x ∷ l) (suc n) lent = refl

module _ (file msg : List ℕ) (lent : ℕ → List Span) where
  -- the records that call n counts
  abbrev piece : ℕ → List Span
  piece n = counted_records (listing file msg n (lent n)) (after file msg n (lent n))

  listed_is : (c i k : ℕ) (l : List Page) → ((n : ℕ) → n < length (answers_in k l) → piece (i + n) ≡ (numbered c l n).written)
      → listed file msg lent i (length (answers_in k l)) ≡ records_in l
  listed_is c i k [] e = refl
  listed_is c i k (on d rs ∷ l) e =
      ap (λ (x : List Span). x ++ listed file msg lent (suc i) (length (answers_in (k + length rs) l))) (ap piece (sym (add-zero i)) ∙ e 0 (omega arith))
      ∙ ap (λ (x : List Span). rs ++ x)
      (listed_is (suc c) (suc i) (k + length rs) l (λ n m. ap piece (let q : suc i + n ≡ i + suc n = omega arith in q) ∙ e (suc n) (omega arith)))
  listed_is c i k (off d ∷ l) e =
      ap (λ (x : List Span). x ++ listed file msg lent (suc i) (length (answers_in k l))) (ap piece (sym (add-zero i)) ∙ e 0 (omega arith))
      ∙ listed_is (suc c) (suc i) k l (λ n m. ap piece (let q : suc i + n ≡ i + suc n = omega arith in q) ∙ e (suc n) (omega arith))
  listed_is c i k (refused r ∷ l) e = refl

-- ---- the ways of a call

data Ways (file msg : List ℕ) (a k : ℕ) (g : Gathered) : Type 0 where
  early : (x : Refusal) → g ≡ none_but x → (1026 ≤ a → 2048 ≤ k → admission file msg ≡ denied x) → Ways file msg a k g
  walked : (c : Config) (fs : List Font) → admission file msg ≡ admitted c fs → g ≡ gather (pages (board_of msg c fs) (items c msg)) → Ways file msg a k g

ways : (file msg : List ℕ) (a k : ℕ) → Ways file msg a k (gathered file msg a k)
unfolding gathered
ways file msg a k = look (admission file msg) refl
  where
    room : (c : Config) (fs : List Font) → admission file msg ≡ admitted c fs → (t u : Bool) → ltb a 1026 ≡ t → ltb k 2048 ≡ u
        → Ways file msg a k (pick t (none_but (refusal 4 0 0 0)) (pick u (none_but (refusal 4 0 0 0)) (gather (pages (board_of msg c fs) (items c msg)))))
    room c fs e true u p q = early (refusal 4 0 0 0) refl (λ h j. absurd (omega (arith, ltb-true a 1026 p)))
    room c fs e false true p q = early (refusal 4 0 0 0) refl (λ h j. absurd (omega (arith, ltb-true k 2048 q)))
    room c fs e false false p q = walked c fs e refl

    look : (y : Admission) → admission file msg ≡ y → Ways file msg a k (gathered_on y msg a k)
    look (denied r) e = early r refl (λ h j. e)
    look (admitted c fs) e = room c fs e (ltb a 1026) (ltb k 2048) refl refl

-- ---- places

-- the records of an answer lie within those of the pages, k records before them
within : (k : ℕ) (l : List Page) (n : ℕ) → n < length (answers_in k l)
    → (answer_at (answers_in k l) n).first + (answer_at (answers_in k l) n).count ≤ k + length (records_in l)
within k [] n h = absurd (omega arith)
within k (on d rs ∷ l) zero h = omega (arith, length-append rs (records_in l))
within k (on d rs ∷ l) (suc n) h = omega (arith, length-append rs (records_in l), within (k + length rs) l n (omega arith))
within k (off d ∷ l) zero h = omega arith
within k (off d ∷ l) (suc n) h = within k l n (omega arith)
within k (refused r ∷ l) n h = absurd (omega arith)

denied_answer : (file msg : List ℕ) (n : ℕ) (lent : List Span) (r : Refusal) → admission file msg ≡ denied r → listing file msg n lent ≡ RefusedAnswer r
unfolding listing result
denied_answer file msg n lent r e = ap (λ (y : Admission). (result_on y msg n (length lent)).answer) e

-- ---- the calls of an admitted message

module _ (file msg : List ℕ) (c : Config) (fs : List Font) (acc : admission file msg ≡ admitted c fs) where
  abbrev ps : List Page
  ps = pages (board_of msg c fs) (items c msg)

  result_is : (n : ℕ) (lent : List Span) → 1400 ≤ length lent → result file msg n (length lent) ≡ numbered 0 ps n
  unfolding result
  result_is n lent h =
      ap (λ (y : Admission). result_on y msg n (length lent)) acc
      ∙ ap (λ (t : Bool). pick t (said (RefusedAnswer (refusal 4 0 0 0))) (numbered 0 ps n)) (le-ltb (length lent) 1400 h)

  answer_is : (n : ℕ) (lent : List Span) → 1400 ≤ length lent → listing file msg n lent ≡ (numbered 0 ps n).answer
  unfolding listing
  answer_is n lent h = ap (λ (r : Result). r.answer) (result_is n lent h)

  after_is : (n : ℕ) (lent : List Span) → 1400 ≤ length lent → after file msg n lent ≡ over (numbered 0 ps n).written lent
  unfolding after
  after_is n lent h = ap (λ (r : Result). over r.written lent) (result_is n lent h)

  call_tells : (n : ℕ) → n < length (answers_in 0 ps) → Tells (numbered 0 ps n) (answer_at (answers_in 0 ps) n) (records_in ps)
  call_tells n h = tells_at 0 0 ps [] n refl h

  call_shows : (n : ℕ) (lent : List Span) → 1400 ≤ length lent → n < length (answers_in 0 ps) → Shows (listing file msg n lent)
  call_shows n lent h m = rw (answer_is n lent h, (call_tells n m).answer) (told_shows (answer_at (answers_in 0 ps) n))

  piece_is : (lent : ℕ → List Span) → Roomy lent → (n : ℕ) → piece file msg lent n ≡ (numbered 0 ps n).written
  piece_is lent h n = rw (answer_is n (lent n) (h n), after_is n (lent n) (h n)) (counted_is 0 ps n (lent n))

  -- the slices after the call: their first elements are the answers and records of the pages
  module _ (answers : List Shown) (recs : List Span) (ys : List Shown) (zs : List Span) (p : answers ≡ over (answers_in 0 ps) ys)
      (q : recs ≡ over (records_in ps) zs) (e : refusal_in ps ≡ None) where
    abbrev N : ℕ
    N = length (answers_in 0 ps)

    abbrev K : ℕ
    K = length (records_in ps)

    answer_at_law : (n : ℕ) → n < N → answer_at answers n ≡ answer_at (answers_in 0 ps) n
    answer_at_law n h = ap (λ (l : List Shown). answer_at l n) p ∙ get_or_append_left (answers_in 0 ps) (drop N ys) (shown 0 0 0 0) n h

    -- a call's records lie within all
    told_in : (n : ℕ) → n < N → records_told (answer_at (answers_in 0 ps) n) recs ≡ records_told (answer_at (answers_in 0 ps) n) (records_in ps)
    told_in n h =
        let s : Shown = answer_at (answers_in 0 ps) n in
        let w : s.first + s.count ≤ K = omega (arith, within 0 ps n h) in
        ap (records_told s) q
        ∙ ap (take s.count) (drop-append-le s.first (records_in ps) (drop K zs) (omega arith))
        ∙ take-append-le s.count (drop s.first (records_in ps)) (drop K zs) (omega (arith, length-drop s.first (records_in ps)))

    as_called : AsCalled file msg answers recs N K
    as_called =
        record {
          whole =
              λ lent h. record {
                answers = 0 + N;
                ends = answer_is N (lent N) (h N) ∙ last_end 0 ps e 0;
                shows = λ n m. call_shows n (lent n) (h n) m;
              };
          answer = λ n m lent h. answer_is n lent h ∙ (call_tells n m).answer ∙ ap answer_told (sym (answer_at_law n m));
          records =
              λ n m lent h.
              after_is n lent h
              ∙ ap (λ (x : List Span). over x lent)
              ((call_tells n m).written ∙ sym (told_in n m) ∙ ap (λ (s : Shown). records_told s recs) (sym (answer_at_law n m)));
          all_listed =
              λ lent h. ap (take K) q ∙ take-append_seam (records_in ps) (drop K zs)
              ∙ sym (listed_is file msg lent 0 0 0 ps (λ n m. ap (piece file msg lent) (zero-add n) ∙ piece_is lent h n));
        }

-- ---- the call

module _ (file msg : List ℕ) (ys : List Shown) (zs : List Span) where
  abbrev g : Gathered
  g = gathered file msg (length ys) (length zs)

  counts_is : listing_all file msg ys zs ≡ counts_of g.refusal (length g.answers) (length g.records)
  unfolding listing_all
  counts_is = refl

  answers_is : answers_after file msg ys zs ≡ over (unless_refused g.refusal g.answers) ys
  unfolding answers_after
  answers_is = refl

  records_is : records_after file msg ys zs ≡ over (unless_refused g.refusal g.records) zs
  unfolding records_after
  records_is = refl

  -- what was listed, and that no refusal came
  record Ended (N K : ℕ) : Type 0 where
    fine : g.refusal ≡ None
    answers : length g.answers ≡ N
    records : length g.records ≡ K

  ended : (N K : ℕ) → listing_all file msg ys zs ≡ Ok (listed_as N K) → Ended N K
  ended N K e =
      let h : (g.refusal ≡ None) × (listed_as (length g.answers) (length g.records) ≡ listed_as N K) =
      counts_listed g.refusal (length g.answers) (length g.records) (sym counts_is ∙ e) in
      record { fine = h.0; answers = ap (λ (n : Listed). n.answers) h.1; records = ap (λ (n : Listed). n.records) h.1 }

  stopped : (x : Refusal) → listing_all file msg ys zs ≡ Err x → g.refusal ≡ Some x
  stopped x e = counts_refused g.refusal (length g.answers) (length g.records) (sym counts_is ∙ e)

  calls_on : (N K : ℕ) → Ended N K → Ways file msg (length ys) (length zs) g → AsCalled file msg (answers_after file msg ys zs) (records_after file msg ys zs) N K
  calls_on N K e (early x p f) =
      absurd (let q : None ≡ Some x = sym e.fine ∙ ap (λ (y : Gathered). y.refusal) p in cc)
  calls_on N K e (walked c fs acc p) =
      let l : List Page = pages (board_of msg c fs) (items c msg) in
      let o : refusal_in l ≡ None = sym (ap (λ (y : Gathered). y.refusal) p) ∙ e.fine in
      let u : answers_after file msg ys zs ≡ over (answers_in 0 l) ys =
      answers_is ∙ ap (λ (r : Option Refusal). over (unless_refused r g.answers) ys) e.fine ∙ ap (λ (y : Gathered). over y.answers ys) p in
      let v : records_after file msg ys zs ≡ over (records_in l) zs =
      records_is ∙ ap (λ (r : Option Refusal). over (unless_refused r g.records) zs) e.fine ∙ ap (λ (y : Gathered). over y.records zs) p in
      subst (λ (n : ℕ). AsCalled file msg (answers_after file msg ys zs) (records_after file msg ys zs) n K)
      (ap (λ (y : Gathered). length y.answers) (sym p) ∙ e.answers)
      (subst (AsCalled file msg (answers_after file msg ys zs) (records_after file msg ys zs) (length (answers_in 0 l)))
      (ap (λ (y : Gathered). length y.records) (sym p) ∙ e.records)
      (as_called file msg c fs acc (answers_after file msg ys zs) (records_after file msg ys zs) ys zs u v o))

  refused_on : (x : Refusal) → g.refusal ≡ Some x → 1026 ≤ length ys → 2048 ≤ length zs → (lent : ℕ → List Span) → Roomy lent
      → Ways file msg (length ys) (length zs) g → FirstRefused file msg lent x
  refused_on x e h j lent r (early y p f) =
      let q : Some y ≡ Some x = sym (ap (λ (z : Gathered). z.refusal) p) ∙ e in
      let q' : y ≡ x = cc in
      record {
        at = 0;
        shows = λ n m. absurd (omega arith);
        refuses = denied_answer file msg 0 (lent 0) y (f h j) ∙ ap RefusedAnswer q';
      }
  refused_on x e h j lent r (walked c fs acc p) =
      let l : List Page = pages (board_of msg c fs) (items c msg) in
      record {
        at = length (answers_in 0 l);
        shows = λ n m. call_shows file msg c fs acc n (lent n) (r n) m;
        refuses =
            answer_is file msg c fs acc (length (answers_in 0 l)) (lent (length (answers_in 0 l))) (r (length (answers_in 0 l)))
            ∙ last_refused x 0 l (sym (ap (λ (y : Gathered). y.refusal) p) ∙ e) 0;
      }

  over_length : {A : Type 0} (l lent : List A) → length l ≤ length lent → length (over l lent) ≡ length lent
  over_length l lent h = omega (arith, length-append l (drop (length l) lent), length-drop (length l) lent)

  pub whole_listing : WholeListing file msg ys zs
  whole_listing =
      let f : Fits (length ys) (length zs) msg g = gathered_fits file msg (length ys) (length zs) in
      record {
        as_called = λ N K e. calls_on N K (ended N K e) (ways file msg (length ys) (length zs));
        few = λ N K e. (omega (arith, (ended N K e).answers, f.answers), omega (arith, (ended N K e).records, f.records));
        unchanged =
            λ x e. (
              answers_is ∙ ap (λ (r : Option Refusal). over (unless_refused r g.answers) ys) (stopped x e),
              records_is ∙ ap (λ (r : Option Refusal). over (unless_refused r g.records) zs) (stopped x e),
            );
        first_refused = λ x e h j lent r. refused_on x (stopped x e) h j lent r (ways file msg (length ys) (length zs));
        keeps_answers = ap length answers_is ∙ over_length (unless_refused g.refusal g.answers) ys f.lent_answers;
        keeps_records = ap length records_is ∙ over_length (unless_refused g.refusal g.records) zs f.lent_records;
      }
