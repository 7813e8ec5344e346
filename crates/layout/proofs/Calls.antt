-- The calls of a whole listing give its pages, one for one.
use Prim.Native.Nat.{ℕ, zero, suc, ◌+◌, ◌<◌}
use native.Mathlib.Omega.{arith}
use native.Mathlib.Nat.{add-zero, zero-add}
use mathlib.Core.Path.{◌≡◌, refl, sym, ap, ◌∙◌}
use mathlib.Core.List.{List, [], ◌∷◌, ◌++◌}
use lib.ListN.{length, drop}
use lib.Seq.{take-append_seam}
use Rattle.records.specs.declared.Config.{Config}
use Rattle.sign.specs.Sign.{Font}
use Rattle.refusal.specs.declared.Refusal.{Refusal}
use Rattle.admit.specs.Admission.{Admission, denied, admitted, admission}
use Rattle.admit.proofs.Laws.{admits}
use Rattle.layout.specs.declared.Span.{Span}
use Rattle.layout.specs.declared.Answer.{Answer}
use Rattle.layout.specs.declared.Answer.TheVariants.{On, Off, End, Refused}
use Rattle.layout.specs.Types.{items}
use Rattle.layout.specs.Fonts.{board_of}
use Rattle.layout.specs.Listing.{Page, on, off, refused, pages, answer_of, records_of, Result, past, numbered, result_on, result, listing, after}
use Rattle.layout.specs.Demand.{Shows, Whole, counted_records, listed, Demand3}
use Rattle.layout.proofs.Checks.{admitted_result, result_on_law, answer_on}
use Rattle.layout.proofs.Pages.{NoRefusal, records, Told, told}

-- ---- one call that is not refused

-- an answer that is no refusal
abbrev pub Runs : Answer → Type 0
Runs (On d n) = Unit {0}
Runs (Off d) = Unit {0}
Runs (End n) = Unit {0}
Runs (Refused r) = ⊥

shows_runs : (a : Answer) → Shows a → Runs a
shows_runs (On d n) h = tt
shows_runs (Off d) h = tt
shows_runs (End n) h = absurd h
shows_runs (Refused r) h = absurd h

taken : (c : Config) (fs : List Font) (msg : List ℕ) (n room : ℕ) → Runs (result_on (admitted c fs) msg n room).answer
    → result_on (admitted c fs) msg n room ≡ numbered 0 (pages (board_of msg c fs) (items c msg)) n
taken c fs msg n room =
    admitted_result msg n room (λ r. Runs r.answer → r ≡ numbered 0 (pages (board_of msg c fs) (items c msg)) n) c fs (λ h. absurd h) (λ q h. refl)

-- ---- the answers in a row

answer_shows : (p : Page) (l : List Page) (r : Result) → Shows (answer_of p) → past p r ≡ r
answer_shows (on d rs) l r h = refl
answer_shows (off d) l r h = refl
answer_shows (refused x) l r h = absurd h

no_end : (p : Page) (k : ℕ) → answer_of p ≡ End k → ⊥
no_end (on d rs) k e = cc
no_end (off d) k e = cc
no_end (refused x) k e = cc

no_refusal : (p : Page) (l : List Page) → Shows (answer_of p) → NoRefusal l → NoRefusal (p ∷ l)
no_refusal (on d rs) l h n = n
no_refusal (off d) l h n = n
no_refusal (refused x) l h n = absurd h

-- l is N pages and no refusal; k counts them and the c before
record Ended (c N k : ℕ) (l : List Page) : Type 0 where
  none_refused : NoRefusal l
  all : N ≡ length l
  count : k ≡ c + N

ended : (c N k : ℕ) (l : List Page) → (numbered c l N).answer ≡ End k → ((n : ℕ) → n < N → Shows (numbered c l n).answer) → Ended c N k l
ended c zero k [] e h = record { none_refused = tt; all = refl; count = cc (add-zero c) }
ended c (suc N) k [] e h = absurd (h 0 (omega arith))
ended c zero k (p ∷ l) e h = absurd (no_end p k e)
ended c (suc N) k (p ∷ l) e h =
    let s : Shows (answer_of p) = h 0 (omega arith) in
    let on-from : (n : ℕ) → numbered c (p ∷ l) (suc n) ≡ numbered (suc c) l n = λ n. answer_shows p l (numbered (suc c) l n) s in
    let r : Ended (suc c) N k l = ended (suc c) N k l (rw (on-from N) at e) (λ n m. rw (on-from n) at (h (suc n) (omega arith))) in
    record { none_refused = no_refusal p l s r.none_refused; all = ap suc r.all; count = omega (arith, r.count) }

-- ---- the records

counted_page : (p : Page) (lent : List Span) → counted_records (answer_of p) (records_of p ++ drop (length (records_of p)) lent) ≡ records_of p
counted_page (on d rs) lent = take-append_seam rs _
counted_page (off d) lent = refl
counted_page (refused x) lent = refl

-- what a call's answer counts is what it wrote
pub counted_is : (c : ℕ) (l : List Page) (n : ℕ) (lent : List Span)
    → counted_records (numbered c l n).answer ((numbered c l n).written ++ drop (length (numbered c l n).written) lent) ≡ (numbered c l n).written
counted_is c [] n lent = refl
counted_is c (p ∷ l) zero lent = counted_page p lent
counted_is c (on d rs ∷ l) (suc n) lent = counted_is (suc c) l n lent
counted_is c (off d ∷ l) (suc n) lent = counted_is (suc c) l n lent
counted_is c (refused x ∷ l) (suc n) lent = refl

records_cons : (p : Page) (l : List Page) → records (p ∷ l) ≡ records_of p ++ records l
records_cons (on d rs) l = refl
records_cons (off d) l = refl
records_cons (refused x) l = refl

pub past_on : (p : Page) (l : List Page) (r : Result) → NoRefusal (p ∷ l) → past p r ≡ r
past_on (on d rs) l r h = refl
past_on (off d) l r h = refl
past_on (refused x) l r h = absurd h

no_refusal_rest : (p : Page) (l : List Page) → NoRefusal (p ∷ l) → NoRefusal l
no_refusal_rest (on d rs) l h = h
no_refusal_rest (off d) l h = h
no_refusal_rest (refused x) l h = absurd h

module _ (file msg : List ℕ) (lent : ℕ → List Span) where
  -- the records that call n counts
  abbrev piece : ℕ → List Span
  piece n = counted_records (listing file msg n (lent n)) (after file msg n (lent n))

  gathered : (c i : ℕ) (l : List Page) → NoRefusal l → ((n : ℕ) → n < length l → piece (i + n) ≡ (numbered c l n).written)
      → listed file msg lent i (length l) ≡ records l
  gathered c i [] h e = refl
  gathered c i (p ∷ l) h e =
      let e₀ : piece i ≡ records_of p = ap piece (sym (add-zero i)) ∙ e 0 (omega arith) in
      let e₁ : (n : ℕ) → n < length l → piece (suc i + n) ≡ (numbered (suc c) l n).written =
      λ n m. ap piece (omega arith) ∙ e (suc n) (omega arith) ∙ ap (λ (r : Result). r.written) (past_on p l (numbered (suc c) l n) h) in
      ap (λ (x : List Span). x ++ listed file msg lent (suc i) (length l)) e₀
      ∙ ap (λ (x : List Span). records_of p ++ x) (gathered (suc c) (suc i) l (no_refusal_rest p l h) e₁)
      ∙ sym (records_cons p l)

  denied_end : (n k : ℕ) (r : Refusal) → admission file msg ≡ denied r → listing file msg n (lent n) ≡ End k → ⊥
  denied_end n k r e h =
      let a : listing file msg n (lent n) ≡ Refused r = answer_on file msg n (lent n) (denied r) e in
      cc

  module _ (c : Config) (fs : List Font) (acc : admission file msg ≡ admitted c fs) where
    abbrev ps : List Page
    ps = pages (board_of msg c fs) (items c msg)

    -- a call that is not refused
    result_is : (n : ℕ) → Runs (listing file msg n (lent n)) → result file msg n (length (lent n)) ≡ numbered 0 ps n
    result_is n h =
        result_on_law file msg n (lent n) (admitted c fs) acc
        ∙ taken c fs msg n (length (lent n)) (rw (answer_on file msg n (lent n) (admitted c fs) acc) at h)

    answer_is : (n : ℕ) → Runs (listing file msg n (lent n)) → listing file msg n (lent n) ≡ (numbered 0 ps n).answer
    unfolding listing
    answer_is n h = ap (λ (r : Result). r.answer) (result_is n h)

    after_is : (n : ℕ) → Runs (listing file msg n (lent n))
        → after file msg n (lent n) ≡ (numbered 0 ps n).written ++ drop (length (numbered 0 ps n).written) (lent n)
    unfolding after
    after_is n h = ap (λ (r : Result). r.written ++ drop (length r.written) (lent n)) (result_is n h)

    piece_is : (n : ℕ) → Runs (listing file msg n (lent n)) → piece n ≡ (numbered 0 ps n).written
    piece_is n h = rw (answer_is n h, after_is n h) (counted_is 0 ps n (lent n))

    demand_of : (N : ℕ) → Whole file msg lent N → Demand3 file msg lent N
    demand_of N w =
        let runs : (n : ℕ) → n < N → Runs (listing file msg n (lent n)) = λ n m. shows_runs (listing file msg n (lent n)) (w.shows n m) in
        let last : Runs (listing file msg N (lent N)) = rw w.ends tt in
        let d : Ended 0 N w.answers ps = ended 0 N w.answers ps (sym (answer_is N last) ∙ w.ends)
        (λ n m. rw (answer_is n (runs n m)) at (w.shows n m)) in
        let q : listed file msg lent 0 N ≡ records ps =
        rw d.all (gathered 0 0 ps d.none_refused (λ n m. rw (zero-add n) (piece_is n (runs n (omega (arith, d.all)))))) in
        let t : Told c fs msg (records ps) = told c fs msg d.none_refused in
        record {
          config = c;
          fonts = fs;
          accepted = (admits acc).sign;
          ends = w.ends ∙ ap End (omega (arith, d.count));
          reads = t.reads;
          printing = rw q t.printing;
          rising = rw q t.rising;
          spans_listed = q ∙ t.listed;
          passes = t.passes;
          inside = rw q t.inside;
          inside_down = rw q t.inside_down;
        }

-- Demand 3
pub demand3 : (file msg : List ℕ) (lent : ℕ → List Span) (N : ℕ) → Whole file msg lent N → Demand3 file msg lent N
demand3 file msg lent N w = go (admission file msg) refl
  where
    go : (a : Admission) → admission file msg ≡ a → Demand3 file msg lent N
    go (admitted c fs) e = demand_of file msg lent c fs e N w
    go (denied r) e = absurd (denied_end file msg lent N w.answers r e w.ends)
