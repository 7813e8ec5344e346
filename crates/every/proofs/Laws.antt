-- The walk that puts answers and records in their slices.
use Rattle.std.specs.Prelude.{◌⊎◌, Option, Some, None, Result, Ok, Err}
use Rattle.std.proofs.Common.{inl, inr}
use Rattle.std.proofs.lemmas.List.{take_more_set, take-append-le}
use Rattle.std.proofs.lemmas.Slice.{take-put_mid_below}
use Rattle.std.proofs.Math.Seq.{length-take-le, take-append-add}
use borrow.Rule.Slice.PartMut.{put_mid}
use Prim.Native.Nat.{ℕ, ◌+◌, ◌-◌, ◌*◌, ◌≤◌, ◌<◌}
use native.Mathlib.Omega.{arith}
use native.Mathlib.Nat.{add-zero}
use mathlib.Core.Path.{◌≡◌, refl, sym, ◌∙◌, ap, subst}
use mathlib.Core.Bool.{Bool, true, false}
use mathlib.Core.List.{List, [], ◌∷◌, ◌++◌, append_assoc}
use lib.Dec.{ltb}
use lib.ListN.{length, set, take, drop, length-append, length-drop, length-set}
use borrow.Author.Tests.{lt-ltb, le-ltb, ltb-false}
use Rattle.base.specs.Pick.{pick}
use Rattle.refusal.specs.declared.Refusal.{Refusal}
use Rattle.refusal.specs.Refusals.{refusal}
use Rattle.records.specs.declared.Config.{Config}
use Rattle.sign.specs.Sign.{Font, sign_file}
use Rattle.admit.specs.Admission.{Admission, denied, admitted, admission}
use Rattle.admit.specs.Handed.{handed}
use Rattle.admit.specs.declared.Denied.{Denied}
use Rattle.sign.specs.declared.SignFile.{SignFile}
use Rattle.admit.proofs.Laws.{Opens, admits, denied_is, opens}
use Rattle.layout.specs.declared.Span.{Span}
use Rattle.layout.specs.Types.{items, Board}
use Rattle.layout.specs.Fonts.{board_of}
use Rattle.layout.specs.Listing.{Page, pages}
use Rattle.rows.specs.declared.Row.{Row}
use Rattle.rows.specs.Rows.{SpanRoom, spans_of}
use Rattle.rows.proofs.Laws.{spans_length}
use Rattle.meter.specs.declared.call.Call.{Call}
use Rattle.pages.specs.declared.Pages.{Pages}
use Rattle.pages.specs.declared.PageShown.{PageShown}
use Rattle.pages.specs.declared.PageShown.TheVariants.{On, Off}
use Rattle.pages.specs.Pages.{board_of as board_for, first_of, todo, shown_page, shown_count, next_told, InMessage, weight, IfShown, Advances, NextAsked, NextRead}
use Rattle.pages.proofs.Boards.{board_is}
use Rattle.pages.proofs.Answers.{pages_todo, first_in_law}
use Rattle.every.specs.declared.Shown.{Shown}
use Rattle.every.specs.declared.Walked.{Walked}
use Rattle.every.specs.declared.Listed.{Listed}
use Rattle.every.specs.All.{answers_in, records_in, refusal_in, Gathered, gather, none_but, gathered_on, gathered, listed_as, counts_of, unless_refused}
use Rattle.every.specs.Walk.{showns_of, Countable, shown_by, WalkAsked, OpenedTo, Gathers, listed_by, Written, Settles}
use Rattle.every.proofs.Few.{answers_few, records_few}

-- ---- an answer of a page

-- as its page says it, after n records, which are before those of l
module _ (n : ℕ) (l : List Span) (rest : List Page) where
  page_answers : (x : PageShown) → SpanRoom (shown_count x) l
      → answers_in n (shown_page l x ∷ rest) ≡ shown_by x n ∷ answers_in (n + (shown_by x n).count) rest
  page_answers (On d c k) h = rw (spans_length l c h)
  page_answers (Off d) h = rw (add-zero n)

  page_records_law : (x : PageShown) → records_in (shown_page l x ∷ rest) ≡ spans_of l (shown_by x n).count ++ records_in rest
  page_records_law (On d c k) = refl
  page_records_law (Off d) = refl

  page_refusal : (x : PageShown) → refusal_in (shown_page l x ∷ rest) ≡ refusal_in rest
  page_refusal (On d c k) = refl
  page_refusal (Off d) = refl

counts_same : (x : PageShown) (n : ℕ) → (shown_by x n).count ≡ shown_count x
counts_same (On d c k) n = refl
counts_same (Off d) n = refl

-- ---- the records behind others

-- the first n of a slice, and behind them what a call left of the rest, y
abbrev pub joined : ℕ → List Span → List Span → List Span
joined n out y = put_mid n (length out - n) out y

-- the rest of a slice, as it is lent
abbrev pub rest_of : ℕ → List Span → List Span
rest_of n out = take (length out - n) (drop n out)

module _ (n : ℕ) (out y : List Span) (h : n ≤ length out) (e : length y ≡ length (rest_of n out)) where
  front : length (take n out) ≡ n
  front = length-take-le n out h

  rest_length : length y ≡ length out - n
  rest_length = e ∙ length-take-le (length out - n) (drop n out) (omega (arith, length-drop n out))

  joined_length : length (joined n out y) ≡ length out
  joined_length =
      omega (
        arith,
        length-append (take n out) (y ++ drop (length out - n) (drop n out)),
        length-append y (drop (length out - n) (drop n out)),
        length-drop (length out - n) (drop n out),
        length-drop n out,
        front,
        rest_length,
      )

  joined_first : take n (joined n out y) ≡ take n out
  joined_first = take-put_mid_below n (length out - n) out y n (omega arith) h

  joined_more : (k : ℕ) → k ≤ length y → take (n + k) (joined n out y) ≡ take n out ++ take k y
  joined_more k q =
      ap (λ (j : ℕ). take (j + k) (joined n out y)) (sym front)
      ∙ take-append-add (take n out) (y ++ drop (length out - n) (drop n out)) k
      ∙ ap (λ (l : List Span). take n out ++ l) (take-append-le k y (drop (length out - n) (drop n out)) q)

-- ---- the walk

-- where the loop stands: rows₀, shown₀ and out₀ were there before it
pub record Walking (call : Call) (rows₀ : List Row) (shown₀ : List Shown) (out₀ : List Span) (rows : List Row) (shown : List Shown) (out : List Span)
    (p : Pages) (i n : ℕ) : Type 0 where
  pub asked : WalkAsked call rows₀ shown₀ out₀
  pub stands : InMessage call.table.config (length call.msg.now) p
  pub rowed : length rows ≡ length rows₀
  pub long_shown : length shown ≡ length shown₀
  pub long_out : length out ≡ length out₀
  pub few_shown : i ≤ length shown
  pub few_out : n ≤ length out
  pub answers : showns_of shown i ++ answers_in n (todo (board_for call) call.msg.now p) ≡ answers_in 0 (pages (board_for call) (items call.table.config call.msg.now))
  pub records : spans_of out n ++ records_in (todo (board_for call) call.msg.now p) ≡ records_in (pages (board_for call) (items call.table.config call.msg.now))
  pub refusal : refusal_in (todo (board_for call) call.msg.now p) ≡ refusal_in (pages (board_for call) (items call.table.config call.msg.now))

pub walk_start : {call : Call} {rows : List Row} {shown : List Shown} {out : List Span} {p : Pages} → WalkAsked call rows shown out
    → p ≡ first_of call.table.config → Walking call rows shown out rows shown out p 0 0
walk_start {call} {rows} {shown} {out} {p} a e =
    let s : Board = board_for call in
    subst (λ (q : Pages). Walking call rows shown out rows shown out q 0 0) (sym e)
    (record {
      asked = a;
      stands = first_in_law call.table.config (length call.msg.now);
      rowed = refl;
      long_shown = refl;
      long_out = refl;
      few_shown = omega arith;
      few_out = omega arith;
      answers = ap (answers_in 0) (sym (pages_todo s call.msg.now));
      records = ap records_in (sym (pages_todo s call.msg.now));
      refusal = ap refusal_in (sym (pages_todo s call.msg.now));
    })

module _ {call : Call} {rows₀ : List Row} {shown₀ : List Shown} {out₀ : List Span} {rows : List Row} {shown : List Shown} {out : List Span} {p : Pages}
    {i n : ℕ} (z : Walking call rows₀ shown₀ out₀ rows shown out p i n) where
  abbrev s : Board
  s = board_for call

  abbrev left : List Page
  left = todo s call.msg.now p

  abbrev all : List Page
  all = pages s (items s.config call.msg.now)

  counted_answers : i + length (answers_in n left) ≤ 1026
  counted_answers =
      omega (
        arith,
        length-append (showns_of shown i) (answers_in n left),
        length-take-le i shown z.few_shown,
        ap length z.answers,
        answers_few call.msg.now s call.small,
      )

  counted_records_law : n + length (records_in left) ≤ length call.msg.now
  counted_records_law =
      omega (
        arith,
        length-append (spans_of out n) (records_in left),
        spans_length out n z.few_out,
        ap length z.records,
        records_few call.msg.now s,
      )

  pub walk_few : n ≤ 2048
  walk_few = omega (arith, counted_records_law, call.small)

  pub walk_asks : NextAsked call p rows (rest_of n out)
  walk_asks =
      record {
        ready =
            record {
              rowed = omega (arith, z.rowed, z.asked.rowed);
              room =
                  omega (
                    arith,
                    length-take-le (length out - n) (drop n out) (omega (arith, length-drop n out)),
                    counted_records_law,
                    z.long_out,
                    z.asked.room.records call.small,
                  );
            };
        stands = z.stands;
      }

  -- t is the next answer, and q comes after it; y is what the rest of the slice became
  module _ {rows' : List Row} {y : List Span} {q : Pages} {t : Result (Option PageShown) Refusal} (read : NextRead call p rows (rest_of n out) q rows' y t) where
    is_left : {u : Result (Option PageShown) Refusal} → t ≡ u → left ≡ next_told s call.msg.now y q u
    is_left e = read.ends ∙ ap (next_told s call.msg.now y q) e

    -- an answer x
    module _ {x : PageShown} (c : t ≡ Ok (Some x)) where
      adv : Advances call y p.at (weight p.page_state) q x
      adv = subst (IfShown (Advances call y p.at (weight p.page_state) q)) c read.next

      y_room : length y ≡ length out - n
      y_room = rest_length n out y z.few_out read.room

      fits : SpanRoom (shown_count x) y
      fits = omega (arith, adv.few, y_room, counted_records_law, z.long_out, z.asked.room.records call.small)

      abbrev answer : Shown
      answer = shown_by x n

      left_answers : answers_in n left ≡ answer ∷ answers_in (n + answer.count) (todo s call.msg.now q)
      left_answers = ap (answers_in n) (is_left c) ∙ page_answers n y (todo s call.msg.now q) x fits

      left_records : records_in left ≡ spans_of y answer.count ++ records_in (todo s call.msg.now q)
      left_records = ap records_in (is_left c) ∙ page_records_law n y (todo s call.msg.now q) x

      left_refusal : refusal_in left ≡ refusal_in (todo s call.msg.now q)
      left_refusal = ap refusal_in (is_left c) ∙ page_refusal n y (todo s call.msg.now q) x

      pub walk_shown : Countable x n
      walk_shown = record { few = omega (arith, adv.few, call.small); before = omega (arith, walk_few) }

      pub walk_room : i < length shown
      walk_room = omega (arith, counted_answers, ap length left_answers, z.long_shown, z.asked.room.answers)

      pub walk_less : 2 * (length call.msg.now - q.at) + weight q.page_state < 2 * (length call.msg.now - p.at) + weight p.page_state
      walk_less = omega (arith, adv.less, adv.stands.within, z.stands.within)

      -- it is put
      module _ {a : Shown} (is : a ≡ shown_by x n) where
        a_few : a.count ≤ length y
        a_few = omega (arith, counts_same x n, fits, ap (λ (w : Shown). w.count) is)

        put_answers : showns_of (set shown i a) (i + 1) ++ answers_in (n + a.count) (todo s call.msg.now q) ≡ answers_in 0 all
        put_answers =
            ap (λ (w : List Shown). w ++ answers_in (n + a.count) (todo s call.msg.now q)) (take_more_set shown i a walk_room)
            ∙ append_assoc (showns_of shown i) (a ∷ []) (answers_in (n + a.count) (todo s call.msg.now q))
            ∙ ap (λ (w : Shown). showns_of shown i ++ (w ∷ answers_in (n + w.count) (todo s call.msg.now q))) is
            ∙ ap (λ (w : List Shown). showns_of shown i ++ w) (sym left_answers)
            ∙ z.answers

        put_records : spans_of (joined n out y) (n + a.count) ++ records_in (todo s call.msg.now q) ≡ records_in all
        put_records =
            ap (λ (w : List Span). w ++ records_in (todo s call.msg.now q)) (joined_more n out y z.few_out read.room a.count a_few)
            ∙ append_assoc (spans_of out n) (spans_of y a.count) (records_in (todo s call.msg.now q))
            ∙ ap (λ (w : Shown). spans_of out n ++ (spans_of y w.count ++ records_in (todo s call.msg.now q))) is
            ∙ ap (λ (w : List Span). spans_of out n ++ w) (sym left_records)
            ∙ z.records

        pub walk_next : {k : ℕ} → k ≡ a.count → Walking call rows₀ shown₀ out₀ rows' (set shown i a) (joined n out y) q (i + 1) (n + k)
        walk_next e =
            rw e (record {
              asked = z.asked;
              stands = adv.stands;
              rowed = read.rowed ∙ z.rowed;
              long_shown = length-set shown i a ∙ z.long_shown;
              long_out = joined_length n out y z.few_out read.room ∙ z.long_out;
              few_shown = omega (arith, walk_room, length-set shown i a);
              few_out = omega (arith, a_few, y_room, z.few_out, joined_length n out y z.few_out read.room);
              answers = put_answers;
              records = put_records;
              refusal = sym left_refusal ∙ z.refusal;
            })

-- ---- the call

-- by the answer of `admit`
module _ (file msg : List ℕ) (a k : ℕ) where
  pub call_denied : {y : Denied} → Err y ≡ handed (admission file msg) (sign_file file) → gathered file msg a k ≡ none_but y.refusal
  unfolding gathered
  call_denied h = ap (λ (y : Admission). gathered_on y msg a k) (denied_is file msg h)

  module _ {t : SignFile} (h : Ok t ≡ handed (admission file msg) (sign_file file)) where
    abbrev known : Opens file msg t
    known = opens file msg h

    is_on : gathered file msg a k ≡ gathered_on (admitted t.config known.fs) msg a k
    unfolding gathered
    is_on = ap (λ (y : Admission). gathered_on y msg a k) known.is

    pub call_short : (a < 1026) ⊎ ((1026 ≤ a) × (k < 2048)) → gathered file msg a k ≡ none_but (refusal 4 0 0 0)
    call_short (inl g) = is_on ∙ rw (lt-ltb a 1026 g)
    call_short (inr g) = is_on ∙ rw (le-ltb a 1026 g.0, lt-ltb k 2048 g.1)

    pub call_opened : 1026 ≤ a → 2048 ≤ k → OpenedTo file msg a k t
    call_opened f g =
        record {
          opened = known.table;
          small = known.admits_it.small;
          is =
              is_on ∙ rw (le-ltb a 1026 f, le-ltb k 2048 g)
              (sym (ap (λ (y : Board). gather (pages y (items t.config msg))) (board_is file msg t.config known.fs known.admits_it.sign)));
        }

-- ---- what it writes

-- the answer says whether there was a refusal
pub counts_listed : (o : Option Refusal) (a k : ℕ) {n : Listed} → counts_of o a k ≡ Ok n → (o ≡ None) × (listed_as a k ≡ n)
counts_listed None a k e = (refl, cc)
counts_listed (Some r) a k e = absurd (cc)

pub counts_refused : (o : Option Refusal) (a k : ℕ) {x : Refusal} → counts_of o a k ≡ Err x → o ≡ Some x
counts_refused None a k e = absurd (cc)
counts_refused (Some r) a k e = cc

-- what is gathered for slices that are lent: a answers and k records
pub record Fits (a k : ℕ) (msg : List ℕ) (g : Gathered) : Type 0 where
  pub answers : length g.answers ≤ 1026
  pub records : length g.records ≤ 2048
  pub within : length g.records ≤ length msg
  pub small : 0 < length g.records → length msg ≤ 2048
  pub lent_answers : length (unless_refused g.refusal g.answers) ≤ a
  pub lent_records : length (unless_refused g.refusal g.records) ≤ k

none_fits : (a k : ℕ) (msg : List ℕ) (r : Refusal) → Fits a k msg (none_but r)
none_fits a k msg r =
    record {
      answers = omega arith;
      records = omega arith;
      within = omega arith;
      small = λ p. absurd (omega arith);
      lent_answers = omega arith;
      lent_records = omega arith;
    }

unless_le : {A : Type 0} (o : Option Refusal) (l : List A) → length (unless_refused o l) ≤ length l
unless_le None l = omega arith
unless_le (Some r) l = omega arith

pub gathered_fits : (file msg : List ℕ) (a k : ℕ) → Fits a k msg (gathered file msg a k)
unfolding gathered board_of
gathered_fits file msg a k = look (admission file msg) refl
  where
    room : (c : Config) (fs : List Font) → length msg ≤ 2048 → (t u : Bool) → ltb a 1026 ≡ t → ltb k 2048 ≡ u
        → Fits a k msg (pick t (none_but (refusal 4 0 0 0)) (pick u (none_but (refusal 4 0 0 0)) (gather (pages (board_of msg c fs) (items c msg)))))
    room c fs h true u p q = none_fits a k msg (refusal 4 0 0 0)
    room c fs h false true p q = none_fits a k msg (refusal 4 0 0 0)
    room c fs h false false p q =
        let g : Gathered = gather (pages (board_of msg c fs) (items c msg)) in
        let m : length g.answers ≤ 1026 = answers_few msg (board_of msg c fs) h in
        let n : length g.records ≤ length msg = records_few msg (board_of msg c fs) in
        record {
          answers = m;
          records = omega arith;
          within = n;
          small = λ _. h;
          lent_answers = omega (arith, unless_le g.refusal g.answers, ltb-false a 1026 p);
          lent_records = omega (arith, unless_le g.refusal g.records, ltb-false k 2048 q);
        }

    look : (y : Admission) → admission file msg ≡ y → Fits a k msg (gathered_on y msg a k)
    look (denied r) e = none_fits a k msg r
    look (admitted c fs) e = room c fs (admits e).small (ltb a 1026) (ltb k 2048) refl refl

-- w was walked, and the slices hold what it has
module _ (file msg : List ℕ) (a k : ℕ) {shown : List Shown} {out : List Span} {w : Walked} (h : Gathers file msg a k shown out w) where
  abbrev g : Gathered
  g = gathered file msg a k

  fits_in : Fits a k msg g
  fits_in = gathered_fits file msg a k

  answers_counted : w.answers ≡ length g.answers
  answers_counted = sym (length-take-le w.answers shown h.answers) ∙ ap (λ (y : Gathered). length y.answers) h.ends

  records_counted : w.records ≡ length g.records
  records_counted = sym (length-take-le w.records out h.records) ∙ ap (λ (y : Gathered). length y.records) h.ends

  pub gathered_small : (w.answers < 65536) × (w.records < 65536)
  gathered_small = (omega (arith, answers_counted, fits_in.answers), omega (arith, records_counted, fits_in.records))

  -- nothing was refused
  written : w.refused ≡ None → Written g a k shown out (listed_as w.answers w.records)
  written e =
      let f : g.refusal ≡ None = ap (λ (y : Gathered). y.refusal) (sym h.ends) ∙ e in
      record {
        answers = ap (λ (y : Gathered). y.answers) h.ends;
        records = ap (λ (y : Gathered). y.records) h.ends;
        few_answers = omega (arith, answers_counted, fits_in.answers);
        few_records = omega (arith, records_counted, fits_in.records);
        answers_fit = omega (arith, answers_counted, fits_in.lent_answers, ap (λ (o : Option Refusal). length (unless_refused o g.answers)) f);
        records_fit = omega (arith, records_counted, fits_in.lent_records, ap (λ (o : Option Refusal). length (unless_refused o g.records)) f);
        answers_stand = h.answers;
        records_stand = h.records;
      }

  counts_are : counts_of w.refused w.answers w.records ≡ counts_of g.refusal (length g.answers) (length g.records)
  counts_are =
      ap (λ (o : Option Refusal). counts_of o w.answers w.records) (ap (λ (y : Gathered). y.refusal) h.ends)
      ∙ ap (λ (n : ℕ). counts_of g.refusal n w.records) answers_counted ∙ ap (counts_of g.refusal (length g.answers)) records_counted

  settled : (o : Option Refusal) → w.refused ≡ o → Settles file msg a k shown out (counts_of o w.answers w.records)
  settled None e = record { counts = ap (λ (o : Option Refusal). counts_of o w.answers w.records) (sym e) ∙ counts_are; written = written e }
  settled (Some x) e = record { counts = ap (λ (o : Option Refusal). counts_of o w.answers w.records) (sym e) ∙ counts_are; written = tt }

  pub settles : {r : Result Listed Refusal} → r ≡ listed_by w → Settles file msg a k shown out r
  settles c = subst (Settles file msg a k shown out) (sym c) (settled w.refused refl)
