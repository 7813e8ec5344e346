-- The answers before the one asked, and the checks.
use Rattle.std.specs.Prelude.{Option, Some, None, Result, Ok, Err}
use Prim.Native.Nat.{ℕ, ◌+◌, ◌-◌, ◌*◌, ◌≤◌, ◌<◌}
use mathlib.Core.Path.{◌≡◌, refl, sym, ◌∙◌, ap, subst}
use mathlib.Core.List.{List}
use native.Mathlib.Omega.{arith}
use native.Mathlib.Nat.{sub-zero}
use lib.Dec.{ltb}
use lib.ListN.{length}
use borrow.Author.Tests.{lt-ltb, le-ltb}
use Rattle.base.specs.Pick.{pick}
use Rattle.refusal.specs.declared.Refusal.{Refusal}
use Rattle.sign.specs.Sign.{Sign, sign_file}
use Rattle.admit.specs.Admission.{Admission, admission}
use Rattle.admit.specs.Handed.{handed}
use Rattle.admit.specs.declared.Denied.{Denied}
use Rattle.sign.specs.declared.SignFile.{SignFile}
use Rattle.admit.proofs.Laws.{Opens, denied_is, opens}
use Rattle.layout.specs.declared.Answer.{Answer}
use Rattle.layout.specs.declared.Answer.TheVariants.{On, Off, End, Refused}
use Rattle.layout.specs.Types.{items, Board}
use Rattle.refusal.specs.Refusals.{refusal}
use Rattle.layout.specs.Listing.{Page, pages, Result as Told, said, numbered, result_on, result}
use Rattle.layout.proofs.Room.{result_room}
use Rattle.layout.specs.declared.Span.{Span}
use Rattle.rows.specs.declared.Row.{Row}
use Rattle.rows.specs.Rows.{SpanRoom, spans_of}
use Rattle.rows.proofs.Laws.{spans_length}
use Rattle.counts.specs.declared.Placed.{Placed}
use Rattle.counts.specs.Placing.{chars_looked, with_counts}
use Rattle.meter.specs.declared.call.Call.{Call}
use Rattle.meter.specs.Opened.{AcceptedTable}
use Rattle.pages.specs.declared.Pages.{Pages}
use Rattle.pages.specs.declared.PageShown.{PageShown}
use Rattle.pages.specs.declared.PageShown.TheVariants.{On as OnPage, Off as OffPage}
use Rattle.pages.specs.Pages.{board_in, board_of as board_for, Ready, first_of, todo, next_told, InMessage, weight, IfShown, Advances, NextRead}
use Rattle.pages.proofs.Boards.{board_is}
use Rattle.pages.proofs.Answers.{pages_todo, first_in_law}
use Rattle.answer.specs.Answer.{written_by, told, bare, placed_by, count_of, RecordRoom, CountsTold, Numbered, Answered, PlacedAs}

-- ---- the loop

-- where the loop stands: rows₀ and out₀ were there before it
pub record Stands (call : Call) (number : ℕ) (rows₀ : List Row) (out₀ : List Span) (rows : List Row) (out : List Span) (p : Pages) (i : ℕ) : Type 0 where
  pub ready : Ready call rows₀ out₀
  pub stands : InMessage call.table.config (length call.msg.now) p
  pub few : i + weight p.page_state ≤ 2 * p.at + 2
  pub reached : i ≤ number
  pub rowed : length rows ≡ length rows₀
  pub room : length out ≡ length out₀
  pub same :
      numbered i (todo (board_for call) call.msg.now p) (number - i)
      ≡ numbered 0 (pages (board_for call) (items call.table.config call.msg.now)) number

pub numbered_start : {call : Call} {number : ℕ} {rows : List Row} {out : List Span} {p : Pages}
    → Ready call rows out → p ≡ first_of call.table.config → Stands call number rows out rows out p 0
numbered_start {call} {number} {rows} {out} {p} r e =
    let s : Board = board_for call in
    subst (λ (q : Pages). Stands call number rows out rows out q 0) (sym e)
    (record {
      ready = r;
      stands = first_in_law call.table.config (length call.msg.now);
      few = omega arith;
      reached = omega arith;
      rowed = refl;
      room = refl;
      same = rw sub-zero (ap (λ (x : List Page). numbered 0 x number) (sym (pages_todo s call.msg.now)));
    })

module _ {call : Call} {number : ℕ} {rows₀ : List Row} {out₀ : List Span} {rows : List Row} {out : List Span} {p : Pages} {i : ℕ}
    (z : Stands call number rows₀ out₀ rows out p i) where
  abbrev s : Board
  s = board_for call

  -- t is the next answer, and q comes after it
  module _ {rows' : List Row} {out' : List Span} {q : Pages} {t : Result (Option PageShown) Refusal} (read : NextRead call p rows out q rows' out' t) where
    here : numbered i (next_told s call.msg.now out' q t) (number - i) ≡ numbered 0 (pages s (items s.config call.msg.now)) number
    here = ap (λ (x : List Page). numbered i x (number - i)) (sym read.ends) ∙ z.same

    -- what is said of an answer that is shown
    abbrev Goes : Result (Option PageShown) Refusal → Type 0
    Goes = IfShown (Advances call out' p.at (weight p.page_state) q)

    asked : (j : ℕ) (u : Result (Option PageShown) Refusal) → Goes u → j ≡ 0
        → told (placed_by u i).answer out' ≡ numbered i (next_told s call.msg.now out' q u) j
    asked j (Ok (Some (OnPage d n k))) g h = rw (h, spans_length out' n (omega (arith, g.few, read.room, z.room, z.ready.room)))
    asked j (Ok (Some (OffPage d))) g h = rw h
    asked j (Ok None) g h = refl
    asked j (Err x) g h = rw h

    few : (u : Result (Option PageShown) Refusal) → Goes u → count_of (placed_by u i).answer ≤ length call.msg.now
    few (Ok (Some (OnPage d n k))) g = g.few
    few (Ok (Some (OffPage d))) g = omega arith
    few (Ok None) g = omega arith
    few (Err x) g = omega arith

    counts : (u : Result (Option PageShown) Refusal) → Goes u → CountsTold call.file.now call.msg.now out' (placed_by u i)
    counts (Ok (Some (OnPage d n k))) g = record { looked = g.looked; spans = refl }
    counts (Ok (Some (OffPage d))) g = record { looked = refl; spans = refl }
    counts (Ok None) g = record { looked = refl; spans = refl }
    counts (Err x) g = record { looked = refl; spans = refl }

    pub numbered_asked : {r : Placed} → number ≤ i → r ≡ placed_by t number → Numbered call number out₀ out' r
    numbered_asked h c =
        let e : number ≡ i = omega (arith, z.reached) in
        subst (Numbered call number out₀ out') (sym (c ∙ ap (placed_by t) e))
        (record {
          ends = asked (number - i) t read.next (omega arith) ∙ here;
          counts = counts t read.next;
          few = few t read.next;
          room = read.room ∙ z.room;
        })

-- ---- the call

-- by the answer of `admit`
module _ (file msg : List ℕ) where
  pub call_denied : {y : Denied} → Err y ≡ handed (admission file msg) (sign_file file) → (n room : ℕ) (out : List Span) {r : Placed} → r ≡ bare (Refused y.refusal)
      → Answered file msg n room out out r
  unfolding result
  call_denied h n room out d =
      subst (Answered file msg n room out out) (sym d)
      (record {
        computed = record { ends = ap (λ (a : Admission). result_on a msg n room) (sym (denied_is file msg h)); few = omega arith; long = refl };
        counts = record { looked = refl; spans = refl };
      })

  module _ {t : SignFile} (h : Ok t ≡ handed (admission file msg) (sign_file file)) where
    abbrev known : Opens file msg t
    known = opens file msg h

    pub call_accepted : AcceptedTable file t
    call_accepted = known.table

    pub call_small : length msg ≤ 2048
    call_small = known.admits_it.small

    module _ (n room : ℕ) (out : List Span) where
      -- what is behind the refusals of every call
      behind : result file msg n room
          ≡ pick (ltb room 1400) (said (Refused (refusal 4 0 0 0))) (numbered 0 (pages (board_in file msg t.config) (items t.config msg)) n)
      unfolding result
      behind =
          let after : Board → Told = λ y. pick (ltb room 1400) (said (Refused (refusal 4 0 0 0))) (numbered 0 (pages y (items t.config msg)) n) in
          ap (λ (a : Admission). result_on a msg n room) known.is ∙ sym (ap after (board_is file msg t.config known.fs known.admits_it.sign))

      pub call_short : {r : Placed} → room < 1400 → r ≡ bare (Refused (refusal 4 0 0 0)) → Answered file msg n room out out r
      call_short g d =
          subst (Answered file msg n room out out) (sym d)
          (record {
            computed = record { ends = sym (behind ∙ rw (lt-ltb room 1400 g)); few = omega arith; long = refl };
            counts = record { looked = refl; spans = refl };
          })

      pub call_listed : {call : Call} {out' : List Span} {r : Placed} → call.file.now ≡ file → call.msg.now ≡ msg → call.table ≡ t
          → 1400 ≤ room → RecordRoom msg out → Numbered call n out out' r → Answered file msg n room out out' r
      call_listed {call} {out'} {r} a b c g q d =
          record {
            computed =
                record {
                  ends =
                      d.ends ∙ rw (a, b, c) (sym (behind ∙ rw (le-ltb room 1400 g)));
                  few = omega (arith, q call_small, d.few, ap length b);
                  long = d.room;
                };
            counts = rw (a, b) at d.counts;
          }

-- ---- the count of the records

count_told : (a : Answer) (l : List Span) → SpanRoom (count_of a) l → length (written_by a l) ≡ count_of a
count_told (On d n) l h = spans_length l n h
count_told (Off d) l h = refl
count_told (End n) l h = refl
count_told (Refused r) l h = refl

none_written : (a : Answer) (l : List Span) → spans_of l (count_of a) ≡ written_by a l
none_written (On d n) l = refl
none_written (Off d) l = refl
none_written (End n) l = refl
none_written (Refused r) l = refl

-- p is the answer with its counts, l holds its records
module _ {file msg : List ℕ} {number room : ℕ} {out l : List Span} {p : Placed} (h : Answered file msg number room out l p) where
  abbrev y : Told
  y = result file msg number room

  abbrev sign : Sign
  sign = sign_file file

  written_is : written_by p.answer l ≡ y.written
  written_is = ap (λ (x : Told). x.written) h.computed.ends

  answer_is : p.answer ≡ y.answer
  answer_is = ap (λ (x : Told). x.answer) h.computed.ends

  looked_is : p.looked ≡ chars_looked sign msg y.written
  looked_is = h.counts.looked ∙ ap (chars_looked sign msg) written_is

  spans_are : p.spans ≡ length y.written
  spans_are = h.counts.spans ∙ sym (count_told p.answer l (omega (arith, h.computed.few, h.computed.long))) ∙ ap length written_is

  abbrev made : Answer → ℕ → ℕ → Placed
  made x j k = record { answer = x; looked = j; spans = k }

  same_placed : (q : Placed) → p.answer ≡ q.answer → p.looked ≡ q.looked → p.spans ≡ q.spans → p ≡ q
  same_placed q a b d =
      ap (λ (x : Answer). made x p.looked p.spans) a ∙ ap (λ (k : ℕ). made q.answer k p.spans) b ∙ ap (made q.answer q.looked) d

  pub placed_as : PlacedAs file msg number room out l p
  placed_as =
      let r : (length y.written ≤ 1400) × (length y.written ≤ room) = result_room file msg number room in
      record {
        computed = h.computed;
        placed = same_placed (with_counts sign msg y) answer_is looked_is spans_are;
        records = ap (spans_of l) h.counts.spans ∙ none_written p.answer l ∙ written_is;
        most = omega (arith, r.0, spans_are);
        few = omega (arith, r.1, spans_are);
        long = omega (arith, h.computed.few, h.computed.long, h.counts.spans);
      }
