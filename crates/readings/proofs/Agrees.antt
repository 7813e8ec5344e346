-- What holds of the call (`ReadsAll`).
use Rattle.std.specs.Prelude.{ℕ, zero, suc, ◌+◌, ◌-◌, ◌≤◌, ◌<◌, ◌≡◌, Bool, true, false, ltb, List, ◌∷◌, ◌++◌, map, length, take, drop, Some, None, Option, Result, Ok, Err}
use Rattle.std.proofs.Common.{refl, ◌∙◌, ap, arith}
use Rattle.std.proofs.lemmas.List.{length-map}
use lib.Seq.{take-append_seam, drop-append_seam}
use native.Mathlib.Nat.{add-sub_cancel_left}
use borrow.Author.Tests.{ltb-true, ltb-false, le-ltb, ne_eqb}
use Rattle.utf8.specs.Utf8.{well_formed, inside_character}
use Rattle.utf8.proofs.Text.{start_between}
use Rattle.token.specs.Token.{slices, slices_from, slice_len}
use Rattle.token.proofs.Laws.{cuts_next, cuts_end, next_more}
use Rattle.value.specs.declared.SyntaxError.{SyntaxError}
use Rattle.value.specs.declared.Value.{Value}
use Rattle.refusal.specs.declared.Refusal.{Refusal}
use Rattle.reading.specs.Reading.{item_of, item_reading, slice_reading, reading_at, reading}
use Rattle.readings.specs.declared.SliceRead.{SliceRead}
use Rattle.readings.specs.Readings.{said_read, slice_read, readings, fault, counted, over_unless, all_read, read_after}
use Rattle.readings.specs.Each.{reading_read, ReadsAll}
use Rattle.readings.proofs.Between.{end_between}
use Rattle.readings.proofs.Going.{Checked, checked}
use Rattle.readings.proofs.Within.{slices_few}

same : (at n : ℕ) (x : Result Value SyntaxError) → said_read at n x ≡ reading_read (item_reading x at n)
same at n (Ok v) = refl
same at n (Err e) = refl

module _ (long : Bool) (msg : List ℕ) (short : length msg ≤ 2048) (formed : well_formed msg ≡ true) where
  -- the slice that starts at a place outside of a character
  head : (at : ℕ) → at < length msg → inside_character msg at ≡ false
      → slice_read long (record { start = at; bytes = take (slice_len (drop at msg)) (drop at msg) }) ≡ reading_read (reading long msg at)
  unfolding reading reading_at slice_reading
  head at h o =
      rw (le-ltb 2048 (length msg) short, formed, le-ltb (length msg) at (omega arith), o, ne_eqb at (length msg) (λ (e : at ≡ length msg). omega arith))
      (same at (length (take (slice_len (drop at msg)) (drop at msg))) (item_of long at (take (slice_len (drop at msg)) (drop at msg))))

  abbrev Agree : ℕ → Type 0
  Agree at = map (slice_read long) (slices_from at msg) ≡ map (λ s. reading_read (reading long msg s.start)) (slices_from at msg)

  -- those from a place on: at most so many bytes are left
  from : (k at : ℕ) → length msg - at ≤ k → inside_character msg at ≡ false → Agree at
  from zero at e o = rw (cuts_end at msg (omega arith)) refl
  from (suc k) at e o = go (ltb at (length msg)) refl (from k r)
    where
      r : ℕ
      r = at + slice_len (drop at msg)

      go : (t : Bool) → ltb at (length msg) ≡ t → (length msg - r ≤ k → inside_character msg r ≡ false → Agree r) → Agree at
      go false p on = rw (cuts_end at msg (ltb-false at (length msg) p)) refl
      go true p on =
          let h : at < length msg = ltb-true at (length msg) p in
          rw (cuts_next at msg h r refl, add-sub_cancel_left at (slice_len (drop at msg)), head at h o)
          (ap (λ (l : List SliceRead). reading_read (reading long msg at) ∷ l) (on (omega (arith, next_more at msg h r refl)) (end_between msg formed at h)))

  all_agree : readings long msg ≡ map (λ s. reading_read (reading long msg s.start)) (slices msg)
  unfolding slices
  all_agree = from (length msg) 0 (omega arith) (start_between msg formed)

module _ (long : Bool) (msg : List ℕ) (lent : List SliceRead) where
  -- the call answers a count where it refuses nothing
  many : (f : Option Refusal) (l : List SliceRead) (n : ℕ) → counted f (length l) ≡ Ok n → (f ≡ None) × (n ≡ length l)
  many None l n e = (refl, cc)
  many (Some r) l n e = absurd cc

  stays : (f : Option Refusal) (l : List SliceRead) (r : Refusal) → counted f (length l) ≡ Err r → over_unless f l lent ≡ lent
  stays None l r e = absurd cc
  stays (Some x) l r e = refl

  module _ (n : ℕ) (e : all_read long msg lent ≡ Ok n) where
    is : (fault msg (length lent) ≡ None) × (n ≡ length (readings long msg))
    is = many (fault msg (length lent)) (readings long msg) n (unfold all_read in e)

    may : Checked msg (length lent)
    may = checked msg (length lent) is.0

    sliced : n ≡ length (slices msg)
    sliced = is.1 ∙ length-map (slices msg) (slice_read long)

    afterwards : read_after long msg lent ≡ readings long msg ++ drop (length (readings long msg)) lent
    unfolding read_after
    afterwards = rw is.0 refl

  pub reads_all : ReadsAll long msg lent
  reads_all = record {
    each = λ n e. rw (is n e).1 (rw (afterwards n e) (take-append_seam (readings long msg) _)) ∙ all_agree long msg (may n e).short (may n e).formed;
    count = sliced;
    room = λ n e. omega (arith, sliced n e, slices_few msg, (may n e).short);
    past = λ n e. rw (is n e).1 (rw (afterwards n e) (drop-append_seam (readings long msg) _));
    unchanged = λ r e. unfold read_after in stays (fault msg (length lent)) (readings long msg) r (unfold all_read in e);
  }
