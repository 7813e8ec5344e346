-- What `read_all` has done, and what is left.
use Rattle.std.specs.Prelude.{ℕ, ◌+◌, ◌≤◌, ◌<◌, ◌≡◌, List, [], ◌∷◌, ◌++◌, Bool, true, false, ltb, map, length, take, drop, Some, None, Ok}
use Rattle.std.proofs.Common.{refl, sym, ◌∙◌, ap, arith, slice_set}
use Rattle.std.proofs.lemmas.List.{take-append-drop, append-nil, append_assoc, take_more_set, drop-set-lt, drop-drop, length-set, length-take-le}
use borrow.Author.Tests.{ltb-false}
use Rattle.base.specs.Pick.{pick}
use Rattle.utf8.specs.Utf8.{well_formed}
use Rattle.refusal.specs.Refusals.{refusal}
use Rattle.token.specs.Token.{Slice, slices, slices_from}
use Rattle.readings.specs.declared.SliceRead.{SliceRead}
use Rattle.readings.specs.Readings.{slice_read, readings, fault, all_read, read_after}
use Rattle.readings.proofs.Within.{Within, cuts_within, cuts_few}

-- of a message that is read and a slice that is lent: recs has the readings of the first slices, as many as are counted, and these slices are left
pub record Going (long : Bool) (msg : List ℕ) (lent recs : List SliceRead) (count : ℕ) (left : List Slice) : Type 0 where
  pub short : length msg ≤ 2048
  pub enough : 2048 ≤ length lent
  pub within : Within (length msg) left
  pub few : count + length left ≤ length msg
  pub read : take count recs ++ map (slice_read long) left ≡ readings long msg
  pub rest : drop count recs ≡ drop count lent
  pub same : length recs ≡ length lent

-- where the call refuses nothing
pub record Checked (msg : List ℕ) (room : ℕ) : Type 0 where
  pub short : length msg ≤ 2048
  pub formed : well_formed msg ≡ true
  pub enough : 2048 ≤ room

pub checked : (msg : List ℕ) (room : ℕ) → fault msg room ≡ None → Checked msg room
unfolding fault
checked msg room e = go (ltb 2048 (length msg)) (well_formed msg) (ltb room 2048) refl refl refl e
  where
    go :
        (t u v : Bool)
        → ltb 2048 (length msg) ≡ t
        → well_formed msg ≡ u
        → ltb room 2048 ≡ v
        → pick t (Some (refusal 2 0 0 0)) (pick u (pick v (Some (refusal 4 0 0 0)) None) (Some (refusal 3 0 0 0))) ≡ None
        → Checked msg room
    go true u v p q r e = absurd cc
    go false false v p q r e = absurd cc
    go false true true p q r e = absurd cc
    go false true false p q r e = record { short = ltb-false 2048 (length msg) p; formed = q; enough = ltb-false room 2048 r }

module _ (long : Bool) (msg : List ℕ) (lent : List SliceRead) where
  pub going_starts : fault msg (length lent) ≡ None → (left : List Slice) → left ≡ slices_from 0 msg → Going long msg lent lent 0 left
  unfolding slices
  going_starts e left h =
      let p = checked msg (length lent) e in
      rw h
      (record {
        short = p.short;
        enough = p.enough;
        within = cuts_within (length msg) 0 0 msg (omega arith);
        few = omega (arith, cuts_few 0 0 msg);
        read = refl;
        rest = refl;
        same = refl;
      })

  module _ (recs : List SliceRead) (count : ℕ) (s : Slice) (ss : List Slice) (g : Going long msg lent recs count (s ∷ ss)) where
    inside : count < length recs
    inside = omega (arith, g.short, g.enough, g.few, g.same)

    pub going_on : Going long msg lent (slice_set recs count (slice_read long s)) (count + 1) ss
    going_on = record {
      short = g.short;
      enough = g.enough;
      within = g.within.1;
      few = omega (arith, g.few);
      read =
          rw (take_more_set recs count (slice_read long s) inside)
          (rw (append_assoc (take count recs) (slice_read long s ∷ []) (map (slice_read long) ss)) g.read);
      rest = drop-set-lt (count + 1) recs count (slice_read long s) (omega arith) ∙ step recs lent g.rest;
      same = length-set recs count (slice_read long s) ∙ g.same;
    }
      where
        step : (l m : List SliceRead) → drop count l ≡ drop count m → drop (count + 1) l ≡ drop (count + 1) m
        step l m e = sym (drop-drop 1 count l) ∙ ap (drop 1) e ∙ drop-drop 1 count m

  module _ (recs : List SliceRead) (count : ℕ) (g : Going long msg lent recs count []) where
    all : take count recs ≡ readings long msg
    all = sym (append-nil (take count recs)) ∙ g.read

    counted_all : count ≡ length (readings long msg)
    counted_all = sym (length-take-le count recs (omega (arith, g.short, g.enough, g.few, g.same))) ∙ ap length all

    pub going_done : fault msg (length lent) ≡ None → (Ok count ≡ all_read long msg lent) × (recs ≡ read_after long msg lent)
    unfolding all_read read_after
    going_done e = rw e (ap Ok counted_all, sym (take-append-drop count recs) ∙ rw (all, g.rest, counted_all) refl)
