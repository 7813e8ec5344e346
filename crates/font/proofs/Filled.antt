-- How a table of widths is filled.
use Prim.Native.Nat.{ℕ, zero, suc, ◌<◌}
use mathlib.Core.Path.{◌≡◌, refl, sym}
use mathlib.Core.List.{List, [], ◌∷◌, map}
use mathlib.Core.Bool.{Bool, true, false}
use native.Mathlib.Omega.{arith}
use lib.Dec.{eqb}
use lib.ListN.{length, get_or, length-set}
use lib.Seq.{get_or-set_same, get_or-set_other}
use borrow.Author.Tests.{ne_eqb, eqb-true, eqb-false}
use Rattle.std.specs.Prelude.{Option, Some, None}
use Rattle.std.specs.Option.{option_or}
use Rattle.base.specs.Pick.{pick}
use Rattle.sign.specs.Sign.{Character}
use Rattle.font.specs.Character.{lookup, character_in, letter_of}
use Rattle.font.specs.Widths.{width_of, filled, Unfilled}
use Rattle.font.specs.declared.Found.{Found}

-- a table with one width more, at each code
module _ (table : List (Option ℕ)) (k : ℕ) (v : Option ℕ) where
  pub filled_length : length (filled table k v) ≡ length table
  unfolding filled
  filled_length = length-set table k (option_or (get_or table k None) v)

  pub filled_same : k < length table → get_or (filled table k v) k None ≡ option_or (get_or table k None) v
  unfolding filled
  filled_same h = get_or-set_same table k (option_or (get_or table k None) v) None h

  pub filled_other : (c : ℕ) → (c ≡ k → ⊥) → get_or (filled table k v) c None ≡ get_or table c None
  unfolding filled
  filled_other c n = get_or-set_other table k c (option_or (get_or table k None) v) None n

  filled_at : (c : ℕ) → c < length table → get_or (filled table k v) c None ≡ pick (eqb k c) (option_or (get_or table c None) v) (get_or table c None)
  filled_at c h = go (eqb k c) refl
    where
      go : (t : Bool) → eqb k c ≡ t → get_or (filled table k v) c None ≡ pick t (option_or (get_or table c None) v) (get_or table c None)
      go true e =
          let same : k ≡ c = eqb-true k c e in
          rw (← same) (filled_same (rw same h))
      go false e = filled_other c (λ q. eqb-false k c e (sym q))

pub or_none : {A : Type 0} (o : Option A) → option_or o None ≡ o
or_none (Some x) = refl
or_none None = refl

-- the width at a code, of the first letter with it
abbrev among : ℕ → List (ℕ × Found) → Option ℕ
among code [] = None
among code (l ∷ ls) = pick (eqb l.0 code) (Some l.1.width) (among code ls)

among_is : (code : ℕ) (chs : List Character) → among code (map letter_of chs) ≡ width_of (lookup code chs)
unfolding lookup
among_is code [] = refl
among_is code (ch ∷ chs) = go (eqb ch.number code) (among_is code chs)
  where
    go : (t : Bool) → among code (map letter_of chs) ≡ width_of (lookup code chs)
        → pick t (Some ch.width) (among code (map letter_of chs))
        ≡ width_of (pick t (Some (record { width = ch.width; bitmap = ch.bitmap })) (lookup code chs))
    go true e = refl
    go false e = e

-- of the characters `all` of a font, the letters ls are still to be put in
pub record Filling (all : List Character) (ls : List (ℕ × Found)) (table : List (Option ℕ)) : Type 0 where
  pub at_code : (c : ℕ) → c < length table → option_or (get_or table c None) (among c ls) ≡ width_of (character_in c all)

module _ (all : List Character) where
  -- code 0 is there from the start
  pub filling_start : (table : List (Option ℕ)) → Unfilled table → Filling all (map letter_of all) (filled table 0 (Some 0))
  unfolding character_in
  filling_start table z = record { at_code = λ c h. go c (rw (filled_length table 0 (Some 0)) at h) }
    where
      go : (c : ℕ) → c < length table → option_or (get_or (filled table 0 (Some 0)) c None) (among c (map letter_of all)) ≡ width_of (character_in c all)
      go zero h = rw (filled_same table 0 (Some 0) h, z 0)
      go (suc c) h =
          let n : suc c ≡ 0 → ⊥ = λ e. absurd (omega arith) in
          rw (filled_other table 0 (Some 0) (suc c) n, z (suc c), ne_eqb (suc c) 0 n) (among_is (suc c) all)

  pub filling_more : (l : ℕ × Found) (ls : List (ℕ × Found)) (table next : List (Option ℕ)) (k : ℕ) → Filling all (l ∷ ls) table → k ≡ l.0
      → next ≡ filled table k (Some l.1.width) → Filling all ls next
  filling_more l ls table next k g d e = record { at_code = λ c h. rw e (at c (rw (e, filled_length table k (Some l.1.width)) at h)) }
    where
      at : (c : ℕ) → c < length table → option_or (get_or (filled table k (Some l.1.width)) c None) (among c ls) ≡ width_of (character_in c all)
      at c h = rw (filled_at table k (Some l.1.width) c h) (go (eqb k c) (get_or table c None) (rw (← d) at (g.at_code c h)))
        where
          go : (t : Bool) (x : Option ℕ) → option_or x (pick t (Some l.1.width) (among c ls)) ≡ width_of (character_in c all)
              → option_or (pick t (option_or x (Some l.1.width)) x) (among c ls) ≡ width_of (character_in c all)
          go true None p = p
          go true (Some w) p = p
          go false x p = p
