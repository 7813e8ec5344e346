-- Capitals that stand in for small letters: what is found, and how a table gets them.
use Prim.Native.Nat.{ℕ, ◌+◌, ◌-◌, ◌≤◌, ◌<◌}
use mathlib.Core.Path.{◌≡◌, refl, sym, ◌∙◌, ap}
use mathlib.Core.List.{List, [], ◌∷◌, ◌++◌}
use mathlib.Core.Bool.{Bool, true, false}
use native.Mathlib.Omega.{arith}
use lib.Dec.{leb, eqb}
use lib.ListN.{length, get_or}
use borrow.Author.Tests.{le-leb, lt-leb, leb-true, leb-false, eq-eqb, ne_eqb, eqb-true, eqb-false}
use Rattle.base.specs.Pick.{pick}
use Rattle.records.proofs.Laws.{Tests, tests}
use Rattle.sign.specs.Sign.{Character}
use Rattle.sign.specs.declared.FontEntry.{FontEntry}
use Rattle.font.specs.Character.{lookup, character_in, is_capital, is_small, as_small, stand_ins, letters_of, StandsIn, characters_at, letters_at}
use Rattle.std.specs.Prelude.{Option, Some, None}
use Rattle.std.specs.Option.{option_or, option_flatten, unwrap_or}
use Rattle.font.specs.Character.{found_of}
use Rattle.font.specs.Widths.{width_of, filled, Widths}
use Rattle.font.specs.StandIn.{stand_in, StoodIn}
use Rattle.font.specs.declared.Found.{Found}
use Rattle.font.specs.declared.FileFont.{FileFont}
use Rattle.font.specs.Character.{own_letters, letters}
use Rattle.font.proofs.Filled.{filled_length, filled_same, filled_other, or_none}

-- ---- the letters

-- a to z, as numbers
small_from : (n : ℕ) → is_small n ≡ true → (97 ≤ n) × (n ≤ 122)
unfolding is_small
small_from n e =
    let ok : Tests (leb 97 n ∷ leb n 122 ∷ []) = tests (leb 97 n ∷ leb n 122 ∷ []) e in
    (leb-true 97 n ok.0, leb-true n 122 ok.1.0)

capital_from : (n : ℕ) → is_capital n ≡ true → (65 ≤ n) × (n ≤ 90)
unfolding is_capital
capital_from n e =
    let ok : Tests (leb 65 n ∷ leb n 90 ∷ []) = tests (leb 65 n ∷ leb n 90 ∷ []) e in
    (leb-true 65 n ok.0, leb-true n 90 ok.1.0)

module _ (n : ℕ) where
  pub small_is : 97 ≤ n → n ≤ 122 → is_small n ≡ true
  unfolding is_small
  small_is h k = rw (le-leb 97 n h, le-leb n 122 k)

  -- a capital's small letter
  capital_small : is_capital (n - 32) ≡ is_small n
  unfolding is_capital is_small
  capital_small = go (leb 97 n) (leb n 122) refl refl
    where
      go : (t u : Bool) → leb 97 n ≡ t → leb n 122 ≡ u → pick (leb 65 (n - 32)) (leb (n - 32) 90) false ≡ pick t u false
      go true true p q = rw (le-leb 65 (n - 32) (omega (arith, leb-true 97 n p)), le-leb (n - 32) 90 (omega (arith, leb-true n 122 q)))
      go true false p q =
          rw (le-leb 65 (n - 32) (omega (arith, leb-true 97 n p)), lt-leb (n - 32) 90 (omega (arith, leb-false n 122 q)))
      go false u p q = rw (lt-leb 65 (n - 32) (omega (arith, leb-false 97 n p)))

-- ---- the character found

lookup_append : (code : ℕ) (xs ys : List Character) → lookup code (xs ++ ys) ≡ option_or (lookup code xs) (lookup code ys)
unfolding lookup
lookup_append code [] ys = refl
lookup_append code (ch ∷ xs) ys = go (eqb ch.number code) (lookup_append code xs ys)
  where
    go : (t : Bool) → lookup code (xs ++ ys) ≡ option_or (lookup code xs) (lookup code ys)
        → pick t (Some (found_of ch)) (lookup code (xs ++ ys))
        ≡ option_or (pick t (Some (found_of ch)) (lookup code xs)) (lookup code ys)
    go true e = refl
    go false e = e

-- among the stand-ins a small letter is its capital
lookup_small : (code : ℕ) (chs : List Character) → is_small code ≡ true → lookup code (stand_ins chs) ≡ lookup (code - 32) chs
unfolding lookup stand_ins
lookup_small code [] s = refl
lookup_small code (ch ∷ chs) s = go (is_capital ch.number) (eqb ch.number (code - 32)) refl refl (lookup_small code chs s)
  where
    go : (t u : Bool) → is_capital ch.number ≡ t → eqb ch.number (code - 32) ≡ u → lookup code (stand_ins chs) ≡ lookup (code - 32) chs
        → lookup code (pick t (as_small ch ∷ stand_ins chs) (stand_ins chs)) ≡ pick u (Some (found_of ch)) (lookup (code - 32) chs)
    go true true p q e =
        let n : ch.number + 32 ≡ code = omega (arith, eqb-true ch.number (code - 32) q, (small_from code s).0) in
        unfold lookup in rw (eq-eqb (ch.number + 32) code n)
    go true false p q e =
        let n : ch.number + 32 ≡ code → ⊥ = λ d. eqb-false ch.number (code - 32) q (omega arith) in
        unfold lookup in rw (ne_eqb (ch.number + 32) code n) e
    go false true p q e =
        let c : is_capital (code - 32) ≡ true = capital_small code ∙ s in
        let d : is_capital ch.number ≡ is_capital (code - 32) = ap is_capital (eqb-true ch.number (code - 32) q) in
        cc
    go false false p q e = e

-- and no other code is there
lookup_other : (code : ℕ) (chs : List Character) → is_small code ≡ false → lookup code (stand_ins chs) ≡ None
unfolding lookup stand_ins
lookup_other code [] s = refl
lookup_other code (ch ∷ chs) s = go (is_capital ch.number) refl (lookup_other code chs s)
  where
    go : (t : Bool) → is_capital ch.number ≡ t → lookup code (stand_ins chs) ≡ None
        → lookup code (pick t (as_small ch ∷ stand_ins chs) (stand_ins chs)) ≡ None
    go true p e =
        let k : (65 ≤ ch.number) × (ch.number ≤ 90) = capital_from ch.number p in
        let n : ch.number + 32 ≡ code → ⊥ =
        λ d. absurd
        (let c : is_small code ≡ true = small_is code (omega (arith, k.0)) (omega (arith, k.1)) in cc) in
        unfold lookup in rw (ne_eqb (ch.number + 32) code n) e
    go false p e = e

module _ (chs : List Character) (code : ℕ) where
  small_some : is_small code ≡ true → (code ≡ 0 → ⊥) × (code - 32 ≡ 0 → ⊥)
  small_some s = ((λ e. omega (arith, (small_from code s).0)), (λ e. omega (arith, (small_from code s).0)))

  abbrev zero_width : Found
  zero_width = record { width = 0; bitmap = 0 }

  -- by the stand-in for its code
  pub found_is : character_in code (letters_of true chs) ≡ option_or (character_in code chs) (stand_in true code chs)
  unfolding character_in stand_in
  found_is = go (is_small code) (eqb code 0) refl refl
    where
      go : (t u : Bool) → is_small code ≡ t → eqb code 0 ≡ u → pick u (Some zero_width) (lookup code (chs ++ stand_ins chs))
          ≡ option_or (pick u (Some zero_width) (lookup code chs)) (pick t (pick (eqb (code - 32) 0) (Some zero_width) (lookup (code - 32) chs)) None)
      go t true p q = refl
      go true false p q =
          rw (ne_eqb (code - 32) 0 (small_some p).1, lookup_append code chs (stand_ins chs), lookup_small code chs p)
      go false false p q = rw (lookup_append code chs (stand_ins chs), lookup_other code chs p)

pub stands_in : (chs : List Character) → StandsIn chs
unfolding stand_in
stands_in chs =
    record {
      own = λ code f e. rw (found_is chs code, e);
      capital = λ code s e. rw (found_is chs code, e, s);
      other = λ code s. rw (found_is chs code, s) (or_none (character_in code chs));
    }

-- by what the font itself has
module _ (file : List ℕ) (entry : FontEntry) (capitals : Bool) (code : ℕ) where
  abbrev own : List Character
  own = characters_at file entry

  pub letters_found : character_in code (letters_at file entry capitals) ≡ option_or (character_in code own) (stand_in capitals code own)
  unfolding letters_at
  letters_found = go capitals
    where
      go : (t : Bool) → character_in code (letters_of t own) ≡ option_or (character_in code own) (stand_in t code own)
      go true = found_is own code
      go false = unfold stand_in in sym (or_none (character_in code own))

-- ---- the table

-- what `flatten` gives of an option o, by what `unwrap_or(None)` does
flat : {A : Type 0} (o : Option (Option A)) → option_flatten o ≡ unwrap_or o None
flat None = refl
flat (Some x) = refl

pub flattened : {A : Type 0} {o p : Option (Option A)} {r x : Option A} → r ≡ option_flatten o → o ≡ p → unwrap_or p None ≡ x → r ≡ x
flattened {o = o} a b d = a ∙ flat o ∙ rw b d

-- `stand_ins`: of a to z those below a code are done
pub record Standing (old table : List (Option ℕ)) (code : ℕ) : Type 0 where
  pub same : length table ≡ length old
  pub done : (c : ℕ) → c < length old → 97 ≤ c → c < code → get_or table c None ≡ option_or (get_or old c None) (get_or old (c - 32) None)
  pub left : (c : ℕ) → (97 ≤ c → c < code → ⊥) → get_or table c None ≡ get_or old c None

pub standing_on : (old table next : List (Option ℕ)) (code : ℕ) (v : Option ℕ) → Standing old table code → 97 ≤ code → code < 123
    → v ≡ get_or table (code - 32) None → next ≡ filled table code v → Standing old next (code + 1)
standing_on old table next code v so from to f e =
    record {
      same = ap length e ∙ filled_length table code v ∙ so.same;
      done = λ c l p q. rw e (go c l p q (eqb c code) refl);
      left =
          λ c n. rw e
          (filled_other table code v c (λ d. n (omega arith) (omega arith)) ∙ so.left c (λ p q. n p (omega arith)));
    }
  where
    go : (c : ℕ) → c < length old → 97 ≤ c → c < code + 1 → (t : Bool) → eqb c code ≡ t
        → get_or (filled table code v) c None ≡ option_or (get_or old c None) (get_or old (c - 32) None)
    go c l p q true d =
        let k : c ≡ code = eqb-true c code d in
        let a : get_or table code None ≡ get_or old code None = so.left code (λ i j. absurd (omega arith)) in
        let b : get_or table (code - 32) None ≡ get_or old (code - 32) None = so.left (code - 32) (λ i j. absurd (omega arith)) in
        rw k (filled_same table code v (omega (arith, so.same)) ∙ rw (f, a, b))
    go c l p q false d =
        let n : c ≡ code → ⊥ = eqb-false c code d in
        filled_other table code v c n ∙ so.done c l p (omega arith)

stand_small : (chs : List Character) (code : ℕ) → is_small code ≡ true → stand_in true code chs ≡ character_in (code - 32) chs
unfolding stand_in
stand_small chs code s = rw s

stand_other : (chs : List Character) (code : ℕ) → is_small code ≡ false → stand_in true code chs ≡ None
unfolding stand_in
stand_other chs code s = rw s

-- what stands in a table for what is found, or stands in
width_or : (f g : Option Found) → option_or (width_of f) (width_of g) ≡ width_of (option_or f g)
width_or (Some f) g = refl
width_or None g = refl

pub standing_end : (old table : List (Option ℕ)) (code : ℕ) → Standing old table code → code ≡ 123 → StoodIn old table
standing_end old table code so h chs w c l = rw (found_is chs c) (go (is_small c) refl)
  where
    inside : c < length old
    inside = omega (arith, so.same)

    go : (t : Bool) → is_small c ≡ t → get_or table c None ≡ width_of (option_or (character_in c chs) (stand_in true c chs))
    go true s =
        let k : get_or table c None ≡ option_or (width_of (character_in c chs)) (width_of (character_in (c - 32) chs)) =
        rw (← w c inside, ← w (c - 32) (omega arith)) (so.done c inside (small_from c s).0 (omega (arith, (small_from c s).1))) in
        rw (stand_small chs c s, k) (width_or (character_in c chs) (character_in (c - 32) chs))
    go false s =
        let not_small : 97 ≤ c → c < code → ⊥ = λ p q. (let t : is_small c ≡ true = small_is c p (omega arith) in cc) in
        rw (stand_other chs c s, or_none (character_in c chs)) (so.left c not_small ∙ w c inside)

-- `widths`
module _ (f : FileFont) where
  pub widths_own : (table : List (Option ℕ)) → Widths (own_letters f) table → f.capitals ≡ false → Widths (letters f) table
  unfolding letters_at
  widths_own table w h = rw h w

  pub widths_stand : (old table : List (Option ℕ)) → Widths (own_letters f) old → f.capitals ≡ true → StoodIn old table → Widths (letters f) table
  unfolding letters_at
  widths_stand old table w h s = rw h (s (own_letters f) w)
