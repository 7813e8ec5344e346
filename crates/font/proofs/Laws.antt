-- The characters of a font, by their records, and what holds of one that is found.
use Prim.Native.Nat.{ℕ, suc, ◌+◌, ◌-◌, ◌≤◌, ◌<◌}
use mathlib.Core.Path.{◌≡◌, refl, sym, ◌∙◌, ap}
use mathlib.Core.List.{List, [], ◌∷◌, map}
use mathlib.Core.Bool.{Bool, true, false, cond}
use native.Mathlib.Omega.{arith}
use lib.Dec.{leb, eqb}
use lib.ListN.{length, get_or, take}
use lib.Seq.{take-length, take-nil}
use borrow.Author.Tests.{eq-eqb, ne_eqb, leb-true, leb-false}
use Rattle.std.specs.Prelude.{Option, Some, None}
use Rattle.std.specs.Option.{option_map}
use Rattle.std.specs.List.{find}
use Rattle.base.specs.Pick.{pick}
use Rattle.records.specs.Record.{little_at, Record, pieces_at, head_at}
use Rattle.records.proofs.Laws.{head_start, pieces_next, pieces_short, pieces_end}
use Rattle.records.specs.declared.Record.{Record as Head}
use Rattle.sign.specs.Sign.{Character, Font, characters_of, bitmap_len}
use Rattle.sign.specs.Reading.{part}
use Rattle.sign.specs.Given.{entry_of}
use Rattle.sign.specs.Accepted.{Each, each_none, each_more, GoodCharacter, GoodFont}
use Rattle.font.specs.Character.{found_of, lookup, character_in, characters_at, letter_of, left_of}
use Rattle.font.specs.declared.Characters.{Characters}
use Rattle.font.specs.declared.Found.{Found}

-- what a reader of characters has left, by the record at its place
module _ (r : Characters) where
  none : characters_of (pieces_at r.file.now r.at) ≡ [] → left_of r ≡ []
  none e = rw (e, take-nil {A = Character} r.left)

  pub left_short : None ≡ head_at r.file.now r.at → left_of r ≡ []
  unfolding characters_of
  left_short e = none (go (leb (length r.file.now) r.at) refl)
    where
      go : (t : Bool) → leb (length r.file.now) r.at ≡ t → characters_of (pieces_at r.file.now r.at) ≡ []
      go true p = rw (pieces_end r.file.now r.at (leb-true (length r.file.now) r.at p))
      go false p = rw (pieces_short r.file.now r.at (leb-false (length r.file.now) r.at p) (sym e))

  -- body is what stands in the record
  module _ (h : Head) (p : Some h ≡ head_at r.file.now r.at) where
    abbrev body : List ℕ
    body = part r.file.now h.start h.end

    next : pieces_at r.file.now r.at ≡ Record r.at h.kind body ∷ pieces_at r.file.now h.end
    next = pieces_next r.file.now r.at h (sym p)

    pub left_other : (h.kind ≡ 3 → ⊥) → left_of r ≡ []
    unfolding characters_of
    left_other k = none (rw (next, ne_eqb h.kind 3 k))

    pub left_more : h.kind ≡ 3 → (r.left ≡ 0 → ⊥) → (x y : ℕ) → x ≡ little_at 2 0 body → y ≡ get_or body 2 0
        → left_of r ≡ (x, record { width = y; bitmap = h.start + 3 }) ∷ left_of (record { file = r.file; at = h.end; left = r.left - 1 })
    unfolding characters_of
    left_more k n x y e f =
        let some : r.left ≡ suc (r.left - 1) = omega arith in
        let to : h.start + 3 ≡ r.at + 7 = omega (arith, head_start r.file.now r.at h (sym p)) in
        ap (λ (n : ℕ). map letter_of (take n (characters_of (pieces_at r.file.now r.at)))) some ∙ rw (next, eq-eqb h.kind 3 k, e, f, to)

-- a character is looked up as it is found among the letters
pub lookup_is : (code : ℕ) (chs : List Character)
    → lookup code chs ≡ option_map (λ (l : ℕ × Found). l.1) (find (λ (l : ℕ × Found). eqb l.0 code) (map letter_of chs))
unfolding lookup
lookup_is code [] = refl
lookup_is code (ch ∷ chs) = go (eqb ch.number code) (lookup_is code chs)
  where
    found : Option (ℕ × Found)
    found = find (λ (l : ℕ × Found). eqb l.0 code) (map letter_of chs)

    go : (t : Bool) → lookup code chs ≡ option_map (λ (l : ℕ × Found). l.1) found
        → pick t (Some (found_of ch)) (lookup code chs) ≡ option_map (λ (l : ℕ × Found). l.1) (cond t (Some (letter_of ch)) found)
    go true e = refl
    go false e = e

-- with code 0
module _ (code : ℕ) (chs : List Character) where
  pub code_zero : code ≡ 0 → Some (record { width = 0; bitmap = 0 }) ≡ character_in code chs
  unfolding character_in
  code_zero e = rw (eq-eqb code 0 e)

  -- s is what is found among the letters
  module _ (n : code ≡ 0 → ⊥) (s : Option (ℕ × Found)) (e : option_map (λ x. x) s ≡ find (λ (l : ℕ × Found). eqb l.0 code) (map letter_of chs)) where
    pub code_none : s ≡ None → None ≡ character_in code chs
    unfolding character_in
    code_none q = rw (ne_eqb code 0 n, lookup_is code chs, ← e, q)

    pub code_some : (l : ℕ × Found) → s ≡ Some l → Some l.1 ≡ character_in code chs
    unfolding character_in
    code_some l q = rw (ne_eqb code 0 n, lookup_is code chs, ← e, q)

-- the entry of an accepted file's font stands for the font's characters
pub entry_stands : (file : List ℕ) (f : Font) → GoodFont file f → characters_at file (entry_of f) ≡ f.characters
unfolding characters_at
entry_stands file f g = ap (take (length f.characters)) (sym g.are) ∙ take-length f.characters

-- the bitmap of a character that is found lies within the file
module _ (file : List ℕ) (height : ℕ) (found : Found) where
  abbrev Inside : Type 0
  Inside = (found.width < 256) × (found.bitmap + bitmap_len found.width height ≤ length file)

  found_in : (code : ℕ) (chs : List Character) → Each (GoodCharacter file height) chs → lookup code chs ≡ Some found → Inside
  unfolding lookup
  found_in code [] each_none e = cc
  found_in code (ch ∷ chs) (each_more g gs) e = go (eqb ch.number code) (found_in code chs gs) e
    where
      go : (t : Bool) → (lookup code chs ≡ Some found → Inside) → pick t (Some (found_of ch)) (lookup code chs) ≡ Some found → Inside
      go true k d =
          let same : found_of ch ≡ found = cc in
          rw (← same) (g.width_byte, g.inside)
      go false k d = k d

  pub found_inside : (code : ℕ) (f : Font) → GoodFont file f → f.height ≡ height → character_in code f.characters ≡ Some found
      → (found.width < 256) × (found.bitmap + bitmap_len found.width height ≤ length file)
  unfolding character_in bitmap_len
  found_inside code f g h e = go (eqb code 0) e
    where
      go : (t : Bool) → pick t (Some (record { width = 0; bitmap = 0 })) (lookup code f.characters) ≡ Some found → Inside
      go true d =
          let same : record { width = 0; bitmap = 0 } ≡ found = cc in
          rw (← same) (omega arith, omega arith)
      go false d = found_in code f.characters (rw (← h) g.each) d
