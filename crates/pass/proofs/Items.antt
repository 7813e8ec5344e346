-- A text has code points of 16 bits.
use Prim.Native.Nat.{ℕ, ◌<◌}
use mathlib.Core.Path.{◌≡◌, refl}
use mathlib.Core.Bool.{Bool, true, false}
use mathlib.Core.Logic.{◌⊎◌, inl, inr}
use mathlib.Core.List.{List, [], ◌∷◌}
use native.Mathlib.Omega.{arith}
use native.Mathlib.Nat.{le_refl}
use lib.Dec.{ltb, leb, eqb}
use lib.ListN.{length, take, get_or}
use lib.Seq.{take_all}
use borrow.Author.Tests.{eqb-true, ltb-false}
use Rattle.base.specs.Pick.{pick}
use Rattle.utf8.specs.Utf8.{codes, codes_from, code_of, all_latin1}
use Rattle.token.specs.declared.Shape.{Shape}
use Rattle.token.specs.declared.Shape.TheVariants.{Bracket, Tag, Stray, Text as TextShape}
use Rattle.token.specs.Token.{is_pair, last_byte, shape_of}
use Rattle.std.specs.Prelude.{Result, Ok, Err}
use Rattle.value.specs.declared.SyntaxError.{SyntaxError}
use Rattle.value.specs.declared.Value.{Value}
use Rattle.reading.specs.Reading.{tag_item, text_item, shape_item, item_of}
use Rattle.layout.specs.declared.Entry.{Entry}
use Rattle.layout.specs.Demand.{Role, text, hexadecimal, rectangle, page_just, new_page as page_role, other, role_of, role_in}
use Rattle.layout.proofs.Cover.{Spoken}
use Rattle.layout.proofs.Tags.{NoText, NoTextIn, tag_value_law}
use Rattle.meter.specs.Gauges.{CodesFit}

-- ---- a text is narrow

-- the first bytes of s that an item says as a text
abbrev Clear : List ℕ → Role → Type 0
Clear s (text p) = CodesFit (codes (take p.len s))
Clear s hexadecimal = Unit {0}
Clear s (rectangle r) = Unit {0}
Clear s (page_just j) = Unit {0}
Clear s page_role = Unit {0}
Clear s other = Unit {0}

latin_narrow : (l : List ℕ) → all_latin1 l ≡ true → CodesFit l
unfolding all_latin1
latin_narrow [] e = tt
latin_narrow (c ∷ l) e = go (ltb c 1) (ltb 255 c) refl (latin_narrow l) e
  where
    go : (t u : Bool) → ltb 255 c ≡ u → (all_latin1 l ≡ true → CodesFit l) → pick t false (pick u false (all_latin1 l)) ≡ true → (c < 65536) × CodesFit l
    go true u q k d = absurd (let z : ◌≡◌ {A = ℕ} 0 1 = cc in omega arith)
    go false true q k d = absurd (let z : ◌≡◌ {A = ℕ} 0 1 = cc in omega arith)
    go false false q k d = (omega (arith, ltb-false 255 c q), k d)

no_text : (s : List ℕ) (r : Role) → NoText r → Clear s r
no_text s (text p) h = absurd h
no_text s hexadecimal h = tt
no_text s (rectangle q) h = tt
no_text s (page_just j) h = tt
no_text s page_role h = tt
no_text s other h = tt

value_clear : (s : List ℕ) (x : Result Value SyntaxError) → NoTextIn x → Clear s (role_in x)
value_clear s (Ok v) h = no_text s (role_of v) h
value_clear s (Err e) h = tt

pick_clear : (s : List ℕ) (t : Bool) (x y : Result Value SyntaxError) → (t ≡ true → Clear s (role_in x)) → (t ≡ false → Clear s (role_in y)) → Clear s (role_in (pick t x y))
pick_clear s true x y f g = f refl
pick_clear s false x y f g = g refl

-- [[ and ]]: the first byte is a bracket
pair_first : (b : ℕ) (s : List ℕ) → is_pair b s ≡ true → get_or s 0 0 ≡ b
unfolding is_pair
pair_first b s e = go (eqb (length s) 2) (eqb (get_or s 0 0) b) refl e
  where
    go : (t u : Bool) → eqb (get_or s 0 0) b ≡ u → pick t (pick u (eqb (get_or s 1 0) b) false) false ≡ true → get_or s 0 0 ≡ b
    go true true q d = eqb-true (get_or s 0 0) b q
    go true false q d = absurd (let z : ◌≡◌ {A = ℕ} 0 1 = cc in omega arith)
    go false u q d = absurd (let z : ◌≡◌ {A = ℕ} 0 1 = cc in omega arith)

one_narrow : (b : ℕ) → (b ≡ 91) ⊎ (b ≡ 93) → CodesFit (codes (b ∷ []))
unfolding codes codes_from code_of
one_narrow b (inl e) = rw e (omega arith, tt)
one_narrow b (inr e) = rw e (omega arith, tt)

first_narrow : (s : List ℕ) → (get_or s 0 0 ≡ 91) ⊎ (get_or s 0 0 ≡ 93) → CodesFit (codes (take 1 s))
first_narrow [] (inl e) = absurd (omega arith)
first_narrow [] (inr e) = absurd (omega arith)
first_narrow (b ∷ s) h = one_narrow b h

bracket_narrow : (s : List ℕ) → shape_of s ≡ Bracket → CodesFit (codes (take 1 s))
unfolding shape_of
bracket_narrow s e = go (is_pair 91 s) (is_pair 93 s) refl refl (eqb (get_or s 0 0) 91) (eqb (last_byte s) 93) (eqb (get_or s 0 0) 93) e
  where
    go : (t u : Bool) → is_pair 91 s ≡ t → is_pair 93 s ≡ u → (x y z : Bool)
        → pick t Bracket (pick u Bracket (pick x (pick y Tag Stray) (pick z Stray TextShape))) ≡ Bracket → CodesFit (codes (take 1 s))
    go true u p q x y z d = first_narrow s (inl (pair_first 91 s p))
    go false true p q x y z d = first_narrow s (inr (pair_first 93 s q))
    go false false p q true true z d = absurd (let k : ◌≡◌ {A = ℕ} 0 1 = cc in omega arith)
    go false false p q true false z d = absurd (let k : ◌≡◌ {A = ℕ} 0 1 = cc in omega arith)
    go false false p q false y true d = absurd (let k : ◌≡◌ {A = ℕ} 0 1 = cc in omega arith)
    go false false p q false y false d = absurd (let k : ◌≡◌ {A = ℕ} 0 1 = cc in omega arith)

module _ (long : Bool) (a : ℕ) (s : List ℕ) where
  tag_clear : Clear s (role_in (tag_item long a s))
  unfolding tag_item
  tag_clear = pick_clear s (leb 2 (length s)) _ _ (λ _. value_clear s _ (tag_value_law _ _ _)) (λ _. tt)

  text_clear : Clear s (role_in (text_item a s))
  unfolding text_item
  text_clear = pick_clear s (all_latin1 (codes s)) _ _ (λ e. rw (take_all (length s) s (le_refl _)) (latin_narrow (codes s) e)) (λ _. tt)

  shape_clear : (sh : Shape) → shape_of s ≡ sh → Clear s (role_in (shape_item long sh a s))
  shape_clear Bracket e = bracket_narrow s e
  shape_clear Tag e = tag_clear
  shape_clear Stray e = tt
  shape_clear TextShape e = text_clear

  item_clear : Clear s (role_in (item_of long a s))
  unfolding item_of
  item_clear = shape_clear (shape_of s) refl

  -- the bytes of a text entry of the slice s
  spoken : (e : Entry) (r : Role) → Spoken e r → Clear s r → e.kind ≡ 0 → CodesFit (codes (take e.len s))
  spoken e (text p) h k z = rw h.1 k
  spoken e hexadecimal h k z = absurd (h z)
  spoken e (rectangle r) h k z = absurd (h z)
  spoken e (page_just j) h k z = absurd (h z)
  spoken e page_role h k z = absurd (h z)
  spoken e other h k z = absurd (h z)

  pub spoken_narrow : (e : Entry) → Spoken e (role_in (item_of long a s)) → e.kind ≡ 0 → CodesFit (codes (take e.len s))
  spoken_narrow e h z = spoken e (role_in (item_of long a s)) h item_clear z
