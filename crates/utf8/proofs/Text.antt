-- What holds of a well-formed text.
use Prim.Native.Nat.{ℕ, zero, suc, ◌+◌, ◌-◌, ◌*◌, ◌%◌, ◌≤◌, ◌<◌}
use mathlib.Core.Path.{◌≡◌, refl, sym, ◌∙◌, ap}
use mathlib.Core.List.Memᴰ
use mathlib.Core.List.{List, [], ◌∷◌, ◌++◌, Memᴰ}
use mathlib.Core.Logic.{⊎_elim}
use mathlib.Core.Bool.{Bool, true, false}
use native.Mathlib.Nat.{add-zero}
use native.Mathlib.Omega.{arith}
use borrow.Author.Tests.{ltb-true, ltb-false, leb-true, eqb-true, eqb-false, lt-ltb, le-ltb}
use lib.Dec.{ltb, leb, eqb, eqb-suc-zero}
use lib.ListN.{length, get_or, take, drop, length-drop, take-append-drop}
use lib.Seq.{get_or-drop, drop-drop}
use Rattle.base.specs.Pick.{pick, picks}
use Rattle.base.specs.Lists.{drop_step, past_end}
use Rattle.utf8.specs.declared.Due.{Due}
use Rattle.utf8.specs.declared.Code.{Code}
use Rattle.utf8.specs.Utf8.{first, extra, low, high, due, fits, after_byte, well_formed_from, well_formed, all_ascii, bits, code_of, codes_from, codes, code_at, all_latin1, continues, inside_character}
use Rattle.utf8.proofs.Laws.{extra_1, extra_3, extra_4, len_is}

never : {A : Type 0} → false ≡ true → A
never e = absurd (let z : ◌≡◌ {A = ℕ} 0 1 = cc in omega arith)

-- a test that came out true
both : (t x : Bool) → pick t x false ≡ true → (t ≡ true) × (x ≡ true)
both true x e = (refl, e)
both false x e = never e

unless : (t x : Bool) → pick t false x ≡ true → (t ≡ false) × (x ≡ true)
unless true x e = never e
unless false x e = (refl, e)

-- a text of ASCII is well formed
module _ (from : ℕ) where
  ascii_first : (b : ℕ) (l : List ℕ) → all_ascii from (b ∷ l) ≡ true → (from ≤ b) × (b < 128) × (all_ascii from l ≡ true)
  unfolding all_ascii
  ascii_first b l e =
      let p = unless (ltb b from) (pick (ltb b 128) (all_ascii from l) false) e in
      let q = both (ltb b 128) (all_ascii from l) p.1 in
      (ltb-false b from p.0, ltb-true b 128 q.0, q.1)

  ascii_from : (lo hi : ℕ) (l : List ℕ) → all_ascii from l ≡ true → well_formed_from (due 0 lo hi) l ≡ true
  unfolding well_formed_from fits after_byte first extra
  ascii_from lo hi [] e = refl
  ascii_from lo hi (b ∷ l) e = let p = ascii_first b l e in rw (lt-ltb b 128 p.1, lt-ltb b 192 (omega (arith, p.1))) (ascii_from (low b) (high b) l p.2)

  pub ascii_formed : (l : List ℕ) → all_ascii from l ≡ true → well_formed l ≡ true
  unfolding well_formed
  ascii_formed l e = ascii_from 128 191 l e

-- and, without 0, Latin-1
pub ascii_latin1 : (l : List ℕ) → all_ascii 1 l ≡ true → all_latin1 (codes l) ≡ true
unfolding codes codes_from code_of extra all_latin1
ascii_latin1 [] e = refl
ascii_latin1 (b ∷ l) e =
    let p = ascii_first 1 b l e in
    rw (lt-ltb b 192 (omega (arith, p.1)), le-ltb b 1 p.0, le-ltb 255 b (omega (arith, p.1))) (ascii_latin1 l p.2)

-- where none is due, a range says nothing
none_due : (d : Due) (l : List ℕ) → eqb d.left 0 ≡ true → well_formed_from d l ≡ well_formed l
unfolding well_formed well_formed_from fits after_byte
none_due d [] e = e
none_due d (b ∷ l) e = rw e

-- the first byte of a text that is well formed, and what is due after it
head_formed : (b : ℕ) (l : List ℕ) → well_formed (b ∷ l) ≡ true → (first b ≡ true) × (well_formed_from (due (extra b) (low b) (high b)) l ≡ true)
unfolding well_formed well_formed_from fits after_byte
head_formed b l w = both _ _ w

-- a byte that was due
step_due : (k lo hi b : ℕ) (l : List ℕ)
    → well_formed_from (due (suc k) lo hi) (b ∷ l) ≡ pick (pick (ltb b lo) false (leb b hi)) (well_formed_from (due k 128 191) l) false
unfolding well_formed_from fits after_byte
step_due k lo hi b l =
    let e : suc k - 1 ≡ k = omega arith in
    rw (eqb-suc-zero k, e)

next_formed : (k lo hi b : ℕ) (l : List ℕ) → well_formed_from (due (suc k) lo hi) (b ∷ l) ≡ true → (lo ≤ b) × (b ≤ hi) × (well_formed_from (due k 128 191) l ≡ true)
next_formed k lo hi b l w =
    let p = both (pick (ltb b lo) false (leb b hi)) (well_formed_from (due k 128 191) l) (sym (step_due k lo hi b l) ∙ w) in
    let q = unless (ltb b lo) (leb b hi) p.0 in
    (ltb-false b lo q.0, leb-true b hi q.1, p.1)

-- a text does not end where a byte is due
ended : (k lo hi : ℕ) → well_formed_from (due k lo hi) [] ≡ true → k ≡ 0
unfolding well_formed_from
ended k lo hi w = eqb-true k 0 w

-- the bytes that are due are there, and what follows them is well formed
due_there : (k lo hi : ℕ) (l : List ℕ) → well_formed_from (due k lo hi) l ≡ true → (k ≤ length l) × (well_formed (drop k l) ≡ true)
due_there zero lo hi l w = (omega arith, sym (none_due (due 0 lo hi) l refl) ∙ w)
due_there (suc k) lo hi [] w = absurd (omega (arith, ended (suc k) lo hi w))
due_there (suc k) lo hi (b ∷ l) w =
    let r = due_there k 128 191 l (next_formed k lo hi b l w).2 in
    (omega arith, r.1)

-- a character's bytes are there, and what follows them is well formed
pub char_there : (b : ℕ) (l : List ℕ) → well_formed (b ∷ l) ≡ true → (extra b ≤ length l) × (well_formed (drop (extra b) l) ≡ true)
char_there b l w = due_there (extra b) (low b) (high b) l (head_formed b l w).1

-- the same for a loop over the characters: r is what `code_at` answers
module _ (l : List ℕ) (at : ℕ) (h : at < length l) (w : well_formed (drop at l) ≡ true) (r : Code) (e : r ≡ code_at l at) where
  here : (extra (get_or l at 0) ≤ length (drop (at + 1) l)) × (well_formed (drop (extra (get_or l at 0)) (drop (at + 1) l)) ≡ true)
  here = char_there (get_or l at 0) (drop (at + 1) l) (rw (drop_step l at h) at w)

  past_len : at + 1 + extra (get_or l at 0) ≡ at + r.len
  past_len = omega (arith, len_is l at r e)

  pub next_there : at + r.len ≤ length l
  next_there = omega (arith, here.0, past_len, length-drop (at + 1) l)

  pub next_well : well_formed (drop (at + r.len) l) ≡ true
  next_well = rw (← past_len, ← drop-drop (extra (get_or l at 0)) (at + 1) l) here.1

-- a first byte does not go on with a character, and is at most F4
first_is : (b : ℕ) → first b ≡ true → (continues b ≡ false) × (b < 245)
unfolding first continues
first_is b e = go (ltb b 128) refl e
  where
    go : (t : Bool) → ltb b 128 ≡ t → pick t true (pick (ltb b 194) false (ltb b 245)) ≡ true → (pick t false (ltb b 192) ≡ false) × (b < 245)
    go true q e = (refl, omega (arith, ltb-true b 128 q))
    go false q e =
        let r = unless (ltb b 194) (ltb b 245) e in
        (le-ltb b 192 (omega (arith, ltb-false b 194 r.0)), ltb-true b 245 r.1)

in_range : (b : ℕ) → 128 ≤ b → b < 192 → continues b ≡ true
unfolding continues
in_range b g h = sym (search picks depth 6)

-- a well-formed text does not start inside a character
pub start_between : (l : List ℕ) → well_formed l ≡ true → inside_character l 0 ≡ false
unfolding inside_character
start_between [] w = unfold continues in refl
start_between (b ∷ l) w = (first_is b (head_formed b l w).0).0

-- so a place from which on a text is well formed is not inside a character
inside_drop : (l : List ℕ) (k : ℕ) → inside_character (drop k l) 0 ≡ inside_character l k
unfolding inside_character
inside_drop l k = ap continues (get_or-drop k l 0 0 ∙ ap (λ (i : ℕ). get_or l i 0) (add-zero k))

pub between : (l : List ℕ) (k : ℕ) → well_formed (drop k l) ≡ true → inside_character l k ≡ false
between l k w = sym (inside_drop l k) ∙ start_between (drop k l) w

-- ranges that are due are of bytes that go on with a character
Ranged : Due → Type 0
Ranged d = (128 ≤ d.low) × (d.high ≤ 191)

low_ge : (b : ℕ) → 128 ≤ low b
unfolding low
low_ge b = go (eqb b 224) (eqb b 240)
  where
    go : (t u : Bool) → 128 ≤ pick t 160 (pick u 144 128)
    go true u = omega arith
    go false true = omega arith
    go false false = omega arith

high_le : (b : ℕ) → high b ≤ 191
unfolding high
high_le b = go (eqb b 237) (eqb b 244)
  where
    go : (t u : Bool) → pick t 159 (pick u 143 191) ≤ 191
    go true u = omega arith
    go false true = omega arith
    go false false = omega arith

after_ranged : (d : Due) (b : ℕ) → Ranged (after_byte d b)
unfolding after_byte Ranged
after_ranged d b = go (eqb d.left 0)
  where
    go : (t : Bool) → Ranged (pick t (due (extra b) (low b) (high b)) (due (d.left - 1) 128 191))
    go true = (low_ge b, high_le b)
    go false = (omega arith, omega arith)

-- where a text goes on with a byte that starts a character, or ends, nothing is due
seam : (k lo hi : ℕ) → 128 ≤ lo → hi ≤ 191 → (b : List ℕ) → inside_character b 0 ≡ false → well_formed_from (due k lo hi) b ≡ true
    → (eqb k 0 ≡ true) × (well_formed b ≡ true)
unfolding inside_character
seam zero lo hi g h b s w = (refl, sym (none_due (due 0 lo hi) b refl) ∙ w)
seam (suc k) lo hi g h [] s w = absurd (omega (arith, ended (suc k) lo hi w))
seam (suc k) lo hi g h (c ∷ b) s w =
    let r = next_formed k lo hi c b w in
    never (sym s ∙ in_range c (omega arith) (omega arith))

cut_from_law : (d : Due) → Ranged d → (a b : List ℕ) → inside_character b 0 ≡ false → well_formed_from d (a ++ b) ≡ true
    → (well_formed_from d a ≡ true) × (well_formed b ≡ true)
unfolding well_formed_from Ranged
cut_from_law d r [] b s w = seam d.left d.low d.high r.0 r.1 b s w
cut_from_law d r (x ∷ a) b s w =
    let p = both (fits d x) (well_formed_from (after_byte d x) (a ++ b)) w in
    let q = cut_from_law (after_byte d x) (after_ranged d x) a b s p.1 in
    (rw p.0 q.0, q.1)

-- cutting a text where no character is cut
pub cut : (a b : List ℕ) → inside_character b 0 ≡ false → well_formed (a ++ b) ≡ true → (well_formed a ≡ true) × (well_formed b ≡ true)
unfolding well_formed Ranged
cut a b s w = cut_from_law (due 0 128 191) (omega arith, omega arith) a b s w

pub cut_at : (l : List ℕ) (k : ℕ) → inside_character l k ≡ false → well_formed l ≡ true → (well_formed (take k l) ≡ true) × (well_formed (drop k l) ≡ true)
cut_at l k s w = cut (take k l) (drop k l) (inside_drop l k ∙ s) (rw (take-append-drop k l) w)

-- and joining two
joined_from : (d : Due) (a b : List ℕ) → well_formed_from d a ≡ true → well_formed b ≡ true → well_formed_from d (a ++ b) ≡ true
unfolding well_formed_from
joined_from d [] b p q = none_due d b p ∙ q
joined_from d (x ∷ a) b p q =
    let r = both (fits d x) (well_formed_from (after_byte d x) a) p in
    rw (r.0, joined_from (after_byte d x) a b r.1 q)

pub formed_append : (a b : List ℕ) → well_formed a ≡ true → well_formed b ≡ true → well_formed (a ++ b) ≡ true
unfolding well_formed
formed_append a b p q = joined_from (due 0 128 191) a b p q

-- a byte below 128 is no part of a longer character: neither its place nor the next is inside one
pub at_below : (l : List ℕ) (k : ℕ) → get_or l k 0 < 128 → inside_character l k ≡ false
unfolding inside_character continues
at_below l k h = rw (lt-ltb (get_or l k 0) 128 h)

pub past_below : (l : List ℕ) (k : ℕ) → well_formed l ≡ true → get_or l k 0 < 128 → inside_character l (k + 1) ≡ false
past_below l k w p = go (ltb k (length l)) refl
  where
    b : ℕ
    b = get_or l k 0

    none : 0 ≡ extra b
    none = extra_1 b (omega arith)

    rest : k < length l → well_formed (drop (extra b) (drop (k + 1) l)) ≡ true
    rest h = (char_there b (drop (k + 1) l) (rw (drop_step l k h) at (cut_at l k (at_below l k p) w).1)).1

    go : (t : Bool) → ltb k (length l) ≡ t → inside_character l (k + 1) ≡ false
    go true e = between l (k + 1) (rw (← none) at (rest (ltb-true k (length l) e)))
    go false e =
        let h = ltb-false k (length l) e in
        at_below l (k + 1) (omega (arith, past_end l (k + 1) (omega arith)))

-- any code point fits 21 bits
pub code_lt : (b : ℕ) (l : List ℕ) → code_of b l < 2097152
unfolding code_of
code_lt b l = go (ltb b 192) refl (ltb b 224) (ltb b 240)
  where
    go : (t : Bool) → ltb b 192 ≡ t → (u v : Bool)
        → pick t b
        (pick u (b % 32 * 64 + bits l 0) (pick v ((b % 16 * 64 + bits l 0) * 64 + bits l 1) (((b % 8 * 64 + bits l 0) * 64 + bits l 1) * 64 + bits l 2)))
        < 2097152
    go true e u v = omega (arith, ltb-true b 192 e)
    go false e true v = omega arith
    go false e false true = omega arith
    go false e false false = omega arith

-- a scalar value: at most 10FFFF, and no surrogate, D800 to DFFF (the Unicode Standard, D76)
abbrev pub Scalar : ℕ → Type 0
Scalar c = (c ≤ 1114111) × (55296 ≤ c → c ≤ 57343 → ⊥)

-- the second byte of a character is in its first byte's range
second_due : (k lo hi : ℕ) (l : List ℕ) → 0 < k → well_formed_from (due k lo hi) l ≡ true → (lo ≤ get_or l 0 0) × (get_or l 0 0 ≤ hi)
second_due zero lo hi l p w = absurd (omega arith)
second_due (suc k) lo hi [] p w = absurd (omega (arith, ended (suc k) lo hi w))
second_due (suc k) lo hi (b ∷ l) p w =
    let r = next_formed k lo hi b l w in
    (r.0, r.1)

low_is : (b : ℕ) → b ≡ 240 → low b ≡ 144
unfolding low
low_is b e = rw e

high_3 : (b : ℕ) → b ≡ 237 → high b ≡ 159
unfolding high
high_3 b e = rw e

high_4 : (b : ℕ) → b ≡ 244 → high b ≡ 143
unfolding high
high_4 b e = rw e

scalar_3 : (b x y : ℕ) → 224 ≤ b → b < 240 → low b ≤ x → x ≤ high b → Scalar ((b % 16 * 64 + x % 64) * 64 + y % 64)
scalar_3 b x y f g h i = go (eqb b 237) refl
  where
    go : (t : Bool) → eqb b 237 ≡ t → Scalar ((b % 16 * 64 + x % 64) * 64 + y % 64)
    go true e = omega (arith, low_ge b, high_3 b (eqb-true b 237 e), eqb-true b 237 e)
    go false e = omega (arith, low_ge b, high_le b, eqb-false b 237 e)

scalar_4 : (b x y z : ℕ) → 240 ≤ b → b < 245 → low b ≤ x → x ≤ high b → Scalar (((b % 8 * 64 + x % 64) * 64 + y % 64) * 64 + z % 64)
scalar_4 b x y z f g h i = go (eqb b 240) refl (eqb b 244) refl
  where
    go : (t : Bool) → eqb b 240 ≡ t → (u : Bool) → eqb b 244 ≡ u → Scalar (((b % 8 * 64 + x % 64) * 64 + y % 64) * 64 + z % 64)
    go true e u q = omega (arith, low_is b (eqb-true b 240 e), high_le b, eqb-true b 240 e)
    go false e true q = omega (arith, low_ge b, high_4 b (eqb-true b 244 q), eqb-true b 244 q)
    go false e false q = omega (arith, low_ge b, high_le b, eqb-false b 240 e, eqb-false b 244 q)

-- the code point of a well-formed character
pub char_scalar : (b : ℕ) (l : List ℕ) → well_formed (b ∷ l) ≡ true → Scalar (code_of b l)
unfolding code_of
char_scalar b l w = go (ltb b 192) refl (ltb b 224) refl (ltb b 240) refl
  where
    range : 0 < extra b → (low b ≤ get_or l 0 0) × (get_or l 0 0 ≤ high b)
    range p = second_due (extra b) (low b) (high b) l p (head_formed b l w).1

    go : (t : Bool) → ltb b 192 ≡ t → (u : Bool) → ltb b 224 ≡ u → (v : Bool) → ltb b 240 ≡ v
        → Scalar
        (pick t b
        (pick u (b % 32 * 64 + bits l 0)
        (pick v ((b % 16 * 64 + bits l 0) * 64 + bits l 1) (((b % 8 * 64 + bits l 0) * 64 + bits l 1) * 64 + bits l 2))))
    go true e u f v g = omega (arith, ltb-true b 192 e)
    go false e true f v g = omega arith
    go false e false f true g =
        let p : 224 ≤ b = ltb-false b 224 f in
        let q : b < 240 = ltb-true b 240 g in
        let r = range (omega (arith, extra_3 b (omega arith) p q)) in
        scalar_3 b (get_or l 0 0) (get_or l 1 0) p q r.0 r.1
    go false e false f false g =
        let p : 240 ≤ b = ltb-false b 240 g in
        let r = range (omega (arith, extra_4 b (omega arith) (omega arith) p)) in
        scalar_4 b (get_or l 0 0) (get_or l 1 0) (get_or l 2 0) p (first_is b (head_formed b l w).0).1 r.0 r.1

scalars_from : (k lo hi c : ℕ) (l : List ℕ) → well_formed_from (due k lo hi) l ≡ true → Memᴰ c (codes_from k l) → Scalar c
unfolding codes_from
scalars_from k lo hi c [] w m = absurd (Memᴰ.not-nil m)
scalars_from zero lo hi c (b ∷ l) w m =
    let v = sym (none_due (due 0 lo hi) (b ∷ l) refl) ∙ w in
    ⊎_elim (λ e. rw e (char_scalar b l v)) (λ n. scalars_from (extra b) (low b) (high b) c l (head_formed b l v).1 n) (Memᴰ.cases_cons m)
scalars_from (suc k) lo hi c (b ∷ l) w m = scalars_from k 128 191 c l (next_formed k lo hi b l w).2 m

-- each code point of a well-formed text is a scalar value
pub scalars : (c : ℕ) (l : List ℕ) → well_formed l ≡ true → Memᴰ c (codes l) → Scalar c
unfolding well_formed codes
scalars c l w m = scalars_from 0 128 191 c l w m
