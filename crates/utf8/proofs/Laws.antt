-- The ways on and out of the loops, and the code points one by one.
use Rattle.std.proofs.Common.{ℕ, zero, suc, ◌+◌, ◌-◌, ◌*◌, ◌%◌, ◌≤◌, ◌<◌, min, max, ◌≡◌, refl, sym, ◌∙◌, ap, List, [], ◌∷◌, length, get_or, take, drop, Bool, true, false, ◌&&◌, arith}
use Rattle.std.proofs.lemmas.Bool.Decides.{nat_tests}
use Rattle.std.specs.List.{list_all}
use lib.Dec.{ltb, leb, eqb}
use lib.ListN.{drop_of_length-le}
use lib.Seq.{get_or-drop, drop-drop}
use Rattle.base.specs.Pick.{pick, picks}
use Rattle.base.specs.Lists.{drop_step, rest_is}
use Rattle.utf8.specs.declared.Due.{Due}
use Rattle.utf8.specs.declared.Code.{Code}
use Rattle.utf8.specs.Utf8.{extra, fits, after_byte, well_formed_from, all_ascii, bits, code_of, codes_from, codes, coded, code_at, all_latin1}

-- `walk`
module _ (d : Due) (l : List ℕ) (i : ℕ) where
  module _ (h : i < length l) where
    pub formed_on : fits d (get_or l i 0) ≡ true → well_formed_from (after_byte d (get_or l i 0)) (drop (i + 1) l) ≡ well_formed_from d (drop i l)
    unfolding well_formed_from
    formed_on e = rw (drop_step l i h, e)

    pub formed_bad : fits d (get_or l i 0) ≡ false → well_formed_from d (drop i l) ≡ false
    unfolding well_formed_from
    formed_bad e = rw (drop_step l i h, e)

  pub formed_end : length l ≤ i → well_formed_from d (drop i l) ≡ eqb d.left 0
  unfolding well_formed_from
  formed_end h = rw (drop_of_length-le l h)

pub ruleset formed_ways = (formed_on, formed_bad, formed_end)

-- `ascii`: whether the bytes are, where k is the least and m the largest of those before them
unfoldable pub ascii_from : ℕ → ℕ → ℕ → List ℕ → Bool
ascii_from from k m l = pick (ltb k from) false (pick (ltb m 128) (all_ascii from l) false)

module _ (from : ℕ) where
  pub ascii_start : (l : List ℕ) → from ≤ 255 → ascii_from from 255 0 l ≡ all_ascii from l
  unfolding ascii_from
  ascii_start l h = grind (arith, nat_tests)

  both_ends : (k m b : ℕ) (x : Bool) → pick (ltb (min k b) from) false (pick (ltb (max m b) 128) x false)
      ≡ pick (ltb k from) false (pick (ltb m 128) (pick (ltb b from) false (pick (ltb b 128) x false)) false)
  both_ends k m b x = grind (arith, nat_tests)

  pub ascii_on : (k m : ℕ) (l : List ℕ) (i : ℕ) → i < length l
      → ascii_from from (min k (get_or l i 0)) (max m (get_or l i 0)) (drop (i + 1) l) ≡ ascii_from from k m (drop i l)
  unfolding ascii_from all_ascii
  ascii_on k m l i h = rw (drop_step l i h) (both_ends k m (get_or l i 0) (all_ascii from (drop (i + 1) l)))

  pub ascii_end : (k m : ℕ) (l : List ℕ) (i : ℕ) → length l ≤ i → ascii_from from k m (drop i l) ≡ pick (leb from k) (ltb m 128) false
  unfolding ascii_from all_ascii
  ascii_end k m l i h = rw (drop_of_length-le l h) (grind (arith, nat_tests))

pub ruleset ascii_ways = (ascii_start, ascii_on, ascii_end)

-- `code_at`
pub extra_1 : (b : ℕ) → b < 192 → 0 ≡ extra b
unfolding extra
extra_1 b h = search picks depth 4

extra_2 : (b : ℕ) → 192 ≤ b → b < 224 → 1 ≡ extra b
unfolding extra
extra_2 b g h = search picks depth 6

pub extra_3 : (b : ℕ) → 192 ≤ b → 224 ≤ b → b < 240 → 2 ≡ extra b
unfolding extra
extra_3 b f g h = search picks depth 8

pub extra_4 : (b : ℕ) → 192 ≤ b → 224 ≤ b → 240 ≤ b → 3 ≡ extra b
unfolding extra
extra_4 b f g h = search picks depth 8

module _ (l : List ℕ) (at : ℕ) where
  -- the bytes after the first
  bits_from : (i n : ℕ) → at + 1 + i ≡ n → bits l n ≡ bits (drop (at + 1) l) i
  bits_from i n e = ap (λ (x : ℕ). x % 64) (ap (λ (k : ℕ). get_or l k 0) (sym e) ∙ sym (get_or-drop (at + 1) l i 0))

  code_is : (b x n : ℕ) → b ≡ get_or l at 0 → x ≡ code_of b (drop (at + 1) l) → n ≡ extra b → coded x (suc n) ≡ code_at l at
  unfolding code_at
  code_is b x n e p q = rw (p, q, e)

  module _ (b : ℕ) (e : b ≡ get_or l at 0) where
    pub code_1 : b < 192 → coded b 1 ≡ code_at l at
    unfolding code_of
    code_1 h = code_is b b 0 e (search picks depth 4) (extra_1 b h)

    module _ (f : 192 ≤ b) (x : ℕ) (p : x ≡ bits l (at + 1)) where
      pub code_2 : b < 224 → coded (b % 32 * 64 + x) 2 ≡ code_at l at
      unfolding code_of
      code_2 h = code_is b _ 1 e (rw (← bits_from 0 (at + 1) (omega arith), ← p) (search picks depth 6)) (extra_2 b f h)

      module _ (g : 224 ≤ b) (y : ℕ) (q : y ≡ bits l (at + 2)) where
        pub code_3 : b < 240 → coded ((b % 16 * 64 + x) * 64 + y) 3 ≡ code_at l at
        unfolding code_of
        code_3 h =
            code_is b _ 2 e (rw (← bits_from 0 (at + 1) (omega arith), ← p, ← bits_from 1 (at + 2) (omega arith), ← q) (search picks depth 8))
            (extra_3 b f g h)

        pub code_4 : (z : ℕ) → z ≡ bits l (at + 3) → 240 ≤ b → coded (((b % 8 * 64 + x) * 64 + y) * 64 + z) 4 ≡ code_at l at
        unfolding code_of
        code_4 z r h =
            code_is b _ 3 e
            (rw (← bits_from 0 (at + 1) (omega arith), ← p, ← bits_from 1 (at + 2) (omega arith), ← q, ← bits_from 2 (at + 3) (omega arith), ← r)
            (search picks depth 8)) (extra_4 b f g h)

pub ruleset code_ways = (code_1, code_2, code_3, code_4)

-- bytes to skip are bytes dropped
skips : (k : ℕ) (l : List ℕ) → codes_from k l ≡ codes_from 0 (drop k l)
unfolding codes_from
skips zero [] = refl
skips (suc k) [] = refl
skips zero (b ∷ l) = refl
skips (suc k) (b ∷ l) = skips k l

-- the code points of a text that starts with b
pub codes_cons : (b : ℕ) (l : List ℕ) → codes (b ∷ l) ≡ code_of b l ∷ codes (drop (extra b) l)
unfolding codes codes_from
codes_cons b l = ap (λ (cs : List ℕ). code_of b l ∷ cs) (skips (extra b) l)

pub codes_end : (l : List ℕ) (at : ℕ) → length l ≤ at → codes (drop at l) ≡ []
unfolding codes codes_from
codes_end l at h = rw (drop_of_length-le l h)

-- r is what `code_at` answers, the code point at a place and its length
module _ (l : List ℕ) (at : ℕ) (r : Code) (e : r ≡ code_at l at) where
  pub len_is : r.len ≡ suc (extra (get_or l at 0))
  unfolding code_at
  len_is = ap (λ (x : Code). x.len) e

  module _ (h : at < length l) where
    pub codes_next : codes (drop at l) ≡ r.code ∷ codes (drop (at + r.len) l)
    unfolding code_at
    codes_next = rw (e, drop_step l at h) (codes_cons b (drop (at + 1) l) ∙ rw (drop-drop (extra b) (at + 1) l, same))
      where
        b : ℕ
        b = get_or l at 0

        same : at + 1 + extra b ≡ at + suc (extra b)
        same = omega arith

-- the first code point of a text, and what `next` leaves
pub codes_first : (l : List ℕ) (k : ℕ) → 0 < length l → k ≡ min (code_at l 0).len (length l)
    → codes l ≡ (code_at l 0).code ∷ codes (take (length l - k) (drop k l))
codes_first l k h e = rw (rest_is l k, cut) (codes_next l 0 (code_at l 0) refl h)
  where
    n : ℕ
    n = (code_at l 0).len

    cut : drop k l ≡ drop (0 + n) l
    cut = grind (arith, drop_of_length-le)

pub codes_none : (l : List ℕ) → length l ≡ 0 → codes l ≡ []
codes_none l e = codes_end l 0 (omega arith)

-- no more code points than bytes
from_len : (k : ℕ) (l : List ℕ) → length (codes_from k l) ≤ length l
unfolding codes_from
from_len k [] = omega arith
from_len zero (b ∷ l) = omega (arith, from_len (extra b) l)
from_len (suc k) (b ∷ l) = omega (arith, from_len k l)

pub codes_len : (l : List ℕ) → length (codes l) ≤ length l
unfolding codes
codes_len l = from_len 0 l

-- `latin1`
pub all_is : (cs : List ℕ) → all_latin1 cs ≡ list_all (λ c. leb 1 c && leb c 255) cs
unfolding all_latin1
all_is [] = refl
all_is (c ∷ cs) = rw (all_is cs) (grind (arith, nat_tests))

pub ruleset codes_ways = (codes_first, codes_none)
