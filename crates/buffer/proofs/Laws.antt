-- Texts written one after the other.
use Prim.Native.Nat.{ℕ, suc, ◌+◌, ◌≤◌, ◌<◌}
use native.Mathlib.Numerals.{add-one}
use native.Mathlib.Omega.{arith}
use mathlib.Core.Path.{◌≡◌, refl, sym, ◌∙◌, ap}
use mathlib.Core.List.{List, [], ◌∷◌, ◌++◌}
use lib.ListN.{length, get_or, set, drop, length-set, length-append}
use lib.Seq.{sets, sets-eq, drop-cons, drop-length}
use Rattle.buffer.specs.Put.{Put}

-- ---- the loop: what is written from here on is the whole

-- so many bytes of the text are written
pub record Writing (at : ℕ) (text lent now : List ℕ) (i : ℕ) : Type 0 where
  pub within : i ≤ length text
  pub room : at + length text ≤ length lent
  pub size : length now ≡ length lent
  pub rest : sets now (at + i) (drop i text) ≡ sets lent at text

module _ {at : ℕ} {text lent : List ℕ} where
  pub put_start : at + length text ≤ length lent → Writing at text lent lent 0
  put_start h = record { within = omega arith; room = h; size = refl; rest = ap (λ (k : ℕ). sets lent k text) (at_zero at) }
    where
      at_zero : (k : ℕ) → k + 0 ≡ k
      at_zero k = omega arith

  pub put_on : {now : List ℕ} {i : ℕ} → Writing at text lent now i → i < length text → Writing at text lent (set now (at + i) (get_or text i 0)) (i + 1)
  put_on {now} {i} w h =
      record {
        within = omega arith;
        room = w.room;
        size = length-set now (at + i) (get_or text i 0) ∙ w.size;
        rest =
            ap (λ (k : ℕ). sets (set now (at + i) (get_or text i 0)) k (drop (i + 1) text)) (next at i)
            ∙ ap (λ (k : ℕ). sets (set now (at + i) (get_or text i 0)) (suc (at + i)) (drop k text)) (add-one i)
            ∙ ap (sets now (at + i)) (sym (drop-cons text i 0 h))
            ∙ w.rest;
      }
    where
      next : (a b : ℕ) → a + (b + 1) ≡ suc (a + b)
      next a b = omega arith

  pub put_end : {now : List ℕ} {i : ℕ} → Writing at text lent now i → length text ≤ i → Put at text lent now (at + length text)
  put_end {now} {i} w h =
      let e : i ≡ length text = omega (arith, w.within) in
      record {
        ends = refl;
        bytes = ap (sets now (at + i)) (sym (drop-length text)) ∙ ap (λ (k : ℕ). sets now (at + i) (drop k text)) (sym e) ∙ w.rest;
        size = w.size;
      }

-- ---- one text after another

sets_append : (a b l : List ℕ) (at : ℕ) → sets (sets l at a) (at + length a) b ≡ sets l at (a ++ b)
sets_append [] b l at = ap (λ (k : ℕ). sets l k b) (zeroed at)
  where
    zeroed : (k : ℕ) → k + 0 ≡ k
    zeroed k = omega arith
sets_append (x ∷ a) b l at = ap (λ (k : ℕ). sets (sets (set l at x) (suc at) a) k b) (moved at (length a)) ∙ sets_append a b (set l at x) (suc at)
  where
    moved : (k n : ℕ) → k + suc n ≡ suc k + n
    moved k n = omega arith

pub put_then : {at : ℕ} {a b l l' l'' : List ℕ} {p q : ℕ} → Put at a l l' p → Put p b l' l'' q → Put at (a ++ b) l l'' q
put_then {at} {a} {b} {l} {l'} {l''} {p} {q} x y =
    record {
      ends = y.ends ∙ ap (λ (k : ℕ). k + length b) x.ends ∙ grouped at (length a) (length b) ∙ ap (λ (k : ℕ). at + k) (sym (length-append a b));
      bytes = y.bytes ∙ ap (λ (k : List ℕ). sets k p b) x.bytes ∙ ap (λ (k : ℕ). sets (sets l at a) k b) x.ends ∙ sets_append a b l at;
      size = y.size ∙ x.size;
    }
  where
    grouped : (i j k : ℕ) → i + j + k ≡ i + (j + k)
    grouped i j k = omega arith

-- from the start of the buffer: the text, then what was there
pub put_whole : {a l l' : List ℕ} {p : ℕ} → Put 0 a l l' p → length a ≤ length l → l' ≡ a ++ drop (length a) l
put_whole {a} {l} x h = x.bytes ∙ sets-eq a l 0 (omega arith) ∙ ap (λ (k : ℕ). a ++ drop k l) (zeroed (length a))
  where
    zeroed : (k : ℕ) → 0 + k ≡ k
    zeroed k = omega arith
