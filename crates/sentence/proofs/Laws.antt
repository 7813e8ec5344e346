-- Decimals: their digits and how many; and the sentence, one text after the other.
use Rattle.std.proofs.Common.{ℕ, zero, suc, ◌+◌, ◌-◌, ◌/◌, ◌%◌, ◌≤◌, ◌<◌, ◌≡◌, refl, sym, ◌∙◌, ap, Bool, true, false, List, [], ◌∷◌, ◌++◌, length, set, length-set, length-append, add-zero, zero-add, add-one, add-suc, suc-add, arith}
use Rattle.std.proofs.Math.Nat.{add-sub_cancel_left}
use Rattle.std.specs.Prelude.{Ok, Err}
use lib.Dec.{ltb}
use borrow.Author.Tests.{lt-ltb, le-ltb}
use lib.Seq.{sets, set_comm}
use Rattle.base.specs.Pick.{pick}
use Rattle.base.specs.Text.{ascii}
use Rattle.buffer.specs.Put.{Put}
use Rattle.buffer.proofs.Laws.{put_then, put_whole}
use Rattle.refusal.specs.declared.Refusal.{Refusal}
use Rattle.refusal.specs.Refusals.{refusal}
use Rattle.sentence.specs.Words.{words}
use Rattle.sentence.specs.Sentence.{digits, digit_count, decimal, sentence, telling, buffer_after}

pub digits_length : (w n : ℕ) → length (digits w n) ≡ w
unfolding digits
digits_length zero n = refl
digits_length (suc w) n = rw (length-append, digits_length w (n / 10)) (add-one w)

pub decimal_length : (n : ℕ) → length (decimal n) ≡ digit_count n
unfolding decimal
decimal_length n = digits_length (digit_count n) n

digits_last : (i j m : ℕ) → j ≡ suc i → digits i (m / 10) ++ ((48 + m % 10) ∷ []) ≡ digits j m
unfolding digits
digits_last i j m q = rw q

digits_none : (i m : ℕ) → i ≡ 0 → digits i m ≡ []
unfolding digits
digits_none i m q = rw q

-- a store past a run of stores comes before it
sets_last : (xs l : List ℕ) (at d : ℕ) → sets l at (xs ++ (d ∷ [])) ≡ sets (set l (at + length xs) d) at xs
sets_last [] l at d = rw (add-zero at)
sets_last (x ∷ xs) l at d =
    sets_last xs (set l at x) (suc at) d
    ∙ rw (set_comm l at (suc at + length xs) x d (λ e. absurd (omega (arith, e))), suc-add at (length xs), ← add-suc at (length xs))

-- ---- the loop: from the last digit on

-- the digits of m from place at up to k are still to be written
pub record Counting (at n : ℕ) (lent now : List ℕ) (end m k : ℕ) : Type 0 where
  pub ends : end ≡ at + digit_count n
  pub from : at ≤ k
  pub upto : k ≤ end
  pub room : end ≤ length lent
  pub size : length now ≡ length lent
  pub rest : sets now at (digits (k - at) m) ≡ sets lent at (decimal n)

module _ {at n : ℕ} {lent : List ℕ} where
  pub count_start : {w : ℕ} → w ≡ digit_count n → w ≤ 5 → at + 5 ≤ length lent → Counting at n lent lent (at + w) n (at + w)
  unfolding decimal
  count_start {w} e s h =
      record {
        ends = ap (λ (k : ℕ). at + k) e;
        from = omega arith;
        upto = omega arith;
        room = omega arith;
        size = refl;
        rest = rw (add-sub_cancel_left, e);
      }

  pub count_on : {now : List ℕ} {end m k d : ℕ} → Counting at n lent now end m k → at < k → d ≡ 48 + m % 10
      → Counting at n lent (set now (k - 1) d) end (m / 10) (k - 1)
  count_on {now} {end} {m} {k} {d} z h e = record {
    ends = z.ends;
    from = omega arith;
    upto = omega (arith, z.upto);
    room = z.room;
    size = length-set now (k - 1) d ∙ z.size;
    rest = ap (λ (j : ℕ). sets (set now j d) at (digits (k - 1 - at) (m / 10))) place
        ∙ sym (sets_last (digits (k - 1 - at) (m / 10)) now at d)
        ∙ ap (λ (j : ℕ). sets now at (digits (k - 1 - at) (m / 10) ++ (j ∷ []))) e
        ∙ whole (k - 1 - at) (k - at) (omega arith)
        ∙ z.rest;
  }
    where
      place : k - 1 ≡ at + length (digits (k - 1 - at) (m / 10))
      place = omega (arith, digits_length (k - 1 - at) (m / 10))

      whole : (i j : ℕ) → j ≡ suc i → sets now at (digits i (m / 10) ++ ((48 + m % 10) ∷ [])) ≡ sets now at (digits j m)
      whole i j q = ap (sets now at) (digits_last i j m q)

  pub count_end : {now : List ℕ} {end m k : ℕ} → Counting at n lent now end m k → k ≤ at → Put at (decimal n) lent now end
  count_end {now} {end} {m} {k} z h =
      record { ends = z.ends ∙ ap (λ (j : ℕ). at + j) (sym size_of); bytes = none_left (k - at) (omega (arith, z.from)) ∙ z.rest; size = z.size }
    where
      size_of : length (decimal n) ≡ digit_count n
      size_of = decimal_length n

      none_left : (i : ℕ) → i ≡ 0 → now ≡ sets now at (digits i m)
      none_left i q = ap (sets now at) (sym (digits_none i m q))

-- ---- a text and a number after it

pub digit_count_le : (n : ℕ) → digit_count n ≤ 5
unfolding digit_count
digit_count_le n = four (ltb n 10) (ltb n 100) (ltb n 1000) (ltb n 10000)
  where
    four : (a b c d : Bool) → pick a 1 (pick b 2 (pick c 3 (pick d 4 5))) ≤ 5
    four true b c d = omega arith
    four false true c d = omega arith
    four false false true d = omega arith
    four false false false true = omega arith
    four false false false false = omega arith

pub digit_count_small : (n : ℕ) → n < 1000 → digit_count n ≤ 3
unfolding digit_count
digit_count_small n h = three (ltb n 10) (ltb n 100) (ltb n 1000) (lt-ltb n 1000 h)
  where
    three : (a b c : Bool) → c ≡ true → pick a 1 (pick b 2 (pick c 3 (pick (ltb n 10000) 4 5))) ≤ 3
    three true b c e = omega arith
    three false true c e = omega arith
    three false false c e = rw e (omega arith)

-- ---- the sentence

module _ (r : Refusal) (l : List ℕ) where
  pub sentence_short : length l < 96 → (Err (refusal 16 0 0 0) ≡ telling r l) × (l ≡ buffer_after r l)
  unfolding telling buffer_after
  sentence_short h = rw (lt-ltb (length l) 96 h) (refl, refl)

  -- what was put, one text after the other
  pub sentence_told : {l₁ l₂ l₃ l₄ l₅ l₆ l₇ l₈ l₉ l₁₀ l₁₁ : List ℕ} {a b c d e f g h i j k : ℕ} → 96 ≤ length l → k ≤ 96
      → {n : ℕ} → n ≡ r.number → {w : List ℕ} → w ≡ words r.number
      → Put 0 (ascii "Refusal ") l l₁ a → Put a (decimal n) l₁ l₂ b
      → Put b (ascii " at byte ") l₂ l₃ c → Put c (decimal r.start) l₃ l₄ d
      → Put d (ascii ", length ") l₄ l₅ e → Put e (decimal r.length) l₅ l₆ f
      → Put f (ascii ", detail ") l₆ l₇ g → Put g (decimal r.detail) l₇ l₈ h
      → Put h (ascii ": ") l₈ l₉ i → Put i w l₉ l₁₀ j
      → Put j (ascii ".") l₁₀ l₁₁ k → {l' : List ℕ} → l' ≡ l₁₁
      → (Ok k ≡ telling r l) × (l' ≡ buffer_after r l)
  unfolding telling buffer_after sentence
  sentence_told {l₁₁ = l₁₁} {k = k} x y {n} e {w} f p₁ p₂ p₃ p₄ p₅ p₆ p₇ p₈ p₉ p₁₀ p₁₁ q =
      rw (le-ltb (length l) 96 x) (ap Ok (whole.ends ∙ zero-add (length (sentence r))), q ∙ put_whole whole (omega (arith, whole.ends)))
    where
      whole : Put 0 (sentence r) l l₁₁ k
      whole = rw (← f, ← e)
          (put_then (put_then (put_then (put_then (put_then (put_then (put_then (put_then (put_then (put_then p₁ p₂) p₃) p₄) p₅) p₆) p₇) p₈) p₉) p₁₀) p₁₁)
