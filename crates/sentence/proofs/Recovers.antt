-- From the sentence alone all four numbers are recovered; the sentence is ASCII, with one full stop at its end, and has room in 96 bytes.
use Prim.Native.Nat.{ℕ, zero, suc, ◌+◌, ◌*◌, ◌/◌, ◌%◌, ◌≤◌, ◌<◌}
use native.Mathlib.Omega.{arith}
use mathlib.Core.Path.{◌≡◌, refl, ◌∙◌, ap}
use mathlib.Core.Bool.{Bool, true, false, ◌&&◌}
use Rattle.std.specs.Prelude.{Option, Some, None}
use Rattle.std.specs.Option.{option_and_then}
use mathlib.Core.List.{List, [], ◌∷◌, ◌++◌, append_assoc}
use lib.Dec.{leb, ltb, eqb}
use lib.ListN.{length, drop, get_or, length-append}
use lib.Seq.{drop-append-add}
use borrow.Author.Tests.{leb-true, le-leb, lt-ltb, ne_eqb, ltb-true, eqb-true}
use Rattle.std.specs.List.{list_all}
use Rattle.std.proofs.lemmas.List.Folds.{list_all-append}
use Rattle.base.specs.Pick.{pick}
use Rattle.base.specs.Text.{ascii}
use Rattle.number.specs.Number.{digit_of, read_from, read_digits, read_number}
use Rattle.refusal.specs.declared.Refusal.{Refusal}
use Rattle.sentence.specs.Words.{words, table, unknown}
use Rattle.sentence.specs.Sentence.{digits, digit_count, decimal, sentence}
use Rattle.sentence.specs.Recovered.{digit, leading, tells_number, recovered, ink, ended, Sentenced, Worded}
use Rattle.sentence.proofs.Laws.{digits_length, decimal_length, digit_count_le, digit_count_small}
use Rattle.sentence.proofs.Texts.{all_here, all_there, all_at, words_short}

-- ---- the number reader reads what the decimal writer wrote

digit_of_law : (d : ℕ) → d < 10 → digit_of (48 + d) ≡ d
unfolding digit_of
digit_of_law d h = rw (le-leb (48 + d) 57 (omega arith), le-leb 48 (48 + d) (omega arith)) (omega arith)

-- one digit more
read_last : (max acc m d : ℕ) (l : List ℕ) → read_from 10 max acc l ≡ Some m → d < 10 → m * 10 + d ≤ max
    → read_from 10 max acc (l ++ ((48 + d) ∷ [])) ≡ Some (m * 10 + d)
unfolding read_from
read_last max acc m d [] e h g =
    let q : acc ≡ m = cc in
    rw (digit_of_law d h, lt-ltb d 10 h, q, le-leb (m * 10 + d) max g)
read_last max acc m d (b ∷ l) e h g =
    go (ltb (digit_of b) 10) (leb (acc * 10 + digit_of b) max) (read_from 10 max (acc * 10 + digit_of b) l)
    (read_from 10 max (acc * 10 + digit_of b) (l ++ ((48 + d) ∷ []))) e (λ q. read_last max (acc * 10 + digit_of b) m d l q h g)
  where
    go : (t u : Bool) (x y : Option ℕ) → pick t (pick u x None) None ≡ Some m → (x ≡ Some m → y ≡ Some (m * 10 + d))
        → pick t (pick u y None) None ≡ Some (m * 10 + d)
    go true true x y q f = f q
    go true false x y q f = let z : ◌≡◌ {A = ℕ} 0 1 = cc in absurd (omega arith)
    go false u x y q f = let z : ◌≡◌ {A = ℕ} 0 1 = cc in absurd (omega arith)

tens : ℕ → ℕ
tens zero = 1
tens (suc w) = tens w * 10

read_digits_law : (max w n : ℕ) → n < tens w → n ≤ max → read_from 10 max 0 (digits w n) ≡ Some n
unfolding read_from digits tens
read_digits_law max zero n h g = ap Some (omega arith)
read_digits_law max (suc w) n h g =
    read_last max 0 (n / 10) (n % 10) (digits w (n / 10)) (read_digits_law max w (n / 10) (omega arith) (omega arith)) (omega arith) (omega arith)
    ∙ ap Some (omega arith)

digit_count_most : (n : ℕ) → n < 100000 → n < tens (digit_count n)
unfolding digit_count tens
digit_count_most n h = four (ltb n 10) (ltb n 100) (ltb n 1000) (ltb n 10000) (ltb-true n 10) (ltb-true n 100) (ltb-true n 1000) (ltb-true n 10000)
  where
    four : (a b c d : Bool) → (a ≡ true → n < 10) → (b ≡ true → n < 100) → (c ≡ true → n < 1000) → (d ≡ true → n < 10000)
        → n < tens (pick a 1 (pick b 2 (pick c 3 (pick d 4 5))))
    four true b c d p q r s = p refl
    four false true c d p q r s = q refl
    four false false true d p q r s = r refl
    four false false false true p q r s = s refl
    four false false false false p q r s = h

-- ---- digits are digits

all_append : (f : ℕ → Bool) (xs ys : List ℕ) → list_all f xs ≡ true → list_all f ys ≡ true → list_all f (xs ++ ys) ≡ true
all_append f xs ys p q = rw (list_all-append, p, q)

is_digit : (n : ℕ) → digit (48 + n % 10) ≡ true
is_digit n = rw (le-leb 48 (48 + n % 10) (omega arith), le-leb (48 + n % 10) 57 (omega arith))

all_digits : (w n : ℕ) → list_all digit (digits w n) ≡ true
unfolding digits
all_digits zero n = refl
all_digits (suc w) n = all_append digit (digits w (n / 10)) ((48 + n % 10) ∷ []) (all_digits w (n / 10)) (rw (is_digit n))

number_digits : (max : ℕ) (l : List ℕ) → list_all digit l ≡ true → 0 < length l → read_number 10 max l ≡ read_from 10 max 0 l
unfolding read_number read_digits
number_digits max [] h g = absurd (omega arith)
number_digits max (b ∷ l) h g =
    rw (ne_eqb b 43 (λ e. absurd (omega (arith, e, leb-true 48 b (all_here (leb 48 b) (leb b 57) (all_here (digit b) (list_all digit l) h))))))

digit_count_some : (n : ℕ) → 0 < digit_count n
unfolding digit_count
digit_count_some n = four (ltb n 10) (ltb n 100) (ltb n 1000) (ltb n 10000)
  where
    four : (a b c d : Bool) → 0 < pick a 1 (pick b 2 (pick c 3 (pick d 4 5)))
    four true b c d = omega arith
    four false true c d = omega arith
    four false false true d = omega arith
    four false false false true = omega arith
    four false false false false = omega arith

-- what the decimal writer writes, the number reader reads
pub read_decimal : (max n : ℕ) → n < 100000 → n ≤ max → read_number 10 max (decimal n) ≡ Some n
unfolding decimal
read_decimal max n h g =
    number_digits max (digits (digit_count n) n) (all_digits (digit_count n) n) (omega (arith, digits_length (digit_count n) n, digit_count_some n))
    ∙ read_digits_law max (digit_count n) n (digit_count_most n h) g

-- ---- its bytes

ink_digit : (n : ℕ) → ink (48 + n % 10) ≡ true
ink_digit n = rw (le-leb 32 (48 + n % 10) (omega arith), le-leb (48 + n % 10) 126 (omega arith), ne_eqb (48 + n % 10) 46 (λ e. absurd (omega (arith, e))))

ink_digits : (w n : ℕ) → list_all ink (digits w n) ≡ true
unfolding digits
ink_digits zero n = refl
ink_digits (suc w) n = all_append ink (digits w (n / 10)) ((48 + n % 10) ∷ []) (ink_digits w (n / 10)) (rw (ink_digit n))

ink_decimal : (n : ℕ) → list_all ink (decimal n) ≡ true
unfolding decimal
ink_decimal n = ink_digits (digit_count n) n

ink_words : (n : ℕ) → list_all ink (words n) ≡ true
unfolding words table unknown
ink_words n = all_at (list_all ink) unknown refl table refl n

ended_by : (l : List ℕ) → list_all ink l ≡ true → ended (l ++ (46 ∷ [])) ≡ true
unfolding ended
ended_by [] h = refl
ended_by (b ∷ []) h = rw (all_here (ink b) true h)
ended_by (b ∷ c ∷ l) h = rw (all_here (ink b) (list_all ink (c ∷ l)) h) (ended_by (c ∷ l) (all_there (ink b) (list_all ink (c ∷ l)) h))

-- past the table's end, and its first entry
get_or_past : (ws : List (List ℕ)) (n : ℕ) (d : List ℕ) → length ws ≤ n → get_or ws n d ≡ d
get_or_past [] n d h = refl
get_or_past (w ∷ ws) zero d h = absurd (omega arith)
get_or_past (w ∷ ws) (suc n) d h = get_or_past ws n d (omega arith)

first_unknown : unknown ≡ get_or table 0 unknown
unfolding table
first_unknown = refl

-- ---- the four numbers

leading_at : (xs : List ℕ) (b : ℕ) (l : List ℕ) → list_all digit xs ≡ true → digit b ≡ false → leading (xs ++ (b ∷ l)) ≡ xs
unfolding leading
leading_at [] b l h g = rw g
leading_at (x ∷ xs) b l h g = rw (all_here (digit x) (list_all digit xs) h) (ap (λ (m : List ℕ). x ∷ m) (leading_at xs b l (all_there (digit x) (list_all digit xs) h) g))

all_decimal : (n : ℕ) → list_all digit (decimal n) ≡ true
unfolding decimal
all_decimal n = all_digits (digit_count n) n

tells_number_law : (max k n b : ℕ) (l : List ℕ) (f : ℕ → List ℕ → Option Refusal) → n < 100000 → n ≤ max → digit b ≡ false
    → tells_number max k (decimal n ++ (b ∷ l)) f ≡ f n (drop k (b ∷ l))
unfolding tells_number
tells_number_law max k n b l f h g q =
    ap (λ (d : List ℕ). option_and_then (λ j. f j (drop (length d + k) (decimal n ++ (b ∷ l)))) (read_number 10 max d)) (leading_at (decimal n) b l decimal_digits q)
    ∙ ap (option_and_then (λ j. f j (drop (length (decimal n) + k) (decimal n ++ (b ∷ l))))) (read_decimal max n h g)
    ∙ ap (f n) (drop-append-add (decimal n) (b ∷ l) k)
  where
    decimal_digits : list_all digit (decimal n) ≡ true
    decimal_digits = all_decimal n

-- the sentence, from its first number on
regroup : (a b c d e f g h i j k : List ℕ)
    → a ++ b ++ c ++ d ++ e ++ f ++ g ++ h ++ i ++ j ++ k ≡ a ++ (b ++ (c ++ (d ++ (e ++ (f ++ (g ++ (h ++ (i ++ (j ++ k)))))))))
regroup a b c d e f g h i j k = simp append_assoc

-- the sentence up to its words, then these words
abbrev told : Refusal → List ℕ → List ℕ
told r end =
    ascii "Refusal "
    ++ (decimal r.number
    ++ (ascii " at byte "
    ++ (decimal r.start
    ++ (ascii ", length " ++ (decimal r.length ++ (ascii ", detail " ++ (decimal r.detail ++ (ascii ": " ++ end))))))))

module _ (r : Refusal) (a : r.number < 256) (b : r.start < 65536) (c : r.length < 65536) (d : r.detail < 65536) where
  whole : sentence r ≡ told r (words r.number ++ ascii ".")
  unfolding sentence
  whole =
      regroup (ascii "Refusal ") (decimal r.number) (ascii " at byte ") (decimal r.start) (ascii ", length ") (decimal r.length)
      (ascii ", detail ") (decimal r.detail) (ascii ": ") (words r.number) (ascii ".")

  recovers : recovered (sentence r) ≡ Some r
  unfolding recovered
  recovers =
      ap recovered whole
      ∙ tells_number_law 255 9 r.number 32 _ _ (omega arith) (omega arith) refl
      ∙ tells_number_law 65535 9 r.start 44 _ _ (omega arith) (omega arith) refl
      ∙ tells_number_law 65535 9 r.length 44 _ _ (omega arith) (omega arith) refl
      ∙ tells_number_law 65535 2 r.detail 58 _ _ (omega arith) (omega arith) refl

  -- 8 + 3 + 9 + 5 + 9 + 5 + 9 + 5 + 2 + 40 + 1
  room : length (sentence r) ≤ 96
  room =
      let e : length (sentence r)
      ≡ 8 +
      (digit_count r.number + (9 + (digit_count r.start + (9 +
      (digit_count r.length + (9 + (digit_count r.detail + (2 + (length (words r.number) + 1)))))))))
      =
      ap length whole ∙ simp (length-append, decimal_length) (omega arith) in
      omega (
        arith,
        e,
        digit_count_small r.number (omega arith),
        digit_count_le r.start,
        digit_count_le r.length,
        digit_count_le r.detail,
        words_short r.number,
      )

  plain : ended (sentence r) ≡ true
  plain =
      ap ended (whole ∙ last_apart)
      ∙ ended_by (told r (words r.number)) inked
    where
      last_apart : told r (words r.number ++ ascii ".") ≡ told r (words r.number) ++ ascii "."
      last_apart = simp append_assoc

      inked : list_all ink (told r (words r.number)) ≡ true
      inked =
          all_append ink (decimal r.number) _ (ink_decimal r.number)
          (all_append ink (decimal r.start) _ (ink_decimal r.start)
          (all_append ink (decimal r.length) _ (ink_decimal r.length)
          (all_append ink (decimal r.detail) _ (ink_decimal r.detail) (ink_words r.number))))

  -- A1, of every refusal
  pub sentenced : Sentenced r
  sentenced = record { room = room; plain = plain; recovers = recovers }

-- ---- the words

-- two texts are the same
same : List ℕ → List ℕ → Bool
same [] [] = true
same [] (b ∷ m) = false
same (a ∷ l) [] = false
same (a ∷ l) (b ∷ m) = eqb a b && same l m

-- where a text stands first in a table
find : List ℕ → List (List ℕ) → ℕ
find w [] = 0
find w (v ∷ ws) = pick (same w v) 0 (suc (find w ws))

-- from number k on each text stands first at its own number
numbered : ℕ → List (List ℕ) → Bool
numbered k [] = true
numbered k (w ∷ ws) = eqb (find w table) k && numbered (suc k) ws

number_of : (k : ℕ) (ws : List (List ℕ)) → numbered k ws ≡ true → (i : ℕ) → i < length ws → find (get_or ws i unknown) table ≡ k + i
unfolding numbered
number_of k [] h i g = absurd (omega arith)
number_of k (w ∷ ws) h zero g = eqb-true (find w table) k (all_here (eqb (find w table) k) (numbered (suc k) ws) h) ∙ zeroed k
  where
    zeroed : (n : ℕ) → n ≡ n + 0
    zeroed n = omega arith
number_of k (w ∷ ws) h (suc i) g = number_of (suc k) ws (all_there (eqb (find w table) k) (numbered (suc k) ws) h) i (omega arith) ∙ moved k i
  where
    moved : (a b : ℕ) → suc a + b ≡ a + suc b
    moved a b = omega arith

all_numbered : numbered 0 table ≡ true
unfolding numbered find same table unknown
all_numbered = refl

different : (a b : ℕ) → a < length table → b < length table → words a ≡ words b → a ≡ b
unfolding words
different a b g h e =
    let p : find (get_or table a unknown) table ≡ 0 + a = number_of 0 table all_numbered a g in
    let q : find (get_or table b unknown) table ≡ 0 + b = number_of 0 table all_numbered b h in
    omega (arith, p, q, ap (λ (w : List ℕ). find w table) e)

others : (n : ℕ) → length table ≤ n → words n ≡ words 0
unfolding words
others n h = get_or_past table n unknown h ∙ first_unknown

pub worded : Worded
worded = record { short = words_short; different = different; others = others }
