-- Document 02, A1: what holds of every sentence. "From the sentence alone all four can be recovered."
use Rattle.std.specs.Prelude.{ℕ, ◌+◌, ◌≤◌, ◌<◌, ◌≡◌, Bool, true, false, not, ◌&&◌, List, [], ◌∷◌, leb, eqb, length, drop, Option, Some, option_and_then}
use Rattle.base.specs.Pick.{pick}
use Rattle.number.specs.Number.{read_number}
use Rattle.refusal.specs.declared.Refusal.{Refusal}
use Rattle.refusal.specs.Refusals.{refusal}
use Rattle.sentence.specs.Words.{words, table}
use Rattle.sentence.specs.Sentence.{sentence}

-- ---- a sentence read back

-- a decimal digit
abbrev pub digit : ℕ → Bool
digit b = leb 48 b && leb b 57

-- the digits that a text begins with
unfoldable pub leading : List ℕ → List ℕ
leading [] = []
leading (b ∷ l) = pick (digit b) (b ∷ leading l) []

-- the number at the start of a text, of at most max; f goes on with what follows it after n bytes
unfoldable pub tells_number : ℕ → ℕ → List ℕ → (ℕ → List ℕ → Option Refusal) → Option Refusal
tells_number max n s f = option_and_then (λ k. f k (drop (length (leading s) + n) s)) (read_number 10 max (leading s))

-- the four numbers of a sentence, each after the bytes before it: "Refusal ", " at byte ", ", length ", ", detail "
unfoldable pub recovered : List ℕ → Option Refusal
recovered s =
    tells_number 255 9 (drop 8 s)
    (λ number s. tells_number 65535 9 s
    (λ start s. tells_number 65535 9 s
    (λ len s. tells_number 65535 2 s
    (λ detail s. Some (refusal number start len detail)))))

-- ---- its bytes

-- a printable ASCII byte that is no full stop
abbrev pub ink : ℕ → Bool
ink b = leb 32 b && leb b 126 && not (eqb b 46)

-- such bytes, "ended by the only full stop"
unfoldable pub ended : List ℕ → Bool
ended [] = false
ended (b ∷ []) = eqb b 46
ended (b ∷ c ∷ l) = ink b && ended (c ∷ l)

-- ---- what holds

-- of every refusal: "The number has 8 bits, the others 16"
pub record Sentenced (r : Refusal) : Type 0 where
  -- every buffer that is not refused has room
  pub room : length (sentence r) ≤ 96
  pub plain : ended (sentence r) ≡ true
  pub recovers : recovered (sentence r) ≡ Some r

-- of the words: "at most 40 ASCII bytes of words, different for each number in use and "unknown" for others", which is entry 0
pub record Worded : Type 0 where
  pub short : (n : ℕ) → length (words n) ≤ 40
  pub different : (a b : ℕ) → a < length table → b < length table → words a ≡ words b → a ≡ b
  pub others : (n : ℕ) → length table ≤ n → words n ≡ words 0
