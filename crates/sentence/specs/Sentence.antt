-- Document 02, A1: the refusal as an English sentence in a lent buffer.
use Rattle.std.specs.Prelude.{ℕ, zero, suc, ◌+◌, ◌/◌, ◌%◌, List, [], ◌∷◌, ◌++◌, ltb, length, drop, Result, Ok, Err}
use Rattle.base.specs.Pick.{pick}
use Rattle.base.specs.Text.{ascii}
use Rattle.refusal.specs.declared.Refusal.{Refusal}
use Rattle.refusal.specs.Refusals.{refusal}
use Rattle.sentence.specs.Words.{words}

-- the last w decimal digits of n
unfoldable pub digits : ℕ → ℕ → List ℕ
digits zero n = []
digits (suc w) n = digits w (n / 10) ++ ((48 + n % 10) ∷ [])

-- how many digits a number of 16 bits has
unfoldable pub digit_count : ℕ → ℕ
digit_count n = pick (ltb n 10) 1 (pick (ltb n 100) 2 (pick (ltb n 1000) 3 (pick (ltb n 10000) 4 5)))

-- "decimals without leading zeros"
unfoldable pub decimal : ℕ → List ℕ
decimal n = digits (digit_count n) n

-- ""Refusal 13 at byte 8, length 2, detail 0: ", .. then at most 40 ASCII bytes of words .., ended by the only full stop"
unfoldable pub sentence : Refusal → List ℕ
sentence r =
    ascii "Refusal " ++ decimal r.number
    ++ ascii " at byte " ++ decimal r.start
    ++ ascii ", length " ++ decimal r.length
    ++ ascii ", detail " ++ decimal r.detail
    ++ ascii ": " ++ words r.number
    ++ ascii "."

-- "16, the buffer has fewer than 96 bytes, checked before anything is written"; "The answer is the sentence's length"
unfoldable pub telling : Refusal → List ℕ → Result ℕ Refusal
telling r lent = pick (ltb (length lent) 96) (Err (refusal 16 0 0 0)) (Ok (length (sentence r)))

-- the buffer after the call: "Bytes past the sentence stay"
unfoldable pub buffer_after : Refusal → List ℕ → List ℕ
buffer_after r lent = pick (ltb (length lent) 96) lent (sentence r ++ drop (length (sentence r)) lent)
