-- Refusals by their four numbers.
use Rattle.std.specs.Prelude.{ℕ}
use Rattle.refusal.specs.declared.Refusal.{Refusal}

-- "A refusal holds number, start, length and detail"
abbrev pub refusal : ℕ → ℕ → ℕ → ℕ → Refusal
refusal n start len detail = record { number = n; start = start; length = len; detail = detail }
