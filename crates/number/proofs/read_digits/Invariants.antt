use Rattle.std.proofs.Common.{◌≡◌, ◌≤◌, drop}
use Rattle.number.specs.Number.{read_from}
use Rattle.number.proofs.read_digits.Given as goal

abbrev pub invariant-loop-b : goal.invariant-loop-b
invariant-loop-b l = (l.n ≤ l.max) × (read_from l.radix l.max l.n (drop l.b-index l.s) ≡ read_from l.radix l.max 0 l.s)
