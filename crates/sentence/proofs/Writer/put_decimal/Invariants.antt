use Rattle.std.proofs.Common.{◌≡◌}
use Rattle.sentence.proofs.Laws.{Counting}
use Rattle.sentence.proofs.Writer.put_decimal.Given as goal

abbrev pub invariant-loop-k : goal.invariant-loop-k
invariant-loop-k l =
    (l.self.len ≡ l.initial.self.len) × (l.self.buffer.ghost_name ≡ l.initial.self.buffer.ghost_name)
    × Counting l.initial.self.len l.n l.initial.self.buffer.now l.self.buffer.now l.end l.m l.k
