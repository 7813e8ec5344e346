use Rattle.std.proofs.Common.{◌≡◌, length}
use Rattle.replay.specs.Text.{digits_in, pairs_of}
use Rattle.replay.proofs.Laws.{joined}
use Rattle.replay.proofs.bytes.Given as goal

abbrev pub invariant-loop-rest : goal.invariant-loop-rest
invariant-loop-rest g l = joined l.out.items (pairs_of l.rest) ≡ pairs_of (digits_in l.word)

abbrev pub decreases-loop-rest : goal.decreases-loop-rest
decreases-loop-rest g l = length l.rest
