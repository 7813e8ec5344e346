use Rattle.token.specs.Token.{slices_from}
use Rattle.readings.proofs.Going.{Going}
use Rattle.readings.proofs.read_all.Given as goal

abbrev pub invariant-loop-at : goal.invariant-loop-at
invariant-loop-at l = Going l.fn.long l.fn.msg l.fn.recs l.recs l.count (slices_from l.at-iterator.at l.at-iterator.msg.now)
