use Rattle.sums.specs.Chain.{rows_from}
use Rattle.sums.proofs.Chain.{Summing}
use Rattle.sums.proofs.offset_horiz.Given as goal

abbrev pub invariant-loop-e : goal.invariant-loop-e
invariant-loop-e l = Summing l.rows l.r l.o (rows_from l.e-iterator.rows.now l.e-iterator.left)
