use Rattle.sums.specs.Chain.{rows_from}
use Rattle.sums.proofs.Table.{Gathering}
use Rattle.sums.proofs.gather.Given as goal

abbrev pub invariant-loop-e : goal.invariant-loop-e
invariant-loop-e l = Gathering l.rows l.r l.table l.o (rows_from l.e-iterator.rows.now l.e-iterator.left)
