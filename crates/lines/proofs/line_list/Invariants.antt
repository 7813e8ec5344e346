use Rattle.lines.proofs.Lists.{Gathering}
use Rattle.lines.proofs.line_list.Given as goal

abbrev pub invariant-loop-row : goal.invariant-loop-row
invariant-loop-row l = Gathering l.rows l.just l.list l.row-index
