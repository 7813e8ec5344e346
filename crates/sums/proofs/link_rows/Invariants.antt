use Rattle.std.proofs.Common.{◌-◌, length}
use Rattle.sums.proofs.Chain.{Linking}
use Rattle.sums.proofs.link_rows.Given as goal

abbrev pub invariant-loop-j : goal.invariant-loop-j
invariant-loop-j l = Linking l.rows l.out l.heads (length l.rows - l.j)
