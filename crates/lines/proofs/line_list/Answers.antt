use Rattle.std.proofs.Common.{refl}
use Rattle.lines.proofs.Lists.{gather_start, gather_skip, gather_on, gather_end}
use Rattle.lines.proofs.line_list.Goals as goal
use Rattle.lines.proofs.line_list.Goals.{then-row-just, else-row-just}

pub loop-row-init : goal.loop-row-init
loop-row-init c = gather_start refl refl

pub loop-row-preserved : goal.loop-row-preserved
loop-row-preserved c =
    elim c.if-row-just.branch [
      | then-row-just w ↦ rw w.list-is (gather_on c.loop-row.invariant _ c.loop-row-test.true w.if-row-just.true w.add.ensures)
      | else-row-just w ↦ rw w.list-is (gather_skip c.loop-row.invariant _ c.loop-row-test.true w.if-row-just.false)
    ]

pub returns : goal.returns
returns c = gather_end c.loop-row.invariant c.loop-row-test.false
