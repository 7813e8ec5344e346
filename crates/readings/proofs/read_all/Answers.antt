use Rattle.std.proofs.Common.{sym}
use Rattle.readings.proofs.Going.{going_starts, going_on, going_done}
use Rattle.readings.proofs.read_all.Goals as goal

pub loop-at-init : goal.loop-at-init
loop-at-init c = going_starts _ _ _ (sym c.in_ok-check.ensures) _ (rw c.into_iter-at-iterator.ensures.into_iter_gives c.new-at-items.ensures)

pub loop-at-preserved : goal.loop-at-preserved
loop-at-preserved c = rw c.slice_read.ensures (going_on _ _ _ _ _ _ _ (rw c.in-Some.ensures.steps at c.loop-at.invariant))

pub returns : goal.returns
returns c = going_done _ _ _ _ _ (rw c.in-None.ensures.steps.0 at c.loop-at.invariant) (sym c.in_ok-check.ensures)
