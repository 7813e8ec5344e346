use Rattle.sums.proofs.Table.{gather_done}
use Rattle.sums.proofs.gather.Goals as goal

pub returns : goal.returns
returns c = gather_done c.loop-e.invariant c.in-None.ensures.steps.0
