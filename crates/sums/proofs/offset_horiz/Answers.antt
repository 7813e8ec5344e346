use Rattle.sums.proofs.Laws.{none_is}
use Rattle.sums.proofs.Chain.{sums_start}
use Rattle.sums.proofs.offset_horiz.Goals as goal

pub loop-e-init : goal.loop-e-init
loop-e-init c =
    rw (c.into_iter-e-iterator.ensures.into_iter_gives, c.new-e-items.ensures) (sums_start c.requires.asked.few (none_is c.default-o.ensures))
