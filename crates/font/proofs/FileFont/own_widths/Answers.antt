use Rattle.font.proofs.Filled.{filling_start, filling_more}
use Rattle.font.proofs.FileFont.own_widths.Goals as goal

pub loop-number-init : goal.loop-number-init
loop-number-init c = rw (c.fill.ensures, c.into_iter-number-iterator.ensures.into_iter_gives, c.characters-number-items.ensures) (filling_start _ _ c.requires)

pub loop-number-preserved : goal.loop-number-preserved
loop-number-preserved c =
    filling_more _ (c.in-Some.number, c.in-Some.found) _ c.loop-number.table _ _ (rw c.in-Some.ensures.steps at c.loop-number.invariant)
    c.from.ensures c.fill-in-loop-number.ensures
