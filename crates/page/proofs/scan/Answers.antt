use Rattle.page.proofs.Laws.{going_stop}
use Rattle.page.proofs.scan.Goals as goal

pub returns-in-Break : goal.returns-in-Break
returns-in-Break c = going_stop c.args.c _ c.loop-at.times _ c.in-Some.s _ _ _ _ c.in-Break.is c.look_at.ensures c.in-Some.ensures.steps c.loop-at.invariant
