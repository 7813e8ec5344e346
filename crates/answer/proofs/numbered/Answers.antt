use Rattle.answer.proofs.Laws.{numbered_start, numbered_asked}
use Rattle.answer.proofs.numbered.Goals as goal

pub loop-i-init : goal.loop-i-init
loop-i-init c = search numbered_start

pub returns : goal.returns
returns c = search numbered_asked
