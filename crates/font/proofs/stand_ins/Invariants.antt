use Rattle.font.proofs.StandIns.{Standing}
use Rattle.font.proofs.stand_ins.Given as goal

abbrev pub invariant-loop-code : goal.invariant-loop-code
invariant-loop-code l = Standing l.initial.table l.table l.code
