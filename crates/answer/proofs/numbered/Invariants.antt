use Rattle.answer.proofs.Laws.{Stands}
use Rattle.answer.proofs.numbered.Given as goal

abbrev pub invariant-loop-i : goal.invariant-loop-i
invariant-loop-i l = Stands l.call l.number l.initial.rows l.initial.out l.rows l.out l.pages l.i
