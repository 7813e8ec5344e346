use Rattle.pages.proofs.Laws.{Stands}
use Rattle.pages.proofs.render_page.Given as goal

abbrev pub invariant-loop : goal.invariant-loop
invariant-loop l = Stands l.call l.from l.fn.start l.initial.rows l.initial.out l.rows l.out l.p l.counter
