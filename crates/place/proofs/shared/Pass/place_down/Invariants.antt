use Rattle.place.proofs.Laws.{Placing}
use Rattle.place.proofs.shared.Pass.place_down.Given as goal

abbrev pub invariant-loop-i : goal.invariant-loop-i
invariant-loop-i l = Placing l.self l.m l.out l.page l.i
