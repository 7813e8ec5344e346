use Rattle.place.proofs.Groups.{Crossing}
use Rattle.place.proofs.shared.Pass.place_across.Given as goal

abbrev pub invariant-loop-i : goal.invariant-loop-i
invariant-loop-i l = Crossing l.self l.out l.i
