use Rattle.place.proofs.Groups.{Marking}
use Rattle.place.proofs.shared.Pass.mark_group.Given as goal

abbrev pub invariant-loop-k : goal.invariant-loop-k
invariant-loop-k l = Marking l.self l.initial.out l.r l.total l.table l.out l.p l.sum l.k

abbrev pub decreases-loop-k : goal.decreases-loop-k
decreases-loop-k l = l.k
