use Rattle.place.proofs.Laws.{Checking}
use Rattle.place.proofs.check_justification.Given as goal

abbrev pub invariant-loop-e : goal.invariant-loop-e
invariant-loop-e l = Checking l.rows l.before l.e-index
