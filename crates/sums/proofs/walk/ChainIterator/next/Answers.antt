use native.Mathlib.Omega.{arith}
use Rattle.sums.proofs.Chain.{next_in}
use Rattle.sums.proofs.walk.ChainIterator.next.Goals as goal

pub invariant_of-self : goal.invariant_of-self
invariant_of-self c =
    let s = c.args.self.now in
    record { linked = s.linked; within = next_in s.linked s.within (omega arith) c.next_of-self.ensures }
