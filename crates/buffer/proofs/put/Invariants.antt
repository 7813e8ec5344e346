use Rattle.buffer.proofs.Laws.{Writing}
use Rattle.buffer.proofs.put.Given as goal

abbrev pub invariant-loop-i : goal.invariant-loop-i
invariant-loop-i l = Writing l.at l.text l.initial.buffer l.buffer l.i
