use Rattle.std.proofs.Common.{◌≡◌, ◌-◌, length}
use Rattle.replay.proofs.input.Lines.line_end.Given as goal

abbrev pub invariant-loop-n : goal.invariant-loop-n
invariant-loop-n g l = length l.self.buf.now ≡ length l.initial.self.buf.now

abbrev pub decreases-loop-n : goal.decreases-loop-n
decreases-loop-n g l = length l.self.buf.now - (l.self.place.end - l.self.place.start)
