use Rattle.std.proofs.Common.{◌-◌, length}
use Rattle.sign.specs.Reading.{Running}
use Rattle.sign.proofs.Records.read_run.Given as goal

abbrev pub invariant-loop-code : goal.invariant-loop-code
invariant-loop-code l = Running l.self.file.now l.self.at l.height (length l.initial.table) l.table l.n l.at

abbrev pub decreases-loop-code : goal.decreases-loop-code
decreases-loop-code l = length l.self.file.now - l.at
