use Rattle.std.proofs.Common.{◌-◌, length}
use Rattle.sign.specs.Reading.{Reading}
use Rattle.sign.proofs.Records.read_fonts.Given as goal

abbrev pub invariant-loop-at : goal.invariant-loop-at
invariant-loop-at l = Reading l.self.file.now l.self.at l.used l.fonts l.count l.at

abbrev pub decreases-loop-at : goal.decreases-loop-at
decreases-loop-at l = length l.self.file.now - l.at
