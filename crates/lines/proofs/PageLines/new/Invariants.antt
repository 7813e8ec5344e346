use Rattle.lines.specs.Lines.{line_above}
use Rattle.lines.proofs.Feet.{Summing}
use Rattle.lines.proofs.PageLines.new.Given as goal

abbrev pub invariant-loop-i : goal.invariant-loop-i
invariant-loop-i l = Summing l.char_height l.line-items l.feet l.total (line_above l.above) l.i
