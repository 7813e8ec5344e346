use Rattle.utf8.specs.Utf8.{codes}
use Rattle.font.specs.Character.{letters}
use Rattle.font.proofs.Texts.{Measuring}
use Rattle.font.proofs.FontWidths.short_width.Given as goal

abbrev pub invariant-loop-code : goal.invariant-loop-code
invariant-loop-code g l = Measuring (letters l.self.font) l.spacing (codes l.text) l.w l.n (codes l.code-iterator.0.now)
