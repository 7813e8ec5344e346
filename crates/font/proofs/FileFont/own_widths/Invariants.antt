use Rattle.font.specs.Character.{own_letters, left_of}
use Rattle.font.proofs.Filled.{Filling}
use Rattle.font.proofs.FileFont.own_widths.Given as goal

abbrev pub invariant-loop-number : goal.invariant-loop-number
invariant-loop-number l = Filling (own_letters l.self) (left_of l.number-iterator) l.table
