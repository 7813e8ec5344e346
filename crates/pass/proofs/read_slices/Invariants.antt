use mathlib.Core.Path.{◌≡◌}
use Rattle.token.specs.Token.{slices_from}
use Rattle.pass.specs.declared.How.TheVariants.{End}
use Rattle.pass.proofs.Laws.{Stands}
use Rattle.pass.proofs.read_slices.Given as goal

abbrev pub invariant-loop-at : goal.invariant-loop-at
invariant-loop-at l =
    (goal.iterator-loop-at).can_next l.at-iterator × (goal.iterator-loop-at).is_finite l.at-iterator
    × Stands l.call l.from l.start l.initial.rows l.rows (slices_from l.at-iterator.at l.at-iterator.msg.now) l.p l.blank l.held l.numbers × (l.how ≡ End)
