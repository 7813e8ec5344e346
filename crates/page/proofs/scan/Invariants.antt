use Rattle.layout.specs.Read.{scan}
use Rattle.token.specs.Token.{slices_from}
use Rattle.page.specs.Scan.{items_from}
use Rattle.page.proofs.Laws.{Going}
use Rattle.page.proofs.scan.Given as goal

abbrev pub invariant-loop-at : goal.invariant-loop-at
invariant-loop-at l =
    Going l.c (scan l.c l.fn.times.on l.fn.times.off (items_from l.c l.from l.msg)) l.times (slices_from l.at-iterator.at l.at-iterator.msg.now)
