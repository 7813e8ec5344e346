use Rattle.std.proofs.Common.{rules, refl, arith, ◌+◌, ◌<◌}
use Rattle.std.proofs.lemmas.List.{length-take-le}
use Rattle.lines.proofs.Feet.{sums_start, total_fits, sums_on, heights_made}
use Rattle.lines.proofs.PageLines.new.Goals as goal

pub loop-i-init : goal.loop-i-init
loop-i-init c = sums_start refl

pub overflow_add-total-in-loop-i : goal.overflow_add-total-in-loop-i
overflow_add-total-in-loop-i c =
    let k : c.loop-i.total + (c.gap.result + c.from.result) < 4294967296 =
    total_fits c.loop-i.invariant (search rules) c.gap.ensures.small (search rules) in
    omega (arith, k)

pub loop-i-preserved : goal.loop-i-preserved
loop-i-preserved c =
    sums_on c.loop-i.invariant _ _ _ c.loop-i-test.true (search rules) c.gap.ensures.is c.gap.ensures.small (search rules) (search rules)

pub returns : goal.returns
returns c =
    heights_made c.line_list-list.ensures refl (length-take-le _ _ (search rules)) c.loop-i.invariant c.loop-i.auto.i-end c.loop-i-test.false
