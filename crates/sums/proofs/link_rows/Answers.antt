use native.Mathlib.Omega.{arith}
use Rattle.sums.proofs.Chain.{link_start, link_on}
use Rattle.sums.proofs.link_rows.Goals as goal

pub loop-j-init : goal.loop-j-init
loop-j-init c = link_start c.requires (omega arith)

pub loop-j-preserved : goal.loop-j-preserved
loop-j-preserved c =
    link_on c.loop-j.invariant (omega arith) (omega arith) c.from-line.ensures (omega arith) c.put_link.ensures c.put_mark.ensures (omega arith)
