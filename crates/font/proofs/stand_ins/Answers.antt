use Rattle.std.proofs.Common.{arith, le_refl}
use Rattle.std.specs.Prelude.{None}
use Rattle.font.proofs.StandIns.{standing_on, standing_end, flattened}
use Rattle.font.proofs.stand_ins.Goals as goal

pub loop-code-preserved : goal.loop-code-preserved
loop-code-preserved c =
    standing_on _ _ _ _ _ c.loop-code.invariant c.loop-code.auto.code c.loop-code-test.true
    (flattened c.flatten-capital.ensures c.copied.ensures (c.get.ensures.lookup.4 (le_refl _) None)) c.fill.ensures

pub returns : goal.returns
returns c = standing_end _ _ c.loop-code.code c.loop-code.invariant (omega arith)
