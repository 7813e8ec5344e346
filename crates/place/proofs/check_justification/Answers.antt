use mathlib.Core.Path.{◌∙◌, ap}
use Rattle.std.specs.Prelude.{Some}
use Rattle.place.proofs.Laws.{check_stop, check_on}
use Rattle.place.proofs.check_justification.Goals as goal

pub returns-then-goes_back : goal.returns-then-goes_back
returns-then-goes_back c = ap Some c.refused.ensures ∙ check_stop c.loop-e.invariant c.loop-e-test.true c.goes_back.ensures c.if-goes_back.true

pub loop-e-preserved : goal.loop-e-preserved
loop-e-preserved c = check_on c.loop-e.invariant c.loop-e-test.true c.goes_back.ensures c.if-goes_back.false
