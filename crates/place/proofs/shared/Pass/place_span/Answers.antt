use native.Mathlib.Omega.{arith}
use mathlib.Core.Path.{◌∙◌, ap}
use Rattle.std.specs.Prelude.{Ok, Err}
use Rattle.place.proofs.Laws.{font_faulty, too_high, too_low, placed}
use Rattle.place.proofs.shared.Pass.place_span.Goals as goal

pub returns-in-Some : goal.returns-in-Some
returns-in-Some c = λ o k.
    ap Err c.refused.ensures
    ∙ font_faulty _ _ _ o _ k c.in-Some.is

pub returns-then-from-v : goal.returns-then-from-v
returns-then-from-v c = λ o k.
    ap Err c.refused-then-from-v.ensures
    ∙ too_high _ _ _ o _ k c.in_default.is (omega arith)

pub returns-then-foot-r : goal.returns-then-foot-r
returns-then-foot-r c = λ o k.
    ap Err c.refused-then-foot-r.ensures
    ∙ too_low _ _ _ o _ k c.in_default.is (omega arith) c.stand-foot.ensures.0 c.if-foot-r.true

pub returns : goal.returns
returns c = λ o k.
    ap Ok c.record_of.ensures
    ∙ placed _ _ _ o _ k c.in_default.is (omega arith) c.stand-foot.ensures.0 c.if-foot-r.false
