use Rattle.font.proofs.Texts.{width_start, width_end, width_missing, width_on}
use Rattle.font.proofs.FontWidths.short_width.Goals as goal

pub loop-code-init : goal.loop-code-init
loop-code-init g c = rw c.into_iter-code-iterator.ensures.into_iter_gives (width_start _ _ _ c.requires)

pub returns-in_default : goal.returns-in_default
returns-in_default g c =
    width_missing _ _ _ _ _ _ _ (rw c.in-Some.ensures.steps at c.loop-code.invariant) _ c.with_character-r.ensures _ c.in_default.is

pub loop-code-preserved : goal.loop-code-preserved
loop-code-preserved g c =
    width_on _ _ _ _ _ _ _ (rw c.in-Some.ensures.steps at c.loop-code.invariant) _ c.with_character-r.ensures _ c.in-Ok.is

pub returns : goal.returns
returns g c = width_end _ _ _ _ _ (rw c.in-None.ensures.steps.0 at c.loop-code.invariant)
