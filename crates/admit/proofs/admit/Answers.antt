use Rattle.std.proofs.Common.{◌∙◌, sym, arith}
use Rattle.admit.proofs.Starts.{start_small}
use Rattle.admit.proofs.Laws.{bad_sign, too_long, ill_formed, let_in}
use Rattle.admit.proofs.admit.Goals as goal

pub overflow_cast-refusal : goal.overflow_cast-refusal
overflow_cast-refusal c = omega (arith, start_small c.args.file.now c.in-Err.refused.at (sym c.in-Err.is ∙ c.read_sign-sign.ensures))

pub returns-in-Err : goal.returns-in-Err
returns-in-Err c = rw c.of.ensures (bad_sign c.args.file.now c.args.msg.now c.in-Err.refused.at (sym c.in-Err.is ∙ c.read_sign-sign.ensures))

pub returns-then-msg-gt2048 : goal.returns-then-msg-gt2048
returns-then-msg-gt2048 c =
    rw c.of-refusal.ensures (too_long _ _ _ (sym c.in-Ok.is ∙ c.read_sign-sign.ensures) c.if-msg-gt2048.true)

pub returns-then-not-well_formed : goal.returns-then-not-well_formed
returns-then-not-well_formed c =
    rw c.of-refusal-then-not-well_formed.ensures
    (ill_formed _ _ _ (sym c.in-Ok.is ∙ c.read_sign-sign.ensures) c.if-msg-gt2048.false c.if-not-well_formed.ensures)

pub returns : goal.returns
returns c = let_in _ _ _ (sym c.in-Ok.is ∙ c.read_sign-sign.ensures) c.if-msg-gt2048.false c.if-not-well_formed.ensures
