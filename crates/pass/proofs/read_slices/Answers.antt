use Rattle.pass.proofs.Laws.{pass_start, pass_renumbers, pass_asks, pass_past, pass_refuse, pass_end, pass_cut, pass_turn, pass_go, pass_takes, pass_few, pass_stores, pass_adds, pass_emit}
use native.Mathlib.Omega.{arith}
use mathlib.Core.Path.{refl}
use Rattle.std.proofs.lemmas.Result.{err_from_is_err_and}
use Rattle.pass.proofs.read_slices.Goals as goal
use Rattle.pass.proofs.read_slices.Goals.{in-None, in-Some+in_ok-step+in-Cut, in-Some+in_ok-step+in-Turn}

pub loop-at-init : goal.loop-at-init
loop-at-init c = (tt, tt, pass_start c.requires.asked c.start-p.ensures refl c.requires.none_yet cc, refl)

pub renumber-requires : goal.renumber-requires
renumber-requires c = pass_renumbers c.loop-at.invariant.2

pub step_at-requires : goal.step_at-requires
step_at-requires c = pass_asks c.loop-at.invariant.2 c.in-Some.ensures.steps

pub returns-in_err-step : goal.returns-in_err-step
returns-in_err-step c =
    let p = err_from_is_err_and c.from_residual.result c.from_residual.ensures.1 in
    rw (p.1, p.2) (pass_refuse c.loop-at.invariant.2 c.in-Some.ensures.steps c.renumber.ensures c.step_at.ensures c.in_err-step.was)

pub overflow_add-p : goal.overflow_add-p
overflow_add-p c = pass_past c.loop-at.invariant.2 c.in-Some.ensures.steps

pub loop-at-preserved-in-Go : goal.loop-at-preserved-in-Go
loop-at-preserved-in-Go c =
    (tt, tt, pass_go c.loop-at.invariant.2 c.in-Some.ensures.steps c.renumber.ensures c.step_at.ensures c.in_ok-step.was c.in-Go.is, c.loop-at.invariant.3)

pub take_number-requires-clause-slotted : goal.take_number-requires-clause-slotted
take_number-requires-clause-slotted c =
    pass_takes c.loop-at.invariant.2 c.in-Some.ensures.steps c.renumber.ensures c.step_at.ensures c.in_ok-step.was c.in-Emit.is

pub take_number-requires-clause-few : goal.take_number-requires-clause-few
take_number-requires-clause-few c =
    pass_few c.loop-at.invariant.2 c.in-Some.ensures.steps c.renumber.ensures c.step_at.ensures c.in_ok-step.was c.in-Emit.is

pub store-requires : goal.store-requires
store-requires c = pass_stores c.loop-at.invariant.2 c.in-Some.ensures.steps c.renumber.ensures c.step_at.ensures c.in_ok-step.was c.in-Emit.is

pub overflow_add-p-in-Emit : goal.overflow_add-p-in-Emit
overflow_add-p-in-Emit c =
    pass_adds c.loop-at.invariant.2 c.in-Some.ensures.steps c.renumber.ensures c.step_at.ensures c.in_ok-step.was c.in-Emit.is c.store.ensures

pub loop-at-preserved : goal.loop-at-preserved
loop-at-preserved c = (
  tt,
  tt,
  pass_emit c.loop-at.invariant.2 c.in-Some.ensures.steps c.renumber.ensures c.step_at.ensures c.in_ok-step.was c.in-Emit.is (omega arith)
      c.take_number.ensures c.store.ensures,
  c.loop-at.invariant.3,
)

pub returns : goal.returns
returns c =
    elim c.match-next.branch [
      | in-None w ↦ rw (w.p-is, w.how-is, c.loop-at.invariant.3) (pass_end c.loop-at.invariant.2 w.in-None.ensures.steps.0)
      | in-Some+in_ok-step+in-Cut w ↦
          rw (w.p-is, w.how-is)
          (pass_cut c.loop-at.invariant.2 w.in-Some.ensures.steps w.renumber.ensures w.step_at.ensures w.in_ok-step.was w.in-Cut.is)
      | in-Some+in_ok-step+in-Turn w ↦
          rw (w.p-is, w.how-is)
          (pass_turn c.loop-at.invariant.2 w.in-Some.ensures.steps w.renumber.ensures w.step_at.ensures w.in_ok-step.was w.in-Turn.is)
    ]
