use Rattle.std.proofs.Common.{refl, ap, ◌∙◌}
use Rattle.refusal.specs.declared.Refusal.{Refusal}
use Rattle.layout.specs.declared.Answer.TheVariants.{Refused}
use Rattle.answer.specs.Answer.{bare}
use Rattle.answer.proofs.Laws.{call_denied, call_short, call_accepted, call_small, call_listed, placed_as}
use Rattle.answer.proofs.placed.Goals as goal

pub returns-in-Err : goal.returns-in-Err
returns-in-Err c = placed_as (call_denied c.args.file.now c.args.msg.now c.in-Err.ensures c.args.number c.args.room c.args.out.now c.unplaced.ensures)

pub returns-then-room-lt1400 : goal.returns-then-room-lt1400
returns-then-room-lt1400 c =
    placed_as
    (call_short c.args.file.now c.args.msg.now c.in-Ok.ensures c.args.number c.args.room c.args.out.now c.if-room-lt1400.true
    (c.unplaced-then-room-lt1400.ensures ∙ ap (λ (r : Refusal). bare (Refused r)) c.of.ensures))

pub invariant_of-call-clause-opened : goal.invariant_of-call-clause-opened
invariant_of-call-clause-opened c = call_accepted c.args.file.now c.args.msg.now c.in-Ok.ensures

pub invariant_of-call-clause-small : goal.invariant_of-call-clause-small
invariant_of-call-clause-small c = call_small c.args.file.now c.args.msg.now c.in-Ok.ensures

pub returns-then-msg-le-SHORT_ROOM : goal.returns-then-msg-le-SHORT_ROOM
returns-then-msg-le-SHORT_ROOM c = placed_as (call_listed c.args.file.now c.args.msg.now c.in-Ok.ensures c.args.number c.args.room c.args.out.now refl refl refl c.if-room-lt1400.false c.requires c.paged.ensures)

pub invariant_of-call-2-clause-opened : goal.invariant_of-call-2-clause-opened
invariant_of-call-2-clause-opened c = call_accepted c.args.file.now c.args.msg.now c.in-Ok.ensures

pub invariant_of-call-2-clause-small : goal.invariant_of-call-2-clause-small
invariant_of-call-2-clause-small c = call_small c.args.file.now c.args.msg.now c.in-Ok.ensures

pub returns : goal.returns
returns c = placed_as (call_listed c.args.file.now c.args.msg.now c.in-Ok.ensures c.args.number c.args.room c.args.out.now refl refl refl c.if-room-lt1400.false c.requires c.paged-2.ensures)
