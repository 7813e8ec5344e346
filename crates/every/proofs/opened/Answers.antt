use Rattle.every.proofs.Laws.{call_denied, call_short, call_opened}
use Rattle.every.proofs.opened.Goals as goal

pub returns-in-Err : goal.returns-in-Err
returns-in-Err c = call_denied c.args.file.now c.args.msg.now c.args.answers c.args.records c.in-Err.ensures

pub returns-then-answers-lt-ANSWERS : goal.returns-then-answers-lt-ANSWERS
returns-then-answers-lt-ANSWERS c =
    rw c.of.ensures (call_short c.args.file.now c.args.msg.now c.args.answers c.args.records c.in-Ok.ensures c.then-answers-lt-ANSWERS.either)

pub returns : goal.returns
returns c =
    call_opened c.args.file.now c.args.msg.now c.args.answers c.args.records c.in-Ok.ensures c.if-answers-lt-ANSWERS.false
    c.if-records-lt-ROOM.false
