use Rattle.std.proofs.Common.{ap, length, rules}
use Rattle.font.proofs.Laws.{left_short, left_other, left_more}
use Rattle.font.proofs.CharactersIterator.next.Goals as goal

pub returns-in_err-kind-clause-steps : goal.returns-in_err-kind-clause-steps
returns-in_err-kind-clause-steps c =
    let e = left_short c.args.self.now c.in_err-kind.ensures.value in
    rw c.from_residual.ensures (e, e)

pub returns-then-kind-ne3-clause-steps : goal.returns-then-kind-ne3-clause-steps
returns-then-kind-ne3-clause-steps c =
    let e = left_other c.args.self.now _ c.in_ok-kind.ensures.value c.if-kind-ne3.true in
    (e, e)

pub returns-clause-steps : goal.returns-clause-steps
returns-clause-steps c =
    left_more c.args.self.now _ c.in_ok-kind.ensures.value c.if-kind-ne3.false c.if-self-eq0.false _ _ c.le16.ensures c.byte_at.ensures

pub returns-clause-goes : goal.returns-clause-goes
returns-clause-goes c =
    let e = left_more c.args.self.now _ c.in_ok-kind.ensures.value c.if-kind-ne3.false c.if-self-eq0.false _ _ c.le16.ensures c.byte_at.ensures in
    let l = ap length e in
    search (rules, l)
