use native.Mathlib.Omega.{arith}
use Rattle.sums.proofs.Table.{upto_is, upto_split}
use Rattle.sums.proofs.reach.Goals as goal

pub total-requires : goal.total-requires
total-requires c = omega (arith, upto_split c.args.table.now c.args.p c.args.k c.if-p-k.true (omega arith), c.requires.small)

pub overflow_add-result : goal.overflow_add-result
overflow_add-result c =
    omega (arith, c.requires.reached, c.total.ensures, upto_split c.args.table.now c.args.p c.args.k c.if-p-k.true (omega arith), c.requires.small)

pub returns-then-p-k : goal.returns-then-p-k
returns-then-p-k c = omega (arith, c.requires.reached, c.total.ensures, upto_split c.args.table.now c.args.p c.args.k c.if-p-k.true (omega arith))

pub total-requires-2 : goal.total-requires-2
total-requires-2 c = omega (arith, upto_is c.args.table.now c.args.k (omega arith), c.requires.small)

pub returns : goal.returns
returns c = omega (arith, c.total-2.ensures, upto_is c.args.table.now c.args.k (omega arith))
