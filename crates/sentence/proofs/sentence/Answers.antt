use Rattle.std.proofs.Common.{arith, rules}
use Rattle.sentence.proofs.Laws.{sentence_told}
use Rattle.sentence.proofs.sentence.Goals as goal

pub returns : goal.returns
returns c =
    sentence_told c.args.r c.args.buffer.now (omega arith) (omega arith) (search rules) c.words.ensures.0
    c.put.ensures.put c.put_decimal.ensures.put
    c.put-2.ensures.put c.put_decimal-2.ensures.put
    c.put-3.ensures.put c.put_decimal-3.ensures.put
    c.put-4.ensures.put c.put_decimal-4.ensures.put
    c.put-5.ensures.put c.put-6.ensures.put c.put-7.ensures.put (search rules)
