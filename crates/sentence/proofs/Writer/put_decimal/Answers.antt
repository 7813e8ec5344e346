use Rattle.std.proofs.Common.{rules}
use Rattle.sentence.proofs.Laws.{count_on, count_end}
use Rattle.sentence.proofs.Writer.put_decimal.Goals as goal

pub loop-k-preserved : goal.loop-k-preserved
loop-k-preserved c = search (count_on, rules)

pub returns-clause-put : goal.returns-clause-put
returns-clause-put c = search (count_end, rules)
