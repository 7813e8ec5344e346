use Rattle.every.proofs.Laws.{gathered_small, settles}
use Rattle.every.proofs.counted.Goals as goal

pub counts-requires : goal.counts-requires
counts-requires c = gathered_small c.args.file.now c.args.msg.now c.args.answers c.args.records c.gather.ensures

pub returns : goal.returns
returns c = settles c.args.file.now c.args.msg.now c.args.answers c.args.records c.gather.ensures c.counts.ensures
