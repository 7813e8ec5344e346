use Rattle.meter.proofs.Laws.{part_text}
use Rattle.meter.proofs.part_width.Goals as goal

pub returns : goal.returns
returns c = part_text c.args.call.now _ _ _ _ c.requires.0 c.requires.1 c.from-start.ensures c.from.ensures c.text_width.ensures
