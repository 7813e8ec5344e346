use Rattle.font.proofs.StandIns.{widths_own, widths_stand}
use Rattle.font.proofs.FileFont.widths.Goals as goal

pub returns-then-self : goal.returns-then-self
returns-then-self c = widths_stand c.args.self.now _ _ c.own_widths.ensures c.if-self.true c.stand_ins.ensures

pub returns-else-self : goal.returns-else-self
returns-else-self c = widths_own c.args.self.now _ c.own_widths.ensures c.if-self.false
