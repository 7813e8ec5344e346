use Rattle.std.proofs.Common.{rules}
use Rattle.lines.proofs.Lists.{row_joins, row_follows}
use Rattle.lines.proofs.LineList.add.Goals as goal

pub returns-then-at-self : goal.returns-then-at-self
returns-then-at-self c =
    row_joins c.new-own.ensures c.font_only.ensures c.or-self.ensures _ c.from-at.ensures c.if-at-self.true c.requires (search rules) c.combine.ensures

pub returns-else-at-self : goal.returns-else-at-self
returns-else-at-self c =
    row_follows c.new-own.ensures c.font_only.ensures c.or-self.ensures c.from-at.ensures c.if-at-self.false (search rules) (search rules)
