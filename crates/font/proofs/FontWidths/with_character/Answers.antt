use Rattle.std.proofs.Common.{arith}
use Rattle.font.proofs.Texts.{with_none, with_some}
use Rattle.font.proofs.FontWidths.with_character.Goals as goal
use Rattle.font.proofs.FontWidths.with_character.Goals.{in-Some, in-None}

pub returns : goal.returns
returns g c =
    elim c.match-width_of.branch [
      | in-Some w ↦ rw w.measure-is (with_some _ _ _ _ _ w.in-Some.more w.in-Some.ensures (omega arith) (omega arith) _ w.wider.ensures)
      | in-None w ↦ rw w.measure-is (with_none _ _ _ _ _ w.in-None.ensures)
    ]
