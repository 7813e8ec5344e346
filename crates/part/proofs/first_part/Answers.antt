use Rattle.std.proofs.Common.{sym, length-take-le}
use Rattle.part.proofs.Laws.{found_le}
use Rattle.part.proofs.first_part.Goals as goal

pub slice_bounds-result-end : goal.slice_bounds-result-end
slice_bounds-result-end c = sym (length-take-le _ _ (found_le _ _ _ c.find.ensures))
