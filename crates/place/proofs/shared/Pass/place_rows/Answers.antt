use Rattle.std.proofs.lemmas.Result.{err_from_is_err_and}
use Rattle.place.proofs.Laws.{rows_refused, rows_done}
use Rattle.place.proofs.shared.Pass.place_rows.Goals as goal

pub returns-in_err-place_down : goal.returns-in_err-place_down
returns-in_err-place_down c =
    let p = err_from_is_err_and c.from_residual.result c.from_residual.ensures.1 in
    rw (p.1, p.2) (rows_refused c.place_across-across.ensures c.in_err-place_down.ensures)

pub returns : goal.returns
returns c = rows_done c.place_across-across.ensures c.in_ok-place_down.ensures
