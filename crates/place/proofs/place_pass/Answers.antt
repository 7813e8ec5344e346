use mathlib.Core.Path.{sym, ◌∙◌}
use borrow.Author.Tests.{eqb-true}
use Rattle.std.proofs.lemmas.Result.{err_from_is_err_and}
use native.Mathlib.Omega.{arith}
use Rattle.place.proofs.Laws.{pass_empty, pass_back, rows_ready, pass_on}
use Rattle.place.proofs.place_pass.Goals as goal

pub returns-then-is_empty : goal.returns-then-is_empty
returns-then-is_empty c = pass_empty (eqb-true _ _ (sym c.if-is_empty.ensures))

pub returns-in_err-check_justification : goal.returns-in_err-check_justification
returns-in_err-check_justification c =
    let p = err_from_is_err_and c.from_residual.result c.from_residual.ensures.1 in
    rw (p.1, p.2) (pass_back c.in_err-check_justification.ensures)

pub place_rows-requires : goal.place_rows-requires
place_rows-requires c = rows_ready c.link_rows-heads.ensures

pub returns : goal.returns
returns c = pass_on c.in_ok-check_justification.ensures c.place_rows.ensures (omega arith) c.requires.room (c.place_rows.auto.out ∙ c.link_rows-heads.auto.out)
