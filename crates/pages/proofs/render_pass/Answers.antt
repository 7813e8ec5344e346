use Rattle.std.proofs.lemmas.Result.{err_from_is_err_and}
use Rattle.pages.proofs.Placing.{render_asks, render_stop, render_done}
use Rattle.pages.proofs.render_pass.Goals as goal

pub place_pass-requires : goal.place_pass-requires
place_pass-requires c = render_asks c.requires c.read_pass.ensures c.in_ok-d.was

pub returns-in_err-place_pass : goal.returns-in_err-place_pass
returns-in_err-place_pass c =
    let p = err_from_is_err_and c.from_residual-in_err-place_pass.result c.from_residual-in_err-place_pass.ensures.1 in
    rw (p.1, p.2) (render_stop c.requires c.read_pass.ensures c.in_ok-d.was c.place_pass.ensures c.in_err-place_pass.was c.place_pass.auto.out)

pub returns : goal.returns
returns c = render_done c.requires c.read_pass.ensures c.in_ok-d.was c.place_pass.ensures c.in_ok-place_pass.was c.place_pass.auto.out
