use Rattle.std.proofs.lemmas.Result.{err_from_is_err_and}
use Rattle.pages.proofs.Answers.{on_stop, fault_none, on_refuse, on_page}
use Rattle.pages.proofs.Pages.render_on_page.Goals as goal

pub returns-in-Some : goal.returns-in-Some
returns-in-Some c = on_stop c.requires c.scan-s.ensures c.in-Some.is

pub returns-in_err-d : goal.returns-in_err-d
returns-in_err-d c =
    let p = err_from_is_err_and c.from_residual.result c.from_residual.ensures.1 in
    rw (p.1, p.2)
    (on_refuse c.requires c.scan-s.ensures (fault_none _ c.in_default.not-Some) c.render_page.ensures c.in_err-d.was)

pub returns : goal.returns
returns c =
    on_page c.requires c.scan-s.ensures (fault_none _ c.in_default.not-Some) c.render_page.ensures c.in_ok-d.was
    c.state_after.ensures
