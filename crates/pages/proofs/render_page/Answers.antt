use Rattle.std.proofs.lemmas.Result.{err_from_is_err_and}
use Rattle.pages.proofs.Laws.{page_start, page_asks, page_refuse, page_cut, page_turn, page_end, page_last}
use Rattle.pages.proofs.render_page.Goals as goal

pub loop-init : goal.loop-init
loop-init c = page_start c.requires c.start-p.ensures

pub render_pass-requires : goal.render_pass-requires
render_pass-requires c = page_asks c.loop.invariant

pub returns-in_err-d : goal.returns-in_err-d
returns-in_err-d c =
    let p = err_from_is_err_and c.from_residual.result c.from_residual.ensures.1 in
    rw (p.1, p.2) (page_refuse c.loop.invariant c.render_pass.ensures c.in_err-d.was)

pub returns-in-Turn : goal.returns-in-Turn
returns-in-Turn c = page_turn c.loop.invariant c.render_pass.ensures c.in_ok-d.was c.in-Turn.is c.loop-test.true c.end_page.ensures

pub returns-in-End : goal.returns-in-End
returns-in-End c = page_end c.loop.invariant c.render_pass.ensures c.in_ok-d.was c.in-End.is c.loop-test.true c.end_page-in-End.ensures

pub loop-preserved : goal.loop-preserved
loop-preserved c = page_cut c.loop.invariant c.render_pass.ensures c.in_ok-d.was c.in-Cut.is c.loop-test.true

pub render_pass-requires-2 : goal.render_pass-requires-2
render_pass-requires-2 c = page_asks c.loop.invariant

pub returns-in_err-render_pass : goal.returns-in_err-render_pass
returns-in_err-render_pass c =
    let p = err_from_is_err_and c.from_residual-in_err-render_pass.result c.from_residual-in_err-render_pass.ensures.1 in
    rw (p.1, p.2) (page_refuse c.loop.invariant c.render_pass-2.ensures c.in_err-render_pass.was)

pub returns : goal.returns
returns c = page_last c.loop.invariant c.render_pass-2.ensures c.loop-test.false c.in_ok-render_pass.was c.too_many.ensures
