use Prim.Native.Nat.{◌<◌}
use Rattle.std.proofs.lemmas.List.{get_or-take}
use Rattle.std.proofs.lemmas.Result.{err_from_is_err_and}
use Rattle.lines.proofs.Feet.{foot_fits}
use Rattle.place.proofs.Laws.{below_m, span_asks, placing_stop, placing_on}
use Rattle.place.proofs.shared.Pass.place_down.Goals as goal

pub offset_vert-v-requires : goal.offset_vert-v-requires
offset_vert-v-requires c = foot_fits c.lines_for.ensures _

pub place_span-requires : goal.place_span-requires
place_span-requires c =
    let k : c.loop-i.i < c.args.m = below_m _ _ c.requires.few c.loop-i-test.true in
    span_asks c.loop-i.invariant k (get_or-take _ _ _ _ k) c.lines_for.ensures c.offset_vert-v.ensures

pub returns-in_err-out : goal.returns-in_err-out
returns-in_err-out c =
    let p = err_from_is_err_and c.from_residual.result c.from_residual.ensures.1 in
    let k : c.loop-i.i < c.args.m = below_m _ _ c.requires.few c.loop-i-test.true in
    rw (p.1, p.2)
    (placing_stop c.loop-i.invariant k (get_or-take _ _ _ _ k) c.lines_for.ensures c.offset_vert-v.ensures c.mark_at-x.ensures
    c.place_span.ensures c.in_err-out.was)

pub loop-i-preserved : goal.loop-i-preserved
loop-i-preserved c =
    let k : c.loop-i.i < c.args.m = below_m _ _ c.requires.few c.loop-i-test.true in
    placing_on c.loop-i.invariant k (get_or-take _ _ _ _ k) c.lines_for.ensures c.offset_vert-v.ensures c.mark_at-x.ensures
    c.place_span.ensures c.in_ok-out.was
