use Rattle.std.proofs.lemmas.Result.{err_from_is_err_and}
use Rattle.whole.proofs.Calls.{refused, listed}
use Rattle.whole.proofs.list_all_in.Goals as goal

pub returns-in_err-listed : goal.returns-in_err-listed
returns-in_err-listed g c =
    let p = err_from_is_err_and c.from_residual.result c.from_residual.ensures.1 in
    rw (p.1, p.2) (refused c.args.file.now c.args.message.now c.args.answers.now c.args.recs.now c.counted.ensures c.in_err-listed.was)

pub returns : goal.returns
returns g c =
    listed c.args.file.now c.args.message.now c.args.answers.now c.args.recs.now c.counted.ensures c.in_ok-listed.was c.from-n.ensures
    c.copy_from_slice.ensures.after c.from-k.ensures c.copy_from_slice-2.ensures.after
