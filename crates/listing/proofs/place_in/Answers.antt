use Rattle.listing.proofs.Calls.{placed}
use Rattle.listing.proofs.place_in.Goals as goal

pub returns : goal.returns
returns g c =
    placed c.args.file.now c.args.message.now c.args.answer c.args.recs.now c.placed-p.ensures c.from-n.ensures c.copy_from_slice.ensures.after
