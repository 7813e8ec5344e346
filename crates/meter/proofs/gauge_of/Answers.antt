use Rattle.meter.proofs.Laws.{gauge_entry, gauge_absent}
use Rattle.meter.proofs.gauge_of.Goals as goal

pub returns-in-Some : goal.returns-in-Some
returns-in-Some c = gauge_entry c.args.call.now c.args.e c.requires.widths_of c.in-Some.is c.gauge_in.ensures

pub returns-in-None : goal.returns-in-None
returns-in-None c = gauge_absent c.args.call.now c.args.e c.requires.widths_of c.in-None.is c.no_font.ensures
