use Rattle.std.proofs.Common.{◌≡◌, drop}
use Rattle.utf8.proofs.Laws.{ascii_from}
use Rattle.utf8.proofs.ascii.Given as goal

abbrev pub invariant-loop-b : goal.invariant-loop-b
invariant-loop-b l = ascii_from l.from l.least l.largest (drop l.b-index l.s) ≡ ascii_from l.from 255 0 l.s
