use Rattle.std.proofs.Common.{◌≡◌, drop}
use Rattle.utf8.specs.Utf8.{well_formed, well_formed_from}
use Rattle.utf8.proofs.walk.Given as goal

abbrev pub invariant-loop-b : goal.invariant-loop-b
invariant-loop-b l = well_formed_from l.d (drop l.b-index l.s) ≡ well_formed l.s
