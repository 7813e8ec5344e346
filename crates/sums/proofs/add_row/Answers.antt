use native.Mathlib.Omega.{arith}
use Rattle.sums.proofs.Table.{adds_row}
use Rattle.sums.proofs.add_row.Goals as goal

pub returns : goal.returns
returns c = adds_row c.from-k.ensures (omega arith) c.requires.0 c.told-table c.from.ensures (omega arith)
