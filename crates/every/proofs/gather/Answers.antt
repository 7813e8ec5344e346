use Rattle.std.proofs.Common.{sym, arith}
use Rattle.every.proofs.gather.Goals as goal

pub returns-in-Err : goal.returns-in-Err
returns-in-Err c = record { ends = sym c.in-Err.ensures; answers = omega arith; records = omega arith }
