use Rattle.sign.proofs.Laws.{unmarked}
use Rattle.sign.proofs.Records.run_of.Goals as goal

pub read_run-requires : goal.read_run-requires
read_run-requires c = unmarked 1024

pub read_run-requires-2 : goal.read_run-requires-2
read_run-requires-2 c = unmarked 65536
