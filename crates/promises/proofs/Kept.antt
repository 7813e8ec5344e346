-- The promises hold.
use Rattle.token.proofs.Laws.{slices_joined}
use Rattle.readings.proofs.Agrees.{reads_all}
use Rattle.font.proofs.Counts.{counts}
use Rattle.admit.specs.Admission.{denied}
use Rattle.font.proofs.StandIns.{stands_in}
use Rattle.layout.specs.Boards.{boards}
use Rattle.layout.proofs.Checks.{answer_on}
use Rattle.layout.proofs.Calls.{demand3}
use Rattle.layout.proofs.Bounds.{bounded}
use Rattle.counts.proofs.Page.{page_counts}
use Rattle.every.proofs.Calls.{whole_listing}
use Rattle.sentence.proofs.Recovers.{sentenced, worded}
use Rattle.promises.specs.Promises.{Promises}

pub promises : Promises
promises =
    record {
      nothing_lost = slices_joined;
      checked_first = λ file msg n lent r e. answer_on file msg n lent (denied r) e;
      refusals_change_nothing = λ file msg. (bounded file msg).unchanged;
      demand_3 = demand3;
      bounds = bounded;
      whole_listing = whole_listing;
      reads_all = reads_all;
      worked_boards = boards;
      sentences = sentenced;
      words = worded;
      looked_up_law = counts;
      page_counted = page_counts;
      capitals = stands_in;
    }
