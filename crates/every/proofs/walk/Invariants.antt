use Prim.Native.Nat.{◌+◌, ◌-◌, ◌*◌}
use lib.ListN.{length}
use Rattle.pages.specs.Pages.{weight}
use Rattle.every.proofs.Laws.{Walking}
use Rattle.every.proofs.walk.Given as goal

abbrev pub invariant-loop-x : goal.invariant-loop-x
invariant-loop-x l = Walking l.call l.initial.rows l.initial.shown l.initial.out l.rows l.shown l.out l.pages l.answers l.records

abbrev pub decreases-loop-x : goal.decreases-loop-x
decreases-loop-x l = 2 * (length l.call.msg.now - l.pages.at) + weight l.pages.page_state
