use Rattle.every.proofs.Laws.{walk_start, walk_asks, walk_shown, walk_room, walk_next}
use Rattle.every.proofs.walk.Goals as goal

pub loop-x-init : goal.loop-x-init
loop-x-init c = search walk_start

pub next-requires : goal.next-requires
next-requires c = walk_asks c.loop-x.invariant

pub shown_by-s-requires : goal.shown_by-s-requires
shown_by-s-requires c = walk_shown c.loop-x.invariant c.next.ensures (rw c.in-Ok-Some.field-0-is at c.in-Ok-Some.is)

pub bounds-shown-answers : goal.bounds-shown-answers
bounds-shown-answers c = walk_room c.loop-x.invariant c.next.ensures (rw c.in-Ok-Some.field-0-is at c.in-Ok-Some.is)

pub loop-x-preserved : goal.loop-x-preserved
loop-x-preserved c =
    walk_next c.loop-x.invariant c.next.ensures (rw c.in-Ok-Some.field-0-is at c.in-Ok-Some.is) c.shown_by-s.ensures.is c.from-records.ensures
