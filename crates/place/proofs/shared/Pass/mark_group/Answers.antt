use borrow.Author.Rules.{rules}
use Rattle.place.proofs.Groups.{mark_start, mark_less, mark_skip, mark_reach, mark_within, mark_asks, mark_on}
use Rattle.place.proofs.shared.Pass.mark_group.Goals as goal

pub loop-k-init : goal.loop-k-init
loop-k-init c = search (mark_start, rules)

pub loop-k-smaller-then-not-matches_span : goal.loop-k-smaller-then-not-matches_span
loop-k-smaller-then-not-matches_span c = search (mark_less, rules)

pub loop-k-preserved-then-not-matches_span : goal.loop-k-preserved-then-not-matches_span
loop-k-preserved-then-not-matches_span c = search (mark_skip, rules)

pub reach-sum-requires-clause-small : goal.reach-sum-requires-clause-small
reach-sum-requires-clause-small c = search (mark_reach, rules)

pub overflow_sub-total : goal.overflow_sub-total
overflow_sub-total c = search (mark_within, rules)

pub mark-requires : goal.mark-requires
mark-requires c = search (mark_asks, rules)

pub loop-k-smaller : goal.loop-k-smaller
loop-k-smaller c = search (mark_less, rules)

pub loop-k-preserved : goal.loop-k-preserved
loop-k-preserved c = search (mark_on, rules)
