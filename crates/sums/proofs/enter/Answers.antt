use borrow.Author.Rules.{rules}
use Rattle.sums.proofs.Table.{enter_join, enter_stay}
use Rattle.sums.proofs.enter.Goals as goal

pub returns-then-matches_span : goal.returns-then-matches_span
returns-then-matches_span c = search (enter_join, rules)

pub returns : goal.returns
returns c = search (enter_stay, rules)
