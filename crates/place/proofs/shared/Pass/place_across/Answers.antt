use borrow.Author.Rules.{rules}
use Rattle.place.proofs.Groups.{cross_stop, cross_end}
use Rattle.place.proofs.shared.Pass.place_across.Goals as goal

pub returns-in-Err : goal.returns-in-Err
returns-in-Err c = search (cross_stop, rules)

pub returns : goal.returns
returns c = search (cross_end, rules)
