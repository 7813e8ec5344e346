use borrow.Author.Rules.{rules}
use Rattle.place.proofs.Groups.{others_asks}
use Rattle.place.proofs.shared.Pass.place_group.Goals as goal

pub mark_others-requires : goal.mark_others-requires
mark_others-requires c = search (others_asks, rules)
