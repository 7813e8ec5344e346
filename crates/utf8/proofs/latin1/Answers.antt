use Rattle.std.proofs.Common.{ℕ, ◌∙◌, sym, refl, ◌&&◌, rules, tests}
use Rattle.std.proofs.lemmas.Iterator.Search.{all_from_yields_List}
use Rattle.std.proofs.lemmas.Iterator.Consumers.{YieldsList-from_first}
use lib.Dec.{leb}
use Rattle.utf8.specs.Utf8.{codes}
use Rattle.utf8.specs.declared.Codes.{Codes}
use Rattle.utf8.proofs.Laws.{all_is}
use Rattle.utf8.proofs.latin1.Goals as goal

pub returns-else-ascii : goal.returns-else-ascii
returns-else-ascii c =
    all_from_yields_List (λ (x : ℕ). leb 1 x && leb x 255) c.all.new.self _ c.all.result c.all.ensures.ran
    (YieldsList-from_first (λ (x : ℕ). x) (λ (s : Codes). codes s.0.now) {s = record { 0 = c.args.s }} (codes c.args.s.now) refl)
    (λ x b q k. search (rules, tests))
    ∙ sym (all_is (codes c.args.s.now))
