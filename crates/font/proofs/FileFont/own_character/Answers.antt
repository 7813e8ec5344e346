use Rattle.std.proofs.Common.{ℕ, rules, ◌∙◌, eqb}
use borrow.Author.Tests.{tests}
use Rattle.std.proofs.lemmas.Iterator.Search.{find_from_yields_List}
use Rattle.std.proofs.lemmas.Iterator.Consumers.{YieldsList-from_first}
use Rattle.font.specs.Character.{left_of}
use Rattle.font.specs.declared.Found.{Found}
use Rattle.font.proofs.Laws.{code_zero, code_some, code_none}
use Rattle.font.proofs.FileFont.own_character.Goals as goal

pub returns-then-code-eq0 : goal.returns-then-code-eq0
returns-then-code-eq0 c = code_zero _ _ c.if-code-eq0.true

pub returns-in_err-found : goal.returns-in_err-found
returns-in_err-found c =
    c.from_residual.ensures
    ∙ code_none c.args.code _ c.if-code-eq0.false c.find.result
    (find_from_yields_List (λ (l : ℕ × Found). eqb l.0 c.args.code) c.find.new.self _ c.find.result c.find.ensures.ran
    (YieldsList-from_first (λ x. x) left_of _ c.characters.ensures) (λ x b q k. search (rules, tests)))
    c.in_err-found.was

pub returns : goal.returns
returns c =
    code_some c.args.code _ c.if-code-eq0.false c.find.result
    (find_from_yields_List (λ (l : ℕ × Found). eqb l.0 c.args.code) c.find.new.self _ c.find.result c.find.ensures.ran
    (YieldsList-from_first (λ x. x) left_of _ c.characters.ensures) (λ x b q k. search (rules, tests)))
    _ c.in_ok-found.was
