use Rattle.std.proofs.Common.{◌≡◌, ◌∙◌, ap, rules, tests, length}
use Rattle.std.specs.Prelude.{ℕ, unwrap_or, Option}
use Rattle.std.proofs.lemmas.Iterator.{YieldsList-from_slice}
use Rattle.std.proofs.lemmas.Iterator.Search.{position_from_yields_List}
use Rattle.std.specs.List.{position}
use Rattle.token.proofs.Laws.{bracket, place_is}
use Rattle.token.proofs.plain_len.Goals as goal

pub returns : goal.returns
returns c =
    let h : c.position.result ≡ position bracket c.args.s.now =
    position_from_yields_List bracket c.position.new.self _ c.position.result c.position.ensures.ran (YieldsList-from_slice c.args.s.now cc)
    (λ x b q k. search (rules, tests)) in
    c.unwrap_or.ensures ∙ ap (λ (o : Option ℕ). unwrap_or o (length c.args.s.now)) h ∙ place_is c.args.s.now
