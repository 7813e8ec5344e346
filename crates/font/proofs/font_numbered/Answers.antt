use Rattle.std.proofs.Common.{rules, sym, ◌∙◌, ◌≡◌, eqb, take}
use Rattle.std.proofs.lemmas.Iterator.{YieldsList-from_slice, YieldsList-from_take}
use Rattle.std.proofs.lemmas.Iterator.Search.{find_from_yields_List}
use borrow.Author.Tests.{tests}
use Rattle.std.specs.List.{find}
use Rattle.std.specs.Option.{option_map}
use Rattle.sign.specs.declared.FontEntry.{FontEntry}
use Rattle.font.proofs.Tables.{numbered_find}
use Rattle.font.proofs.font_numbered.Goals as goal

pub returns : goal.returns
returns c =
    let f : option_map (λ x. x.now) c.find.result ≡ find (λ (e : FontEntry). eqb e.number c.args.number) (take c.args.table.now.count c.args.table.now.fonts) =
    find_from_yields_List (λ (e : FontEntry). eqb e.number c.args.number) _ _ c.find.result c.find.ensures.ran
    (YieldsList-from_take _ (YieldsList-from_slice _ (search rules)) c.take.ensures.count) (λ x b q k. search (rules, tests)) in
    c.copied.ensures ∙ f ∙ sym (numbered_find _ _)
