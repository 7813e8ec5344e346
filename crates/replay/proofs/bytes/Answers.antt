use Rattle.std.proofs.Common.{◌≡◌, ◌∙◌, ◌++◌, ◌∷◌, [], arith, rules}
use Rattle.replay.proofs.Laws.{pairs_more}
use Rattle.replay.proofs.bytes.Goals as goal

pub loop-rest-preserved : goal.loop-rest-preserved
loop-rest-preserved g c =
    let pushed : c.try_push.new.self.items ≡ c.loop-rest.out.items ++ (c.in_ok-pair.field-0 ∷ []) = search rules in
    rw pushed
    (pairs_more c.loop-rest.out.items c.loop-rest.rest.now c.in_ok-pair.field-0 (omega arith) (search rules) ∙ c.loop-rest.invariant)
