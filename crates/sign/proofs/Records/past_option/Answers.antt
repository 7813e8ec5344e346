use Rattle.sign.proofs.Options.{option_short, option_is, option_not}
use Rattle.sign.proofs.Records.past_option.Goals as goal

pub returns-in_default-clause-past : goal.returns-in_default-clause-past
returns-in_default-clause-past c = option_short _ _ _ c.in_default.ensures.value

pub returns-then-start-end-clause-past : goal.returns-then-start-end-clause-past
returns-then-start-end-clause-past c = option_is _ _ _ _ c.in-Some.ensures.value c.if-kind-option.true c.if-start-end.true

pub returns-clause-past : goal.returns-clause-past
returns-clause-past c = option_not _ _ _ _ c.in-Some.ensures.value c.else-kind-option.either
