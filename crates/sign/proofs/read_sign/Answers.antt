use Rattle.std.proofs.Common.{arith, ◌∙◌, ◌≡◌, Some, sym}
use Rattle.records.specs.Record.{head_at}
use Rattle.sign.proofs.Fonts.{refused_by}
use Rattle.sign.proofs.Whole.{sign_long, sign_short, sign_first, sign_on}
use Rattle.sign.proofs.read_sign.Goals as goal

pub returns-then-file-gt65535 : goal.returns-then-file-gt65535
returns-then-file-gt65535 c = sign_long _ c.if-file-gt65535.true

pub returns-in_err-kind : goal.returns-in_err-kind
returns-in_err-kind c =
    refused_by _ c.in_err-kind.ensures.ok_part c.in_err-kind.ensures.value c.from_residual.ensures.1
    ∙ sign_short _ c.if-file-gt65535.false (sym c.record_at.ensures.value ∙ c.in_err-kind.ensures.ok_part)

pub returns-in_err-config : goal.returns-in_err-config
returns-in_err-config c =
    let head : head_at c.args.file.now 0 ≡ Some c.in_ok-kind.field-0 = grind arith in
    refused_by _ c.in_err-config.ensures.ok_part c.in_err-config.ensures.value c.from_residual-in_err-config.ensures.1
    ∙ sign_first _ c.if-file-gt65535.false _ head (sym c.config_of.ensures ∙ c.in_err-config.ensures.ok_part)

pub returns : goal.returns
returns c =
    let head : head_at c.args.file.now 0 ≡ Some c.in_ok-kind.field-0 = grind arith in
    sign_on _ c.if-file-gt65535.false _ head _ (grind arith) _ c.read_options.ensures
