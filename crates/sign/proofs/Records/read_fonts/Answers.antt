use Rattle.std.proofs.Common.{arith, ◌∙◌, ◌≡◌, Some, None}
use Rattle.sign.specs.Reading.{font_at}
use Rattle.sign.proofs.Fonts.{refused_by, fonts_start, fonts_less, fonts_on, fonts_end, fails_not, fails_full, fails_used, run_inside}
use Rattle.sign.proofs.Records.read_fonts.Goals as goal
use Rattle.sign.proofs.Records.read_fonts.Goals.{then-count-eq24-via-then-count-eq24, then-count-eq24-via-else-count-eq24+then-used-k}

pub loop-at-init : goal.loop-at-init
loop-at-init c = fonts_start _ _ c.args.self.within _ c.default-fonts.ensures

pub returns-in_err-font : goal.returns-in_err-font
returns-in_err-font c =
    let none : font_at c.args.self.file.now c.loop-at.at ≡ None = grind arith in
    refused_by _ c.in_err-font.ensures.ok_part c.in_err-font.ensures.value c.from_residual.ensures.1
    ∙ fails_not _ _ _ _ _ _ c.loop-at.invariant none c.loop-at-test.true _

pub returns-then-count-eq24 : goal.returns-then-count-eq24
returns-then-count-eq24 c =
    let p : font_at c.args.self.file.now c.loop-at.at ≡ Some c.in_ok-font.font = grind arith in
    elim c.then-count-eq24.branch [
      | then-count-eq24-via-then-count-eq24 w ↦ fails_full _ _ _ _ _ _ c.loop-at.invariant _ p w.if-count-eq24.true _
      | then-count-eq24-via-else-count-eq24+then-used-k w ↦ fails_used _ _ _ _ _ _ c.loop-at.invariant _ p _ c.from-k.ensures w.if-used-k.true _
    ]

pub invariant_of-characters : goal.invariant_of-characters
invariant_of-characters c =
    let p : font_at c.args.self.file.now c.loop-at.at ≡ Some c.in_ok-font.font = grind arith in
    record { within = run_inside _ _ _ _ _ _ c.loop-at.invariant _ p }

pub loop-at-smaller : goal.loop-at-smaller
loop-at-smaller c =
    let p : font_at c.args.self.file.now c.loop-at.at ≡ Some c.in_ok-font.font = grind arith in
    fonts_less _ _ _ _ _ _ c.loop-at.invariant _ p _ _ c.run_of-run.ensures

pub loop-at-preserved : goal.loop-at-preserved
loop-at-preserved c =
    let p : font_at c.args.self.file.now c.loop-at.at ≡ Some c.in_ok-font.font = grind arith in
    fonts_on _ _ _ _ _ _ c.loop-at.invariant _ p _ _ c.run_of-run.ensures c.if-count-eq24.false _ c.from-k.ensures c.if-used-k.false (omega arith)

pub returns : goal.returns
returns c = fonts_end _ _ _ _ _ _ c.loop-at.invariant c.loop-at-test.false _
