use Rattle.sign.proofs.Laws.{run_start, run_less, run_on, run_full, run_used, run_other}
use Rattle.sign.proofs.Records.read_run.Goals as goal

pub loop-code-init : goal.loop-code-init
loop-code-init c = run_start _ _ _ _ c.args.self.within c.requires

pub loop-code-smaller : goal.loop-code-smaller
loop-code-smaller c = run_less _ _ _ _ _ _ _ c.loop-code.invariant _ c.in-Some.ensures

pub loop-code-preserved : goal.loop-code-preserved
loop-code-preserved c =
    run_on _ _ _ _ _ _ _ c.loop-code.invariant _ c.in-Some.ensures c.if-n-eq256.false _ c.from-k.ensures c.if-table-k.false c.if-table-k-2.false

pub returns-then-n-eq256 : goal.returns-then-n-eq256
returns-then-n-eq256 c = run_full _ _ _ _ _ _ _ c.loop-code.invariant _ c.in-Some.ensures c.if-n-eq256.true

pub returns-then-table-k-2 : goal.returns-then-table-k-2
returns-then-table-k-2 c = run_used _ _ _ _ _ _ _ c.loop-code.invariant _ c.in-Some.ensures _ c.from-k.ensures c.if-table-k-2.true

pub returns-in_default : goal.returns-in_default
returns-in_default c = run_other _ _ _ _ _ _ _ c.loop-code.invariant _ c.char_at.ensures c.in_default.is
