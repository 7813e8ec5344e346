-- Document 01, "The calls", refusals "in checking order": 1 to 3, which every call shares. Those of a call of its own come behind them.
use Rattle.std.specs.Prelude.{ℕ, List, ltb, length}
use Rattle.base.specs.Pick.{pick}
use Rattle.utf8.specs.Utf8.{well_formed}
use Rattle.refusal.specs.declared.Refusal.{Refusal}
use Rattle.refusal.specs.Refusals.{refusal}
use Rattle.records.specs.declared.Config.{Config}
use Rattle.sign.specs.Sign.{Font, Sign, Accepted, RefusedAt, sign_file}

-- a call is denied by one of them, or goes on with the configuration and the fonts of its sign
pub data Admission : Type 0 where
  denied : Refusal → Admission
  admitted : Config → List Font → Admission

abbrev pub refusing : ℕ → ℕ → Admission
refusing n start = denied (refusal n start 0 0)

-- 1, "the sign file breaks a rule above"; 2, "the message is longer than 2,048 bytes"; 3, "not well-formed UTF-8"
abbrev pub admission_on : Sign → List ℕ → Admission
admission_on (RefusedAt start) msg = refusing 1 start
admission_on (Accepted c fs) msg = pick (ltb 2048 (length msg)) (refusing 2 0) (pick (well_formed msg) (admitted c fs) (refusing 3 0))

-- sign file and message
unfoldable pub admission : List ℕ → List ℕ → Admission
admission file msg = admission_on (sign_file file) msg
