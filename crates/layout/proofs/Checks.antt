-- What holds of a call's result: of its refusals 1 to 4, and of the answers of the pages where those checks pass.
use Prim.Native.Nat.{ℕ, ◌≤◌}
use mathlib.Core.Path.{◌≡◌, refl, ap}
use mathlib.Core.Bool.{Bool, true, false}
use mathlib.Core.List.{List}
use lib.Dec.{ltb}
use lib.ListN.{length}
use borrow.Author.Tests.{ltb-false}
use Rattle.base.specs.Pick.{pick}
use Rattle.refusal.specs.declared.Refusal.{Refusal}
use Rattle.refusal.specs.Refusals.{refusal}
use Rattle.records.specs.declared.Config.{Config}
use Rattle.sign.specs.Sign.{Font}
use Rattle.admit.specs.Admission.{Admission, denied, admitted, admission}
use Rattle.layout.specs.declared.Span.{Span}
use Rattle.layout.specs.declared.Answer.TheVariants.{Refused}
use Rattle.layout.specs.Types.{items}
use Rattle.layout.specs.Fonts.{board_of}
use Rattle.layout.specs.Listing.{pages, Result, said, numbered, result_on, result, listing}

module _ (msg : List ℕ) (n room : ℕ) (P : Result → Type 0) where
  -- an admitted call
  pub admitted_result : (c : Config) (fs : List Font) → P (said (Refused (refusal 4 0 0 0)))
      → (1400 ≤ room → P (numbered 0 (pages (board_of msg c fs) (items c msg)) n)) → P (result_on (admitted c fs) msg n room)
  admitted_result c fs r h = look (ltb room 1400) refl
    where
      look : (v : Bool) → ltb room 1400 ≡ v → P (pick v (said (Refused (refusal 4 0 0 0))) (numbered 0 (pages (board_of msg c fs) (items c msg)) n))
      look true q = r
      look false q = h (ltb-false room 1400 q)

  -- any call
  pub any_result : ((x : Refusal) → P (said (Refused x))) → (a : Admission)
      → ((c : Config) (fs : List Font) → a ≡ admitted c fs → 1400 ≤ room → P (numbered 0 (pages (board_of msg c fs) (items c msg)) n))
      → P (result_on a msg n room)
  any_result r (denied x) h = r x
  any_result r (admitted c fs) h = admitted_result c fs (r (refusal 4 0 0 0)) (h c fs refl)

module _ (file msg : List ℕ) (n : ℕ) (lent : List Span) (a : Admission) (e : admission file msg ≡ a) where
  pub result_on_law : result file msg n (length lent) ≡ result_on a msg n (length lent)
  unfolding result
  result_on_law = ap (λ (x : Admission). result_on x msg n (length lent)) e

  pub answer_on : listing file msg n lent ≡ (result_on a msg n (length lent)).answer
  unfolding listing
  answer_on = ap (λ (r : Result). r.answer) result_on_law
