-- What a caller of `read_sign` learns from its answer.
use Prim.Native.Nat.{ℕ, ◌-◌}
use mathlib.Core.Path.{◌≡◌, refl, sym, ◌∙◌, ap}
use mathlib.Core.List.{List, ◌++◌, map}
use lib.ListN.{length}
use Rattle.records.specs.declared.Config.{Config}
use Rattle.sign.specs.Sign.{Font, Sign, Accepted as Content, RefusedAt as Refusal, sign_file}
use Rattle.sign.specs.Given.{entry_of, no_fonts, content_of, refusal_at, given}
use Rattle.sign.specs.Accepted.{GoodSign, Bytes}
use Rattle.std.specs.Prelude.{Ok}
use Rattle.sign.specs.declared.RefusedAt.{RefusedAt}
use Rattle.sign.specs.declared.SignFile.{SignFile}
use Rattle.sign.proofs.Accepted.{accepted}

-- an accepted file: its fonts, which stand first in the table
pub record Accepts (file : List ℕ) (r : SignFile) : Type 0 where
  pub fs : List Font
  pub is : sign_file file ≡ Content r.config fs
  pub table : r.fonts ≡ map entry_of fs ++ no_fonts (24 - length fs)
  pub many : r.count ≡ length fs
  pub good : GoodSign file r.config fs

module _ (file : List ℕ) where
  pub accepts : (r : SignFile) → Ok r ≡ given (sign_file file) → Bytes file → Accepts file r
  unfolding content_of
  accepts r e h = go (sign_file file) refl e
    where
      go : (s : Sign) → sign_file file ≡ s → Ok r ≡ given s → Accepts file r
      go (Content c fs) p q =
          let same : r ≡ content_of c fs = cc in
          let k : r.config ≡ c = ap (λ (x : SignFile). x.config) same in
          let i : sign_file file ≡ Content r.config fs = p ∙ ap (λ (d : Config). Content d fs) (sym k) in
          record {
            fs = fs;
            is = i;
            table = ap (λ (x : SignFile). x.fonts) same;
            many = ap (λ (x : SignFile). x.count) same;
            good = accepted file r.config fs h i;
          }
      go (Refusal at) p q = cc

  pub refuses : (at : ℕ) → refusal_at at ≡ given (sign_file file) → sign_file file ≡ Refusal at
  refuses at e = go (sign_file file) refl e
    where
      go : (s : Sign) → sign_file file ≡ s → refusal_at at ≡ given s → sign_file file ≡ Refusal at
      go (Content c fs) p q = cc
      go (Refusal n) p q =
          let same : record { at = n } ≡ record { at = at } = cc in
          p ∙ ap (λ (x : RefusedAt). Refusal x.at) same
