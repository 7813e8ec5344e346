-- The ways out of the reader of a whole file.
use Prim.Native.Nat.{ℕ, ◌≤◌, ◌<◌}
use mathlib.Core.Path.{◌≡◌, refl, ◌∙◌}
use mathlib.Core.List.{List, [], ◌∷◌}
use mathlib.Core.Bool.{Bool, true, false}
use native.Mathlib.Omega.{arith}
use lib.Dec.{eqb}
use lib.ListN.{length}
use borrow.Author.Tests.{lt-ltb, le-ltb, eqb-true}
use Rattle.base.specs.Pick.{pick}
use Rattle.records.specs.Record.{Record, pieces_at, head_at}
use Rattle.records.specs.Config.{config_of, config_ok, is_config, first_of}
use Rattle.records.proofs.Laws.{tests, pieces_all, pieces_next, pieces_short, pieces_end}
use Rattle.records.specs.declared.Config.{Config}
use Rattle.records.specs.declared.Record.{Record as Head}
use Rattle.std.specs.Prelude.{Some, None, Result}
use Rattle.sign.specs.Sign.{config_in, first_fault, fault, FailsAt, sign_file}
use Rattle.sign.specs.Given.{refusal_at, given}
use Rattle.sign.specs.declared.RefusedAt.{RefusedAt}
use Rattle.sign.specs.declared.SignFile.{SignFile}
use Rattle.sign.specs.Reading.{part, given_after}
use Rattle.sign.proofs.Laws.{fonts_other}

module _ (file : List ℕ) where
  refuses : fault file ≡ FailsAt 0 → refusal_at 0 ≡ given (sign_file file)
  unfolding sign_file
  refuses e = rw e

  pub sign_long : 65535 < length file → refusal_at 0 ≡ given (sign_file file)
  unfolding fault
  sign_long h = refuses (rw (lt-ltb 65535 (length file) h))

  module _ (h : length file ≤ 65535) where
    fault_is_law : fault file ≡ first_fault (pieces_at file 0)
    unfolding fault
    fault_is_law = rw (le-ltb 65535 (length file) h, pieces_all file)

    pub sign_short : head_at file 0 ≡ None → refusal_at 0 ≡ given (sign_file file)
    sign_short q = refuses (fault_is_law ∙ go file q)
      where
        go : (l : List ℕ) → head_at l 0 ≡ None → first_fault (pieces_at l 0) ≡ FailsAt 0
        go [] e = unfold first_fault in rw (pieces_end [] 0 (omega arith))
        go (b ∷ l) e = unfold first_fault in rw (pieces_short (b ∷ l) 0 (omega arith) e)

    module _ (x : Head) (q : head_at file 0 ≡ Some x) where
      abbrev body : List ℕ
      body = part file x.start x.end

      next : pieces_at file 0 ≡ Record 0 x.kind body ∷ pieces_at file x.end
      next = pieces_next file 0 x q

      pub sign_first : first_of x.kind body ≡ None → refusal_at 0 ≡ given (sign_file file)
      unfolding first_of first_fault
      sign_first d = refuses (fault_is_law ∙ rw (next, no))
        where
          go : (u : Bool) → pick u (Some (config_of body)) None ≡ None → u ≡ false
          go true e = cc
          go false e = refl

          no : is_config x.kind body ≡ false
          no = go (is_config x.kind body) d

      pub sign_on : (c : Config) → first_of x.kind body ≡ Some c → (r : Result SignFile RefusedAt) → r ≡ given_after file x.end c → r ≡ given (sign_file file)
      unfolding sign_file first_of first_fault config_in given_after
      sign_on c d r f = rw (fault_is_law, pieces_all file, next, yes.0, yes.1, fonts_other 0 x.kind body (pieces_at file x.end) other) f
        where
          go : (u : Bool) → is_config x.kind body ≡ u → pick u (Some (config_of body)) None ≡ Some c → (is_config x.kind body ≡ true) × (config_of body ≡ c)
          go true e k = (e, (cc))
          go false e k = cc

          yes : (is_config x.kind body ≡ true) × (config_of body ≡ c)
          yes = go (is_config x.kind body) refl d

          is_kind : x.kind ≡ 1
          is_kind = eqb-true x.kind 1 (tests (eqb x.kind 1 ∷ eqb (length body) 15 ∷ config_ok (config_of body) ∷ []) (unfold is_config in yes.0)).0

          other : x.kind ≡ 2 → ⊥
          other e = omega (arith, is_kind)
