-- What an admission tells, and what a caller of `admit` learns from its answer.
use Prim.Native.Nat.{ℕ, ◌≤◌, ◌<◌}
use mathlib.Core.Path.{◌≡◌, refl, sym, ap, ◌∙◌, subst}
use mathlib.Core.Bool.{Bool, true, false}
use mathlib.Core.List.{List}
use lib.Dec.{ltb}
use lib.ListN.{length}
use borrow.Author.Tests.{ltb-true, ltb-false, lt-ltb, le-ltb}
use Rattle.std.specs.Prelude.{Result, Ok, Err}
use Rattle.base.specs.Pick.{pick}
use Rattle.utf8.specs.Utf8.{well_formed}
use Rattle.refusal.specs.declared.Refusal.{Refusal}
use Rattle.refusal.specs.Refusals.{refusal}
use Rattle.records.specs.declared.Config.{Config}
use Rattle.sign.specs.Sign.{Font, Sign as Signed, Accepted, RefusedAt, sign_file}
use Rattle.sign.specs.Given.{content_of, refusal_at, given as table_of}
use Rattle.sign.specs.declared.SignFile.{SignFile}
use Rattle.sign.specs.declared.RefusedAt.{RefusedAt as RefusedFile}
use Rattle.sign.proofs.Answer.{refuses}
use Rattle.admit.specs.Admission.{Admission, denied, admitted, refusing, admission_on, admission}
use Rattle.admit.specs.Handed.{handed}
use Rattle.admit.specs.declared.Denied.{Denied}

-- ---- what an admission tells

-- a call that is admitted
pub record Admits (file msg : List ℕ) (c : Config) (fs : List Font) : Type 0 where
  pub sign : sign_file file ≡ Accepted c fs
  pub small : length msg ≤ 2048
  pub formed : well_formed msg ≡ true

-- and one that is denied, by each of the three
pub data Denies (file msg : List ℕ) : Refusal → Type 0 where
  by_sign : {start : ℕ} → sign_file file ≡ RefusedAt start → Denies file msg (refusal 1 start 0 0)
  by_length : {c : Config} {fs : List Font} → sign_file file ≡ Accepted c fs → 2048 < length msg → Denies file msg (refusal 2 0 0 0)
  by_form : {c : Config} {fs : List Font} → sign_file file ≡ Accepted c fs → length msg ≤ 2048 → well_formed msg ≡ false → Denies file msg (refusal 3 0 0 0)

abbrev pub Means : List ℕ → List ℕ → Admission → Type 0
Means file msg (denied r) = Denies file msg r
Means file msg (admitted c fs) = Admits file msg c fs

pub means : (file msg : List ℕ) → Means file msg (admission file msg)
unfolding admission
means file msg = look (sign_file file) refl
  where
    tests : (c : Config) (fs : List Font) → sign_file file ≡ Accepted c fs → (t u : Bool) → ltb 2048 (length msg) ≡ t → well_formed msg ≡ u
        → Means file msg (pick t (refusing 2 0) (pick u (admitted c fs) (refusing 3 0)))
    tests c fs e true u p q = by_length e (ltb-true 2048 (length msg) p)
    tests c fs e false true p q = record { sign = e; small = ltb-false 2048 (length msg) p; formed = q }
    tests c fs e false false p q = by_form e (ltb-false 2048 (length msg) p) q

    look : (s : Signed) → sign_file file ≡ s → Means file msg (admission_on s msg)
    look (RefusedAt start) e = by_sign e
    look (Accepted c fs) e = tests c fs e (ltb 2048 (length msg)) (well_formed msg) refl refl

module _ {file msg : List ℕ} where
  pub admits : {c : Config} {fs : List Font} → admission file msg ≡ admitted c fs → Admits file msg c fs
  admits e = subst (Means file msg) e (means file msg)

  pub denies : {r : Refusal} → admission file msg ≡ denied r → Denies file msg r
  denies e = subst (Means file msg) e (means file msg)

-- ---- the answer of `admit`

abbrev pub denied_by : Refusal → Result SignFile RefusedFile → Result SignFile Denied
denied_by r s = Err (record { refusal = r; sign = s })

module _ (file msg : List ℕ) where
  -- one law for each way out
  pub bad_sign : (at : ℕ) → refusal_at at ≡ table_of (sign_file file)
      → denied_by (refusal 1 at 0 0) (refusal_at at) ≡ handed (admission file msg) (sign_file file)
  unfolding admission
  bad_sign at e = rw (refuses file at e)

  module _ (t : SignFile) (e : Ok t ≡ table_of (sign_file file)) where
    pub too_long : 2048 < length msg → denied_by (refusal 2 0 0 0) (Ok t) ≡ handed (admission file msg) (sign_file file)
    unfolding admission
    too_long h = look (sign_file file) e
      where
        look : (s : Signed) → Ok t ≡ table_of s → denied_by (refusal 2 0 0 0) (Ok t) ≡ handed (admission_on s msg) s
        look (RefusedAt start) q = cc
        look (Accepted c fs) q = rw (lt-ltb 2048 (length msg) h) (ap (denied_by (refusal 2 0 0 0)) q)

    module _ (s : length msg ≤ 2048) where
      pub ill_formed : false ≡ well_formed msg → denied_by (refusal 3 0 0 0) (Ok t) ≡ handed (admission file msg) (sign_file file)
      unfolding admission
      ill_formed f = look (sign_file file) e
        where
          look : (x : Signed) → Ok t ≡ table_of x → denied_by (refusal 3 0 0 0) (Ok t) ≡ handed (admission_on x msg) x
          look (RefusedAt start) q = cc
          look (Accepted c fs) q = rw (le-ltb 2048 (length msg) s, sym f) (ap (denied_by (refusal 3 0 0 0)) q)

      pub let_in : true ≡ well_formed msg → Ok t ≡ handed (admission file msg) (sign_file file)
      unfolding admission
      let_in f = look (sign_file file) e
        where
          look : (x : Signed) → Ok t ≡ table_of x → Ok t ≡ handed (admission_on x msg) x
          look (RefusedAt start) q = cc
          look (Accepted c fs) q =
              let made : t ≡ content_of c fs = cc in
              rw (le-ltb 2048 (length msg) s, sym f) (ap Ok made)

-- ---- what a caller learns

-- of the sign of an admitted call
pub record Opens (file msg : List ℕ) (t : SignFile) : Type 0 where
  pub table : Ok t ≡ table_of (sign_file file)
  pub fs : List Font
  pub is : admission file msg ≡ admitted t.config fs
  pub admits_it : Admits file msg t.config fs

module _ (file msg : List ℕ) where
  pub denied_is : {d : Denied} → Err d ≡ handed (admission file msg) (sign_file file) → admission file msg ≡ denied d.refusal
  denied_is {d} h = look (admission file msg) h
    where
      look : (a : Admission) → Err d ≡ handed a (sign_file file) → a ≡ denied d.refusal
      look (denied y) q =
          let k : d ≡ record { refusal = y; sign = table_of (sign_file file) } = cc in
          ap denied (sym (ap (λ (x : Denied). x.refusal) k))
      look (admitted c fs) q = cc

  pub opens : {t : SignFile} → Ok t ≡ handed (admission file msg) (sign_file file) → Opens file msg t
  unfolding content_of
  opens {t} h = look (admission file msg) refl h
    where
      look : (a : Admission) → admission file msg ≡ a → Ok t ≡ handed a (sign_file file) → Opens file msg t
      look (denied y) q d = cc
      look (admitted c fs) q d =
          let m : Admits file msg c fs = admits q in
          let made : t ≡ content_of c fs = cc in
          let same : t.config ≡ c = ap (λ (y : SignFile). y.config) made in
          record {
            table = ap Ok made ∙ ap table_of (sym m.sign);
            fs = fs;
            is = q ∙ ap (λ (y : Config). admitted y fs) (sym same);
            admits_it = subst (λ (y : Config). Admits file msg y fs) (sym same) m;
          }
