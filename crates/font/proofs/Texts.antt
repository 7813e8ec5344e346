-- The ways on and out of the loop over a text.
use Prim.Native.Nat.{ℕ, suc, ◌+◌, ◌*◌, ◌≤◌, ◌<◌, min}
use mathlib.Core.Path.{◌≡◌, refl, sym, ◌∙◌, ap}
use mathlib.Core.List.{List, [], ◌∷◌}
use mathlib.Core.Bool.{Bool, true, false}
use native.Mathlib.Nat.{zero-add}
use native.Mathlib.Omega.{arith}
use lib.Dec.{ltb}
use lib.ListN.{length, take}
use Rattle.std.proofs.lemmas.List.{take_min}
use Rattle.base.specs.Pick.{pick}
use Rattle.utf8.specs.Utf8.{codes}
use Rattle.utf8.proofs.Laws.{codes_len}
use Rattle.std.specs.Prelude.{Option, Some, None, Ok, Err}
use Rattle.sign.specs.Sign.{Character}
use Rattle.font.specs.Character.{character_in}
use Rattle.font.specs.Widths.{width_of}
use Rattle.font.specs.declared.Found.{Found}
use Rattle.font.specs.Measure.{Measure, widened, with_width, width_after, text_width, looked_on, looked_up, measure_of}
use Rattle.font.specs.Grown.{OneMore}
use Rattle.font.specs.declared.Looked.{Looked}
use Rattle.font.specs.declared.Missing.{Missing}

-- `with_character`: x is the width of what is found
after_none : (f : Option Found) (code : ℕ) (on : ℕ → Measure) → None ≡ width_of f → with_width f code on ≡ Err (record { code = code })
after_none (Some f) code on e = cc
after_none None code on e = refl

after_some : (f : Option Found) (code : ℕ) (on : ℕ → Measure) (x : ℕ) → Some x ≡ width_of f → with_width f code on ≡ on x
after_some (Some f) code on x e = let d : f.width ≡ x = cc in rw d
after_some None code on x e = cc

widened_le : (w spacing more : ℕ) → spacing < 65536 → more < 256 → widened w spacing more ≤ w + 65790
unfolding widened
widened_le w spacing more h k = go (ltb 0 w)
  where
    go : (t : Bool) → w + (pick t spacing 0 + more) ≤ w + 65790
    go true = omega arith
    go false = omega arith

module _ (chs : List Character) (w n spacing code : ℕ) where
  abbrev on : ℕ → Measure
  on more = Ok (widened w spacing more)

  pub with_none : None ≡ width_of (character_in code chs) → OneMore chs spacing w n code (record { measure = Err (record { code = code }); count = n + 1 })
  unfolding width_after
  with_none e = record { is = sym (after_none (character_in code chs) code on e); one = refl; grown = tt }

  pub with_some : (x : ℕ) → Some x ≡ width_of (character_in code chs) → x < 256 → spacing < 65536 → (v : ℕ) → v ≡ widened w spacing x
      → OneMore chs spacing w n code (record { measure = Ok v; count = n + 1 })
  unfolding width_after
  with_some x e l k v d =
      record {
        is = ap Ok d ∙ sym (after_some (character_in code chs) code on x e);
        one = refl;
        grown = rw d (widened_le w spacing x k l);
      }

-- `short_width`: the codes that are left, after a width so far, are as wide as all; n characters were looked up
pub record Measuring (chs : List Character) (spacing : ℕ) (cs : List ℕ) (w n : ℕ) (left : List ℕ) : Type 0 where
  pub small : w ≤ 65790 * n
  pub few : n + length left ≤ 65000
  pub same : width_after chs spacing w left ≡ text_width chs spacing cs
  pub counted : n + looked_up chs left ≡ looked_up chs cs

pub width_start : (chs : List Character) (spacing : ℕ) (text : List ℕ) → length text ≤ 65000 → Measuring chs spacing (codes text) 0 0 (codes text)
unfolding text_width
width_start chs spacing text h = record { small = omega arith; few = omega (arith, codes_len text); same = refl; counted = zero-add _ }

-- what a character was found to be, by the measure of it alone
found_none : (f : Option Found) (code : ℕ) (x : Missing) (g : ℕ → ℕ) → with_width f code (λ more. Ok (g more)) ≡ Err x → f ≡ None
found_none (Some f) code x g e = cc
found_none None code x g e = refl

record Wide (f : Option Found) (g : ℕ → ℕ) (v : ℕ) : Type 0 where
  found : Found
  is : f ≡ Some found
  width : g found.width ≡ v

found_some : (f : Option Found) (code v : ℕ) (g : ℕ → ℕ) → with_width f code (λ more. Ok (g more)) ≡ Ok v → Wide f g v
found_some (Some f) code v g e = record { found = f; is = refl; width = cc }
found_some None code v g e = cc

pub looked_is : (r : Looked) (m : Measure) (n : ℕ) → r.measure ≡ m → r.count ≡ n → r ≡ record { measure = m; count = n }
looked_is r m n p q = rw (← p, ← q)

module _ (chs : List Character) (spacing : ℕ) (cs : List ℕ) (w n : ℕ) where
  pub width_end : Measuring chs spacing cs w n [] → record { measure = Ok w; count = n } ≡ measure_of chs spacing cs
  unfolding width_after looked_up
  width_end so = looked_is (record { measure = Ok w; count = n }) (text_width chs spacing cs) (looked_up chs cs) so.same (omega (arith, so.counted))

  -- r is the answer of `with_character`
  module _ (code : ℕ) (later : List ℕ) (so : Measuring chs spacing cs w n (code ∷ later)) (r : Looked) (q : OneMore chs spacing w n code r) where
    abbrev found : Option Found
    found = character_in code chs

    here : with_width found code (λ more. width_after chs spacing (widened w spacing more) later) ≡ text_width chs spacing cs
    unfolding width_after
    here = so.same

    here_count : n + suc (looked_on found (looked_up chs later)) ≡ looked_up chs cs
    unfolding looked_up
    here_count = so.counted

    one : with_width found code (λ more. Ok (widened w spacing more)) ≡ r.measure
    unfolding width_after
    one = sym q.is

    pub width_missing : (x : Missing) → r.measure ≡ Err x → r ≡ measure_of chs spacing cs
    width_missing x z =
        let d : found ≡ None = found_none found code x (widened w spacing) (one ∙ z) in
        let a : Err (record { code = code }) ≡ r.measure = rw d at one in
        let b : Err (record { code = code }) ≡ text_width chs spacing cs = rw d at here in
        let k : n + 1 ≡ looked_up chs cs = rw d at here_count in
        looked_is r (text_width chs spacing cs) (looked_up chs cs) (sym a ∙ b) (q.one ∙ k)

    -- the width is at most 65,790 for each character
    width_fits : (v : ℕ) → r.measure ≡ Ok v → v ≤ 65790 * r.count
    width_fits v z =
        let k : v ≤ w + 65790 = rw z at q.grown in
        omega (arith, k, so.small, q.one)

    pub width_on : (v : ℕ) → r.measure ≡ Ok v → Measuring chs spacing cs v r.count later
    width_on v z =
        let d : Wide found (widened w spacing) v = found_some found code v (widened w spacing) (one ∙ z) in
        let a : width_after chs spacing (widened w spacing d.found.width) later ≡ text_width chs spacing cs = rw d.is at here in
        let b : n + suc (looked_up chs later) ≡ looked_up chs cs = rw d.is at here_count in
        record {
          small = width_fits v z;
          few = omega (arith, q.one, so.few);
          same = rw d.width at a;
          counted = omega (arith, q.one, b);
        }

-- `text_width`: n is where the text is cut
pub first_is : (n : ℕ) (text : List ℕ) → n ≡ min (length text) 65000 → take n text ≡ take 65000 text
first_is n text e =
    let m : n ≡ min 65000 (length text) = omega arith in
    rw m (take_min 65000 text)
