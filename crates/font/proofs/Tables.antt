-- A font by its number, and what holds of one that is found.
use Prim.Native.Nat.{ℕ, ◌-◌}
use mathlib.Core.Path.{◌≡◌, refl, sym, ◌∙◌, ap, subst}
use mathlib.Core.List.{List, [], ◌∷◌, map}
use mathlib.Core.Bool.{Bool, true, false, cond}
use lib.Dec.{eqb}
use lib.ListN.{length, take, length-map}
use lib.Seq.{take_at}
use borrow.Author.Tests.{eqb-true}
use Rattle.std.specs.Prelude.{Some}
use Rattle.std.specs.List.{find}
use Rattle.base.specs.Pick.{pick}
use Rattle.sign.specs.Sign.{Font}
use Rattle.sign.specs.Given.{entry_of, no_fonts}
use Rattle.sign.specs.Accepted.{Each, each_none, each_more}
use Rattle.sign.specs.declared.FontEntry.{FontEntry}
use Rattle.sign.specs.declared.SignFile.{SignFile}
use Rattle.sign.proofs.Answer.{Accepts}
use Rattle.font.specs.Table.{font_numbered, entry_numbered, entry_found}

-- `font_numbered`: the first entry with the number
pub numbered_find : (n : ℕ) (es : List FontEntry) → entry_numbered n es ≡ find (λ (e : FontEntry). eqb e.number n) es
unfolding entry_numbered
numbered_find n [] = refl
numbered_find n (e ∷ es) = go (eqb e.number n) (numbered_find n es)
  where
    go : (t : Bool) → entry_numbered n es ≡ find (λ (x : FontEntry). eqb x.number n) es
        → pick t (Some e) (entry_numbered n es) ≡ cond t (Some e) (find (λ (x : FontEntry). eqb x.number n) es)
    go true p = refl
    go false p = p

-- what is found in the table is what is found among the fonts
pub numbered_is : (n : ℕ) (fs : List Font) → entry_numbered n (map entry_of fs) ≡ entry_found (font_numbered n fs)
unfolding entry_numbered
numbered_is n [] = refl
numbered_is n (f ∷ fs) = go (eqb f.number n) (numbered_is n fs)
  where
    go : (t : Bool) → entry_numbered n (map entry_of fs) ≡ entry_found (font_numbered n fs)
        → pick t (Some (entry_of f)) (entry_numbered n (map entry_of fs)) ≡ entry_found (pick t (Some f) (font_numbered n fs))
    go true e = refl
    go false e = e

pub table_holds : (file : List ℕ) (r : SignFile) (a : Accepts file r) (n : ℕ)
    → entry_numbered n (take r.count r.fonts) ≡ entry_found (font_numbered n a.fs)
table_holds file r a n = rw list (numbered_is n a.fs)
  where
    list : take r.count r.fonts ≡ map entry_of a.fs
    list =
        ap (take r.count) a.table
        ∙ take_at (map entry_of a.fs) (no_fonts (24 - length a.fs)) r.count (length-map a.fs entry_of ∙ sym a.many)

-- a font that is found has the number, and what holds of each font
module _ (P : Font → Type 0) (n : ℕ) (f : Font) where
  pub named_good : (fs : List Font) → Each P fs → font_numbered n fs ≡ Some f → (f.number ≡ n) × P f
  named_good [] each_none e = cc
  named_good (g ∷ fs) (each_more p ps) e = go (eqb g.number n) refl (named_good fs ps) e
    where
      go : (t : Bool) → eqb g.number n ≡ t → (font_numbered n fs ≡ Some f → (f.number ≡ n) × P f)
          → pick t (Some g) (font_numbered n fs) ≡ Some f → (f.number ≡ n) × P f
      go true a k d =
          let same : g ≡ f = cc in
          (ap (λ (x : Font). x.number) (sym same) ∙ eqb-true g.number n a, subst P same p)
      go false a k d = k d
