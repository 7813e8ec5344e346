-- What the count of characters looked up says of a text.
use Prim.Native.Nat.{ℕ, suc}
use mathlib.Core.Path.{◌≡◌, refl, ap}
use mathlib.Core.List.{List, [], ◌∷◌, ◌++◌}
use lib.ListN.{length}
use Rattle.sign.specs.Sign.{Character}
use Rattle.font.specs.Character.{character_in}
use Rattle.font.specs.Measure.{widened, with_width, width_after, text_width, looked_on, looked_up}
use Rattle.font.specs.Counts.{Counts}
use Rattle.font.specs.declared.Found.{Found}
use Rattle.font.specs.declared.Missing.{Missing}
use Rattle.std.specs.Prelude.{Option, Some, None, Ok, Err}

module _ (chs : List Character) (spacing : ℕ) where
  -- after a width so far
  all_after : (w v : ℕ) (l : List ℕ) → width_after chs spacing w l ≡ Ok v → looked_up chs l ≡ length l
  unfolding width_after looked_up
  all_after w v [] e = refl
  all_after w v (c ∷ l) e = go (character_in c chs) (λ more. all_after (widened w spacing more) v l) e
    where
      go : (f : Option Found) → ((more : ℕ) → width_after chs spacing (widened w spacing more) l ≡ Ok v → looked_up chs l ≡ length l)
          → with_width f c (λ more. width_after chs spacing (widened w spacing more) l) ≡ Ok v → suc (looked_on f (looked_up chs l)) ≡ suc (length l)
      go (Some f) k d = ap suc (k f.width d)
      go None k d = cc

  record UpAfter (w : ℕ) (l : List ℕ) (c : ℕ) : Type 0 where
    earlier : List ℕ
    later : List ℕ
    width : ℕ
    parts : l ≡ earlier ++ (c ∷ later)
    known : width_after chs spacing w earlier ≡ Ok width
    unknown : character_in c chs ≡ None
    count : looked_up chs l ≡ suc (length earlier)

  up_after : (w c : ℕ) (l : List ℕ) → width_after chs spacing w l ≡ Err (record { code = c }) → UpAfter w l c
  unfolding width_after looked_up
  up_after w c [] e = cc
  up_after w c (b ∷ l) e = go (character_in b chs) refl (λ more. up_after (widened w spacing more) c l) e
    where
      go : (f : Option Found) → character_in b chs ≡ f
          → ((more : ℕ) → width_after chs spacing (widened w spacing more) l ≡ Err (record { code = c }) → UpAfter (widened w spacing more) l c)
          → with_width f b (λ more. width_after chs spacing (widened w spacing more) l) ≡ Err (record { code = c }) → UpAfter w (b ∷ l) c
      go (Some f) p k d =
          let u : UpAfter (widened w spacing f.width) l c = k f.width d in
          record {
            earlier = b ∷ u.earlier;
            later = u.later;
            width = u.width;
            parts = ap (λ (x : List ℕ). b ∷ x) u.parts;
            known = rw p u.known;
            unknown = u.unknown;
            count = rw p (ap suc u.count);
          }
      go None p k d =
          let same : record { code = b } ≡ record { code = c } = cc in
          let s : b ≡ c = ap (λ (m : Missing). m.code) same in
          record { earlier = []; later = l; width = w; parts = rw s; known = refl; unknown = rw (← s) p; count = rw p }

pub counts : (chs : List Character) (spacing : ℕ) (l : List ℕ) → Counts chs spacing l
unfolding text_width
counts chs spacing l =
    record {
      all = λ w e. all_after chs spacing 0 w l e;
      up_to = λ c e.
          let u : UpAfter chs spacing 0 l c = up_after chs spacing 0 c l e in
          record {
            earlier = u.earlier;
            later = u.later;
            width = u.width;
            parts = u.parts;
            known = u.known;
            unknown = u.unknown;
            count = u.count;
          };
    }
