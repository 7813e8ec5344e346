-- How many characters a span's measure looks up at most.
use Prim.Native.Nat.{ℕ, zero, suc, ◌≤◌, ◌<◌}
use native.Mathlib.Omega.{arith}
use mathlib.Core.Path.{◌≡◌}
use mathlib.Core.Bool.{Bool, true, false}
use mathlib.Core.List.{List, [], ◌∷◌}
use lib.Dec.{eqb}
use lib.ListN.{length, take, drop, length-take}
use Rattle.std.specs.Prelude.{Option, Some, None, sum_by}
use Rattle.std.proofs.lemmas.List.Folds.{fold-map}
use Rattle.base.specs.Pick.{pick}
use Rattle.utf8.specs.Utf8.{extra, codes, codes_from}
use Rattle.sign.specs.Sign.{Character, Font, Sign}
use Rattle.font.specs.Character.{character_in, letters_of}
use Rattle.font.specs.Table.{font_numbered}
use Rattle.font.specs.Measure.{looked_on, looked_up}
use Rattle.font.specs.declared.Found.{Found}
use Rattle.layout.specs.declared.Entry.{Entry}
use Rattle.layout.specs.declared.Rect.{Rect}
use Rattle.layout.specs.Types.{Board}
use Rattle.layout.specs.Fonts.{chars_of}
use Rattle.layout.specs.Placing.{record_of, pass_records}
use Rattle.counts.specs.Placing.{fonts_in, capitals_in, looked_in, chars_looked}

-- ---- at most

looked_most : (chs : List Character) (l : List ℕ) → looked_up chs l ≤ length l
unfolding looked_up
looked_most chs [] = omega arith
looked_most chs (c ∷ l) = go (character_in c chs) (looked_most chs l)
  where
    go : (f : Option Found) → looked_up chs l ≤ length l → suc (looked_on f (looked_up chs l)) ≤ suc (length l)
    go (Some x) h = omega arith
    go None h = omega arith

codes_most : (k : ℕ) (l : List ℕ) → length (codes_from k l) ≤ length l
unfolding codes_from
codes_most k [] = omega arith
codes_most zero (b ∷ l) = omega (arith, codes_most (extra b) l)
codes_most (suc k) (b ∷ l) = omega (arith, codes_most k l)

text_most : (msg : List ℕ) (start len : ℕ) → length (codes (take len (drop start msg))) ≤ len
unfolding codes
text_most msg start len = omega (arith, codes_most 0 (take len (drop start msg)), length-take len (drop start msg))

-- no more than the span has bytes, or one
chars_most : (msg : List ℕ) (e : Entry) (n : ℕ) → e.len ≤ n → 0 < n → length (chars_of msg e) ≤ n
chars_most msg e n h k = go (eqb e.kind 0) (eqb e.kind 1)
  where
    go : (t u : Bool) → length (pick t (codes (take e.len (drop e.start msg))) (pick u (e.code ∷ []) [])) ≤ n
    go true u = omega (arith, text_most msg e.start e.len)
    go false true = omega arith
    go false false = omega arith

pub looked_few : (msg : List ℕ) (e : Entry) (capitals : Bool) (o : Option Font) (n : ℕ) → e.len ≤ n → 0 < n → looked_in capitals (chars_of msg e) o ≤ n
looked_few msg e capitals None n h k = omega arith
looked_few msg e capitals (Some f) n h k =
    omega (arith, looked_most (letters_of capitals f.characters) (chars_of msg e), chars_most msg e n h k)

-- ---- the records of a pass tell what is looked up for its spans

module _ (sign : Sign) (msg : List ℕ) (s : Board) (r : Rect) (es : List Entry) where
  pub looked_pass : chars_looked sign msg (pass_records s r es)
      ≡ sum_by (λ e. looked_in (capitals_in sign) (chars_of msg e) (font_numbered e.state.font (fonts_in sign))) es
  unfolding pass_records record_of
  looked_pass = fold-map _ (record_of s r es) 0 es
