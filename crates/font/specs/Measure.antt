-- Document 01, "Font measure": the width of a text in a font; document 02, A2: how many characters its measure looks up.
use Rattle.std.specs.Prelude.{ℕ, suc, ◌+◌, List, [], ◌∷◌, ltb, Option, Some, None, Result, Ok, Err}
use Rattle.base.specs.Pick.{pick}
use Rattle.sign.specs.Sign.{Character}
use Rattle.font.specs.Character.{character_in}
use Rattle.font.specs.declared.Found.{Found}
use Rattle.font.specs.declared.Looked.{Looked}
use Rattle.font.specs.declared.Missing.{Missing}

-- a text's width, or the code of its first character that the font does not define
abbrev pub Measure : Type 0
Measure = Result ℕ Missing

-- a width with one character more: "Spacing is added before a character only if the width so far is above 0"
unfoldable pub widened : ℕ → ℕ → ℕ → ℕ
widened w spacing more = w + (pick (ltb 0 w) spacing 0 + more)

-- goes on with a character's width, or stops at a code that the font does not define
abbrev pub with_width : Option Found → ℕ → (ℕ → Measure) → Measure
with_width (Some f) code on = on f.width
with_width None code on = Err (record { code = code })

-- the codes of a text, after a width so far
unfoldable pub width_after : List Character → ℕ → ℕ → List ℕ → Measure
width_after chs spacing w [] = Ok w
width_after chs spacing w (c ∷ l) = with_width (character_in c chs) c (λ more. width_after chs spacing (widened w spacing more) l)

-- `text_width` of a text with these codes
unfoldable pub text_width : List Character → ℕ → List ℕ → Measure
text_width chs spacing l = width_after chs spacing 0 l

-- goes on after a character that is found, with those to come; stops at one that the font does not define
abbrev pub looked_on : Option Found → ℕ → ℕ
looked_on (Some f) later = later
looked_on None later = 0

-- A2: "look each character up once" and answer "how many characters of the text it looked up": each counts one, the missing one too
unfoldable pub looked_up : List Character → List ℕ → ℕ
looked_up chs [] = 0
looked_up chs (c ∷ l) = suc (looked_on (character_in c chs) (looked_up chs l))

-- what the measure of a text with these codes answers: "The measure also answers how many characters of the text it looked up"
abbrev pub measure_of : List Character → ℕ → List ℕ → Looked
measure_of chs spacing l = record { measure = text_width chs spacing l; count = looked_up chs l }
