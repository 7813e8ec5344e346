-- Worked slices, by computation.
use Rattle.std.specs.Prelude.{ℕ, ◌≡◌, [], ◌∷◌}
use Prim.Native.String.{String}
use Rattle.base.specs.Text.{ascii}
use Rattle.token.specs.declared.Shape.TheVariants.{Bracket, Tag, Stray, Text}
use Rattle.token.specs.Token.{plain_len, tag_len, rest_len, Slice, slices, slices_from, is_pair, last_byte, shape_of}

abbrev at : ℕ → String → Slice
at n t = record { start = n; bytes = ascii t }

pub record Examples : Type 0 where
  pub empty : slices (ascii "") ≡ []
  pub opens : slices (ascii "[[") ≡ at 0 "[[" ∷ []
  pub close : slices (ascii "]]") ≡ at 0 "]]" ∷ []
  pub closes : slices (ascii "]]]") ≡ at 0 "]]" ∷ at 2 "]" ∷ []
  pub again : slices (ascii "[a[b]") ≡ at 0 "[a" ∷ at 2 "[b]" ∷ []
  pub stray : slices (ascii "a]b") ≡ at 0 "a" ∷ at 1 "]" ∷ at 2 "b" ∷ []
  pub ends : slices (ascii "ab[") ≡ at 0 "ab" ∷ at 2 "[" ∷ []
  pub three : slices (ascii "[[[nl]") ≡ at 0 "[[" ∷ at 2 "[nl]" ∷ []
  pub page : slices (ascii "[pt10o5]A[np]B") ≡ at 0 "[pt10o5]" ∷ at 8 "A" ∷ at 9 "[np]" ∷ at 13 "B" ∷ []
  pub from : slices_from 8 (ascii "[pt10o5]A[np]B") ≡ at 8 "A" ∷ at 9 "[np]" ∷ at 13 "B" ∷ []
  pub is_bracket : shape_of (ascii "]]") ≡ Bracket
  pub is_tag : shape_of (ascii "[]") ≡ Tag
  pub is_open : shape_of (ascii "[") ≡ Stray
  pub is_close : shape_of (ascii "]") ≡ Stray
  pub is_cut : shape_of (ascii "[nl") ≡ Stray
  pub is_text : shape_of (ascii "nl") ≡ Text

pub examples : Examples
unfolding plain_len tag_len rest_len slices is_pair last_byte shape_of
examples = search
