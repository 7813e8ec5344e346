-- A tag is no text: whatever its name, its value is another one.
use Prim.Native.Nat.{ℕ}
use mathlib.Core.Bool.{Bool, true, false}
use mathlib.Core.List.{List}
use lib.ListN.{drop}
use Rattle.std.specs.Prelude.{Option, Some, None, Result, Ok, Err, ok_or}
use Rattle.base.specs.Pick.{pick}
use Rattle.value.specs.declared.MovingTextMode.{MovingTextMode}
use Rattle.value.specs.declared.SyntaxError.{SyntaxError}
use Rattle.value.specs.declared.SyntaxError.TheVariants.{UnsupportedTagValue}
use Rattle.value.specs.declared.Value.{Value}
use Rattle.param.specs.Param.{and_then}
use Rattle.tag.specs.Tag.{new_line, new_page, font, justification_line, justification_page, page_time, page_background, color_foreground, color_background, color_rectangle, text_rectangle, spacing_character, hexadecimal_character, flash_on, flash_off, flash_time, field, graphic_at, graphic, spacing_character_end, flash_end}
use Rattle.parse.specs.declared.Name.{Name}
use Rattle.parse.specs.declared.Name.TheVariants.{Cb, Cf, Cr, F, Fl, FlEnd, Fo, G, Hc, Jl, Jp, Ms, MsEnd, Mv, Nl, Np, Pb, Pt, Sc, ScEnd, Tr}
use Rattle.parse.specs.Parse.{manufacturer_specific, manufacturer_specific_end, moving_text_mode, moving_text_linear, moving_text, name_of, name_len, by_name, named, tag_value}
use Rattle.layout.specs.Demand.{Role, text, hexadecimal, rectangle, page_just, new_page as page_role, other, role_of}

abbrev pub NoText : Role → Type 0
NoText (text p) = ⊥
NoText hexadecimal = Unit {0}
NoText (rectangle r) = Unit {0}
NoText (page_just j) = Unit {0}
NoText page_role = Unit {0}
NoText other = Unit {0}

-- a tag's value is no text, if it has one
pub data TagLike : Option Value → Type 0 where
  good : {v : Value} → NoText (role_of v) → TagLike (Some v)
  bad : TagLike None

-- each way in which a parser goes on
pick_tag : (t : Bool) {a b : Option Value} → TagLike a → TagLike b → TagLike (pick t a b)
pick_tag true p q = p
pick_tag false p q = q

then_tag : {A : Type 0} (m : Option A) (f : A → Option Value) → ((x : A) → TagLike (f x)) → TagLike (and_then m f)
then_tag (Some x) f h = h x
then_tag None f h = bad

ruleset tags = (good, bad, pick_tag, then_tag)

module _ (long : Bool) (end : ℕ) (p : List ℕ) where
  mode_tag : (m : MovingTextMode) (l : List ℕ) → TagLike (moving_text_mode end m l)
  unfolding moving_text_mode
  mode_tag m l = search (tags) depth 12

  linear_tag : (l : List ℕ) → TagLike (moving_text_linear end l)
  unfolding moving_text_linear
  linear_tag l = search (tags, mode_tag) depth 12

  new_line_tag : TagLike (new_line p)
  unfolding new_line
  new_line_tag = search (tags) depth 12

  new_page_tag : TagLike (new_page p)
  unfolding new_page
  new_page_tag = search (tags) depth 12

  font_tag : TagLike (font p)
  unfolding font
  font_tag = search (tags) depth 12

  justification_line_tag : TagLike (justification_line p)
  unfolding justification_line
  justification_line_tag = search (tags) depth 12

  justification_page_tag : TagLike (justification_page p)
  unfolding justification_page
  justification_page_tag = search (tags) depth 12

  page_time_tag : TagLike (page_time long p)
  unfolding page_time
  page_time_tag = search (tags) depth 12

  page_background_tag : TagLike (page_background p)
  unfolding page_background
  page_background_tag = search (tags) depth 12

  color_foreground_tag : TagLike (color_foreground p)
  unfolding color_foreground
  color_foreground_tag = search (tags) depth 12

  color_background_tag : TagLike (color_background p)
  unfolding color_background
  color_background_tag = search (tags) depth 12

  color_rectangle_tag : TagLike (color_rectangle p)
  unfolding color_rectangle
  color_rectangle_tag = search (tags) depth 12

  text_rectangle_tag : TagLike (text_rectangle p)
  unfolding text_rectangle
  text_rectangle_tag = search (tags) depth 12

  spacing_character_tag : TagLike (spacing_character p)
  unfolding spacing_character
  spacing_character_tag = search (tags) depth 12

  hexadecimal_character_tag : TagLike (hexadecimal_character p)
  unfolding hexadecimal_character
  hexadecimal_character_tag = search (tags) depth 12

  flash_on_tag : (l : List ℕ) → TagLike (flash_on l)
  unfolding flash_on
  flash_on_tag l = search (tags) depth 12

  flash_off_tag : (l : List ℕ) → TagLike (flash_off l)
  unfolding flash_off
  flash_off_tag l = search (tags) depth 12

  flash_time_tag : TagLike (flash_time p)
  unfolding flash_time
  flash_time_tag = search (tags, flash_on_tag, flash_off_tag) depth 12

  field_tag_law : TagLike (field p)
  unfolding field
  field_tag_law = search (tags) depth 12

  graphic_at_tag : (n : ℕ) (l : List ℕ) → TagLike (graphic_at n l)
  unfolding graphic_at
  graphic_at_tag n l = search (tags) depth 12

  graphic_tag : TagLike (graphic p)
  unfolding graphic
  graphic_tag = search (tags, graphic_at_tag) depth 12

  spacing_character_end_tag : TagLike (spacing_character_end p)
  unfolding spacing_character_end
  spacing_character_end_tag = search (tags) depth 12

  flash_end_tag : TagLike (flash_end p)
  unfolding flash_end
  flash_end_tag = search (tags) depth 12

  manufacturer_specific_tag : TagLike (manufacturer_specific end p)
  unfolding manufacturer_specific
  manufacturer_specific_tag = search (tags) depth 12

  manufacturer_specific_end_tag : TagLike (manufacturer_specific_end end p)
  unfolding manufacturer_specific_end
  manufacturer_specific_end_tag = search (tags) depth 12

  moving_text_tag : TagLike (moving_text end p)
  unfolding moving_text
  moving_text_tag = search (tags, mode_tag, linear_tag) depth 12

  name_tag : (n : Name) → TagLike (by_name long n end p)
  name_tag Cb = color_background_tag
  name_tag Cf = color_foreground_tag
  name_tag Cr = color_rectangle_tag
  name_tag F = field_tag_law
  name_tag Fl = flash_time_tag
  name_tag FlEnd = flash_end_tag
  name_tag Fo = font_tag
  name_tag G = graphic_tag
  name_tag Hc = hexadecimal_character_tag
  name_tag Jl = justification_line_tag
  name_tag Jp = justification_page_tag
  name_tag Ms = manufacturer_specific_tag
  name_tag MsEnd = manufacturer_specific_end_tag
  name_tag Mv = moving_text_tag
  name_tag Nl = new_line_tag
  name_tag Np = new_page_tag
  name_tag Pb = page_background_tag
  name_tag Pt = page_time_tag
  name_tag Sc = spacing_character_tag
  name_tag ScEnd = spacing_character_end_tag
  name_tag Tr = text_rectangle_tag

-- what a slice says is no text
abbrev pub NoTextIn : Result Value SyntaxError → Type 0
NoTextIn (Ok v) = NoText (role_of v)
NoTextIn (Err e) = Unit {0}

parsed_tag : {o : Option Value} → TagLike o → NoTextIn (ok_or o UnsupportedTagValue)
parsed_tag (good h) = h
parsed_tag bad = tt

named_tag : (long : Bool) (n : Option Name) (end : ℕ) (l : List ℕ) → NoTextIn (named long n end l)
named_tag long (Some n) end l = parsed_tag (name_tag long end (drop (name_len n) l) n)
named_tag long None end l = tt

pub tag_value_law : (long : Bool) (end : ℕ) (l : List ℕ) → NoTextIn (tag_value long end l)
unfolding tag_value
tag_value_law long end l = named_tag long (name_of l) end l
