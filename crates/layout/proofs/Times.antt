-- Whether long times hold makes no difference to the [np] of a message.
use Prim.Native.Nat.{ℕ, ◌+◌, ◌-◌}
use mathlib.Core.Path.{◌≡◌, refl, sym, ◌∙◌}
use mathlib.Core.Bool.{Bool, true, false}
use mathlib.Core.List.{List}
use lib.Dec.{leb}
use lib.ListN.{length, take, drop}
use Rattle.std.specs.Prelude.{Option, Some, None, Result, Err, ok_or}
use Rattle.base.specs.Pick.{pick}
use Rattle.token.specs.declared.Shape.{Shape}
use Rattle.token.specs.declared.Shape.TheVariants.{Bracket, Tag, Stray, Text as TextShape}
use Rattle.token.specs.Token.{shape_of}
use Rattle.value.specs.declared.SyntaxError.{SyntaxError}
use Rattle.value.specs.declared.SyntaxError.TheVariants.{UnsupportedTag, UnsupportedTagValue}
use Rattle.value.specs.declared.Value.{Value}
use Rattle.value.specs.declared.Value.TheVariants.{PageTime}
use Rattle.part.specs.Part.{up_to, past}
use Rattle.param.specs.Param.{and_then, read_optional}
use Rattle.tag.specs.Tag.{most_time, page_time}
use Rattle.parse.specs.declared.Name.{Name}
use Rattle.parse.specs.declared.Name.TheVariants.{Cb, Cf, Cr, F, Fl, FlEnd, Fo, G, Hc, Jl, Jp, Ms, MsEnd, Mv, Nl, Np, Pb, Pt, Sc, ScEnd, Tr}
use Rattle.parse.specs.Parse.{name_of, name_len, by_name, named, tag_value}
use Rattle.reading.specs.Reading.{tag_item, shape_item, item_of}
use Rattle.layout.specs.Demand.{role_in}
use Rattle.layout.specs.Bounds.{breaks}

-- what is said ends a page: 1
abbrev breaks_in : Result Value SyntaxError → ℕ
breaks_in x = breaks (role_in x)

-- on and off times that were read, or not
times_break : (m n : Option (Option ℕ)) → 0 ≡ breaks_in (ok_or (and_then m λ a. and_then n λ b. Some (PageTime a b)) UnsupportedTagValue)
times_break None n = refl
times_break (Some a) None = refl
times_break (Some a) (Some b) = refl

time_breaks : (long : Bool) (p : List ℕ) → 0 ≡ breaks_in (ok_or (page_time long p) UnsupportedTagValue)
unfolding page_time
time_breaks long p = times_break (read_optional (most_time long) (up_to 111 p)) (read_optional (most_time long) (past 111 p))

module _ (end : ℕ) (p : List ℕ) where
  name_breaks : (n : Name) → breaks_in (ok_or (by_name true n end p) UnsupportedTagValue) ≡ breaks_in (ok_or (by_name false n end p) UnsupportedTagValue)
  name_breaks Cb = refl
  name_breaks Cf = refl
  name_breaks Cr = refl
  name_breaks F = refl
  name_breaks Fl = refl
  name_breaks FlEnd = refl
  name_breaks Fo = refl
  name_breaks G = refl
  name_breaks Hc = refl
  name_breaks Jl = refl
  name_breaks Jp = refl
  name_breaks Ms = refl
  name_breaks MsEnd = refl
  name_breaks Mv = refl
  name_breaks Nl = refl
  name_breaks Np = refl
  name_breaks Pb = refl
  name_breaks Pt = sym (time_breaks true p) ∙ time_breaks false p
  name_breaks Sc = refl
  name_breaks ScEnd = refl
  name_breaks Tr = refl

named_breaks : (n : Option Name) (end : ℕ) (l : List ℕ) → breaks_in (named true n end l) ≡ breaks_in (named false n end l)
named_breaks (Some n) end l = name_breaks end (drop (name_len n) l) n
named_breaks None end l = refl

value_breaks : (end : ℕ) (l : List ℕ) → breaks_in (tag_value true end l) ≡ breaks_in (tag_value false end l)
unfolding tag_value
value_breaks end l = named_breaks (name_of l) end l

pick_breaks : (t : Bool) (x y z : Result Value SyntaxError) → breaks_in x ≡ breaks_in y → breaks_in (pick t x z) ≡ breaks_in (pick t y z)
pick_breaks true x y z e = e
pick_breaks false x y z e = refl

module _ (at : ℕ) (s : List ℕ) where
  tag_breaks : breaks_in (tag_item true at s) ≡ breaks_in (tag_item false at s)
  unfolding tag_item
  tag_breaks =
      pick_breaks (leb 2 (length s)) _ _ (Err UnsupportedTag) (value_breaks (at + (length s - 1)) (take (length s - 1 - 1) (drop 1 s)))

  shape_breaks : (sh : Shape) → breaks_in (shape_item true sh at s) ≡ breaks_in (shape_item false sh at s)
  shape_breaks Bracket = refl
  shape_breaks Tag = tag_breaks
  shape_breaks Stray = refl
  shape_breaks TextShape = refl

pub same_breaks : (long : Bool) (at : ℕ) (s : List ℕ) → breaks (role_in (item_of long at s)) ≡ breaks (role_in (item_of false at s))
unfolding item_of
same_breaks true at s = shape_breaks at s (shape_of s)
same_breaks false at s = refl
