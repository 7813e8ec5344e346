-- The items of a message: their starts rise, their texts start with their slices, and what they print is what the slices print.
use Prim.Native.Nat.{ℕ, zero, suc, ◌+◌, ◌-◌, ◌*◌, ◌≤◌, ◌<◌}
use native.Mathlib.Omega.{arith}
use native.Mathlib.Nat.{le_refl}
use mathlib.Core.Path.{◌≡◌, refl}
use mathlib.Core.Bool.{Bool, true, false}
use mathlib.Core.List.{List, [], ◌∷◌, map}
use lib.Dec.{leb, eqb}
use lib.ListN.{length, take, get_or, length-take}
use borrow.Author.Tests.{eqb-true, eqb-false}
use Rattle.std.specs.Prelude.{Result, Ok, Err}
use Rattle.base.specs.Pick.{pick}
use Rattle.utf8.specs.Utf8.{codes, all_latin1}
use Rattle.token.specs.declared.Shape.{Shape}
use Rattle.token.specs.declared.Shape.TheVariants.{Bracket, Tag, Stray, Text as TextShape}
use Rattle.token.specs.Token.{is_pair, last_byte, slice_len, Slice, cuts, slices, rest_len, shape_of}
use Rattle.value.specs.declared.SyntaxError.{SyntaxError}
use Rattle.value.specs.declared.SyntaxError.TheVariants.{UnsupportedTag, Other}
use Rattle.value.specs.declared.Value.{Value}
use Rattle.records.specs.declared.Config.{Config}
use Rattle.reading.specs.Reading.{tag_item, text_item, shape_item, item_of}
use Rattle.token.proofs.Laws.{slice_le, text_then}
use Rattle.layout.specs.Types.{Item, item_at, items}
use Rattle.layout.specs.Demand.{Role, text, hexadecimal, rectangle, page_just, new_page as page_role, other, In, here, there, role_of, role_in, Reads, printed_slice, printed, From, Rises}
use Rattle.layout.proofs.Cover.{printed_of, printed_items, Within, Honest, item_starts}
use Rattle.layout.proofs.Tags.{NoText, NoTextIn, tag_value_law}

-- ---- an item

-- a slice of n bytes at a place: its text starts there, and its value prints what the slice prints
record Fits (sh : Shape) (a n : ℕ) (x : Result Value SyntaxError) : Type 0 where
  starts : Within a n x
  prints : Reads x → printed_of (role_in x) a n ≡ printed_slice x sh a n

role_fits : (a n : ℕ) (v : Value) (r : Role) → role_of v ≡ r → NoText r → Fits Tag a n (Ok v)
role_fits a n v (text p) e h = absurd h
role_fits a n v hexadecimal e h = record { starts = rw e tt; prints = λ _. rw e }
role_fits a n v (rectangle r) e h = record { starts = rw e tt; prints = λ _. rw e }
role_fits a n v (page_just j) e h = record { starts = rw e tt; prints = λ _. rw e }
role_fits a n v page_role e h = record { starts = rw e tt; prints = λ _. rw e }
role_fits a n v other e h = record { starts = rw e tt; prints = λ _. rw e }

fails_fits : (sh : Shape) (a n : ℕ) (e : SyntaxError) → Fits sh a n (Err e)
fails_fits sh a n e = record { starts = tt; prints = λ f. absurd f }

parsed_fits : (a n : ℕ) (x : Result Value SyntaxError) → NoTextIn x → Fits Tag a n x
parsed_fits a n (Ok v) h = role_fits a n v (role_of v) refl h
parsed_fits a n (Err e) h = fails_fits Tag a n e

pick_fits : (sh : Shape) (a n : ℕ) (t : Bool) {x y : Result Value SyntaxError} → Fits sh a n x → Fits sh a n y → Fits sh a n (pick t x y)
pick_fits sh a n true p q = p
pick_fits sh a n false p q = q

module _ (long : Bool) (a : ℕ) (s : List ℕ) (h : 1 ≤ length s) where
  tag_fits : Fits Tag a (length s) (tag_item long a s)
  unfolding tag_item
  tag_fits = pick_fits Tag a (length s) (leb 2 (length s)) (parsed_fits a (length s) _ (tag_value_law _ _ _)) (fails_fits Tag a (length s) UnsupportedTag)

  text_fits : Fits TextShape a (length s) (text_item a s)
  unfolding text_item
  text_fits =
      pick_fits TextShape a (length s) (all_latin1 (codes s)) (record { starts = (refl, le_refl _); prints = λ _. refl })
      (fails_fits TextShape a (length s) Other)

  shape_fits : (sh : Shape) → Fits sh a (length s) (shape_item long sh a s)
  shape_fits Bracket = record { starts = (refl, h); prints = λ _. refl }
  shape_fits Tag = tag_fits
  shape_fits Stray = fails_fits Stray a (length s) UnsupportedTag
  shape_fits TextShape = text_fits

  item_fits : Fits (shape_of s) a (length s) (item_of long a s)
  unfolding item_of
  item_fits = shape_fits (shape_of s)

  pub item_within : Within a (length s) (item_of long a s)
  item_within = item_fits.starts

-- ---- the items of a message

cuts_honest : (c : Config) (at k : ℕ) (l : List ℕ) → Honest (map (item_at c) (cuts at k l))
cuts_honest c at k [] = tt
cuts_honest c at zero (b ∷ l) =
    ((item_fits c.long_times at (b ∷ take (rest_len b l) l) (omega arith)).starts, cuts_honest c (suc at) (rest_len b l) l)
cuts_honest c at (suc k) (b ∷ l) = cuts_honest c (suc at) k l

abbrev AllRead : Config → List Slice → Type 0
AllRead c ss = (s : Slice) → In s ss → Reads (item_at c s).says

cuts_printed : (c : Config) (at k : ℕ) (l : List ℕ) → AllRead c (cuts at k l) → printed_items (map (item_at c) (cuts at k l)) ≡ printed c (cuts at k l)
cuts_printed c at k [] h = refl
cuts_printed c at zero (b ∷ l) h =
    rw (
      (item_fits c.long_times at (b ∷ take (rest_len b l) l) (omega arith)).prints (h _ here),
      cuts_printed c (suc at) (rest_len b l) l (λ s i. h s (there i)),
    )
cuts_printed c at (suc k) (b ∷ l) h = cuts_printed c (suc at) k l h

in_map : (c : Config) {s : Slice} {ss : List Slice} → In s ss → In (item_at c s) (map (item_at c) ss)
in_map c here = here
in_map c (there i) = there (in_map c i)

abbrev slice_starts : List Slice → List ℕ
slice_starts ss = map (λ e. e.start) ss

cuts_from : (n at k : ℕ) (cs : List ℕ) → n < at → From n (slice_starts (cuts at k cs))
cuts_from n at k [] h = tt
cuts_from n at zero (c ∷ cs) h = (h, cuts_from at (suc at) (rest_len c cs) cs (le_refl _))
cuts_from n at (suc k) (c ∷ cs) h = cuts_from n (suc at) k cs (omega arith)

cuts_rise : (at k : ℕ) (cs : List ℕ) → Rises (slice_starts (cuts at k cs))
cuts_rise at k [] = tt
cuts_rise at zero (c ∷ cs) = cuts_from at (suc at) (rest_len c cs) cs (le_refl _)
cuts_rise at (suc k) (c ∷ cs) = cuts_rise (suc at) k cs

starts_kept : (c : Config) (ss : List Slice) → item_starts (map (item_at c) ss) ≡ slice_starts ss
starts_kept c [] = refl
starts_kept c (x ∷ ss) = rw (starts_kept c ss)

module _ (c : Config) (msg : List ℕ) where
  pub items_honest : Honest (items c msg)
  unfolding items slices
  items_honest = cuts_honest c 0 0 msg

  -- the slices read if the items do
  pub slices_read : ((it : Item) → In it (items c msg) → Reads it.says) → (s : Slice) → In s (slices msg) → Reads (item_at c s).says
  unfolding items
  slices_read h s i = h (item_at c s) (in_map c i)

  pub items_printed : ((s : Slice) → In s (slices msg) → Reads (item_at c s).says) → printed_items (items c msg) ≡ printed c (slices msg)
  unfolding items slices
  items_printed h = cuts_printed c 0 0 msg h

  pub items_rise : Rises (item_starts (items c msg))
  unfolding items slices
  items_rise = rw (starts_kept c (cuts 0 0 msg)) (cuts_rise 0 0 msg)

-- ---- how many items a message has

-- 1 for an item that reads
abbrev pub okay : Result Value SyntaxError → ℕ
okay (Ok v) = 1
okay (Err e) = 0

pub reads_okay : (x : Result Value SyntaxError) → Reads x → okay x ≡ 1
reads_okay (Ok v) h = refl
reads_okay (Err e) h = absurd h

abbrev pub okays : List Item → ℕ
okays [] = 0
okays (it ∷ its) = okay it.says + okays its

-- a bracket stands at a place of a list, or its end
abbrev Bracketed : ℕ → List ℕ → Type 0
Bracketed k l = k < length l → (get_or l k 0 ≡ 91 → ⊥) → get_or l k 0 ≡ 93

-- two items in three bytes, and one byte more where the first may be a text
record Few (n len k : ℕ) (l : List ℕ) : Type 0 where
  upper : 3 * n ≤ 2 * len + 1
  strict : Bracketed k l → 3 * n ≤ 2 * len

rest_le : (b : ℕ) (l : List ℕ) → rest_len b l ≤ length l
unfolding slice_len
rest_le b l = omega (arith, slice_le (b ∷ l))

-- after a text comes a bracket, or the end
plain_next : (b : ℕ) (l : List ℕ) → (b ≡ 91 → ⊥) → (b ≡ 93 → ⊥) → Bracketed (rest_len b l) l
unfolding slice_len
plain_next b l n m h = text_then b l n m (omega arith)

okay_le : (x : Result Value SyntaxError) → okay x ≤ 1
okay_le (Ok v) = omega arith
okay_le (Err e) = omega arith

-- a bracket alone fails
lone_open : (long : Bool) (at : ℕ) → okay (item_of long at (91 ∷ [])) ≡ 0
unfolding item_of shape_of is_pair last_byte
lone_open long at = refl

lone_close : (long : Bool) (at : ℕ) → okay (item_of long at (93 ∷ [])) ≡ 0
unfolding item_of shape_of is_pair last_byte
lone_close long at = refl

bracket_okay : (long : Bool) (at b m : ℕ) (l : List ℕ) → okay (item_of long at (b ∷ [])) ≡ 0 → okay (item_of long at (b ∷ take m l)) ≤ m
bracket_okay long at b zero l e = omega arith
bracket_okay long at b (suc m) l e = omega (arith, okay_le (item_of long at (b ∷ take (suc m) l)))

module _ (long : Bool) (at b : ℕ) (l : List ℕ) (n : ℕ) (f : Few n (length l - rest_len b l) (rest_len b l) l) where
  abbrev first_okay : ℕ
  first_okay = okay (item_of long at (b ∷ take (rest_len b l) l))

  bracket_few : okay (item_of long at (b ∷ [])) ≡ 0 → Few (first_okay + n) (suc (length l)) 0 (b ∷ l)
  bracket_few e =
      let h : 3 * (first_okay + n) ≤ 2 * suc (length l) =
      omega (arith, rest_le b l, bracket_okay long at b (rest_len b l) l e, okay_le (item_of long at (b ∷ take (rest_len b l) l)), f.upper) in
      record { upper = omega arith; strict = λ t. h }

  plain_few : (b ≡ 91 → ⊥) → (b ≡ 93 → ⊥) → Few (first_okay + n) (suc (length l)) 0 (b ∷ l)
  plain_few p q =
      record {
        upper = omega (arith, okay_le (item_of long at (b ∷ take (rest_len b l) l)), f.strict (plain_next b l p q));
        strict = λ t. absurd (q (t (omega arith) p));
      }

  head_few : Few (first_okay + n) (suc (length l)) 0 (b ∷ l)
  head_few = look (eqb b 91) (eqb b 93) refl refl
    where
      look : (t u : Bool) → eqb b 91 ≡ t → eqb b 93 ≡ u → Few (first_okay + n) (suc (length l)) 0 (b ∷ l)
      look true u p q = bracket_few (rw (eqb-true b 91 p) (lone_open long at))
      look false true p q = bracket_few (rw (eqb-true b 93 q) (lone_close long at))
      look false false p q = plain_few (eqb-false b 91 p) (eqb-false b 93 q)

few : (c : Config) (at k : ℕ) (l : List ℕ) → Few (okays (map (item_at c) (cuts at k l))) (length l - k) k l
few c at k [] = record { upper = omega arith; strict = λ t. omega arith }
few c at zero (b ∷ l) =
    let n : ℕ = okays (map (item_at c) (cuts (suc at) (rest_len b l) l)) in
    let f : Few (okay (item_of c.long_times at (b ∷ take (rest_len b l) l)) + n) (suc (length l)) 0 (b ∷ l) =
    head_few c.long_times at b l n (few c (suc at) (rest_len b l) l) in
    record { upper = omega (arith, f.upper); strict = λ t. omega (arith, f.strict t) }
few c at (suc k) (b ∷ l) =
    let f : Few (okays (map (item_at c) (cuts (suc at) k l))) (length l - k) k l = few c (suc at) k l in
    record { upper = omega (arith, f.upper); strict = λ t. omega (arith, f.strict (λ h. t (omega arith))) }

-- ---- the items lie within the message

abbrev pub AllIn : ℕ → List Item → Type 0
AllIn top [] = Unit {0}
AllIn top (it ∷ its) = (it.start + it.len ≤ top) × AllIn top its

cuts_in : (c : Config) (top at k : ℕ) (l : List ℕ) → at + length l ≤ top → AllIn top (map (item_at c) (cuts at k l))
cuts_in c top at k [] h = tt
cuts_in c top at zero (b ∷ l) h =
    (omega (arith, length-take (rest_len b l) l), cuts_in c top (suc at) (rest_len b l) l (omega arith))
cuts_in c top at (suc k) (b ∷ l) h = cuts_in c top (suc at) k l (omega arith)

module _ (c : Config) (msg : List ℕ) where
  pub items_few : 3 * okays (items c msg) ≤ 2 * length msg + 1
  unfolding items slices
  items_few = omega (arith, (few c 0 0 msg).upper)

  pub items_in : AllIn (length msg) (items c msg)
  unfolding items slices
  items_in = cuts_in c (length msg) 0 0 msg (omega arith)
