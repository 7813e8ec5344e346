-- No listing needs more room: a message has at most 1,026 answers, and at most as many records as bytes.
use Prim.Native.Nat.{ℕ, zero, suc, ◌+◌, ◌-◌, ◌*◌, ◌≤◌, ◌<◌}
use native.Mathlib.Omega.{arith}
use mathlib.Core.Path.{◌≡◌, refl, ap, ◌∙◌}
use mathlib.Core.Bool.{Bool, true, false}
use Rattle.std.specs.Prelude.{Option, Some, None, Result, Ok, Err}
use mathlib.Core.List.{List, [], ◌∷◌, ◌++◌, map}
use lib.Dec.{leb, eqb}
use lib.ListN.{length, take, drop, length-append, length-take}
use Rattle.std.proofs.lemmas.List.{length-map}
use borrow.Author.Tests.{leb-true, leb-false, ne_eqb}
use Rattle.base.specs.Pick.{pick}
use Rattle.token.specs.declared.Shape.{Shape}
use Rattle.token.specs.declared.Shape.TheVariants.{Bracket, Tag, Stray, Text as TextShape}
use Rattle.token.specs.Token.{slice_len, cuts, slices, rest_len, shape_of}
use Rattle.token.proofs.Laws.{slice_le}
use Rattle.utf8.specs.Utf8.{codes, all_latin1}
use Rattle.number.specs.Number.{read_number, read_digits}
use Rattle.part.specs.Part.{lower, up_to}
use Rattle.value.specs.declared.SyntaxError.{SyntaxError}
use Rattle.value.specs.declared.SyntaxError.TheVariants.{UnsupportedTag, Other}
use Rattle.value.specs.declared.Value.{Value}
use Rattle.value.specs.declared.Value.TheVariants.{Text}
use Rattle.tag.specs.Tag.{field, graphic}
use Rattle.parse.specs.declared.Name.{Name}
use Rattle.parse.specs.declared.Name.TheVariants.{F, G}
use Rattle.parse.specs.Parse.{pair, end_name, first_name, name_by, name_of, named, tag_value}
use Rattle.reading.specs.Reading.{place, tag_item, text_item, shape_item, item_of}
use Rattle.refusal.specs.declared.Refusal.{Refusal}
use Rattle.records.specs.declared.Config.{Config}
use Rattle.layout.specs.declared.Span.{Span}
use Rattle.layout.specs.declared.Rect.{Rect}
use Rattle.layout.specs.declared.RenderState.{RenderState}
use Rattle.layout.specs.declared.Entry.{Entry}
use Rattle.layout.specs.Types.{Item, item_at, items, Board}
use Rattle.layout.specs.Placing.{pass_records, record_of}
use Rattle.layout.specs.declared.Scan.{Scan}
use Rattle.layout.specs.Read.{Event, pass, close, stop, opening, events}
use Rattle.layout.specs.Listing.{Page, on, stop_at, offs, pass_stop, walk, pages}
use Rattle.layout.specs.Demand.{Role, text, hexadecimal, rectangle, page_just, new_page, other, role_in}
use Rattle.layout.specs.Bounds.{breaks}
use Rattle.layout.proofs.Cover.{ReadAs, ends, refuses, goes, emits, cuts as cut_off, turns, fails, EventsAs, refused_at_once, begun, events_as, entries}
use Rattle.layout.proofs.Items.{okays, reads_okay, items_honest, items_few}
use Rattle.every.specs.All.{answers_in, records_in}

-- ---- the events of a message: its spans, and the ends of its pages

abbrev closes : List Event → ℕ
closes [] = 0
closes (pass r es ∷ evs) = closes evs
closes (close a b ∷ evs) = suc (closes evs)
closes (stop x ∷ evs) = closes evs

-- the items that are [np]
abbrev breaks_of : List Item → ℕ
breaks_of [] = 0
breaks_of (it ∷ its) = breaks (role_in it.says) + breaks_of its

record FewIn (spans ends : ℕ) (l : List Event) : Type 0 where
  entered : length (entries l) ≤ spans
  closed : closes l ≤ ends

read_few : {s : Config} {its : List Item} {st : RenderState} {acc : List Entry} {l : List Event} → ReadAs s its st acc l
    → FewIn (length acc + okays its) (breaks_of its) l
read_few (ends {acc = acc}) = record { entered = omega (arith, length-append acc []); closed = omega arith }
read_few (refuses f) = record { entered = omega arith; closed = omega arith }
read_few (goes f q r) = record { entered = omega (arith, (read_few r).entered); closed = omega (arith, (read_few r).closed) }
read_few (emits {it = it} {acc = acc} {e = e} f q o r) =
    record {
      entered = omega (arith, (read_few r).entered, length-append acc (e ∷ []), reads_okay it.says f.reads);
      closed = omega (arith, (read_few r).closed);
    }
read_few (cut_off {acc = acc} {l = l} f q r) =
    record { entered = omega (arith, (read_few r).entered, length-append acc (entries l)); closed = omega (arith, (read_few r).closed) }
read_few (turns {acc = acc} {l = l} f q r) =
    record { entered = omega (arith, (read_few r).entered, length-append acc (entries l)); closed = omega (arith, ap breaks q, (read_few r).closed) }
read_few (fails {acc = acc} f q x y e) = record { entered = omega (arith, length-append acc []); closed = omega (arith, ap breaks q) }

events_few : {s : Config} {its : List Item} {l : List Event} → EventsAs s its l → FewIn (okays its) (breaks_of its) l
events_few (refused_at_once a b e) = record { entered = omega arith; closed = omega arith }
events_few (begun r) = record { entered = omega (arith, (read_few r).entered); closed = (read_few r).closed }

-- ---- the answers and records of a walk

record FewOf (answers records n : ℕ) (l : List Page) : Type 0 where
  answered : length (answers_in n l) ≤ answers
  recorded : length (records_in l) ≤ records

offs_few : (a r n d : ℕ) (l : List Page) → FewOf a r n l → FewOf (suc a) r n (offs d l)
offs_few a r n zero l h = record { answered = omega (arith, h.answered); recorded = h.recorded }
offs_few a r n (suc d) l h = record { answered = omega (arith, h.answered); recorded = h.recorded }

stop_few : (a r n : ℕ) (f : Option Refusal) (l : List Page) → FewOf a r n l → FewOf a r n (stop_at f l)
stop_few a r n None l h = h
stop_few a r n (Some x) l h = record { answered = omega arith; recorded = omega arith }

on_few : (a r n d : ℕ) (rs : List Span) (l : List Page) → FewOf a r (n + length rs) l → FewOf (suc a) (length rs + r) n (on d rs ∷ l)
on_few a r n d rs l h = record { answered = omega (arith, h.answered); recorded = omega (arith, length-append rs (records_in l), h.recorded) }

pass_length : (s : Board) (r : Rect) (es : List Entry) → length (pass_records s r es) ≡ length es
unfolding pass_records
pass_length s r es = length-map es (record_of s r es)

none_few : (n : ℕ) → FewOf 0 0 n []
none_few n = record { answered = omega arith; recorded = omega arith }

more : (a a' r r' n : ℕ) (l : List Page) → a ≤ a' → r ≤ r' → FewOf a r n l → FewOf a' r' n l
more a a' r r' n l p q h = record { answered = omega (arith, h.answered); recorded = omega (arith, h.recorded) }

walk_few : (s : Board) (evs : List Event) (a b : ℕ) (rs : List Span) (k n : ℕ)
    → FewOf (2 * suc (closes evs)) (length rs + length (entries evs)) n (walk s evs a b rs k)
walk_few s [] a b rs k n = more 2 _ (length rs + 0) _ n _ (omega arith) (omega arith) (on_few 1 0 n a rs _ (offs_few 0 0 _ b [] (none_few _)))
walk_few s (pass r es ∷ evs) a b rs k n =
    stop_few _ _ n (pass_stop s k r es) _
    (more _ _ _ _ n _ (omega arith) (omega (arith, length-append rs (pass_records s r es), pass_length s r es, length-append es (entries evs)))
    (walk_few s evs a b (rs ++ pass_records s r es) (suc k) n))
walk_few s (close p q ∷ evs) a b rs k n =
    more (suc (suc (2 * suc (closes evs)))) _ _ _ n _ (omega arith) (omega arith)
    (on_few _ _ n a rs _ (offs_few _ _ (n + length rs) b _ (walk_few s evs p q [] 0 (n + length rs))))
walk_few s (stop r ∷ evs) a b rs k n = record { answered = omega arith; recorded = omega arith }

-- ---- [np] has four bytes

breaks_le : (r : Role) → breaks r ≤ 1
breaks_le (text p) = omega arith
breaks_le hexadecimal = omega arith
breaks_le (rectangle r) = omega arith
breaks_le (page_just j) = omega arith
breaks_le new_page = omega arith
breaks_le other = omega arith

-- the breaks of a tag
abbrev turned : Result Value SyntaxError → ℕ
turned p = breaks (role_in p)

-- two letters are no letter alone
alone : (a b c : ℕ) → 0 < c → c < 256 → eqb (pair a 0) (pair b c) ≡ false
alone a b c h k = ne_eqb (pair a 0) (pair b c) (λ e. omega (arith, e))

no_turn : (long : Bool) (end x : ℕ) (t u v : Bool)
    → turned (named long (pick t (Some F) (pick u (Some G) (pick v None None))) end (x ∷ [])) ≡ 0
unfolding field graphic read_number read_digits up_to
no_turn long end x true u v = refl
no_turn long end x false true v = refl
no_turn long end x false false true = refl
no_turn long end x false false false = refl

name_alone : (a : ℕ) → name_by a 0 0 ≡ pick (eqb a 102) (Some F) (pick (eqb a 103) (Some G) (pick (eqb a 47) None None))
unfolding name_by first_name end_name
name_alone a =
    rw (
      alone a 110 108 (omega arith) (omega arith),
      alone a 110 112 (omega arith) (omega arith),
      alone a 102 111 (omega arith) (omega arith),
      alone a 106 108 (omega arith) (omega arith),
      alone a 106 112 (omega arith) (omega arith),
      alone a 112 116 (omega arith) (omega arith),
      alone a 112 98 (omega arith) (omega arith),
      alone a 99 102 (omega arith) (omega arith),
      alone a 99 114 (omega arith) (omega arith),
      alone a 116 114 (omega arith) (omega arith),
      alone a 99 98 (omega arith) (omega arith),
      alone a 115 99 (omega arith) (omega arith),
      alone a 104 99 (omega arith) (omega arith),
      alone a 102 108 (omega arith) (omega arith),
      alone a 109 118 (omega arith) (omega arith),
      alone a 109 115 (omega arith) (omega arith),
    )

short_tag : (long : Bool) (end : ℕ) (l : List ℕ) → length l ≤ 1 → turned (tag_value long end l) ≡ 0
unfolding tag_value name_of lower
short_tag long end [] h = unfold name_by first_name end_name in refl
short_tag long end (x ∷ []) h =
    ap (λ (n : Option Name). turned (named long n end (x ∷ []))) (name_alone (lower x))
    ∙ no_turn long end x (eqb (lower x) 102) (eqb (lower x) 103) (eqb (lower x) 47)
short_tag long end (x ∷ y ∷ l) h = absurd (omega arith)

module _ (long : Bool) (at : ℕ) (s : List ℕ) where
  tag_four : 4 * breaks (role_in (tag_item long at s)) ≤ length s
  unfolding tag_item
  tag_four = look (leb 2 (length s)) (leb 4 (length s)) refl
    where
      look : (t u : Bool) → leb 4 (length s) ≡ u
          → 4 * breaks (role_in (pick t (tag_value long (at + (length s - 1)) (take (length s - 1 - 1) (drop 1 s))) (Err UnsupportedTag))) ≤ length s
      look false u q = omega arith
      look true true q =
          omega (arith, leb-true 4 (length s) q, breaks_le (role_in (tag_value long (at + (length s - 1)) (take (length s - 1 - 1) (drop 1 s)))))
      look true false q =
          omega (
            arith,
            short_tag long (at + (length s - 1)) (take (length s - 1 - 1) (drop 1 s))
                (omega (arith, length-take (length s - 1 - 1) (drop 1 s), leb-false 4 (length s) q)),
          )

  text_four : breaks (role_in (text_item at s)) ≡ 0
  unfolding text_item
  text_four = look (all_latin1 (codes s))
    where
      look : (t : Bool) → breaks (role_in (pick t (Ok (Text (place at (length s)))) (Err Other))) ≡ 0
      look true = refl
      look false = refl

  shape_four : (sh : Shape) → 4 * breaks (role_in (shape_item long sh at s)) ≤ length s
  shape_four Bracket = omega arith
  shape_four Tag = tag_four
  shape_four Stray = omega arith
  shape_four TextShape = omega (arith, text_four)

  item_four : 4 * breaks (role_in (item_of long at s)) ≤ length s
  unfolding item_of
  item_four = shape_four (shape_of s)

rest_le : (b : ℕ) (l : List ℕ) → rest_len b l ≤ length l
unfolding slice_len
rest_le b l = omega (arith, slice_le (b ∷ l))

cuts_four : (c : Config) (at k : ℕ) (l : List ℕ) → k ≤ length l → 4 * breaks_of (map (item_at c) (cuts at k l)) + k ≤ length l
cuts_four c at k [] h = omega arith
cuts_four c at zero (b ∷ l) h =
    let r : List ℕ = take (rest_len b l) l in
    omega (arith, item_four c.long_times at (b ∷ r), length-take (rest_len b l) l, rest_le b l, cuts_four c (suc at) (rest_len b l) l (rest_le b l))
cuts_four c at (suc k) (b ∷ l) h = omega (arith, cuts_four c (suc at) k l (omega arith))

items_four : (c : Config) (msg : List ℕ) → 4 * breaks_of (items c msg) ≤ length msg
unfolding items slices
items_four c msg = omega (arith, cuts_four c 0 0 msg (omega arith))

-- ---- the answers and records of a message

module _ (msg : List ℕ) (s : Board) where
  abbrev evs : List Event
  evs = events s.config (items s.config msg)

  events_in : FewIn (okays (items s.config msg)) (breaks_of (items s.config msg)) evs
  events_in = events_few (events_as s.config (items s.config msg) (items_honest s.config msg))

  pages_few : FewOf (2 * suc (closes evs)) (length (entries evs)) 0 (pages s (items s.config msg))
  unfolding pages
  pages_few =
      let o : Scan = opening s.config (items s.config msg) in
      more _ _ _ _ 0 _ (omega arith) (omega arith) (walk_few s evs o.on o.off [] 0 0)

  pub answers_few : length msg ≤ 2048 → length (answers_in 0 (pages s (items s.config msg))) ≤ 1026
  answers_few h = omega (arith, pages_few.answered, events_in.closed, items_four s.config msg)

  pub records_few : length (records_in (pages s (items s.config msg))) ≤ length msg
  records_few = omega (arith, pages_few.recorded, events_in.entered, items_few s.config msg)
