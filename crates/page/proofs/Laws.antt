-- The scan's ways on and out.
use Rattle.std.proofs.Common.{ℕ, ◌+◌, ◌≤◌, ◌≡◌, refl, sym, ◌∙◌, List, [], ◌∷◌, map, length, All, Bor}
use Rattle.std.specs.Prelude.{None, Result, Ok, Err, unwrap_or}
use Rattle.std.proofs.lemmas.List.Elements.{All-head, All-rest}
use Rattle.std.specs.declared.ops.ControlFlow.{ControlFlow}
use Rattle.std.specs.declared.ops.ControlFlow.TheVariants.{Continue, Break}
use Rattle.token.specs.Token.{Slice, slice_at, slices_from}
use Rattle.token.proofs.Laws.{EndsBy, slices_within}
use Rattle.value.specs.declared.SyntaxError.{SyntaxError}
use Rattle.reading.specs.Reading.{place}
use Rattle.records.specs.declared.Config.{Config}
use Rattle.layout.specs.declared.Mark.{Mark}
use Rattle.layout.specs.declared.Mark.TheVariants.{Plain, Ends, Timed}
use Rattle.layout.specs.declared.Scan.{Scan}
use Rattle.layout.specs.Types.{Item, item_at}
use Rattle.layout.specs.Read.{mark_item, scan_by, scan}
use Rattle.page.specs.declared.Times.{Times}
use Rattle.page.specs.Scan.{end_of, look_by, look_at, items_from}

-- one item
module _ (c : Config) (t : Times) (it : Item) (next : ℕ → ℕ → Scan) where
  stop_mark : (m : Result Mark SyntaxError) (s : Scan) → look_by c t (place it.start it.len) m ≡ Break s → s ≡ scan_by c t.on t.off it m next
  stop_mark (Ok Plain) s e = cc
  stop_mark (Ok Ends) s e = cc
  stop_mark (Ok (Timed p q)) s e = cc
  stop_mark (Err n) s e = cc

  on_mark : (m : Result Mark SyntaxError) (z : Times) → look_by c t (place it.start it.len) m ≡ Continue z → next z.on z.off ≡ scan_by c t.on t.off it m next
  on_mark (Ok Plain) z e =
      let k : z ≡ t = cc in
      rw k
  on_mark (Ok Ends) z e = cc
  on_mark (Ok (Timed x y)) z e =
      let k : z ≡ record { on = unwrap_or x c.on_time; off = unwrap_or y c.off_time } = cc in
      rw k
  on_mark (Err n) z e = cc

-- the scan of the slices that are left
abbrev pub scan_left : Config → Times → List Slice → Scan
scan_left c t ss = scan c t.on t.off (map (item_at c) ss)

-- the loop of `scan`: with the times so far, the slices that are left have the scan of the page, and each ends within the message
unfoldable pub Going : Config → Scan → Times → List Slice → Type 0
Going c of t ss = (scan_left c t ss ≡ of) × All (EndsBy 2048) ss

pub going_start : (c : Config) (t : Times) (from : ℕ) (msg : List ℕ) (ss : List Slice) → ss ≡ slices_from from msg → length msg ≤ 2048
    → Going c (scan c t.on t.off (items_from c from msg)) t ss
unfolding Going items_from
going_start c t from msg ss e h = rw e (refl, slices_within 2048 from msg h)

-- the slice of the bytes s at a place is the first of those left
module _ (c : Config) (of : Scan) (t : Times) (at : ℕ) (s : Bor (List ℕ)) (ss all : List Slice) where
  abbrev it : Item
  it = item_at c (slice_at (at, s))

  abbrev says : Result Mark SyntaxError
  says = mark_item c.tags it.says

  abbrev next : ℕ → ℕ → Scan
  next p q = scan c p q (map (item_at c) ss)

  pub going_ends : all ≡ slice_at (at, s) ∷ ss → Going c of t all → at + length s.now ≤ 2048
  unfolding Going
  going_ends e g = All-head (EndsBy 2048) (slice_at (at, s)) ss (rw e at g.1)

  -- r is what `look_at` answers of it
  module _ (r : ControlFlow Scan Times) where
    pub going_stop : (x : Scan) → r ≡ Break x → r ≡ look_at c t at s.now → all ≡ slice_at (at, s) ∷ ss → Going c of t all → x ≡ of
    unfolding Going
    going_stop x k f e g = stop_mark c t it next says x (sym f ∙ k) ∙ (rw e at g.0)

    pub going_on : (z : Times) → r ≡ Continue z → r ≡ look_at c t at s.now → all ≡ slice_at (at, s) ∷ ss → Going c of t all → Going c of z ss
    unfolding Going
    going_on z k f e g = (on_mark c t it next says z (sym f ∙ k) ∙ (rw e at g.0), All-rest (EndsBy 2048) (slice_at (at, s)) ss all e g.1)

pub going_end : (c : Config) (of : Scan) (t : Times) (all : List Slice) → all ≡ [] → Going c of t all → end_of t None ≡ of
unfolding Going
going_end c of t all e g = rw e at g.0

pub ruleset scan_ways = (going_start, going_ends, going_on, going_end)
