-- What stands above the foot of each line.
use Rattle.std.specs.Prelude.{ℕ, zero, suc, ◌+◌, ◌*◌, ◌-◌, ◌≤◌, ◌<◌, ◌≡◌, List, [], ◌∷◌, length, get_or, set, take, drop, map}
use Rattle.std.specs.Prelude.{Option, Some, None, Bool, true, false, eqb, ltb}
use Rattle.std.proofs.Common.{refl, ◌∙◌, ap, sym, arith}
use Rattle.std.proofs.lemmas.List.{length-map, length-set, get_or-map, get_or-set_same, get_or-set_other, drop_more, drop_all}
use Rattle.base.specs.Pick.{pick}
use borrow.Author.Tests.{eqb-true, eqb-false, ltb-true, ltb-false}
use Rattle.layout.specs.Placing.{Line, gap_above, above, below, total}
use Rattle.rows.specs.declared.Row.{Row}
use Rattle.lines.specs.declared.LineList.{LineList}
use Rattle.lines.specs.declared.TextLine.{TextLine}
use Rattle.lines.specs.declared.PageLines.{PageLines}
use Rattle.lines.specs.declared.Heights.{Heights}
use Rattle.lines.specs.Lines.{line_is, lines_in, lines_from, font_fault_from, LinesOf, PageHeights, foot_in, heights_in}

above_all : (ch k : ℕ) (p : Option Line) (ls : List Line) → length ls ≤ k → above ch k p ls ≡ total ch p ls
above_all ch k p [] h = refl
above_all ch zero p (l ∷ ls) h = absurd (omega arith)
above_all ch (suc k) p (l ∷ ls) h = omega (arith, above_all ch k (Some l) ls (omega arith))

above_below : (ch k : ℕ) (p : Option Line) (ls : List Line) → above ch k p ls + below ch k p ls ≡ total ch p ls
above_below ch k p [] = omega arith
above_below ch zero p (l ∷ ls) = omega arith
above_below ch (suc k) p (l ∷ ls) = omega (arith, above_below ch k (Some l) ls)

-- the feet of the first i lines stand; p is the line above the next, with t above its foot
pub record Summing (ch : ℕ) (us : List TextLine) (feet : List ℕ) (t : ℕ) (p : Option Line) (i : ℕ) : Type 0 where
  pub size : length feet ≡ 256
  pub small : t ≤ 131072 * i
  pub done : (k d : ℕ) → k < i → get_or feet k d ≡ above ch k None (map line_is us)
  pub ahead : (k : ℕ) → t + above ch k p (drop i (map line_is us)) ≡ above ch (i + k) None (map line_is us)

pub sums_start : {ch : ℕ} {us : List TextLine} {feet : List ℕ} → length feet ≡ 256 → Summing ch us feet 0 None 0
sums_start s =
    record {
      size = s;
      small = omega arith;
      done = λ k d h. absurd (omega arith);
      ahead = λ k. let e : 0 + k ≡ k = omega arith in rw e (omega arith);
    }

module _ {ch : ℕ} {us : List TextLine} {feet : List ℕ} {t : ℕ} {p : Option Line} {i : ℕ} (z : Summing ch us feet t p i) where
  pub total_fits : {g h : ℕ} → i < 256 → g < 65536 → h < 65536 → t + (g + h) < 4294967296
  total_fits k hg hh = omega (arith, z.small)

  -- g is the spacing above the line at i, t' what stands above its foot
  pub sums_on : (d : TextLine) (g t' : ℕ) → i < length us → i < 256 → g ≡ gap_above ch p (line_is (get_or us i d)) → g < 65536
      → (get_or us i d).height < 65536 → t' ≡ t + (g + (get_or us i d).height)
      → Summing ch us (set feet i t') t' (Some (line_is (get_or us i d))) (i + 1)
  sums_on d g t' h room eg hg hh et =
      let x : Line = line_is (get_or us i d) in
      let rest : List Line = drop (i + 1) (map line_is us) in
      let next : drop i (map line_is us) ≡ x ∷ rest =
      drop_more (map line_is us) i (line_is d) (omega (arith, length-map us line_is)) ∙ ap (λ (y : Line). y ∷ rest) (get_or-map line_is us i d (line_is d) h) in
      let here : t' ≡ above ch i None (map line_is us) =
      let a : t + above ch 0 p (x ∷ rest) ≡ above ch (i + 0) None (map line_is us) = rw next at (z.ahead 0) in
      let n : i + 0 ≡ i = omega arith in
      omega (arith, rw n at a) in
      record {
        size = omega (arith, length-set feet i t', z.size);
        small = omega (arith, z.small);
        done = λ k d q. look k d q (eqb k i) refl here;
        ahead = λ k.
            let a : t + above ch (suc k) p (x ∷ rest) ≡ above ch (i + suc k) None (map line_is us) = rw next at (z.ahead (suc k)) in
            let n : i + suc k ≡ i + 1 + k = omega arith in
            omega (arith, rw n at a);
      }
    where
      look : (k d : ℕ) → k < i + 1 → (b : Bool) → eqb k i ≡ b → t' ≡ above ch i None (map line_is us)
          → get_or (set feet i t') k d ≡ above ch k None (map line_is us)
      look k d q true v u = rw (eqb-true k i v) (get_or-set_same feet i t' d (omega (arith, z.size)) ∙ u)
      look k d q false v u = get_or-set_other feet i k t' d (eqb-false k i v) ∙ z.done k d (omega (arith, eqb-false k i v))

  module _ (e : length us ≡ i) where
    all_high : t ≡ total ch None (map line_is us)
    all_high =
        let ls : List Line = map line_is us in
        let n : length ls ≡ i = length-map us line_is ∙ e in
        let a : t + above ch 0 p [] ≡ above ch (i + 0) None ls = rw (drop_all i ls (omega arith)) at (z.ahead 0) in
        omega (arith, a, above_all ch (i + 0) None ls (omega arith))

    past_high : (k : ℕ) → i ≤ k → t ≡ above ch k None (map line_is us)
    past_high k h = all_high ∙ sym (above_all ch k None (map line_is us) (omega (arith, e, length-map us line_is)))

-- us are the lines of l
pub heights_made : {ch : ℕ} {rows : List Row} {just : ℕ} {l : LineList} (g : LinesOf rows just l) {us : List TextLine} (q : us ≡ take l.count l.lines)
    → length us ≡ l.count → {feet : List ℕ} {t : ℕ} {p : Option Line} {i : ℕ} → Summing ch us feet t p i → i ≤ length us → length us ≤ i
    → PageHeights ch rows just (record { just = just; count = l.count; total = t; fault = l.fault; feet = feet })
unfolding lines_in
heights_made {ch} {rows} {just} {l} g {us} q size {feet} {t} {p} {i} z h k =
    let done : length us ≡ i = omega arith in
    let own : map line_is us ≡ lines_from just [] rows = ap (map line_is) q ∙ g.lines in
    record {
      page = refl;
      few = g.few;
      lines = sym size ∙ sym (length-map us line_is) ∙ ap length own;
      feet = λ line. look done line (ltb line l.count) refl ∙ ap (above ch line None) own;
      high = all_high z done ∙ ap (total ch None) own;
      small = omega (arith, z.small, done, size, g.few);
      font = g.font;
    }
  where
    look : length us ≡ i → (line : ℕ) → (b : Bool) → ltb line l.count ≡ b → pick b (get_or feet line 0) t ≡ above ch line None (map line_is us)
    look done line true v = z.done line 0 (omega (arith, ltb-true line l.count v, done, size))
    look done line false v = past_high z done line (omega (arith, ltb-false line l.count v, done, size))

-- ---- `offset_vert`: what the table says of a line

-- the heights of a line of a page justification, and its first font fault
pub record HeightsOf (ch : ℕ) (rows : List Row) (just line : ℕ) (v : Heights) : Type 0 where
  pub over : v.above ≡ above ch line None (lines_from just [] rows)
  pub under : v.below ≡ below ch line None (lines_from just [] rows)
  pub font : v.fault ≡ font_fault_from just rows
  pub small : v.above + v.below ≤ 33554432

module _ {ch : ℕ} {rows : List Row} {just : ℕ} {p : PageLines} (h : PageHeights ch rows just p) (line : ℕ) where
  both : foot_in p line + below ch line None (lines_from just [] rows) ≡ p.total
  both = omega (arith, h.feet line, above_below ch line None (lines_from just [] rows), h.high)

  pub foot_fits : foot_in p line ≤ p.total
  foot_fits = omega (arith, both)

  pub heights_are : {v : Heights} → v ≡ heights_in p line → HeightsOf ch rows just line v
  heights_are {v} e =
      let a : v.above ≡ foot_in p line = ap (λ (x : Heights). x.above) e in
      let b : v.below ≡ p.total - foot_in p line = ap (λ (x : Heights). x.below) e in
      record {
        over = a ∙ h.feet line;
        under = omega (arith, both);
        font = ap (λ (x : Heights). x.fault) e ∙ h.font;
        small = omega (arith, h.small, both);
      }
