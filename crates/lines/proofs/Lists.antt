-- The list after a row is the one that `add_line` gives, and the fold over the rows.
use Rattle.std.specs.Prelude.{ℕ, zero, suc, ◌+◌, ◌≤◌, ◌<◌, ◌≡◌, List, [], ◌∷◌, ◌++◌, length, get_or, set, take, drop, map, Option, Some, None}
use Rattle.std.proofs.Common.{refl, ◌∙◌, ap, sym, arith, ne_eqb, eq-eqb}
use Rattle.std.proofs.lemmas.List.{length-map, length-take-le, map-set, map_push, get_or-map, get_or-take, take_more_set, drop_more, drop_all}
use Rattle.std.proofs.Math.Seq.{take-set-lt}
use Rattle.std.specs.Option.{option_or}
use Rattle.layout.specs.Placing.{Line, combine, add_line, or_else}
use Rattle.layout.specs.declared.Fault.{Fault}
use Rattle.rows.specs.declared.Row.{Row}
use Rattle.rows.specs.Measured.{font_only}
use Rattle.rows.proofs.Laws.{earlier_is}
use Rattle.lines.specs.declared.LineList.{LineList}
use Rattle.lines.specs.declared.TextLine.{TextLine}
use Rattle.lines.specs.Lines.{line_is, lines_in, row_line, lines_from, font_fault_from, RowAdded, LinesOf}

-- ---- a line added

add_old : (k : ℕ) (x d : Line) (ls : List Line) → k < length ls → set ls k (combine (get_or ls k d) x) ≡ add_line k x ls
add_old k x d [] h = absurd (omega arith)
add_old zero x d (l ∷ ls) h = refl
add_old (suc k) x d (l ∷ ls) h = ap (λ (z : List Line). l ∷ z) (add_old k x d ls (omega arith))

add_new : (k : ℕ) (x : Line) (ls : List Line) → length ls ≤ k → ls ++ (x ∷ []) ≡ add_line k x ls
add_new k x [] h = refl
add_new zero x (l ∷ ls) h = absurd (omega arith)
add_new (suc k) x (l ∷ ls) h = ap (λ (z : List Line). l ∷ z) (add_new k x ls (omega arith))

-- the fault, with that of a row
met : (l : LineList) (r : Row) (b o : Option Fault) → b ≡ font_only r.fault → o ≡ option_or l.fault b
    → o ≡ or_else l.fault (font_only r.fault)
met l r b o f p = p ∙ ap (option_or l.fault) f ∙ earlier_is l.fault (font_only r.fault)

-- a row was added: own is its line, b its font's fault, o the first fault
module _ {l : LineList} {r : Row} {own : TextLine} (u : line_is own ≡ row_line r) {b o : Option Fault} (f : b ≡ font_only r.fault) (p : o ≡ option_or l.fault b) where
  -- it joins the line of its number
  pub row_joins : {at : ℕ} {t : TextLine} (d : TextLine) → at ≡ r.line → at < l.count → l.count ≤ 256 → length l.lines ≡ 256
      → line_is t ≡ combine (line_is (get_or l.lines at d)) (line_is own) → RowAdded l r (record { lines = set l.lines at t; count = l.count; fault = o })
  unfolding lines_in
  row_joins {at} {t} d e h few n q =
      let us : List TextLine = take l.count l.lines in
      let ls : List Line = map line_is us in
      let size : length us ≡ l.count = length-take-le l.count l.lines (omega arith) in
      let there : get_or ls at (line_is d) ≡ line_is (get_or l.lines at d) =
      get_or-map line_is us at d (line_is d) (omega arith) ∙ ap line_is (get_or-take l.count l.lines at d h) in
      let put : set ls at (line_is t) ≡ add_line at (row_line r) ls =
      ap (set ls at) (q ∙ ap (combine (line_is (get_or l.lines at d))) u ∙ ap (λ (x : Line). combine x (row_line r)) (sym there))
      ∙ add_old at (row_line r) (line_is d) ls (omega (arith, length-map us line_is)) in
      record { lines = rw (take-set-lt l.count l.lines at t h, map-set line_is us at t, put, e); few = few; font = met l r b o f p }

  -- it is the next line
  pub row_follows : {at : ℕ} → at ≡ r.line → l.count ≤ at → at < 256 → length l.lines ≡ 256
      → RowAdded l r (record { lines = set l.lines l.count own; count = l.count + 1; fault = o })
  unfolding lines_in
  row_follows e h few n =
      let us : List TextLine = take l.count l.lines in
      let ls : List Line = map line_is us in
      let size : length us ≡ l.count = length-take-le l.count l.lines (omega arith) in
      record {
        lines = rw (take_more_set l.lines l.count own (omega arith), map_push line_is us own, u) (add_new r.line (row_line r) ls (omega (arith, length-map us line_is)));
        few = omega arith;
        font = met l r b o f p;
      }

-- ---- `line_list`

or_none : (a : Option Fault) → or_else a None ≡ a
unfolding or_else
or_none None = refl
or_none (Some f) = refl

or_assoc : (a b c : Option Fault) → or_else (or_else a b) c ≡ or_else a (or_else b c)
unfolding or_else
or_assoc None b c = refl
or_assoc (Some f) b c = refl

module _ (j : ℕ) (x : Row) (rs : List Row) where
  from_skip : (ls : List Line) → (x.just_page ≡ j → ⊥) → lines_from j ls (x ∷ rs) ≡ lines_from j ls rs
  from_skip ls h = rw (ne_eqb j x.just_page (λ e. h (sym e)))

  from_on : (ls : List Line) → x.just_page ≡ j → lines_from j ls (x ∷ rs) ≡ lines_from j (add_line x.line (row_line x) ls) rs
  from_on ls h = rw (eq-eqb j x.just_page (sym h))

  font_skip : (x.just_page ≡ j → ⊥) → font_fault_from j (x ∷ rs) ≡ font_fault_from j rs
  unfolding font_fault_from or_else
  font_skip h = rw (ne_eqb j x.just_page (λ e. h (sym e)))

  font_on : x.just_page ≡ j → font_fault_from j (x ∷ rs) ≡ or_else (font_only x.fault) (font_fault_from j rs)
  unfolding font_fault_from
  font_on h = rw (eq-eqb j x.just_page (sym h))

-- the first i rows are gathered in l
pub record Gathering (rows : List Row) (just : ℕ) (l : LineList) (i : ℕ) : Type 0 where
  pub lines : lines_from just (lines_in l) (drop i rows) ≡ lines_from just [] rows
  pub few : l.count ≤ 256
  pub font : or_else l.fault (font_fault_from just (drop i rows)) ≡ font_fault_from just rows

-- no lines and no fault yet
pub gather_start : {rows : List Row} {just : ℕ} {l : LineList} → l.count ≡ 0 → l.fault ≡ None → Gathering rows just l 0
unfolding lines_in or_else
gather_start e q = record { lines = rw e; few = omega arith; font = rw q }

module _ {rows : List Row} {just : ℕ} {l : LineList} {i : ℕ} (g : Gathering rows just l i) where
  pub gather_end : length rows ≤ i → LinesOf rows just l
  unfolding font_fault_from
  gather_end h =
      record {
        lines = rw (drop_all i rows h) at g.lines;
        few = g.few;
        font = sym (or_none l.fault) ∙ rw (drop_all i rows h) at g.font;
      }

  -- the row read is that at i
  module _ (d : Row) (h : i < length rows) where
    pub gather_skip : ((get_or rows i d).just_page ≡ just → ⊥) → Gathering rows just l (i + 1)
    gather_skip q =
        let rest : List Row = drop (i + 1) rows in
        let next : drop i rows ≡ get_or rows i d ∷ rest = drop_more rows i d h in
        record {
          lines = sym (from_skip just (get_or rows i d) rest (lines_in l) q) ∙ ap (lines_from just (lines_in l)) (sym next) ∙ g.lines;
          few = g.few;
          font = ap (or_else l.fault) (sym (font_skip just (get_or rows i d) rest q) ∙ ap (font_fault_from just) (sym next)) ∙ g.font;
        }

    pub gather_on : {l' : LineList} → (get_or rows i d).just_page ≡ just → RowAdded l (get_or rows i d) l' → Gathering rows just l' (i + 1)
    gather_on {l'} q a =
        let x : Row = get_or rows i d in
        let rest : List Row = drop (i + 1) rows in
        let next : drop i rows ≡ x ∷ rest = drop_more rows i d h in
        record {
          lines =
              ap (λ (ls : List Line). lines_from just ls rest) a.lines ∙ sym (from_on just x rest (lines_in l) q)
              ∙ ap (lines_from just (lines_in l)) (sym next) ∙ g.lines;
          few = a.few;
          font =
              ap (λ (o : Option Fault). or_else o (font_fault_from just rest)) a.font
              ∙ or_assoc l.fault (font_only x.fault) (font_fault_from just rest)
              ∙ ap (or_else l.fault) (sym (font_on just x rest q) ∙ ap (font_fault_from just) (sym next)) ∙ g.font;
        }
