-- One pass: from a placing without refusal to demand 3's facts of its records.
use Prim.Native.Nat.{ℕ, zero, suc, ◌+◌, ◌%◌, ◌≤◌}
use native.Mathlib.Nat.{le_trans, mod-one}
use native.Mathlib.Omega.{arith}
use mathlib.Core.Path.{◌≡◌, refl, sym, ◌∙◌, subst}
use mathlib.Core.Logic.{◌⊎◌, inl, inr}
use mathlib.Core.Bool.{Bool, true, false, ◌&&◌}
use Rattle.std.specs.Prelude.{Option, Some, None}
use mathlib.Core.List.{List, [], ◌∷◌}
use lib.Dec.{eqb}
use borrow.Author.Tests.{eq-eqb, leb-true, eqb-true}
use Rattle.std.proofs.lemmas.Bool.{and_parts}
use Rattle.records.specs.declared.Config.{Config}
use Rattle.layout.specs.declared.Rect.{Rect}
use Rattle.layout.specs.declared.RenderState.{RenderState}
use Rattle.layout.specs.declared.Entry.{Entry}
use Rattle.layout.specs.Types.{Meter, Board}
use Rattle.layout.specs.Read.{unit, in_group}
use Rattle.layout.specs.Demand.{In, here, there, Next, Before, Rises, spans, Across, Down}
use Rattle.layout.specs.Placing.{or_else, unless, keep, select, same, same_page, due, sum_before, sum_after, place_x, group, before_of, after_of, lines_of, above_of, below_of, x_of, base_of, record_of, span_fault}
use Rattle.layout.proofs.Geometry.{inside_x, inside_y, next_x, before_next, before_after, width_after_law, tall_in, tall_above, next_left, next_right, before_clear}

-- ---- tests

pub or_none : {A : Type 0} (a b : Option A) → or_else a b ≡ None → (a ≡ None) × (b ≡ None)
unfolding or_else
or_none None b e = (refl, e)
or_none (Some x) b e = absurd cc

pub unless_none : {A : Type 0} (b : Bool) (a : A) → unless b a ≡ None → b ≡ true
unfolding unless
unless_none true a e = refl
unless_none false a e = absurd cc

-- ---- a group

in_keep {ℓ} : {A : Type ℓ} (b : Bool) (c : A) {e : A} {l : List A} → In e l → In e (keep b c l)
in_keep true c i = there i
in_keep false c i = i

pub in_select {ℓ} : {A : Type ℓ} (f : A → Bool) {e : A} {l : List A} → f e ≡ true → In e l → In e (select f l)
in_select f q (here {a = e} {l = l}) = rw q here
in_select f q (there {b = c} i) = in_keep (f c) c (in_select f q i)

keep_in {ℓ} : {A : Type ℓ} (f : A → Bool) (b : Bool) {e c : A} {l : List A} → f c ≡ b → (In e l → f e ≡ true) → In e (keep b c l) → f e ≡ true
keep_in f true q k here = q
keep_in f true q k (there i) = k i
keep_in f false q k i = k i

pub select_true {ℓ} : {A : Type ℓ} (f : A → Bool) {e : A} (l : List A) → In e (select f l) → f e ≡ true
select_true f (c ∷ l) i = keep_in f (f c) refl (λ j. select_true f l j) i
select_true {A = A} f {e = e} [] i = elim i [ ]

in_kept : {A : Type 0} (b : Bool) (c : A) {e : A} {l : List A} {u : List A} → (In e l → In e u) → In e (keep b c l) → In e (c ∷ u)
in_kept true c k here = here
in_kept true c k (there i) = there (k i)
in_kept false c k i = there (k i)

pub of_select : {A : Type 0} (f : A → Bool) {e : A} (l : List A) → In e (select f l) → In e l
of_select f (c ∷ l) i = in_kept (f c) c (λ j. of_select f l j) i
of_select {A = A} f {e = e} [] i = elim i [ ]

pub same_refl : (e : Entry) → same e e ≡ true
same_refl e =
    simp (
      eq-eqb e.state.just_page e.state.just_page refl,
      eq-eqb e.state.line e.state.line refl,
      eq-eqb e.state.just_line e.state.just_line refl,
    )

-- two states of one group
pub record InOne (a b : RenderState) : Type 0 where
  pub just_page : a.just_page ≡ b.just_page
  pub line : a.line ≡ b.line
  pub just_line : a.just_line ≡ b.just_line

pub in_one : (st : RenderState) (e : Entry) → in_group st e ≡ true → InOne st e.state
in_one st e q =
    let (p, r) = and_parts (eqb st.just_page e.state.just_page) (eqb st.line e.state.line && eqb st.just_line e.state.just_line) q in
    let (l, j) = and_parts (eqb st.line e.state.line) (eqb st.just_line e.state.just_line) r in
    record { just_page = eqb-true _ _ p; line = eqb-true _ _ l; just_line = eqb-true _ _ j }

-- a span of a group is in one with the span whose group it is
pub group_one : (s : Board) (r : Rect) (es : List Entry) (a b : Entry) → In b (group s r es a) → InOne a.state b.state
group_one s r es a b i = in_one a.state b (select_true (same a) es i)

same_group : (s : Board) (r : Rect) (es : List Entry) (a b : Entry) → InOne a.state b.state → group s r es a ≡ group s r es b
same_group s r es a b q = rw (q.just_page, q.line, q.just_line)

-- ---- a span that is placed

-- what a span without a fault passes
pub record Passed (s : Board) (r : Rect) (es : List Entry) (e : Entry) : Type 0 where
  pub width : before_of s r es e + after_of s r es e ≤ r.width
  pub height : above_of s r es e + below_of s r es e ≤ r.height
  pub base : s.meter.height e ≤ base_of s r es e

pub passed : (s : Board) (r : Rect) (es : List Entry) (e : Entry) → span_fault s r es e ≡ None → Passed s r es e
unfolding span_fault
passed s r es e q =
    let (_, q₁) = or_none _ _ q in
    let (w, q₂) = or_none _ _ q₁ in
    let (_, q₃) = or_none _ _ q₂ in
    let (h, b) = or_none _ _ q₃ in
    record { width = leb-true _ _ (unless_none _ _ w); height = leb-true _ _ (unless_none _ _ h); base = leb-true _ _ (unless_none _ _ b) }

-- the rectangle stands on the character grid
pub record Grid (c : Config) (r : Rect) : Type 0 where
  pub across : r.left % unit c.char_width ≡ 0
  pub down : r.top % unit c.char_height ≡ 0

pub across : (s : Board) (r : Rect) (es : List Entry) (e : Entry) → Grid s.config r → In e es → span_fault s r es e ≡ None → Across r (record_of s r es e)
unfolding record_of x_of before_of after_of
across s r es e g i q =
    let (l, w) = inside_x e.state.just_line s.config.char_width r _ _ (s.meter.width e) g.across
    (width_after_law s.meter None (in_select (same e) (same_refl e) i)) (passed s r es e q).width in
    record { left = l; right = w }

divides_unit : (c h : ℕ) → h % c ≡ 0 → h % unit c ≡ 0
divides_unit zero h e = mod-one h
divides_unit (suc c) h e =
    let u : unit (suc c) ≡ suc c = omega arith in
    rw u e

-- the character height is 0, or divides the height of every span
abbrev pub Even : Board → Type 0
Even s = (s.config.char_height ≡ 0) ⊎ ((e : Entry) → s.meter.height e % s.config.char_height ≡ 0)

divides : (s : Board) (e : Entry) → Even s → s.meter.height e % unit s.config.char_height ≡ 0
divides s e (inl z) = rw z (mod-one _)
divides s e (inr d) = divides_unit s.config.char_height _ (d e)

pub down : (s : Board) (r : Rect) (es : List Entry) (e : Entry) → Grid s.config r → (e.state.just_page ≡ 3 → Even s)
    → In e es → span_fault s r es e ≡ None → Down r (record_of s r es e)
unfolding record_of base_of above_of below_of lines_of
down s r es e g d i q =
    let t : Passed s r es e = passed s r es e q in
    let (o, b) = inside_y e.state.just_page s.config.char_height r (above_of s r es e) (below_of s r es e)
    (s.meter.height e) g.down (λ z. divides s e (d z))
    (le_trans (tall_in s.meter [] (in_select (same_page e) (eq-eqb e.state.just_page e.state.just_page refl) i))
    (tall_above s.config.char_height e.state.line None (lines_of s r es e)))
    t.height t.base in
    record { top = o; bottom = b }

pub spacing : (s : Board) (r : Rect) (es : List Entry) (a b : Entry)
    → (a.state.just_line ≡ 3 → s.config.char_width ≤ 1) → Next a b (group s r es a) → Rises (spans (group s r es a))
    → span_fault s r es a ≡ None → x_of s r es b ≡ x_of s r es a + s.meter.width a + due s.meter a b
unfolding x_of before_of after_of
spacing s r es a b c n u q =
    let m : Meter = s.meter in
    let t : Passed s r es a = passed s r es a q in
    let k : InOne a.state b.state = group_one s r es a b (next_right n) in
    let g : group s r es a ≡ group s r es b = same_group s r es a b k in
    let o : List Entry = group s r es a in
    let i : ℕ = a.state.span in
    let j : ℕ = b.state.span in
    let e : sum_before m j None o ≡ sum_before m i None o + (m.width a + due m a b) = before_next m None n u in
    let x : x_of s r es b ≡ place_x a.state.just_line s.config.char_width r (sum_before m j None o) (sum_after m j None o) = rw (g, k.just_line) in
    x
    ∙ next_x a.state.just_line s.config.char_width r _ _ _ _ (m.width a) (due m a b) c e
    (before_after m i None o ∙ sym (before_after m j None o)) t.width

-- no two spans of a group stand on each other
pub clear : (s : Board) (r : Rect) (es : List Entry) (a b : Entry) → (a.state.just_line ≡ 3 → s.config.char_width ≤ 1) → Before a b (group s r es a)
    → Rises (spans (group s r es a)) → ((e : Entry) → In e es → span_fault s r es e ≡ None) → x_of s r es a + s.meter.width a ≤ x_of s r es b
clear s r es a b c i u f = before_clear (x_of s r es) s.meter.width neighbours i
  where
    neighbours : (p q : Entry) → Next p q (group s r es a) → x_of s r es p + s.meter.width p ≤ x_of s r es q
    neighbours p q n =
        let k : In p (group s r es a) = next_left n in
        let o : InOne a.state p.state = group_one s r es a p k in
        let g : group s r es a ≡ group s r es p = same_group s r es a p o in
        omega (
          arith,
          spacing s r es p q (λ j. c (o.just_line ∙ j)) (subst (Next p q) g n) (subst (λ (l : List Entry). Rises (spans l)) g u)
              (f p (of_select (same a) es k)),
        )
