-- One pass: every span lies inside its rectangle, and neighbours stand at the spacing due.
use Prim.Native.Nat.{ℕ, zero, suc, ◌+◌, ◌-◌, ◌*◌, ◌/◌, ◌%◌, ◌≤◌, ◌<◌, max}
use native.Mathlib.Nat.{add-mod, zero-mod, le_refl, le-div_iff_mul-le, div-mul-le_self, div-add-mod', mul-le-mul_right, le-max_right}
use native.Mathlib.Omega.{arith}
use mathlib.Core.Path.{◌≡◌, refl, ◌∙◌, subst}
use mathlib.Core.Bool.{Bool, true, false}
use Rattle.std.specs.Prelude.{Option, Some}
use mathlib.Core.List.{List, [], ◌∷◌}
use lib.Dec.{leb, ltb, eqb}
use borrow.Author.Tests.{lt-ltb, le-ltb, le-leb, lt-leb, eqb-true}
use Rattle.base.specs.Pick.{pick}
use Rattle.layout.specs.declared.Rect.{Rect}
use Rattle.layout.specs.declared.Entry.{Entry}
use Rattle.layout.specs.Types.{Meter}
use Rattle.layout.specs.Read.{unit}
use Rattle.layout.specs.Demand.{In, here, there, Next, first, later, Before, from_here, from_there, From, Rises, spans}
use Rattle.layout.specs.Placing.{trunc, due, gap, sum_before, sum_after, place_x, Line, add_line, line_of, lines, above, baseline}

-- ---- truncation to the character grid

unit_pos : (u : ℕ) → 0 < unit u
unit_pos u = le-max_right u 1

trunc_le : (u x : ℕ) → trunc u x ≤ x
trunc_le u x = div-mul-le_self x (unit u)

trunc_ge : (u x k : ℕ) → k % unit u ≡ 0 → k ≤ x → k ≤ trunc u x
trunc_ge u x k e h =
    let whole : k / unit u * unit u ≡ k = omega (arith, div-add-mod' k (unit u)) in
    subst (λ (n : ℕ). n ≤ trunc u x) whole (mul-le-mul_right (unit u) ((le-div_iff_mul-le (unit_pos u)).1 (rw whole h)))

-- ---- across

-- the width of a group, with the span before it
abbrev pub widths : Meter → Option Entry → List Entry → ℕ
widths m p [] = 0
widths m p (e ∷ es) = gap m p e + (m.width e + widths m (Some e) es)

halves : (b : Bool) (x : ℕ) → pick b x 0 + pick b 0 x ≡ x
halves true x = omega arith
halves false x = omega arith

pub before_after : (m : Meter) (n : ℕ) (p : Option Entry) (es : List Entry) → sum_before m n p es + sum_after m n p es ≡ widths m p es
before_after m n p [] = refl
before_after m n p (e ∷ es) =
    omega (arith, halves (leb e.state.span n) (gap m p e), halves (ltb e.state.span n) (m.width e), before_after m n (Some e) es)

pub width_after_law : (m : Meter) (p : Option Entry) {e : Entry} {es : List Entry} → In e es → m.width e ≤ sum_after m e.state.span p es
width_after_law m p (here {a = e}) = rw (le-ltb e.state.span e.state.span (le_refl _)) (omega arith)
width_after_law m p (there {b = c} i) = omega (arith, width_after_law m (Some c) i)

pub inside_x : (j cw : ℕ) (r : Rect) (b a w : ℕ) → r.left % unit cw ≡ 0 → w ≤ a → b + a ≤ r.width
    → (r.left ≤ place_x j cw r b a) × (place_x j cw r b a + w ≤ r.left + r.width)
inside_x j cw r b a w g h f = go (eqb j 2) (eqb j 3)
  where
    x : ℕ
    x = r.left + (r.width - b - a) / 2 + b

    by : Bool → Bool → ℕ
    by t u = pick t (r.left + b) (pick u (trunc cw x) (r.left + r.width - a))

    go : (t u : Bool) → (r.left ≤ by t u) × (by t u + w ≤ r.left + r.width)
    go true u = omega arith
    go false true = (trunc_ge cw x r.left g (omega arith), omega (arith, trunc_le cw x))
    go false false = omega arith

-- ---- down

-- the tallest of the lines up to number n
abbrev pub tall : ℕ → List Line → ℕ
tall n [] = 0
tall zero (l ∷ ls) = l.height
tall (suc n) (l ∷ ls) = max l.height (tall n ls)

pub tall_above : (ch n : ℕ) (p : Option Line) (ls : List Line) → tall n ls ≤ above ch n p ls
tall_above ch n p [] = omega arith
tall_above ch zero p (l ∷ ls) = omega arith
tall_above ch (suc n) p (l ∷ ls) = omega (arith, tall_above ch n (Some l) ls)

tall_add : (k n : ℕ) (l : Line) (ls : List Line) → tall n ls ≤ tall n (add_line k l ls)
tall_add k n l [] = omega arith
tall_add zero zero l (a ∷ ls) = omega arith
tall_add zero (suc n) l (a ∷ ls) = omega arith
tall_add (suc k) zero l (a ∷ ls) = omega arith
tall_add (suc k) (suc n) l (a ∷ ls) = omega (arith, tall_add k n l ls)

tall_new : (n : ℕ) (l : Line) (ls : List Line) → l.height ≤ tall n (add_line n l ls)
tall_new zero l [] = omega arith
tall_new (suc n) l [] = omega arith
tall_new zero l (a ∷ ls) = omega arith
tall_new (suc n) l (a ∷ ls) = omega (arith, tall_new n l ls)

tall_lines : (m : Meter) (n : ℕ) (ls : List Line) (es : List Entry) → tall n ls ≤ tall n (lines m ls es)
tall_lines m n ls [] = le_refl _
tall_lines m n ls (e ∷ es) = omega (arith, tall_add e.state.line n (line_of m e) ls, tall_lines m n (add_line e.state.line (line_of m e) ls) es)

pub tall_in : (m : Meter) (ls : List Line) {e : Entry} {es : List Entry} → In e es → m.height e ≤ tall e.state.line (lines m ls es)
tall_in m ls (here {a = e} {l = es}) =
    omega (arith, tall_new e.state.line (line_of m e) ls, tall_lines m e.state.line (add_line e.state.line (line_of m e) ls) es)
tall_in m ls (there {b = c} i) = tall_in m (add_line c.state.line (line_of m c) ls) i

grid_add : (u a b : ℕ) → a % u ≡ 0 → b % u ≡ 0 → (a + b) % u ≡ 0
grid_add u a b p q = add-mod a b u ∙ rw (p, q) (zero-mod u)

-- t, u: what the tests for 2 and 3 gave
inside_base : (t u : Bool) (ch : ℕ) (r : Rect) (a b h : ℕ) → r.top % unit ch ≡ 0 → (u ≡ true → h % unit ch ≡ 0) → h ≤ a → a + b ≤ r.height
    → let base : ℕ = pick t (r.top + a) (pick u (trunc ch (r.top + (r.height - a - b) / 2 + a)) (r.top + r.height - b)) in
    h ≤ base → (r.top ≤ base - h) × (base - h + h ≤ r.top + r.height)
inside_base true u ch r a b h g d k f t = omega arith
inside_base false true ch r a b h g d k f t =
    let y : ℕ = r.top + (r.height - a - b) / 2 + a in
    omega (arith, trunc_le ch y, trunc_ge ch y (r.top + h) (grid_add (unit ch) r.top h g (d refl)) (omega arith))
inside_base false false ch r a b h g d k f t = omega arith

pub inside_y : (j ch : ℕ) (r : Rect) (a b h : ℕ) → r.top % unit ch ≡ 0 → (j ≡ 3 → h % unit ch ≡ 0) → h ≤ a → a + b ≤ r.height
    → h ≤ baseline j ch r a b → (r.top ≤ baseline j ch r a b - h) × (baseline j ch r a b - h + h ≤ r.top + r.height)
inside_y j ch r a b h g d k f t = inside_base (eqb j 2) (eqb j 3) ch r a b h g (λ q. d (eqb-true j 3 q)) k f t

-- ---- neighbours

pub next_left : {a b : Entry} {l : List Entry} → Next a b l → In a l
next_left first = here
next_left (later i) = there (next_left i)

pub next_right : {a b : Entry} {l : List Entry} → Next a b l → In b l
next_right first = there here
next_right (later i) = there (next_right i)

pub from_rises : (n : ℕ) (ks : List ℕ) → From n ks → Rises ks
from_rises n [] f = tt
from_rises n (k ∷ ks) f = f.1

from_in : (n : ℕ) {e : Entry} {es : List Entry} → In e es → From n (spans es) → n < e.state.span
from_in n here f = f.0
from_in n (there {b = c} i) f = omega (arith, from_in c.state.span i f.1)

before_none : (m : Meter) (k n : ℕ) (p : Option Entry) (es : List Entry) → k ≤ n → From n (spans es) → sum_before m k p es ≡ 0
before_none m k n p [] h f = refl
before_none m k n p (e ∷ es) h f =
    rw (lt-leb e.state.span k (omega arith), le-ltb e.state.span k (omega arith))
    (omega (arith, before_none m k e.state.span (Some e) es (omega arith) f.1))

pub before_next : (m : Meter) (p : Option Entry) {a b : Entry} {es : List Entry} → Next a b es → Rises (spans es)
    → sum_before m b.state.span p es ≡ sum_before m a.state.span p es + (m.width a + due m a b)
before_next m p (first {a = a} {b = b} {l = l}) f =
    let i : ℕ = a.state.span in
    let j : ℕ = b.state.span in
    rw (le-leb i j (omega arith), lt-ltb i j f.0, le-leb j j (le_refl _), le-ltb j j (le_refl _))
    (rw (le-leb i i (le_refl _), le-ltb i i (le_refl _), lt-leb j i f.0, le-ltb j i (omega arith))
    (omega (arith, before_none m j j (Some b) l (le_refl _) f.1, before_none m i j (Some b) l (omega arith) f.1)))
before_next m p (later {a = a} {b = b} {c = c} {l = l} i) f =
    let k : ℕ = c.state.span in
    let ha : k < a.state.span = from_in k (next_left i) f in
    let hb : k < b.state.span = from_in k (next_right i) f in
    rw (le-leb k a.state.span (omega arith), lt-ltb k a.state.span ha, le-leb k b.state.span (omega arith), lt-ltb k b.state.span hb)
    (omega (arith, before_next m (Some c) i (from_rises c.state.span (spans l) f)))

next_place : (t u : Bool) (cw : ℕ) (r : Rect) (b₁ a₁ b₂ a₂ w d : ℕ) → (u ≡ true → cw ≤ 1) → b₂ ≡ b₁ + (w + d) → b₁ + a₁ ≡ b₂ + a₂ → b₁ + a₁ ≤ r.width
    → pick t (r.left + b₂) (pick u (trunc cw (r.left + (r.width - b₂ - a₂) / 2 + b₂)) (r.left + r.width - a₂))
    ≡ pick t (r.left + b₁) (pick u (trunc cw (r.left + (r.width - b₁ - a₁) / 2 + b₁)) (r.left + r.width - a₁)) + w + d
next_place true u cw r b₁ a₁ b₂ a₂ w d c p q f = omega arith
next_place false true cw r b₁ a₁ b₂ a₂ w d c p q f =
    let e : unit cw ≡ 1 = omega (arith, c refl) in
    rw e (omega arith)
next_place false false cw r b₁ a₁ b₂ a₂ w d c p q f = omega arith

pub next_x : (j cw : ℕ) (r : Rect) (b₁ a₁ b₂ a₂ w d : ℕ) → (j ≡ 3 → cw ≤ 1) → b₂ ≡ b₁ + (w + d) → b₁ + a₁ ≡ b₂ + a₂ → b₁ + a₁ ≤ r.width
    → place_x j cw r b₂ a₂ ≡ place_x j cw r b₁ a₁ + w + d
next_x j cw r b₁ a₁ b₂ a₂ w d c p q f = next_place (eqb j 2) (eqb j 3) cw r b₁ a₁ b₂ a₂ w d (λ e. c (eqb-true j 3 e)) p q f

-- ---- any two

-- if each of a list keeps clear of the next, each keeps clear of all after it; x and w: where one stands, and how wide it is
pub before_clear : (x w : Entry → ℕ) {a b : Entry} {l : List Entry} → ((p q : Entry) → Next p q l → x p + w p ≤ x q) → Before a b l → x a + w a ≤ x b
before_clear x w h (from_here {a = a} (here {a = b})) = h a b first
before_clear x w h (from_here {a = a} (there {b = c} i)) = omega (arith, h a c first, before_clear x w (λ p q n. h p q (later n)) (from_here {a = c} i))
before_clear x w h (from_there i) = before_clear x w (λ p q n. h p q (later n)) i
