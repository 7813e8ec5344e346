-- Document 01, "Placing": where the spans of one pass stand, and which of refusals 9 to 14 they meet.
use Rattle.std.specs.Prelude.{ℕ, zero, suc, ◌+◌, ◌-◌, ◌*◌, ◌/◌, max, Bool, true, false, not, ◌&&◌, ◌||◌, List, [], ◌∷◌, map, leb, ltb, eqb, Option, Some, None, unwrap_or}
use Rattle.std.specs.Option.{option_or}
use Rattle.base.specs.Pick.{pick}
use Rattle.refusal.specs.declared.Refusal.{Refusal}
use Rattle.layout.specs.declared.Span.{Span}
use Rattle.layout.specs.declared.Rect.{Rect}
use Rattle.layout.specs.declared.Entry.{Entry}
use Rattle.layout.specs.declared.Fault.{Fault}
use Rattle.layout.specs.Types.{Meter, Board}
use Rattle.refusal.specs.Refusals.{refusal}
use Rattle.layout.specs.Read.{unit, in_group}

-- ---- small parts

-- half, "rounded up"
abbrev pub half_up : ℕ → ℕ
half_up n = (n + 1) / 2

-- truncated to the character grid
abbrev pub trunc : ℕ → ℕ → ℕ
trunc u x = x / unit u * unit u

-- the first of two that is there
unfoldable pub or_else : {A : Type 0} → Option A → Option A → Option A
or_else None b = b
or_else (Some a) b = Some a

unfoldable pub unless : {A : Type 0} → Bool → A → Option A
unless true a = None
unless false a = Some a

-- the first fault of a list
abbrev pub first_fault : {A B : Type 0} → (A → Option B) → List A → Option B
first_fault f [] = None
first_fault f (e ∷ es) = or_else (f e) (first_fault f es)

abbrev pub keep {ℓ} : {A : Type ℓ} → Bool → A → List A → List A
keep true a l = a ∷ l
keep false a l = l

-- those of a list that f holds of
abbrev pub select {ℓ} : {A : Type ℓ} → (A → Bool) → List A → List A
select f [] = []
select f (e ∷ es) = keep (f e) e (select f es)

-- ---- across: a group

-- two spans of one group
abbrev pub same : Entry → Entry → Bool
same r e = in_group r.state e

-- spans whose lines are set together (`matches_line`)
abbrev pub same_page : Entry → Entry → Bool
same_page r e = eqb r.state.just_page e.state.just_page

-- "The spacing due before a span that isn't its group's first is its own [sc] value if one holds, otherwise half the sum of the spacings of the
-- span before it and its own, rounded up" (`char_spacing_between`); as render.rs has it, NTCIP 1203, fontCharSpacing, says "of the two fonts"
unfoldable pub due : Meter → Entry → Entry → ℕ
due m p e = unwrap_or e.state.char_spacing (half_up (m.spacing p + m.spacing e))

abbrev pub gap : Meter → Option Entry → Entry → ℕ
gap m None e = 0
gap m (Some p) e = due m p e

-- `offset_horiz`: of a group, with the span before it, what stands before span number n, and what from there on
abbrev pub sum_before : Meter → ℕ → Option Entry → List Entry → ℕ
sum_before m n p [] = 0
sum_before m n p (e ∷ es) = pick (leb e.state.span n) (gap m p e) 0 + (pick (ltb e.state.span n) (m.width e) 0 + sum_before m n (Some e) es)

abbrev pub sum_after : Meter → ℕ → Option Entry → List Entry → ℕ
sum_after m n p [] = 0
sum_after m n p (e ∷ es) = pick (leb e.state.span n) 0 (gap m p e) + (pick (ltb e.state.span n) 0 (m.width e) + sum_after m n (Some e) es)

-- `span_x`: 2 left, 3 centre, 4 right
abbrev pub place_x : ℕ → ℕ → Rect → ℕ → ℕ → ℕ
place_x j cw r b a =
    pick (eqb j 2) (r.left + b)
    (pick (eqb j 3) (trunc cw (r.left + (r.width - b - a) / 2 + b))
    (r.left + r.width - a))

-- ---- down: the lines of a page justification

-- `TextLine`
pub record Line : Type 0 where
  pub height : ℕ
  pub font_spacing : ℕ
  pub line_spacing : Option ℕ

abbrev pub combine : Line → Line → Line
combine a b =
    record {
      height = max a.height b.height;
      font_spacing = max a.font_spacing b.font_spacing;
      line_spacing = option_or a.line_spacing b.line_spacing;
    }

-- "a span whose line number is at or past its length adds a new line"; otherwise it combines with the line of its number
abbrev pub add_line : ℕ → Line → List Line → List Line
add_line n l [] = l ∷ []
add_line zero l (a ∷ ls) = combine a l ∷ ls
add_line (suc n) l (a ∷ ls) = a ∷ add_line n l ls

abbrev pub line_of : Meter → Entry → Line
line_of m e = record { height = m.height e; font_spacing = m.line_spacing e; line_spacing = e.state.line_spacing }

abbrev pub lines : Meter → List Line → List Entry → List Line
lines m ls [] = ls
lines m ls (e ∷ es) = lines m (add_line e.state.line (line_of m e) ls) es

-- the spacing above a line: none on a sign with a character height; else NTCIP 1203, fontLineSpacing, as render.rs has it: "the average of the 2
-- line spacings of each line, rounded up to the nearest whole pixel"
unfoldable pub line_gap : ℕ → Line → Line → ℕ
line_gap zero p l = unwrap_or l.line_spacing (half_up (p.font_spacing + l.font_spacing))
line_gap (suc c) p l = 0

abbrev pub gap_above : ℕ → Option Line → Line → ℕ
gap_above ch None l = 0
gap_above ch (Some p) l = line_gap ch p l

-- `offset_vert`: heights and spacings of all lines, of those up to number n, and of those past it; p is the line above
abbrev pub total : ℕ → Option Line → List Line → ℕ
total ch p [] = 0
total ch p (l ∷ ls) = gap_above ch p l + (l.height + total ch (Some l) ls)

abbrev pub above : ℕ → ℕ → Option Line → List Line → ℕ
above ch n p [] = 0
above ch zero p (l ∷ ls) = gap_above ch p l + l.height
above ch (suc n) p (l ∷ ls) = gap_above ch p l + (l.height + above ch n (Some l) ls)

abbrev pub below : ℕ → ℕ → Option Line → List Line → ℕ
below ch n p [] = 0
below ch zero p (l ∷ ls) = total ch (Some l) ls
below ch (suc n) p (l ∷ ls) = below ch n (Some l) ls

-- `baseline`: 2 top, 3 middle, 4 bottom
abbrev pub baseline : ℕ → ℕ → Rect → ℕ → ℕ → ℕ
baseline j ch r a b =
    pick (eqb j 2) (r.top + a)
    (pick (eqb j 3) (trunc ch (r.top + (r.height - a - b) / 2 + a))
    (r.top + r.height - b))

-- ---- a span among the spans of its pass

module _ (s : Board) (r : Rect) (es : List Entry) where
  abbrev pub group : Entry → List Entry
  group e = select (same e) es

  abbrev pub page : Entry → List Entry
  page e = select (same_page e) es

  unfoldable pub before_of : Entry → ℕ
  before_of e = sum_before s.meter e.state.span None (group e)

  unfoldable pub after_of : Entry → ℕ
  after_of e = sum_after s.meter e.state.span None (group e)

  unfoldable pub lines_of : Entry → List Line
  lines_of e = lines s.meter [] (page e)

  unfoldable pub above_of : Entry → ℕ
  above_of e = above s.config.char_height e.state.line None (lines_of e)

  unfoldable pub below_of : Entry → ℕ
  below_of e = below s.config.char_height e.state.line None (lines_of e)

  unfoldable pub x_of : Entry → ℕ
  x_of e = place_x e.state.just_line s.config.char_width r (before_of e) (after_of e)

  unfoldable pub base_of : Entry → ℕ
  base_of e = baseline e.state.just_page s.config.char_height r (above_of e) (below_of e)

  -- "A record holds kind .., start and length in message bytes, character code .., x, y from 0, width, height, font, line, span number,
  -- rectangle .."
  unfoldable pub record_of : Entry → Span
  record_of e =
      record {
        kind = e.kind;
        start = e.start;
        length = e.len;
        code = e.code;
        x = x_of e;
        y = base_of e - s.meter.height e;
        width = s.meter.width e;
        height = s.meter.height e;
        font = e.state.font;
        line = e.state.line;
        span = e.state.span;
        rect_x = suc r.left;
        rect_y = suc r.top;
        rect_width = r.width;
        rect_height = r.height;
      }

  -- "their place is the span being placed"
  abbrev pub refused_at : Entry → ℕ → ℕ → Refusal
  refused_at e n d = refusal n e.start e.len d

  abbrev pub fault_at : Entry → Option Fault → Option Refusal
  fault_at e None = None
  fault_at e (Some f) = Some (refused_at e f.number f.detail)

  -- "Then span by span, x before y, in the order in which `offset_horiz` and `offset_vert` meet 10 to 14": the faults of the group's measures; 13,
  -- "text exceeds the rectangle's width"; the fonts of the page's lines; 13, its height; 14, "the rounded baseline is less than the font height"
  unfoldable pub span_fault : Entry → Option Refusal
  span_fault e =
      or_else (fault_at e (first_fault s.meter.fault (group e)))
      (or_else (unless (leb (before_of e + after_of e) r.width) (refused_at e 13 0))
      (or_else (fault_at e (first_fault s.meter.font_fault (page e)))
      (or_else (unless (leb (above_of e + below_of e) r.height) (refused_at e 13 0))
      (unless (leb (s.meter.height e) (base_of e)) (refused_at e 14 0)))))

-- `check_justification`: "a span's justification goes back", compared with the span just before
abbrev pub goes_back : Entry → Entry → Bool
goes_back p e =
    ltb e.state.just_page p.state.just_page
    || (eqb e.state.just_page p.state.just_page && (eqb e.state.line p.state.line && ltb e.state.just_line p.state.just_line))

abbrev pub back_fault : Option Entry → List Entry → Option Refusal
back_fault p [] = None
back_fault None (e ∷ es) = back_fault (Some e) es
back_fault (Some p) (e ∷ es) = or_else (unless (not (goes_back p e)) (refusal 9 e.start e.len 0)) (back_fault (Some e) es)

-- 9, "place of that span"; then span by span
unfoldable pub pass_fault : Board → Rect → List Entry → Option Refusal
pass_fault s r es = or_else (back_fault None es) (first_fault (span_fault s r es) es)

unfoldable pub pass_records : Board → Rect → List Entry → List Span
pass_records s r es = map (record_of s r es) es
