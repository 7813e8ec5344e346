-- Document 01, "Page states" and "Placing": reading a message's items into passes of spans. Nothing is placed here.
use Rattle.std.specs.Prelude.{ℕ, zero, suc, ◌+◌, ◌-◌, ◌%◌, max, Bool, true, false, ◌&&◌, List, [], ◌∷◌, ◌++◌, leb, ltb, eqb, Option, Some, None, Result, Ok, Err, unwrap_or}
use Rattle.base.specs.Pick.{pick}
use Rattle.value.specs.declared.Place.{Place}
use Rattle.value.specs.declared.Rectangle.{Rectangle}
use Rattle.value.specs.declared.SyntaxError.{SyntaxError}
use Rattle.value.specs.declared.SyntaxError.TheVariants.{UnsupportedTag}
use Rattle.value.specs.declared.Value.{Value}
use Rattle.value.specs.declared.Value.TheVariants.{ColorBackground, ColorForeground, ColorRectangle, Field, Flash, FlashEnd, Font, Graphic, HexadecimalCharacter, JustificationLine, JustificationPage, ManufacturerSpecific, ManufacturerSpecificEnd, MovingText, NewLine, NewPage, PageBackground, PageTime, SpacingCharacter, SpacingCharacterEnd, Text, TextRectangle}
use Rattle.value.specs.Syntax.{number_of}
use Rattle.value.specs.Tag.{tag_of, has_tag}
use Rattle.refusal.specs.declared.Refusal.{Refusal}
use Rattle.records.specs.declared.Config.{Config}
use Rattle.layout.specs.declared.Rect.{Rect}
use Rattle.layout.specs.declared.RenderState.{RenderState}
use Rattle.layout.specs.declared.Entry.{Entry}
use Rattle.layout.specs.declared.Mark.{Mark}
use Rattle.layout.specs.declared.Mark.TheVariants.{Plain, Ends, Timed}
use Rattle.layout.specs.declared.Scan.{Scan}
use Rattle.layout.specs.declared.Step.{Step}
use Rattle.layout.specs.declared.Step.TheVariants.{Go, Emit, Cut, Turn}
use Rattle.layout.specs.Types.{Item, place_of}
use Rattle.refusal.specs.Refusals.{refusal}

-- ---- a page's scan

-- "5 to 8 carry their slice's place"
abbrev pub refusal_at : Place → ℕ → Refusal
refusal_at at n = refusal n at.start at.len 0

-- a tag needs its name's bit in the sign's tags: 5, "a tag this sign doesn't support; field 0 counts as unsupported", having no bit
abbrev pub tagged : ℕ → Value → Mark → Result Mark SyntaxError
tagged tags v m = pick (has_tag tags (tag_of v)) (Ok m) (Err UnsupportedTag)

-- of each value; a text has no tag and needs no bit
abbrev pub mark_of : ℕ → Value → Result Mark SyntaxError
mark_of tags (ColorBackground c) = tagged tags (ColorBackground c) Plain
mark_of tags (ColorForeground c) = tagged tags (ColorForeground c) Plain
mark_of tags (ColorRectangle r c) = tagged tags (ColorRectangle r c) Plain
mark_of tags (Field n w) = tagged tags (Field n w) Plain
mark_of tags (Flash o a b) = tagged tags (Flash o a b) Plain
mark_of tags FlashEnd = tagged tags FlashEnd Plain
mark_of tags (Font f) = tagged tags (Font f) Plain
mark_of tags (Graphic n p) = tagged tags (Graphic n p) Plain
mark_of tags (HexadecimalCharacter c) = tagged tags (HexadecimalCharacter c) Plain
mark_of tags (JustificationLine j) = tagged tags (JustificationLine j) Plain
mark_of tags (JustificationPage j) = tagged tags (JustificationPage j) Plain
mark_of tags (ManufacturerSpecific m p) = tagged tags (ManufacturerSpecific m p) Plain
mark_of tags (ManufacturerSpecificEnd m p) = tagged tags (ManufacturerSpecificEnd m p) Plain
mark_of tags (MovingText m d t) = tagged tags (MovingText m d t) Plain
mark_of tags (NewLine s) = tagged tags (NewLine s) Plain
mark_of tags NewPage = tagged tags NewPage Ends
mark_of tags (PageBackground c) = tagged tags (PageBackground c) Plain
mark_of tags (PageTime on off) = tagged tags (PageTime on off) (Timed on off)
mark_of tags (SpacingCharacter s) = tagged tags (SpacingCharacter s) Plain
mark_of tags SpacingCharacterEnd = tagged tags SpacingCharacterEnd Plain
mark_of tags (Text p) = Ok Plain
mark_of tags (TextRectangle r) = tagged tags (TextRectangle r) Plain

-- a slice that fails has its number: 5, "no known tag"; 6, "a bad parameter"; 7, a code point outside 1 to 255
abbrev pub mark_item : ℕ → Result Value SyntaxError → Result Mark SyntaxError
mark_item tags (Ok v) = mark_of tags v
mark_item tags (Err e) = Err e

-- a page's times, and its first failing slice, "by position up to and including [np], before any placing".
-- "Page times are the last [pt] before [np], a missing part taking the sign's default; without a [pt] they carry over from the page before"
abbrev pub scan_by : Config → ℕ → ℕ → Item → Result Mark SyntaxError → (ℕ → ℕ → Scan) → Scan
scan_by s a b it (Ok Plain) next = next a b
scan_by s a b it (Ok Ends) next = record { on = a; off = b; fault = None }
scan_by s a b it (Ok (Timed p q)) next = next (unwrap_or p s.on_time) (unwrap_or q s.off_time)
scan_by s a b it (Err e) next = record { on = a; off = b; fault = Some (refusal_at (place_of it) (number_of e)) }

abbrev pub scan : Config → ℕ → ℕ → List Item → Scan
scan s a b [] = record { on = a; off = b; fault = None }
scan s a b (it ∷ its) = scan_by s a b it (mark_item s.tags it.says) (λ p q. scan s p q its)

-- ---- one item of a pass

-- a span: its kind, place and code, in the state
abbrev pub entry_of : ℕ → ℕ → ℕ → ℕ → RenderState → Entry
entry_of kind start len code st = record { kind = kind; start = start; len = len; code = code; state = st }

abbrev pub with_span : RenderState → ℕ → RenderState
with_span st n =
    record {
      rect = st.rect;
      just_page = st.just_page;
      just_line = st.just_line;
      font = st.font;
      version = st.version;
      line_spacing = st.line_spacing;
      char_spacing = st.char_spacing;
      line = st.line;
      span = n;
    }

-- "A [jl] always restarts the span number"
abbrev pub with_just_line : RenderState → ℕ → RenderState
with_just_line st j =
    record {
      rect = st.rect;
      just_page = st.just_page;
      just_line = j;
      font = st.font;
      version = st.version;
      line_spacing = st.line_spacing;
      char_spacing = st.char_spacing;
      line = st.line;
      span = 0;
    }

-- "a [jp] restarts line and span numbers only if it changes the justification"
abbrev pub with_just_page : RenderState → ℕ → RenderState
with_just_page st j =
    record {
      rect = st.rect;
      just_page = j;
      just_line = st.just_line;
      font = st.font;
      version = st.version;
      line_spacing = st.line_spacing;
      char_spacing = st.char_spacing;
      line = pick (eqb j st.just_page) st.line 0;
      span = pick (eqb j st.just_page) st.span 0;
    }

-- [nl]: the next line, with the spacing above it
abbrev pub with_line : RenderState → Option ℕ → RenderState
with_line st ls =
    record {
      rect = st.rect;
      just_page = st.just_page;
      just_line = st.just_line;
      font = st.font;
      version = st.version;
      line_spacing = ls;
      char_spacing = st.char_spacing;
      line = suc st.line;
      span = 0;
    }

abbrev pub with_char_spacing : RenderState → Option ℕ → RenderState
with_char_spacing st cs =
    record {
      rect = st.rect;
      just_page = st.just_page;
      just_line = st.just_line;
      font = st.font;
      version = st.version;
      line_spacing = st.line_spacing;
      char_spacing = cs;
      line = st.line;
      span = st.span;
    }

abbrev pub with_font : RenderState → ℕ → Option ℕ → RenderState
with_font st f v =
    record {
      rect = st.rect;
      just_page = st.just_page;
      just_line = st.just_line;
      font = f;
      version = v;
      line_spacing = st.line_spacing;
      char_spacing = st.char_spacing;
      line = st.line;
      span = st.span;
    }

-- [tr]: a new rectangle restarts line and span numbers
abbrev pub with_rect : RenderState → Rect → RenderState
with_rect st r =
    record {
      rect = r;
      just_page = st.just_page;
      just_line = st.just_line;
      font = st.font;
      version = st.version;
      line_spacing = st.line_spacing;
      char_spacing = st.char_spacing;
      line = 0;
      span = 0;
    }

-- [fo] without a number: the sign's font, and no version id
abbrev pub font_step : Config → RenderState → Option (ℕ × Option ℕ) → RenderState
font_step s st (Some (n, v)) = with_font st n v
font_step s st None = with_font st s.font None

-- 8: "The 256th .. span since its number restarted"; "a text or [hc] ends the blank"
abbrev pub span_step : Place → RenderState → Entry → Result Step Refusal
span_step at st e = pick (ltb st.span 255) (Ok (Emit e (with_span st (suc st.span)) false)) (Err (refusal_at at 8))

-- "a zero size reaching to the sign's edge"
abbrev pub extent : ℕ → ℕ → ℕ → ℕ
extent zero from all = all - from
extent (suc n) from all = suc n

abbrev pub rect_of : Config → Rectangle → Rect
rect_of s r = record { left = r.x - 1; top = r.y - 1; width = extent r.width (r.x - 1) s.width; height = extent r.height (r.y - 1) s.height }

-- a size of 0 stands for 1
abbrev pub unit : ℕ → ℕ
unit n = max n 1

-- in one direction: inside the sign, and on its character grid
abbrev pub fits : ℕ → ℕ → ℕ → ℕ → Bool
fits from size all u = ltb 0 size && (leb (from + size) all && (eqb (from % unit u) 0 && eqb (size % unit u) 0))

-- `update_text_rectangle`
abbrev pub rect_fits : Config → Rect → Bool
rect_fits s r = fits r.left r.width s.width s.char_width && fits r.top r.height s.height s.char_height

-- the justification in force after [jl] or [jp]: none is the sign's; 2 to 4 are taken
abbrev pub justified : Option ℕ → ℕ → Option ℕ
justified None d = Some d
justified (Some n) d = pick (leb 2 n) (pick (leb n 4) (Some n) None) None

abbrev pub go_if : Place → Option ℕ → (ℕ → RenderState) → Bool → Result Step Refusal
go_if at None f blank = Err (refusal_at at 6)
go_if at (Some n) f blank = Ok (Go (f n) blank)

-- "[nl] on a still blank line lists an empty span": kind 2, which "starts at its [nl], length 0". A6: with kind 6 "Refusal 8 then counts a group's
-- spans", an empty one too
abbrev pub line_step : Config → Place → RenderState → Option ℕ → Bool → Result Step Refusal
line_step s at st ls true = pick (s.groups && leb 255 st.span) (Err (refusal_at at 8)) (Ok (Emit (entry_of 2 at.start 0 0 st) (with_line st ls) true))
line_step s at st ls false = Ok (Go (with_line st ls) true)

-- D800 to DFFF hexadecimal
abbrev pub surrogate : ℕ → Bool
surrogate c = leb 55296 c && leb c 57343

abbrev pub hex_step : Place → RenderState → ℕ → Result Step Refusal
hex_step at st c = pick (surrogate c) (Err (refusal_at at 6)) (span_step at st (entry_of 1 at.start at.len c st))

-- both above 0
abbrev pub above0 : ℕ → ℕ → Bool
above0 a b = ltb 0 a && ltb 0 b

-- 8: "The 256th line end .. since its number restarted"
abbrev pub new_line_step : Config → RenderState → Bool → Place → Option ℕ → Result Step Refusal
new_line_step s st blank at ls =
    pick (above0 s.char_height (unwrap_or ls 0)) (Err (refusal_at at 6))
    (pick (ltb st.line 255) (line_step s at st ls blank) (Err (refusal_at at 8)))

abbrev pub spacing_step : Config → RenderState → Bool → Place → ℕ → Result Step Refusal
spacing_step s st blank at n = pick (above0 s.char_width n) (Err (refusal_at at 6)) (Ok (Go (with_char_spacing st (Some n)) blank))

abbrev pub rect_step : Config → RenderState → Place → Rectangle → Result Step Refusal
rect_step s st at r = pick (rect_fits s (rect_of s r)) (Ok (Cut (with_rect st (rect_of s r)))) (Err (refusal_at at 6))

-- `render_text_rectangle`: 6 for "[jl1], [jl5], [jp1], [nl] above 0 where character height is above 0, [sc] above 0 where character width is,
-- [hc] D800 to DFFF hexadecimal, or a [tr] not inside the sign or off its character grid"; 8 for the 256th line end or span
abbrev pub value_step : Config → RenderState → Bool → Place → Value → Result Step Refusal
value_step s st blank at (ColorBackground c) = Ok (Go st blank)
value_step s st blank at (ColorForeground c) = Ok (Go st blank)
value_step s st blank at (ColorRectangle r c) = Ok (Go st blank)
value_step s st blank at (Field n w) = Ok (Go st blank)
value_step s st blank at (Flash o a b) = Ok (Go st blank)
value_step s st blank at FlashEnd = Ok (Go st blank)
value_step s st blank at (Font f) = Ok (Go (font_step s st f) blank)
value_step s st blank at (Graphic n p) = Ok (Go st blank)
value_step s st blank at (HexadecimalCharacter c) = hex_step at st c
value_step s st blank at (JustificationLine j) = go_if at (justified j s.line_just) (with_just_line st) blank
value_step s st blank at (JustificationPage j) = go_if at (justified j s.page_just) (with_just_page st) blank
value_step s st blank at (ManufacturerSpecific m p) = Ok (Go st blank)
value_step s st blank at (ManufacturerSpecificEnd m p) = Ok (Go st blank)
value_step s st blank at (MovingText m d t) = Ok (Go st blank)
value_step s st blank at (NewLine ls) = new_line_step s st blank at ls
value_step s st blank at NewPage = Ok Turn
value_step s st blank at (PageBackground c) = Ok (Go st blank)
value_step s st blank at (PageTime a b) = Ok (Go st blank)
value_step s st blank at (SpacingCharacter n) = spacing_step s st blank at n
value_step s st blank at SpacingCharacterEnd = Ok (Go (with_char_spacing st None) blank)
value_step s st blank at (Text p) = span_step at st (entry_of 0 p.start p.len 0 st)
value_step s st blank at (TextRectangle r) = rect_step s st at r

-- an item that fails was refused by the page's scan
abbrev pub item_step : Config → RenderState → Bool → Place → Result Value SyntaxError → Result Step Refusal
item_step s st blank at (Ok v) = value_step s st blank at v
item_step s st blank at (Err e) = Err (refusal_at at (number_of e))

unfoldable pub step : Config → RenderState → Bool → Item → Result Step Refusal
step s st blank it = item_step s st blank (place_of it) it.says

-- ---- A6: the number of a span, where the sign file has kind 6

-- the span is of the state's group: "Spans of one pass sharing page justification, line and line justification form a group" (`matches_span`)
abbrev pub in_group : RenderState → Entry → Bool
in_group st e = eqb st.just_page e.state.just_page && (eqb st.line e.state.line && eqb st.just_line e.state.just_line)

-- "0 if its group has none yet, and otherwise one above the group's last"; the list: the spans of the pass so far; n: the number due before them
abbrev pub group_number : RenderState → ℕ → List Entry → ℕ
group_number st n [] = n
group_number st n (e ∷ es) = group_number st (pick (in_group st e) (suc e.state.span) n) es

-- the state in which the next item is read, after the spans of the pass so far; without kind 6 it keeps its span number
abbrev pub renumbered : Config → List Entry → RenderState → RenderState
renumbered s acc st = with_span st (pick s.groups (group_number st 0 acc) st.span)

-- ---- a message

-- a pass that was read, in its rectangle; a page's end, with the next page's times; a refusal. The list's end is the message's
pub data Event : Type 0 where
  pass : Rect → List Entry → Event
  close : ℕ → ℕ → Event
  stop : Refusal → Event

abbrev pub stop_if : Option Refusal → List Event → List Event
stop_if None l = l
stop_if (Some r) l = stop r ∷ []

-- the whole sign
abbrev pub whole : Config → Rect
whole s = record { left = 0; top = 0; width = s.width; height = s.height }

-- "Line spacing and text rectangle restart with each page; font, character spacing and justification carry on"
abbrev pub new_page : Config → RenderState → RenderState
new_page s st =
    record {
      rect = whole s;
      just_page = st.just_page;
      just_line = st.just_line;
      font = st.font;
      version = st.version;
      line_spacing = None;
      char_spacing = st.char_spacing;
      line = 0;
      span = 0;
    }

-- the state at the message's start: the sign's defaults
abbrev pub start : Config → RenderState
start s =
    record {
      rect = whole s;
      just_page = s.page_just;
      just_line = s.line_just;
      font = s.font;
      version = None;
      line_spacing = None;
      char_spacing = None;
      line = 0;
      span = 0;
    }

-- "A pass ends at [tr], [np] or the end"; "Each pass starts with a blank line". acc: the spans of the pass so far; next reads the rest
abbrev pub follow : Config → ℕ → ℕ → RenderState → List Entry → List Item → (ℕ → ℕ → RenderState → Bool → List Entry → List Event)
    → Result Step Refusal → List Event
follow s a b st acc its next (Err r) = stop r ∷ []
follow s a b st acc its next (Ok (Go st' blank)) = next a b st' blank acc
follow s a b st acc its next (Ok (Emit e st' blank)) = next a b st' blank (acc ++ (e ∷ []))
follow s a b st acc its next (Ok (Cut st')) = pass st.rect acc ∷ next a b st' true []
follow s a b st acc its next (Ok Turn) =
    let c : Scan = scan s a b its in
    pass st.rect acc ∷ close c.on c.off ∷ stop_if c.fault (next c.on c.off (new_page s st) true [])

abbrev pub read : Config → List Item → ℕ → ℕ → RenderState → Bool → List Entry → List Event
read s [] a b st blank acc = pass st.rect acc ∷ []
read s (it ∷ its) a b st blank acc = follow s a b st acc its (read s its) (step s (renumbered s acc st) blank it)

-- the first page's scan
unfoldable pub opening : Config → List Item → Scan
opening s its = scan s s.on_time s.off_time its

unfoldable pub events : Config → List Item → List Event
events s its = stop_if (opening s its).fault (read s its (opening s its).on (opening s its).off (start s) true [])
