-- Demand 3 (quoted in docs/DEMANDS.md), with document 01, "What demand 3 compares": what holds of a whole listing that no refusal ends.
use Rattle.std.specs.Prelude.{ℕ, zero, suc, ◌+◌, ◌≤◌, ◌<◌, ◌%◌, ◌≡◌, ◌⊎◌, true, false, List, [], ◌∷◌, ◌++◌, map, leb, length, take, Option, Some, Result, Ok, Err, unwrap_or}
use Rattle.base.specs.Pick.{pick}
use Rattle.token.specs.declared.Shape.{Shape}
use Rattle.token.specs.declared.Shape.TheVariants.{Bracket, Tag, Stray, Text as TextShape}
use Rattle.token.specs.Token.{Slice, shape_of, slices}
use Rattle.value.specs.declared.Place.{Place}
use Rattle.value.specs.declared.Rectangle.{Rectangle}
use Rattle.value.specs.declared.SyntaxError.{SyntaxError}
use Rattle.value.specs.declared.Value.{Value}
use Rattle.value.specs.declared.Value.TheVariants.{ColorBackground, ColorForeground, ColorRectangle, Field, Flash, FlashEnd, Font, Graphic, HexadecimalCharacter, JustificationLine, JustificationPage, ManufacturerSpecific, ManufacturerSpecificEnd, MovingText, NewLine, NewPage, PageBackground, PageTime, SpacingCharacter, SpacingCharacterEnd, Text, TextRectangle}
use Rattle.records.specs.declared.Config.{Config}
use Rattle.sign.specs.Sign.{Font as SignFont, Accepted, sign_file}
use Rattle.layout.specs.declared.Span.{Span}
use Rattle.layout.specs.declared.Answer.{Answer}
use Rattle.layout.specs.declared.Answer.TheVariants.{On, Off, End, Refused}
use Rattle.layout.specs.declared.Rect.{Rect}
use Rattle.layout.specs.declared.Entry.{Entry}
use Rattle.layout.specs.Types.{Item, item_at, items, Board}
use Rattle.font.specs.Table.{font_numbered}
use Rattle.font.specs.Character.{letters_of}
use Rattle.font.specs.Measure.{text_width}
use Rattle.layout.specs.Fonts.{chars_of, board_of}
use Rattle.layout.specs.Placing.{group, due, record_of, pass_records}
use Rattle.layout.specs.Read.{rect_of, whole, Event, pass, close, stop, events}
use Rattle.layout.specs.Listing.{listing, after}

-- ---- lists

-- a stands in the list
pub data In {ℓ} {A : Type ℓ} : A → List A → Type ℓ where
  here : {a : A} {l : List A} → In a (a ∷ l)
  there : {a b : A} {l : List A} → In a l → In a (b ∷ l)

-- a and b stand side by side in the list
pub data Next {ℓ} {A : Type ℓ} : A → A → List A → Type ℓ where
  first : {a b : A} {l : List A} → Next a b (a ∷ b ∷ l)
  later : {a b c : A} {l : List A} → Next a b l → Next a b (c ∷ l)

-- a stands before b in the list
pub data Before {ℓ} {A : Type ℓ} : A → A → List A → Type ℓ where
  from_here : {a b : A} {l : List A} → In b l → Before a b (a ∷ l)
  from_there : {a b c : A} {l : List A} → Before a b l → Before a b (c ∷ l)

-- the numbers rise strictly, from above n
abbrev pub From : ℕ → List ℕ → Type 0
From n [] = Unit {0}
From n (k ∷ ks) = (n < k) × From k ks

abbrev pub Rises : List ℕ → Type 0
Rises [] = Unit {0}
Rises (k ∷ ks) = From k ks

-- the numbers are n, n + 1 and on
abbrev pub Consecutive : ℕ → List ℕ → Type 0
Consecutive n [] = Unit {0}
Consecutive n (k ∷ ks) = (k ≡ n) × Consecutive (suc n) ks

-- ---- a whole listing: "the calls for answers 0, 1 and on up to the end or a refusal .., each on a slice of any length and contents"

-- the answer is neither the end nor a refusal
abbrev pub Shows : Answer → Type 0
Shows (On d n) = Unit {0}
Shows (Off d) = Unit {0}
Shows (End n) = ⊥
Shows (Refused r) = ⊥

-- call n is lent the slice `lent n`; answer N is the first that is the end, and none before it is a refusal
pub record Whole (file msg : List ℕ) (lent : ℕ → List Span) (N : ℕ) : Type 0 where
  pub answers : ℕ
  pub ends : listing file msg N (lent N) ≡ End answers
  pub shows : (n : ℕ) → n < N → Shows (listing file msg n (lent n))

-- "those that each on answer counts"
abbrev pub counted_records : Answer → List Span → List Span
counted_records (On d n) l = take n l
counted_records (Off d) l = []
counted_records (End n) l = []
counted_records (Refused r) l = []

-- "as its call left them, answer after answer": those of n answers from number i on
abbrev pub listed : List ℕ → List ℕ → (ℕ → List Span) → ℕ → ℕ → List Span
listed file msg lent i zero = []
listed file msg lent i (suc n) = counted_records (listing file msg i (lent i)) (after file msg i (lent i)) ++ listed file msg lent (suc i) n

-- ---- what is printed

-- what a slice is to demand 3
pub data Role : Type 0 where
  text : Place → Role
  hexadecimal : Role
  rectangle : Rectangle → Role
  page_just : Option ℕ → Role
  new_page : Role
  other : Role

abbrev pub role_of : Value → Role
role_of (ColorBackground c) = other
role_of (ColorForeground c) = other
role_of (ColorRectangle r c) = other
role_of (Field n w) = other
role_of (Flash o a b) = other
role_of FlashEnd = other
role_of (Font f) = other
role_of (Graphic n p) = other
role_of (HexadecimalCharacter c) = hexadecimal
role_of (JustificationLine j) = other
role_of (JustificationPage j) = page_just j
role_of (ManufacturerSpecific m p) = other
role_of (ManufacturerSpecificEnd m p) = other
role_of (MovingText m d t) = other
role_of (NewLine s) = other
role_of NewPage = new_page
role_of (PageBackground c) = other
role_of (PageTime a b) = other
role_of (SpacingCharacter s) = other
role_of SpacingCharacterEnd = other
role_of (Text p) = text p
role_of (TextRectangle r) = rectangle r

abbrev pub role_in : Result Value SyntaxError → Role
role_in (Ok v) = role_of v
role_in (Err e) = other

-- a slice reads: it has a value
abbrev pub Reads : Result Value SyntaxError → Type 0
Reads (Ok v) = Unit {0}
Reads (Err e) = ⊥

-- a tag prints if it is [hc]
abbrev pub printed_tag : Role → ℕ → ℕ → List (ℕ × ℕ)
printed_tag (text p) start len = []
printed_tag hexadecimal start len = (start, len) ∷ []
printed_tag (rectangle r) start len = []
printed_tag (page_just j) start len = []
printed_tag new_page start len = []
printed_tag other start len = []

-- start and length of what a slice prints, by its shape: "the message's text slices and [hc] tags (length 1 for [[ and ]])"
abbrev pub printed_slice : Result Value SyntaxError → Shape → ℕ → ℕ → List (ℕ × ℕ)
printed_slice x Bracket start len = (start, 1) ∷ []
printed_slice x Tag start len = printed_tag (role_in x) start len
printed_slice x Stray start len = []
printed_slice x TextShape start len = (start, len) ∷ []

-- as the sign reads them
abbrev pub printed : Config → List Slice → List (ℕ × ℕ)
printed c [] = []
printed c (s ∷ ss) = printed_slice (item_at c s).says (shape_of s.bytes) s.start (length s.bytes) ++ printed c ss

-- start and length of "the records of kinds 0 and 1"
abbrev pub printed_by : ℕ → ℕ → ℕ → List (ℕ × ℕ)
printed_by zero start len = (start, len) ∷ []
printed_by (suc zero) start len = (start, len) ∷ []
printed_by (suc (suc k)) start len = []

abbrev pub printed_records : List Span → List (ℕ × ℕ)
printed_records [] = []
printed_records (q ∷ qs) = printed_by q.kind q.start q.length ++ printed_records qs

-- ---- where a span stands

-- what holds at a place of the message, from what holds at its start: `next` is what a slice before the place makes of it
abbrev pub at_place : {A : Type 0} → (A → Role → A) → A → List Item → ℕ → A
at_place next a [] n = a
at_place next a (it ∷ its) n = pick (leb n it.start) a (at_place next (next a (role_in it.says)) its n)

-- the text rectangle after a slice: that of a [tr], "a zero size reaching to the sign's edge"; the whole sign on a new page; else as before
abbrev pub rect_after : Config → Rect → Role → Rect
rect_after s r (text p) = r
rect_after s r hexadecimal = r
rect_after s r (rectangle q) = rect_of s q
rect_after s r (page_just j) = r
rect_after s r new_page = whole s
rect_after s r other = r

-- the text rectangle at a place of the message: "the last [tr] before it on its page .. or else the whole sign"
abbrev pub rect_at_place : Config → List ℕ → ℕ → Rect
rect_at_place c msg n = at_place (rect_after c) (whole c) (items c msg) n

-- the page justification after a slice (2 top, 3 middle, 4 bottom): that of a [jp], the sign's where it has no number; else as before, for with a new
-- page "font, character spacing and justification carry on"
abbrev pub just_after : Config → ℕ → Role → ℕ
just_after s j (text p) = j
just_after s j hexadecimal = j
just_after s j (rectangle q) = j
just_after s j (page_just n) = unwrap_or n s.page_just
just_after s j new_page = j
just_after s j other = j

-- the page justification at a place of the message: that of the last [jp] before it, or else the sign's
abbrev pub just_at_place : Config → List ℕ → ℕ → ℕ
just_at_place c msg n = at_place (just_after c) c.page_just (items c msg) n

-- "Inside: x is at least the rectangle's x - 1, x + width at most the rectangle's x - 1 + its width"
pub record Across (r : Rect) (q : Span) : Type 0 where
  pub left : r.left ≤ q.x
  pub right : q.x + q.width ≤ r.left + r.width

-- "y and height likewise"
pub record Down (r : Rect) (q : Span) : Type 0 where
  pub top : r.top ≤ q.y
  pub bottom : q.y + q.height ≤ r.top + r.height

-- the record of a span tells what was read: "kind .., start and length in message bytes, character code .., font, line, span number, rectangle (its x
-- and y from 1 as in [tr], its zero sizes already extended)"
pub record Tells (r : Rect) (e : Entry) (q : Span) : Type 0 where
  pub kind : q.kind ≡ e.kind
  pub start : q.start ≡ e.start
  pub length : q.length ≡ e.len
  pub code : q.code ≡ e.code
  pub font : q.font ≡ e.state.font
  pub line : q.line ≡ e.state.line
  pub span : q.span ≡ e.state.span
  pub rect_x : q.rect_x ≡ suc r.left
  pub rect_y : q.rect_y ≡ suc r.top
  pub rect_width : q.rect_width ≡ r.width
  pub rect_height : q.rect_height ≡ r.height

-- "A span's width is the measure of its text, 0 for an empty one; its height is its font's, an empty span's too"; its font has its characters, or
-- capitals that stand in for them (document 02, A4)
pub record Measured (c : Config) (msg : List ℕ) (fs : List SignFont) (e : Entry) (q : Span) : Type 0 where
  pub font : SignFont
  pub found : font_numbered e.state.font fs ≡ Some font
  pub width : text_width (letters_of c.capitals font.characters) (unwrap_or e.state.char_spacing font.char_spacing) (chars_of msg e)
      ≡ Ok q.width
  pub height : q.height ≡ font.height

-- "the character height is 0 or divides every font height"
abbrev pub Divides : Config → List SignFont → Type 0
Divides c fs = (c.char_height ≡ 0) ⊎ ((f : SignFont) → In f fs → f.height % c.char_height ≡ 0)

abbrev pub spans : List Entry → List ℕ
spans es = map (λ e. e.state.span) es

-- the records of the passes, one for each span
abbrev pub placed : Board → List Event → List Span
placed s [] = []
placed s (pass r es ∷ evs) = pass_records s r es ++ placed s evs
placed s (close a b ∷ evs) = placed s evs
placed s (stop x ∷ evs) = placed s evs

-- a pass of a message, in the rectangle r with the spans es: the record of a span e is `record_of s r es e`
module _ (c : Config) (fs : List SignFont) (msg : List ℕ) (r : Rect) (es : List Entry) where
  abbrev own_record : Entry → Span
  own_record e = record_of (board_of msg c fs) r es e

  abbrev group_of : Entry → List Entry
  group_of e = group (board_of msg c fs) r es e

  pub record Stands : Type 0 where
    -- "A span's text rectangle is the last [tr] before it on its page .. or else the whole sign"
    pub rect : (e : Entry) → In e es → r ≡ rect_at_place c msg e.start
    -- and its page justification that of the last [jp]
    pub just : (e : Entry) → In e es → e.state.just_page ≡ just_at_place c msg e.start
    pub tells : (e : Entry) → In e es → Tells r e (own_record e)
    pub measured : (e : Entry) → In e es → Measured c msg fs e (own_record e)
    -- "each span lies inside its text rectangle on all four sides"; "For the top and bottom of middle placing this holds if" the height divides
    pub across : (e : Entry) → In e es → Across r (own_record e)
    pub down : (e : Entry) → In e es → (e.state.just_page ≡ 3 → Divides c fs) → Down r (own_record e)
    -- A6, with kind 6: a span's number "is 0 if its group has none yet, and otherwise one above the group's last", so that they rise strictly
    pub numbers : c.groups ≡ true → (e : Entry) → Consecutive 0 (spans (group_of e))
    -- "of two neighbours in one justification group the later one's x = the earlier one's x + its width + the spacing due", "if the group's span
    -- numbers rise strictly in the message's order and, in centred lines, the character width is 0 or 1"; A6: with kind 6 "without the premise on
    -- span numbers; the centred-line premise remains"
    pub spacing : (a b : Entry) → Next a b (group_of a) → (c.groups ≡ false → Rises (spans (group_of a))) → (a.state.just_line ≡ 3 → c.char_width ≤ 1)
        → (own_record b).x ≡ (own_record a).x + (own_record a).width + due (board_of msg c fs).meter a b
    -- and so no two spans of a group stand on each other
    pub apart : (a b : Entry) → Before a b (group_of a) → (c.groups ≡ false → Rises (spans (group_of a))) → (a.state.just_line ≡ 3 → c.char_width ≤ 1)
        → (own_record a).x + (own_record a).width ≤ (own_record b).x

-- of a whole listing
pub record Demand3 (file msg : List ℕ) (lent : ℕ → List Span) (N : ℕ) : Type 0 where
  pub config : Config
  pub fonts : List SignFont
  pub accepted : sign_file file ≡ Accepted config fonts
  -- "end with the count of answers"
  pub ends : listing file msg N (lent N) ≡ End N
  -- no slice of the message fails
  pub reads : (s : Slice) → In s (slices msg) → Reads (item_at config s).says
  -- "each printed character stands in exactly one listed span, and the spans come in the message's order"
  pub printing : printed_records (listed file msg lent 0 N) ≡ printed config (slices msg)
  pub rising : Rises (map (λ q. q.start) (listed file msg lent 0 N))
  -- the records are those of the message's spans, pass by pass
  pub spans_listed : listed file msg lent 0 N ≡ placed (board_of msg config fonts) (events config (items config msg))
  pub passes : (r : Rect) (es : List Entry) → In (pass r es) (events config (items config msg)) → Stands config fonts msg r es
  -- and so "each span lies inside its text rectangle on all four sides"; "For the top and bottom of middle placing this holds if the character height
  -- is 0 or divides every font height"
  pub inside : (q : Span) → In q (listed file msg lent 0 N) → Across (rect_at_place config msg q.start) q
  pub inside_down : (q : Span) → In q (listed file msg lent 0 N) → (just_at_place config msg q.start ≡ 3 → Divides config fonts)
      → Down (rect_at_place config msg q.start) q
