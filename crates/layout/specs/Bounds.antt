-- What holds of every call, refused or not: the listing ends, a page fits the lent slice, a refusal changes nothing and has its place.
use Rattle.std.specs.Prelude.{ℕ, suc, ◌+◌, ◌*◌, ◌≤◌, ◌<◌, ◌≡◌, List, [], ◌∷◌, map, false, eqb, length}
use Rattle.base.specs.Pick.{pick}
use Rattle.token.specs.Token.{Slice, slices}
use Rattle.reading.specs.Reading.{item_of}
use Rattle.refusal.specs.declared.Refusal.{Refusal}
use Rattle.records.specs.Record.{Piece, Record, CutShort, pieces}
use Rattle.sign.specs.Sign.{RefusedAt, sign_file}
use Rattle.layout.specs.declared.Span.{Span}
use Rattle.layout.specs.declared.Answer.{Answer}
use Rattle.layout.specs.declared.Answer.TheVariants.{On, Off, End, Refused}
use Rattle.layout.specs.Listing.{listing, after}
use Rattle.layout.specs.Demand.{Role, text, hexadecimal, rectangle, page_just, new_page, other, role_in, In, Shows}

-- the number of [np]
abbrev pub breaks : Role → ℕ
breaks (text p) = 0
breaks hexadecimal = 0
breaks (rectangle r) = 0
breaks (page_just j) = 0
breaks new_page = 1
breaks other = 0

-- the [np] of a message: whether long times hold makes no difference to them
abbrev pub page_breaks : List Slice → ℕ
page_breaks [] = 0
page_breaks (s ∷ ss) = breaks (role_in (item_of false s.start s.bytes)) + page_breaks ss

-- the offsets of a sign file's records, "one cut short included"
abbrev pub offset : Piece → ℕ
offset (Record at kind body) = at
offset (CutShort at) = at

abbrev pub offsets : List ℕ → List ℕ
offsets file = map offset (pieces file)

-- the answer is the end or a refusal
abbrev pub Stops : Answer → Type 0
Stops (On d n) = ⊥
Stops (Off d) = ⊥
Stops (End n) = Unit {0}
Stops (Refused r) = Unit {0}

-- asked for answers 0, 1 and on, the end or a refusal comes, after `top` answers at most
pub record StopsBy (file msg : List ℕ) (lent : ℕ → List Span) (top : ℕ) : Type 0 where
  pub last : ℕ
  pub soon : last ≤ top
  pub shows : (n : ℕ) → n < last → Shows (listing file msg n (lent n))
  pub stops : Stops (listing file msg last (lent last))

pub record Bounded (file msg : List ℕ) : Type 0 where
  -- "A message has at most 2 × (number of [np] + 1) answers"
  pub answers : (lent : ℕ → List Span) → StopsBy file msg lent (2 * suc (page_breaks (slices msg)))
  -- a page has at most 1,400 records: every slice that is not refused has room
  pub fits : (n : ℕ) (lent : List Span) (d k : ℕ) → listing file msg n lent ≡ On d k → k ≤ 1400
  -- the slice keeps its length
  pub keeps : (n : ℕ) (lent : List Span) → length (after file msg n lent) ≡ length lent
  -- a refusal "changes no record"
  pub unchanged : (n : ℕ) (lent : List Span) (x : Refusal) → listing file msg n lent ≡ Refused x → after file msg n lent ≡ lent
  -- "From a refused answer on, every later answer is that refusal"; a slice of fewer records has its own, 4
  pub stays : (n m : ℕ) (a b : List Span) (x : Refusal) → n ≤ m → 1400 ≤ length a → 1400 ≤ length b → listing file msg n a ≡ Refused x
      → listing file msg m b ≡ Refused x
  -- 1 to 3 depend on neither the answer number nor the slice
  pub early : (n m : ℕ) (a b : List Span) (x : Refusal) → x.number ≤ 3 → listing file msg n a ≡ Refused x → listing file msg m b ≡ Refused x
  -- a refusal's place lies within the message; that of 1, within the sign file
  pub places : (n : ℕ) (lent : List Span) (x : Refusal) → listing file msg n lent ≡ Refused x
      → x.start + x.length ≤ length (pick (eqb x.number 1) file msg)
  -- 1: "The sign file breaks a rule above; start is 0 if the file is too long (looked at first) or empty, otherwise the offset of the first record that
  -- fails, one cut short included"
  pub sign : (n : ℕ) (lent : List Span) (x : Refusal) → listing file msg n lent ≡ Refused x → x.number ≡ 1 → sign_file file ≡ RefusedAt x.start
  pub sign_place : (start : ℕ) → sign_file file ≡ RefusedAt start → 0 < length file → In start (offsets file)
