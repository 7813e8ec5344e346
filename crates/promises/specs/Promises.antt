-- What is promised of the product, in one reading: each line is a theorem, for every sign file, every message and every lent slice. All of it speaks of
-- `listing` and `after`, which by the contract of `list` (crates/listing/src/lib.rt) are the answer of the call that runs and the slice that it leaves; of the
-- whole listing in one call, `list_all` (crates/whole/src/lib.rt), it is said that it gives the same, and so of `read_all` (crates/readings/src/lib.rt) beside
-- the reading call; the lines of requests of document 02, A1 and on, of what they say.
use Rattle.std.specs.Prelude.{ℕ, ◌<◌, ◌≡◌, Bool, List}
use Rattle.token.specs.Token.{joined, slices}
use Rattle.refusal.specs.declared.Refusal.{Refusal}
use Rattle.readings.specs.declared.SliceRead.{SliceRead}
use Rattle.readings.specs.Each.{ReadsAll}
use Rattle.sign.specs.Sign.{Character}
use Rattle.font.specs.Counts.{Counts}
use Rattle.admit.specs.Admission.{denied, admission}
use Rattle.font.specs.Character.{StandsIn}
use Rattle.layout.specs.declared.Span.{Span}
use Rattle.layout.specs.declared.Answer.TheVariants.{Refused}
use Rattle.layout.specs.Listing.{listing, after}
use Rattle.layout.specs.Demand.{Whole, Demand3}
use Rattle.layout.specs.Bounds.{Bounded}
use Rattle.layout.specs.Boards.{Boards}
use Rattle.counts.specs.Page.{PageCounts}
use Rattle.every.specs.declared.Shown.{Shown}
use Rattle.every.specs.Calls.{WholeListing}
use Rattle.sentence.specs.Recovered.{Sentenced, Worded}

pub record Promises : Type 0 where
  -- no byte of a message is lost: its slices, joined, are the message
  pub nothing_lost : (msg : List ℕ) → joined (slices msg) ≡ msg
  -- refusals 1 to 3 come first, whatever answer is asked for and whatever slice is lent
  pub checked_first : (file msg : List ℕ) (n : ℕ) (lent : List Span) (r : Refusal) → admission file msg ≡ denied r → listing file msg n lent ≡ Refused r
  -- "A refusal .. changes no record"
  pub refusals_change_nothing : (file msg : List ℕ) (n : ℕ) (lent : List Span) (r : Refusal) → listing file msg n lent ≡ Refused r
      → after file msg n lent ≡ lent
  -- demand 3, of a whole listing without a refusal: "over all the on answers together each printed character stands in exactly one listed span, and the
  -- spans come in the message's order; each span lies inside its text rectangle on all four sides; and of two neighbours in one justification group the
  -- later one's x = the earlier one's x + its width + the spacing due", with its two conditions
  pub demand_3 : (file msg : List ℕ) (lent : ℕ → List Span) (N : ℕ) → Whole file msg lent N → Demand3 file msg lent N
  -- of every call, refused or not: the listing ends within "2 × (number of [np] + 1) answers", a page has at most 1,400 records, the slice keeps its length,
  -- a refusal stays, and its place lies within the message or the sign file
  pub bounds : (file msg : List ℕ) → Bounded file msg
  -- the whole listing in one call: its answers and records are those of the calls one by one, so that demand 3 speaks of them too; it needs at most 1,026
  -- answers and 2,048 records; a refusal is the first of the calls, and changes nothing
  pub whole_listing : (file msg : List ℕ) (answers : List Shown) (recs : List Span) → WholeListing file msg answers recs
  -- all slices of a message in one call: "Each element equals the reading call at its start", there are as many as slices and at most 2,048; what is past
  -- the count stays, and a refusal changes nothing
  pub reads_all : (long : Bool) (msg : List ℕ) (lent : List SliceRead) → ReadsAll long msg lent
  -- document 01's worked boards, and those that catch other readings of its rules
  pub worked_boards : Boards
  -- A1, of a refusal whose "number has 8 bits, the others 16": its sentence has at most 96 bytes, is ASCII "ended by the only full stop", and "From the
  -- sentence alone all four can be recovered"
  pub sentences : (r : Refusal) → r.number < 256 → r.start < 65536 → r.length < 65536 → r.detail < 65536 → Sentenced r
  -- A1: "at most 40 ASCII bytes of words, different for each number in use and "unknown" for others"
  pub words : Worded
  -- A2, of a font's characters and the code points of a text or [hc]: the count of characters looked up is "equal to the text's code points unless it
  -- refuses", and then that of those up to and with the missing one. By their contracts `text_width` and the measures of meter answer this count
  pub looked_up_law : (chs : List Character) (spacing : ℕ) (l : List ℕ) → Counts chs spacing l
  -- A9, of every call: "The result carries two counts: the characters that its measures looked up, equal to the page's printed characters, and the spans
  -- placed, equal to its records"; where the page is refused "both counts are 0", and for off and end. By its contract `place` (crates/listing/src/lib.rt)
  -- answers `placing` and leaves `after`
  pub page_counted : (file msg : List ℕ) (n : ℕ) (lent : List Span) → PageCounts file msg n lent
  -- A4, of the characters of every font, where the file has the option: a missing a to z is "looked up as its capital", and nothing else is changed
  pub capitals : (chs : List Character) → StandsIn chs
