-- All slices of a message in one call. It is ours (docs/DECISIONS.md), beside document 01's reading call, and made of the same `item_of`.
use Rattle.std.specs.Prelude.{ℕ, List, ◌++◌, map, Bool, ltb, length, drop, replicate, Option, Some, None, Result, Ok, Err}
use Rattle.base.specs.Pick.{pick}
use Rattle.utf8.specs.Utf8.{well_formed}
use Rattle.token.specs.Token.{Slice, slices}
use Rattle.value.specs.declared.SyntaxError.{SyntaxError}
use Rattle.value.specs.declared.Value.{Value}
use Rattle.value.specs.Syntax.{number_of}
use Rattle.numbers.specs.Numbers.{numbers_of}
use Rattle.refusal.specs.declared.Refusal.{Refusal}
use Rattle.refusal.specs.Refusals.{refusal}
use Rattle.reading.specs.Reading.{item_of}
use Rattle.readings.specs.declared.SliceRead.{SliceRead}

-- a slice and its value, "as code and eight numbers"; a slice "that fails stands in the list with its number", which is 0 for one that does not
abbrev pub said_read : ℕ → ℕ → Result Value SyntaxError → SliceRead
said_read at n (Ok v) = record { start = at; length = n; number = 0; code = (numbers_of v).code; n = (numbers_of v).n }
said_read at n (Err e) = record { start = at; length = n; number = number_of e; code = 0; n = replicate 8 0 }

-- what a slice of the message says, as the reading call is told: long times hold or not
abbrev pub slice_read : Bool → Slice → SliceRead
slice_read long s = said_read s.start (length s.bytes) (item_of long s.start s.bytes)

-- "reading goes on with the next": every slice of a message
abbrev pub readings : Bool → List ℕ → List SliceRead
readings long msg = map (slice_read long) (slices msg)

-- the checks in order, 2 and 3 as the reading call has them, then 4, "fewer than 2,048 readings" lent; they have no place
unfoldable pub fault : List ℕ → ℕ → Option Refusal
fault msg room =
    pick (ltb 2048 (length msg)) (Some (refusal 2 0 0 0))
    (pick (well_formed msg) (pick (ltb room 2048) (Some (refusal 4 0 0 0)) None)
    (Some (refusal 3 0 0 0)))

-- "the count of slices, or 2, 3, 4"
abbrev pub counted : Option Refusal → ℕ → Result ℕ Refusal
counted None n = Ok n
counted (Some r) n = Err r

-- "A refusal changes nothing"; "what is past the counts stays"
abbrev pub over_unless : Option Refusal → List SliceRead → List SliceRead → List SliceRead
over_unless None l lent = l ++ drop (length l) lent
over_unless (Some r) l lent = lent

-- the answer of the call
unfoldable pub all_read : Bool → List ℕ → List SliceRead → Result ℕ Refusal
all_read long msg lent = counted (fault msg (length lent)) (length (readings long msg))

-- the lent slice after it
unfoldable pub read_after : Bool → List ℕ → List SliceRead → List SliceRead
read_after long msg lent = over_unless (fault msg (length lent)) (readings long msg) lent
