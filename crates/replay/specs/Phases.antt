-- What the next line of a stream belongs to.
use Rattle.std.specs.Prelude.{Bool, true, false, Option, Some, None}
use Rattle.replay.specs.declared.stream.Kind.{Kind}
use Rattle.replay.specs.declared.stream.Phase.{Phase}
use Rattle.replay.specs.declared.stream.Phase.TheVariants.{Head, Case, Answer, Count, Rows, Listing, Records, Done}

-- the case whose answer it is in, if that is none of a listing
abbrev pub answered : Phase → Option Kind
answered Head = None
answered Case = None
answered (Answer k) = Some k
answered (Count k) = Some k
answered (Rows k n) = Some k
answered Listing = None
answered (Records n) = None
answered Done = None

-- whether it is of a listing
abbrev pub in_listing : Phase → Bool
in_listing Head = false
in_listing Case = false
in_listing (Answer k) = false
in_listing (Count k) = false
in_listing (Rows k n) = false
in_listing Listing = true
in_listing (Records n) = true
in_listing Done = false
