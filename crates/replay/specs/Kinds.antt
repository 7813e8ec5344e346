-- The kinds of cases, by the letter that a case line begins with.
use Rattle.std.specs.Prelude.{ℕ, List, Option, Some, None, eqb, length, get_or}
use Rattle.base.specs.Pick.{pick}
use Rattle.replay.specs.declared.stream.Kind.{Kind}
use Rattle.replay.specs.declared.stream.Kind.TheVariants as kind

abbrev pub kind_by : ℕ → Option Kind
kind_by b =
    pick (eqb b 68) (Some kind.D)
    (pick (eqb b 88) (Some kind.X)
    (pick (eqb b 81) (Some kind.Q)
    (pick (eqb b 83) (Some kind.S)
    (pick (eqb b 73) (Some kind.I)
    (pick (eqb b 86) (Some kind.V)
    (pick (eqb b 76) (Some kind.L) None))))))

-- the kind that a word of one letter names
unfoldable pub kind_of : List ℕ → Option Kind
kind_of word = pick (eqb (length word) 1) (kind_by (get_or word 0 0)) None
