-- How a sign file is cut into records. Document 01, "Sign file": "Records: body length (two bytes), kind (two bytes), body; all numbers little-endian".
use Rattle.std.specs.Prelude.{ℕ, zero, suc, ◌+◌, ◌*◌, List, [], ◌∷◌, Bool, true, false, leb, length, get_or, take, drop, Option, Some, None}
use Rattle.base.specs.Pick.{pick}
use Rattle.records.specs.declared.Record.{Record as Head}

-- each test holds
abbrev pub all : List Bool → Bool
all [] = true
all (t ∷ []) = t
all (t ∷ u ∷ ts) = pick t (all (u ∷ ts)) false

-- "little-endian": the number of n bytes at k, the lowest byte first
unfoldable pub little_at : ℕ → ℕ → List ℕ → ℕ
little_at zero k l = 0
little_at (suc n) k l = get_or l k 0 + 256 * little_at n (k + 1) l

-- "body length (two bytes), kind (two bytes)", of the record that l starts with
unfoldable pub body_len : List ℕ → ℕ
body_len l = little_at 2 0 l

unfoldable pub kind_of : List ℕ → ℕ
kind_of l = little_at 2 2 l

-- l has the whole of the record that it starts with: else it is "cut short" (refusal 1)
unfoldable pub whole : List ℕ → Bool
whole l = all (leb 4 (length l) ∷ leb (4 + body_len l) (length l) ∷ [])

-- a record with its offset in the file, its kind and its body; or the last one, cut short, with its offset
pub data Piece : Type 0 where
  Record : ℕ → ℕ → List ℕ → Piece
  CutShort : ℕ → Piece

-- the record at the start of l, whose offset in the file is given
unfoldable pub first_piece : ℕ → List ℕ → Piece
first_piece at l = pick (whole l) (Record at (kind_of l) (take (body_len l) (drop 4 l))) (CutShort at)

-- how many bytes after its first one it takes: one cut short takes all
unfoldable pub rest_len : List ℕ → ℕ
rest_len l = pick (whole l) (3 + body_len l) (length l)

-- the records of l without its first k bytes
unfoldable pub cut_from : ℕ → ℕ → List ℕ → List Piece
cut_from at k [] = []
cut_from at zero (b ∷ l) = first_piece at (b ∷ l) ∷ cut_from (suc at) (rest_len (b ∷ l)) l
cut_from at (suc k) (b ∷ l) = cut_from (suc at) k l

-- the records of a file
unfoldable pub pieces : List ℕ → List Piece
pieces file = cut_from 0 0 file

-- the records of a file from an offset on
unfoldable pub pieces_at : List ℕ → ℕ → List Piece
pieces_at file at = cut_from at 0 (drop at file)

-- the record at the start of l: its kind, where its body starts and where it ends
abbrev pub head_of : ℕ → List ℕ → Head
head_of at l = record { kind = kind_of l; start = at + 4; end = at + 4 + body_len l }

-- what `record_at` answers
unfoldable pub head_at : List ℕ → ℕ → Option Head
head_at file at = pick (whole (drop at file)) (Some (head_of at (drop at file))) None
