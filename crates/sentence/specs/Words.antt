-- Document 02, A1: the words of a refusal, "at most 40 ASCII bytes of words, different for each number in use and "unknown" for others".
use Rattle.std.specs.Prelude.{ℕ, List, [], ◌∷◌, get_or}
use Rattle.base.specs.Text.{ascii}

unfoldable pub unknown : List ℕ
unknown = ascii "unknown"

-- the words of the numbers in use, from 1 on; 0 is none of them
unfoldable pub table : List (List ℕ)
table =
    unknown
    ∷ ascii "sign file is damaged, load it again"
    ∷ ascii "message is over 2,048 bytes, shorten it"
    ∷ ascii "message is not UTF-8, type it again"
    ∷ ascii "room is too small, or offset is wrong"
    ∷ ascii "tag is unknown, or not for this board"
    ∷ ascii "value in this tag cannot be used here"
    ∷ ascii "text has a character no board can show"
    ∷ ascii "too many lines, or texts in one line"
    ∷ ascii "justification goes back, change order"
    ∷ ascii "font is not on this board"
    ∷ ascii "font has another version on this board"
    ∷ ascii "character is not in this font"
    ∷ ascii "text does not fit its rectangle"
    ∷ ascii "font is too tall for this line grid"
    ∷ ascii "too many text rectangles on one page"
    ∷ ascii "room for the sentence is too small"
    ∷ []

unfoldable pub words : ℕ → List ℕ
words n = get_or table n unknown
