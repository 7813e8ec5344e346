-- Document 01, "Font measure": "`Font::character` gives the font's entry whose number is the code; code 0, which no file can define, counts as
-- a character of width 0 without lamps".
use Rattle.std.specs.Prelude.{ℕ, ◌+◌, ◌-◌, ◌≡◌, List, [], ◌∷◌, ◌++◌, map, Bool, true, false, leb, eqb, take, Option, Some, None}
use Rattle.base.specs.Pick.{pick}
use Rattle.records.specs.Record.{all, pieces_at}
use Rattle.sign.specs.Sign.{Character, characters_of}
use Rattle.sign.specs.declared.FontEntry.{FontEntry}
use Rattle.font.specs.declared.Found.{Found}
use Rattle.font.specs.declared.Characters.{Characters}
use Rattle.font.specs.declared.FileFont.{FileFont}

-- a character's width, and where its bitmap starts
abbrev pub found_of : Character → Found
found_of ch = record { width = ch.width; bitmap = ch.bitmap }

-- the character whose number is the code
unfoldable pub lookup : ℕ → List Character → Option Found
lookup code [] = None
lookup code (ch ∷ chs) = pick (eqb ch.number code) (Some (found_of ch)) (lookup code chs)

-- the same, with code 0
unfoldable pub character_in : ℕ → List Character → Option Found
character_in code chs = pick (eqb code 0) (Some (record { width = 0; bitmap = 0 })) (lookup code chs)

-- Document 02, A4: "lets a missing a to z be looked up as its capital". A to Z are 65 to 90, a to z are 32 above them.

unfoldable pub is_capital : ℕ → Bool
is_capital n = all (leb 65 n ∷ leb n 90 ∷ [])

unfoldable pub is_small : ℕ → Bool
is_small n = all (leb 97 n ∷ leb n 122 ∷ [])

-- a capital in place of its small letter
abbrev pub as_small : Character → Character
as_small ch = record { number = ch.number + 32; width = ch.width; bitmap = ch.bitmap }

-- the capitals of a font, each in place of its small letter
unfoldable pub stand_ins : List Character → List Character
stand_ins [] = []
stand_ins (ch ∷ chs) = pick (is_capital ch.number) (as_small ch ∷ stand_ins chs) (stand_ins chs)

-- the characters that every code is looked up in: the font's own, and where the file has the option the stand-ins behind them. The first with a
-- number is found, so that a small letter of the font's own goes before
abbrev pub letters_of : Bool → List Character → List Character
letters_of false chs = chs
letters_of true chs = chs ++ stand_ins chs

-- what that comes to, in A4's words
pub record StandsIn (chs : List Character) : Type 0 where
  -- what the font has is found, its small letters too
  pub own : (code : ℕ) (f : Found) → character_in code chs ≡ Some f → character_in code (letters_of true chs) ≡ Some f
  -- "a missing a to z" is "looked up as its capital"
  pub capital : (code : ℕ) → is_small code ≡ true → character_in code chs ≡ None → character_in code (letters_of true chs) ≡ character_in (code - 32) chs
  -- nothing stands in for any other
  pub other : (code : ℕ) → is_small code ≡ false → character_in code (letters_of true chs) ≡ character_in code chs

-- the characters that an entry of the table of fonts stands for
unfoldable pub characters_at : List ℕ → FontEntry → List Character
characters_at file e = take e.characters (characters_of (pieces_at file e.first))

-- the same, with stand-ins where the file has the option
unfoldable pub letters_at : List ℕ → FontEntry → Bool → List Character
letters_at file e capitals = letters_of capitals (characters_at file e)

-- and those of a font of a file as the code has it
abbrev pub own_letters : FileFont → List Character
own_letters f = characters_at f.file.now f.entry

abbrev pub letters : FileFont → List Character
letters f = letters_at f.file.now f.entry f.capitals

-- what a character's record says: its number, and what is found by it
abbrev pub letter_of : Character → ℕ × Found
letter_of ch = (ch.number, found_of ch)

-- what the reader of a font's characters has left
abbrev pub left_of : Characters → List (ℕ × Found)
left_of r = map letter_of (take r.left (characters_of (pieces_at r.file.now r.at)))
