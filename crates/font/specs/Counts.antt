-- A2: what the count of characters looked up says of a text, "equal to the text's code points unless it refuses".
use Rattle.std.specs.Prelude.{ℕ, suc, ◌≡◌, List, ◌∷◌, ◌++◌, length, Ok, Err, None}
use Rattle.sign.specs.Sign.{Character}
use Rattle.font.specs.Character.{character_in}
use Rattle.font.specs.Measure.{text_width, looked_up}

-- the count up to and with the missing character c: those before it have a width
pub record UpTo (chs : List Character) (spacing : ℕ) (l : List ℕ) (c : ℕ) : Type 0 where
  pub earlier : List ℕ
  pub later : List ℕ
  pub width : ℕ
  pub parts : l ≡ earlier ++ (c ∷ later)
  pub known : text_width chs spacing earlier ≡ Ok width
  pub unknown : character_in c chs ≡ None
  pub count : looked_up chs l ≡ suc (length earlier)

-- of a text with the code points l
pub record Counts (chs : List Character) (spacing : ℕ) (l : List ℕ) : Type 0 where
  pub all : (w : ℕ) → text_width chs spacing l ≡ Ok w → looked_up chs l ≡ length l
  pub up_to : (c : ℕ) → text_width chs spacing l ≡ Err (record { code = c }) → UpTo chs spacing l c
