-- What holds of every file that is accepted, for the layers above.
use Rattle.std.specs.Prelude.{ℕ, ◌+◌, ◌≤◌, ◌<◌, ◌≡◌, List, [], ◌∷◌, map, false, length, get_or}
use Rattle.records.specs.Record.{pieces_at}
use Rattle.records.specs.Config.{mask, bit}
use Rattle.records.specs.declared.Config.{Config}
use Rattle.sign.specs.Sign.{Character, Font, characters_of, member, bitmap_len}

-- P holds of each element
pub data Each {A : Type 0} (P : A → Type 0) : List A → Type 0 where
  each_none : Each P []
  each_more : {x : A} {l : List A} → P x → Each P l → Each P (x ∷ l)

-- the numbers are distinct, and none is among those of ns
pub data Apart : List ℕ → List ℕ → Type 0 where
  apart_none : {ns : List ℕ} → Apart ns []
  apart_more : {ns : List ℕ} {m : ℕ} {ms : List ℕ} → member m ns ≡ false → Apart (m ∷ ns) ms → Apart ns (m ∷ ms)

pub record GoodConfig (c : Config) : Type 0 where
  pub width_some : 1 ≤ c.width
  pub width_most : c.width ≤ 4096
  pub height_some : 1 ≤ c.height
  pub height_most : c.height ≤ 4096
  pub font_some : 0 < c.font
  pub line_from : 2 ≤ c.line_just
  pub line_to : c.line_just ≤ 4
  pub page_from : 2 ≤ c.page_just
  pub page_to : c.page_just ≤ 4
  pub tags_known : (k : ℕ) → k < 32 → bit k c.tags ≤ bit k mask

-- a character of a font of a height: its bitmap lies within the file
pub record GoodCharacter (file : List ℕ) (height : ℕ) (ch : Character) : Type 0 where
  pub number_some : 0 < ch.number
  pub number_word : ch.number < 65536
  pub width_byte : ch.width < 256
  pub inside : ch.bitmap + bitmap_len ch.width height ≤ length file

pub record GoodFont (file : List ℕ) (f : Font) : Type 0 where
  pub number_some : 0 < f.number
  pub number_byte : f.number < 256
  pub height_some : 0 < f.height
  pub height_byte : f.height < 256
  pub char_spacing_byte : f.char_spacing < 256
  pub line_spacing_byte : f.line_spacing < 256
  pub version_word : f.version < 65536
  pub inside : f.first ≤ length file
  pub are : f.characters ≡ characters_of (pieces_at file f.first)
  pub few : length f.characters ≤ 256
  pub apart : Apart [] (map (λ (ch : Character). ch.number) f.characters)
  pub each : Each (GoodCharacter file f.height) f.characters

pub record GoodSign (file : List ℕ) (c : Config) (fs : List Font) : Type 0 where
  pub size : length file ≤ 65535
  pub config : GoodConfig c
  pub few : length fs ≤ 24
  pub apart : Apart [] (map (λ (f : Font). f.number) fs)
  pub each : Each (GoodFont file) fs

-- a list of bytes, as every slice of bytes is
abbrev pub Bytes : List ℕ → Type 0
Bytes l = (i : ℕ) → get_or l i 0 < 256
