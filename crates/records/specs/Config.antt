-- The configuration record. Document 01, "Sign file": "Kind 1, first and once, 15 bytes".
use Rattle.std.specs.Prelude.{ℕ, zero, suc, ◌+◌, ◌/◌, ◌%◌, ◌^◌, List, [], ◌∷◌, Bool, true, false, leb, ltb, eqb, length, get_or, Option, Some, None}
use Rattle.base.specs.Pick.{pick}
use Rattle.records.specs.Record.{all, little_at}
use Rattle.records.specs.declared.Config.{Config}

-- "width and height in pixels (16 bits each ..), then one byte each for character width, character height, default font ..,
-- line justification .., page justification .., on time, off time .., then the supported tags (32 bits ..)"
abbrev pub config_with : ℕ → ℕ → ℕ → List ℕ → Config
config_with w h t body =
    record {
      width = w;
      height = h;
      char_width = get_or body 4 0;
      char_height = get_or body 5 0;
      font = get_or body 6 0;
      line_just = get_or body 7 0;
      page_just = get_or body 8 0;
      on_time = get_or body 9 0;
      off_time = get_or body 10 0;
      tags = t;
      capitals = false;
      long_times = false;
      groups = false;
    }

unfoldable pub config_of : List ℕ → Config
config_of body = config_with (little_at 2 0 body) (little_at 2 2 body) (little_at 4 11 body) body

-- the configuration with the options of the file, which are records of their own (document 02): A4, kind 4; A5, kind 5; A6, kind 6
abbrev pub with_options : Bool → Bool → Bool → Config → Config
with_options capitals long groups c =
    record {
      width = c.width;
      height = c.height;
      char_width = c.char_width;
      char_height = c.char_height;
      font = c.font;
      line_just = c.line_just;
      page_just = c.page_just;
      on_time = c.on_time;
      off_time = c.off_time;
      tags = c.tags;
      capitals = capitals;
      long_times = long;
      groups = groups;
    }

-- a width or a height: "1 to 4,096"
unfoldable pub size_ok : ℕ → Bool
size_ok n = all (leb 1 n ∷ leb n 4096 ∷ [])

-- a justification: "2 left, 3 centre, 4 right", "2 top, 3 middle, 4 bottom"
unfoldable pub just_ok : ℕ → Bool
just_ok n = all (leb 2 n ∷ leb n 4 ∷ [])

-- "not 0"
unfoldable pub not_zero : ℕ → Bool
not_zero n = ltb 0 n

-- "only fo, hc, jl, jp, nl, np, pt, sc and tr may be set": their bits in `enum Tag` are 3, 5, 6, 7, 10, 11, 12, 13 and 27
abbrev pub mask : ℕ
mask = 2 ^ 3 + 2 ^ 5 + 2 ^ 6 + 2 ^ 7 + 2 ^ 10 + 2 ^ 11 + 2 ^ 12 + 2 ^ 13 + 2 ^ 27

-- the bit k of a number: 0 or 1
abbrev pub bit : ℕ → ℕ → ℕ
bit k n = n / 2 ^ k % 2

-- of the n bits from k on, none is set that is not in the mask
unfoldable pub bits_ok : ℕ → ℕ → ℕ → Bool
bits_ok zero k tags = true
bits_ok (suc n) k tags = pick (leb (bit k tags) (bit k mask)) (bits_ok n (k + 1) tags) false

unfoldable pub tags_ok : ℕ → Bool
tags_ok tags = bits_ok 32 0 tags

unfoldable pub config_ok : Config → Bool
config_ok c =
    all (size_ok c.width ∷ size_ok c.height ∷ not_zero c.font ∷ just_ok c.line_just ∷ just_ok c.page_just ∷ tags_ok c.tags ∷ [])

-- the first record's kind and body keep every rule of kind 1
unfoldable pub is_config : ℕ → List ℕ → Bool
is_config kind body = all (eqb kind 1 ∷ eqb (length body) 15 ∷ config_ok (config_of body) ∷ [])

-- what `config_of` answers
unfoldable pub first_of : ℕ → List ℕ → Option Config
first_of kind body = pick (is_config kind body) (Some (config_of body)) None
