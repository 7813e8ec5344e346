-- What holds of the call that reads all slices: each reading is what the reading call answers at its slice's start.
use Rattle.std.specs.Prelude.{ℕ, ◌≤◌, ◌≡◌, Bool, List, map, length, take, drop, replicate, Ok, Err}
use Rattle.token.specs.Token.{slices}
use Rattle.numbers.specs.Numbers.{numbers_of}
use Rattle.refusal.specs.declared.Refusal.{Refusal}
use Rattle.reading.specs.declared.Reading.{Reading}
use Rattle.reading.specs.declared.Reading.TheVariants.{Slice, End, Refused}
use Rattle.reading.specs.Reading.{reading}
use Rattle.readings.specs.declared.SliceRead.{SliceRead}
use Rattle.readings.specs.Readings.{all_read, read_after}

-- the numbers of what the reading call answers: the slice and its value, or the refusal with its place
abbrev pub reading_read : Reading → SliceRead
reading_read (Slice p v) = record { start = p.start; length = p.len; number = 0; code = (numbers_of v).code; n = (numbers_of v).n }
reading_read End = record { start = 0; length = 0; number = 0; code = 0; n = replicate 8 0 }
reading_read (Refused f) = record { start = f.start; length = f.length; number = f.number; code = 0; n = replicate 8 0 }

-- of every message and every lent slice, with long times and without
pub record ReadsAll (long : Bool) (msg : List ℕ) (lent : List SliceRead) : Type 0 where
  -- "Each element equals the reading call at its start": there are as many as the message has slices (which, joined, are the message)
  pub each : (n : ℕ) → all_read long msg lent ≡ Ok n → take n (read_after long msg lent) ≡ map (λ s. reading_read (reading long msg s.start)) (slices msg)
  pub count : (n : ℕ) → all_read long msg lent ≡ Ok n → n ≡ length (slices msg)
  -- no message has more slices than are lent
  pub room : (n : ℕ) → all_read long msg lent ≡ Ok n → n ≤ 2048
  -- "what is past the counts stays", and so does all where the call is refused
  pub past : (n : ℕ) → all_read long msg lent ≡ Ok n → drop n (read_after long msg lent) ≡ drop n lent
  pub unchanged : (r : Refusal) → all_read long msg lent ≡ Err r → read_after long msg lent ≡ lent
