-- Worked numbers, by computation.
use Rattle.std.specs.Prelude.{◌≡◌, Some, None}
use Rattle.base.specs.Text.{ascii}
use Rattle.number.specs.Number.{digit_of, read_from, read_digits, read_number, version_id}

pub record Examples : Type 0 where
  pub empty : read_number 10 255 (ascii "") ≡ None
  pub lone_plus : read_number 10 255 (ascii "+") ≡ None
  pub two_plus : read_number 10 255 (ascii "++1") ≡ None
  pub minus : read_number 10 255 (ascii "-1") ≡ None
  pub space : read_number 10 255 (ascii " 1") ≡ None
  pub zeros : read_number 10 255 (ascii "+007") ≡ Some 7
  pub top8 : read_number 10 255 (ascii "255") ≡ Some 255
  pub over8 : read_number 10 255 (ascii "256") ≡ None
  pub top16 : read_number 10 65535 (ascii "65535") ≡ Some 65535
  pub over16 : read_number 10 65535 (ascii "65536") ≡ None
  pub top32 : read_number 10 4294967295 (ascii "4294967295") ≡ Some 4294967295
  pub over32 : read_number 10 4294967295 (ascii "4294967296") ≡ None
  pub long : read_number 10 255 (ascii "99999999999999999999999999999999") ≡ None
  pub hex : read_number 16 65535 (ascii "fFfF") ≡ Some 65535
  pub over_hex : read_number 16 65535 (ascii "10000") ≡ None
  pub no_digit : read_number 16 65535 (ascii "G") ≡ None
  pub version : version_id (ascii "+0FF") ≡ Some 255
  pub three : version_id (ascii "0FF") ≡ None
  pub five : version_id (ascii "000FF") ≡ None

pub examples : Examples
unfolding digit_of read_from read_digits read_number version_id
examples = search
