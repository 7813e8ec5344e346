-- Worked messages, by computation.
use Rattle.std.specs.Prelude.{ℕ, ◌≡◌, [], ◌∷◌, true, false, Some}
use Rattle.base.specs.Text.{ascii}
use Rattle.number.specs.Number.{digit_of, read_from, read_digits, read_number, version_id}
use Rattle.utf8.specs.Utf8.{first, extra, low, high, fits, after_byte, well_formed_from, well_formed, code_of, codes_from, codes, all_latin1}
use Rattle.token.specs.Token.{plain_len, tag_len, rest_len, slice_len, slices, is_pair, last_byte, shape_of}
use Rattle.part.specs.Part.{lower, up_to, past as past_sep, holds}
use Rattle.param.specs.Param.{read_optional}
use Rattle.tag.specs.Tag.{new_line, new_page, page_time}
use Rattle.parse.specs.Parse.{end_name, first_name, name_by, name_of, tag_value}
use Rattle.reading.specs.Reading.{tag_item, text_item, item_of}
use Rattle.refusal.specs.Refusals.{refusal}
use Rattle.readings.specs.declared.SliceRead.{SliceRead}
use Rattle.readings.specs.Readings.{readings, fault}

-- a slice that reads: its place, and its value's code and first two numbers
abbrev is : ℕ → ℕ → ℕ → ℕ → ℕ → SliceRead
is at n code a b = record { start = at; length = n; number = 0; code = code; n = a ∷ b ∷ 0 ∷ 0 ∷ 0 ∷ 0 ∷ 0 ∷ 0 ∷ [] }

-- one that does not
abbrev fails : ℕ → ℕ → ℕ → SliceRead
fails at n k = record { start = at; length = n; number = k; code = 0; n = 0 ∷ 0 ∷ 0 ∷ 0 ∷ 0 ∷ 0 ∷ 0 ∷ 0 ∷ [] }

pub record Examples : Type 0 where
  pub empty : readings false (ascii "") ≡ []
  pub two : readings false (ascii "A[np]") ≡ is 0 1 21 0 1 ∷ is 1 4 16 0 0 ∷ []
  -- a slice that fails, and the next
  pub goes_on : readings false (ascii "[nl10][[B") ≡ fails 0 6 6 ∷ is 6 2 21 6 1 ∷ is 8 1 21 8 1 ∷ []
  pub euro : readings false (226 ∷ 130 ∷ 172 ∷ 93 ∷ []) ≡ fails 0 3 7 ∷ fails 3 1 5 ∷ []
  -- A5, where long times hold
  pub long : readings true (ascii "[pt600]A") ≡ is 0 7 18 1 600 ∷ is 7 1 21 7 1 ∷ []
  pub short : readings false (ascii "[pt600]A") ≡ fails 0 7 6 ∷ is 7 1 21 7 1 ∷ []
  pub few_lent : fault (ascii "A") 2047 ≡ Some (refusal 4 0 0 0)
  pub cut : fault (65 ∷ 195 ∷ []) 0 ≡ Some (refusal 3 0 0 0)

pub examples : Examples
unfolding digit_of read_from read_digits read_number version_id first extra low high fits after_byte well_formed_from well_formed code_of codes_from codes
    all_latin1
    plain_len tag_len rest_len slice_len slices is_pair last_byte shape_of lower up_to past_sep holds read_optional new_line new_page page_time end_name
    first_name name_by name_of tag_value tag_item text_item item_of fault
examples = search
