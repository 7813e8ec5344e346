-- Document 02, A9: "The result carries two counts". The records and the refusals are layout's, "the old way's, span for span".
use Rattle.std.specs.Prelude.{ℕ, List, [], ◌∷◌, Bool, false, eqb, length, take, drop, sum_by, Option, Some, None}
use Rattle.base.specs.Pick.{pick}
use Rattle.utf8.specs.Utf8.{codes}
use Rattle.sign.specs.Sign.{Font, Sign, Accepted, RefusedAt, sign_file}
use Rattle.font.specs.Table.{font_numbered}
use Rattle.font.specs.Character.{letters_of}
use Rattle.font.specs.Measure.{looked_up}
use Rattle.layout.specs.declared.Span.{Span}
use Rattle.layout.specs.Listing.{Result, result}
use Rattle.counts.specs.declared.Placed.{Placed}

-- the code points that the span of a record prints, as `chars_of` has them of an entry: of kind 0 those of its text, of kind 1 its code, of kind 2 none
abbrev pub chars_in : List ℕ → Span → List ℕ
chars_in msg q = pick (eqb q.kind 0) (codes (take q.length (drop q.start msg))) (pick (eqb q.kind 1) (q.code ∷ []) [])

-- the fonts of a sign file
abbrev pub fonts_in : Sign → List Font
fonts_in (Accepted c fs) = fs
fonts_in (RefusedAt at) = []

-- whether its capitals stand in for missing small letters (A4)
abbrev pub capitals_in : Sign → Bool
capitals_in (Accepted c fs) = c.capitals
capitals_in (RefusedAt at) = false

-- "the characters that its measures looked up": A2's count of the measure of these code points in a font, if that is defined. They are looked up in
-- the characters that the measure has, so that a letter for which a capital stands in is one
abbrev pub looked_in : Bool → List ℕ → Option Font → ℕ
looked_in capitals l None = 0
looked_in capitals l (Some f) = looked_up (letters_of capitals f.characters) l

-- of the measures of all these records' spans in the sign's fonts, each one measured once
abbrev pub chars_looked : Sign → List ℕ → List Span → ℕ
chars_looked sign msg qs = sum_by (λ q. looked_in (capitals_in sign) (chars_in msg q) (font_numbered q.font (fonts_in sign))) qs

-- "the page's printed characters", of the page with these records
abbrev pub chars_printed : List ℕ → List Span → ℕ
chars_printed msg qs = sum_by (λ q. length (chars_in msg q)) qs

-- "the characters that its measures looked up .., and the spans placed", beside the answer of a listing; off, end and a refusal place none
abbrev pub with_counts : Sign → List ℕ → Result → Placed
with_counts sign msg r = record { answer = r.answer; looked = chars_looked sign msg r.written; spans = length r.written }

-- the call: sign file, message, answer number from 0, and the lent slice; that is left as the listing leaves it, layout's `after`
unfoldable pub placing : List ℕ → List ℕ → ℕ → List Span → Placed
placing file msg n lent = with_counts (sign_file file) msg (result file msg n (length lent))
