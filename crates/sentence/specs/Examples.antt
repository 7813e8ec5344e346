-- Worked sentences.
use Rattle.std.specs.Prelude.{◌≡◌, refl}
use Rattle.base.specs.Text.{ascii}
use Rattle.refusal.specs.Refusals.{refusal}
use Rattle.sentence.specs.Words.{words, table, unknown}
use Rattle.sentence.specs.Sentence.{digits, digit_count, decimal, sentence}

fits : sentence (refusal 13 8 2 0) ≡ ascii "Refusal 13 at byte 8, length 2, detail 0: text does not fit its rectangle."
unfolding sentence decimal digits digit_count words table unknown
fits = refl

none : sentence (refusal 0 0 0 0) ≡ ascii "Refusal 0 at byte 0, length 0, detail 0: unknown."
unfolding sentence decimal digits digit_count words table unknown
none = refl

most : sentence (refusal 255 65535 65535 65535) ≡ ascii "Refusal 255 at byte 65535, length 65535, detail 65535: unknown."
unfolding sentence decimal digits digit_count words table unknown
most = refl

tens : sentence (refusal 10 9 10 100) ≡ ascii "Refusal 10 at byte 9, length 10, detail 100: font is not on this board."
unfolding sentence decimal digits digit_count words table unknown
tens = refl

thousands : sentence (refusal 12 999 1000 10000) ≡ ascii "Refusal 12 at byte 999, length 1000, detail 10000: character is not in this font."
unfolding sentence decimal digits digit_count words table unknown
thousands = refl
