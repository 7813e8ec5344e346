-- The numbers of each answer, as C has them.
use Rattle.std.specs.Prelude.{ℕ, List, [], ◌∷◌, Result, Ok, Err}
use Rattle.numbers.specs.Numbers.{numbers_of}
use Rattle.reading.specs.declared.Reading.{Reading}
use Rattle.reading.specs.declared.Reading.TheVariants.{Slice, End, Refused}
use Rattle.kambelohi.specs.declared.ReadAnswer.{ReadAnswer}
use Rattle.kambelohi.specs.declared.ReadAllAnswer.{ReadAllAnswer}
use Rattle.refusal.specs.declared.Refusal.{Refusal}
use Rattle.layout.specs.declared.Answer.{Answer}
use Rattle.layout.specs.declared.Answer.TheVariants.{On, Off, End as LastEnd, Refused as RefusedBy}
use Rattle.kambelohi.specs.declared.ListAnswer.{ListAnswer}
use Rattle.counts.specs.declared.Placed.{Placed}
use Rattle.kambelohi.specs.declared.PlaceAnswer.{PlaceAnswer}
use Rattle.every.specs.declared.Listed.{Listed}
use Rattle.kambelohi.specs.declared.ListAllAnswer.{ListAllAnswer}
use Rattle.kambelohi.specs.declared.SentenceAnswer.{SentenceAnswer}

abbrev pub no_numbers : List ℕ
no_numbers = 0 ∷ 0 ∷ 0 ∷ 0 ∷ 0 ∷ 0 ∷ 0 ∷ 0 ∷ []

-- a slice is 0, the end 1, a refusal 2
abbrev pub read_answer : Reading → ReadAnswer
read_answer (Slice p v) = record { kind = 0; number = 0; start = p.start; length = p.len; detail = 0; code = (numbers_of v).code; n = (numbers_of v).n }
read_answer End = record { kind = 1; number = 0; start = 0; length = 0; detail = 0; code = 0; n = no_numbers }
read_answer (Refused f) = record { kind = 2; number = f.number; start = f.start; length = f.length; detail = f.detail; code = 0; n = no_numbers }

-- all slices are read is 1, a refusal 2
abbrev pub read_all_answer : Result ℕ Refusal → ReadAllAnswer
read_all_answer (Ok n) = record { kind = 1; count = n; number = 0; start = 0; length = 0; detail = 0 }
read_all_answer (Err f) = record { kind = 2; count = 0; number = f.number; start = f.start; length = f.length; detail = f.detail }

abbrev pub plain_answer : ℕ → ℕ → ℕ → ListAnswer
plain_answer k d n = record { kind = k; duration = d; count = n; number = 0; start = 0; length = 0; detail = 0 }

-- on is 1, off 2, the end 3, a refusal 4
abbrev pub list_answer : Answer → ListAnswer
list_answer (On d n) = plain_answer 1 d n
list_answer (Off d) = plain_answer 2 d 0
list_answer (LastEnd n) = plain_answer 3 0 n
list_answer (RefusedBy f) = record { kind = 4; duration = 0; count = 0; number = f.number; start = f.start; length = f.length; detail = f.detail }

-- the same kinds, and the counts of a placing beside them
abbrev pub plain_place : ℕ → ℕ → ℕ → ℕ → ℕ → PlaceAnswer
plain_place k d n j m = record { kind = k; number = 0; duration = d; count = n; start = 0; length = 0; detail = 0; looked = j; spans = m }

abbrev pub refused_place : Refusal → ℕ → ℕ → PlaceAnswer
refused_place f j m =
    record { kind = 4; number = f.number; duration = 0; count = 0; start = f.start; length = f.length; detail = f.detail; looked = j; spans = m }

abbrev pub place_by : Answer → ℕ → ℕ → PlaceAnswer
place_by (On d n) j m = plain_place 1 d n j m
place_by (Off d) j m = plain_place 2 d 0 j m
place_by (LastEnd n) j m = plain_place 3 0 n j m
place_by (RefusedBy f) j m = refused_place f j m

abbrev pub place_answer : Placed → PlaceAnswer
place_answer p = place_by p.answer p.looked p.spans

-- a whole listing is 1, a refusal 2
abbrev pub list_all_answer : Result Listed Refusal → ListAllAnswer
list_all_answer (Ok n) = record { kind = 1; answers = n.answers; records = n.records; number = 0; start = 0; length = 0; detail = 0 }
list_all_answer (Err f) = record { kind = 2; answers = 0; records = 0; number = f.number; start = f.start; length = f.length; detail = f.detail }

-- a sentence is 1, a refusal 2
abbrev pub sentence_answer : Result ℕ Refusal → SentenceAnswer
sentence_answer (Ok n) = record { kind = 1; count = n; number = 0; start = 0; length = 0; detail = 0 }
sentence_answer (Err f) = record { kind = 2; count = 0; number = f.number; start = f.start; length = f.length; detail = f.detail }
