-- Worked records, by computation.
use Rattle.std.specs.Prelude.{◌≡◌, refl, [], ◌∷◌, true, false}
use Rattle.records.specs.Record.{Record, CutShort, little_at, body_len, kind_of, whole, first_piece, rest_len, cut_from, pieces}
use Rattle.records.specs.Config.{mask, tags_ok, bits_ok}

mask_is : mask ≡ 134233320
mask_is = refl

tags_all : tags_ok 134233320 ≡ true
unfolding tags_ok bits_ok
tags_all = refl

tags_other : tags_ok 134233321 ≡ false
unfolding tags_ok bits_ok
tags_other = refl

little : little_at 4 1 (9 ∷ 1 ∷ 2 ∷ 3 ∷ 4 ∷ []) ≡ 67305985
unfolding little_at
little = refl

-- an empty record of kind 4, one of kind 3 with one byte, and a cut one
cut : pieces (0 ∷ 0 ∷ 4 ∷ 0 ∷ 1 ∷ 0 ∷ 3 ∷ 0 ∷ 77 ∷ 2 ∷ 0 ∷ 3 ∷ 0 ∷ 77 ∷ []) ≡ Record 0 4 [] ∷ Record 4 3 (77 ∷ []) ∷ CutShort 9 ∷ []
unfolding pieces cut_from rest_len first_piece whole kind_of body_len little_at
cut = refl

cut_header : pieces (0 ∷ 0 ∷ 4 ∷ []) ≡ CutShort 0 ∷ []
unfolding pieces cut_from rest_len first_piece whole kind_of body_len little_at
cut_header = refl
