-- Worked examples of a whole listing, by computation.
use Rattle.std.specs.Prelude.{◌≡◌, refl, [], ◌∷◌, Some, None, Err}
use Rattle.refusal.specs.declared.Refusal.{Refusal}
use Rattle.layout.specs.declared.Span.{Span}
use Rattle.layout.specs.Listing.{on, off, refused}
use Rattle.every.specs.All.{shown, gather, counts_of, unless_refused, over}

-- two pages with an off time, as "[pt10o5]A[np]B" has them: four answers, two records; the end is not counted
two_pages : (a b : Span) → gather (on 10 (a ∷ []) ∷ off 5 ∷ on 10 (b ∷ []) ∷ off 5 ∷ [])
    ≡ record { answers = shown 1 10 0 1 ∷ shown 2 5 1 0 ∷ shown 1 10 1 1 ∷ shown 2 5 2 0 ∷ []; records = a ∷ b ∷ []; refusal = None }
two_pages a b = refl

-- a refusal after a page: what came before it is gathered, and not listed
then_refused : (a : Span) (r : Refusal) → gather (on 30 (a ∷ []) ∷ refused r ∷ [])
    ≡ record { answers = shown 1 30 0 1 ∷ []; records = a ∷ []; refusal = Some r }
then_refused a r = refl

refused_is : (r : Refusal) → counts_of (Some r) 1 1 ≡ Err r
refused_is r = refl

-- the slice after it stays, and after a listing of one record past the first
unchanged : (a b : Span) (r : Refusal) → over (unless_refused (Some r) (a ∷ [])) (b ∷ b ∷ []) ≡ b ∷ b ∷ []
unchanged a b r = refl

rest_stays : (a b : Span) → over (unless_refused None (a ∷ [])) (b ∷ b ∷ []) ≡ a ∷ b ∷ []
rest_stays a b = refl
