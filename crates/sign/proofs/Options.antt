-- The options that the records after the first may start with.
use Prim.Native.Nat.{ℕ, ◌+◌, ◌≤◌}
use mathlib.Core.Path.{◌≡◌, refl, sym, ◌∙◌}
use mathlib.Core.List.{List, [], ◌∷◌}
use mathlib.Core.Bool.{Bool, true, false}
use native.Mathlib.Omega.{arith}
use native.Mathlib.Nat.{le_refl}
use lib.Dec.{leb, ltb, eqb}
use lib.ListN.{length, length-take, length-drop}
use borrow.Author.Tests.{lt-ltb, le-ltb, eq-eqb, ne_eqb, eqb-true, leb-true, leb-false}
use Rattle.base.specs.Pick.{pick}
use Rattle.records.specs.Record.{Piece, Record, CutShort, pieces_at, head_at}
use Rattle.records.specs.Config.{with_options}
use Rattle.records.proofs.Laws.{head_start, head_from, head_to, pieces_next, pieces_short, pieces_end}
use Rattle.records.specs.declared.Config.{Config}
use Rattle.records.specs.declared.Record.{Record as Head}
use Rattle.std.proofs.Common.{◌⊎◌, inl, inr}
use Rattle.std.specs.Prelude.{Some, None, Result}
use Rattle.sign.specs.Sign.{fonts_of, has_option, past_option, past_options}
use Rattle.sign.specs.Reading.{part, given_from, given_after, PastOption}
use Rattle.sign.specs.declared.RefusedAt.{RefusedAt}
use Rattle.sign.specs.declared.SignFile.{SignFile}
use Rattle.sign.proofs.Laws.{fonts_other}

-- no option is a font
past_fonts : (option : ℕ) (ps : List Piece) → (option ≡ 2 → ⊥) → fonts_of (past_option option ps) ≡ fonts_of ps
unfolding past_option has_option
past_fonts option [] n = refl
past_fonts option (CutShort at ∷ ps) n = refl
past_fonts option (Record at kind body ∷ ps) n = go (eqb kind option) (eqb (length body) 0) refl
  where
    go : (t u : Bool) → eqb kind option ≡ t → fonts_of (pick (pick t u false) ps (Record at kind body ∷ ps)) ≡ fonts_of (Record at kind body ∷ ps)
    go true true e = sym (fonts_other at kind body ps (λ d. n (sym (eqb-true kind option e) ∙ d)))
    go true false e = refl
    go false u e = refl

pub options_fonts : (ps : List Piece) → fonts_of (past_options ps) ≡ fonts_of ps
unfolding past_options
options_fonts ps =
    past_fonts 6 (past_option 5 (past_option 4 ps)) (λ e. omega arith) ∙ past_fonts 5 (past_option 4 ps) (λ e. omega arith)
    ∙ past_fonts 4 ps (λ e. omega arith)

-- what holds of records and of those after their first holds of those past the options
module _ (P : List Piece → Type 0) (tail : (at kind : ℕ) (body : List ℕ) (ps : List Piece) → P (Record at kind body ∷ ps) → P ps) where
  past_keeps : (option : ℕ) (ps : List Piece) → P ps → P (past_option option ps)
  unfolding past_option has_option
  past_keeps option [] h = h
  past_keeps option (CutShort at ∷ ps) h = h
  past_keeps option (Record at kind body ∷ ps) h = go (eqb kind option) (eqb (length body) 0)
    where
      go : (t u : Bool) → P (pick (pick t u false) ps (Record at kind body ∷ ps))
      go true true = tail at kind body ps h
      go true false = h
      go false u = h

  pub options_keep : (ps : List Piece) → P ps → P (past_options ps)
  unfolding past_options
  options_keep ps h = past_keeps 6 (past_option 5 (past_option 4 ps)) (past_keeps 5 (past_option 4 ps) (past_keeps 4 ps h))

-- `past_option`
module _ (file : List ℕ) (at option : ℕ) where
  stays : has_option option (pieces_at file at) ≡ false → PastOption file at option at
  unfolding past_option
  stays e = record { inside = λ h. h; rest = rw e; has = rw (le-ltb at at (le_refl at)) (sym e) }

  pub option_short : None ≡ head_at file at → PastOption file at option at
  option_short q = stays (go (leb (length file) at) refl)
    where
      go : (t : Bool) → leb (length file) at ≡ t → has_option option (pieces_at file at) ≡ false
      go true d = unfold has_option in rw (pieces_end file at (leb-true (length file) at d))
      go false d = unfold has_option in rw (pieces_short file at (leb-false (length file) at d) (sym q))

  module _ (h : Head) (q : Some h ≡ head_at file at) where
    abbrev body : List ℕ
    body = part file h.start h.end

    next : pieces_at file at ≡ Record at h.kind body ∷ pieces_at file h.end
    next = pieces_next file at h (sym q)

    within : (h.start ≡ at + 4) × (h.start ≤ h.end) × (h.end ≤ length file)
    within = (head_start file at h (sym q), head_from file at h (sym q), head_to file at h (sym q))

    size : length body + h.start ≡ h.end
    size = simp (length-take, length-drop) (omega (arith, within.1, within.2))

    pub option_not : ((h.kind ≡ option) × (h.start ≡ h.end → ⊥)) ⊎ (h.kind ≡ option → ⊥) → PastOption file at option at
    option_not (inl (k, n)) = stays (unfold has_option in rw (next, eq-eqb h.kind option k, ne_eqb (length body) 0 (λ e. n (omega (arith, size)))))
    option_not (inr n) = stays (unfold has_option in rw (next, ne_eqb h.kind option n))

    pub option_is : h.kind ≡ option → h.start ≡ h.end → PastOption file at option h.end
    unfolding past_option
    option_is k e =
        record {
          inside = λ i. within.2;
          rest = rw (yes, next);
          has = rw (yes, lt-ltb at h.end (omega (arith, within.0, within.1)));
        }
      where
        yes : has_option option (pieces_at file at) ≡ true
        yes = unfold has_option in rw (next, eq-eqb h.kind option k, eq-eqb (length body) 0 (omega (arith, size)))

-- `read_options`: a is past kind 4, b past kind 5, at past kind 6
pub options_on : (file : List ℕ) (from a b at : ℕ) (c d : Config) (r : Result SignFile RefusedAt) → PastOption file from 4 a → PastOption file a 5 b
    → PastOption file b 6 at → d ≡ with_options (ltb from a) (ltb a b) (ltb b at) c → r ≡ given_from file at d → r ≡ given_after file from c
unfolding given_from given_after past_options
options_on file from a b at c d r o p q e f =
    f ∙ rw (e, q.has, q.rest, p.has, p.rest, o.has, o.rest, options_fonts (pieces_at file from))
