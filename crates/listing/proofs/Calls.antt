-- What the copying of the counted records leaves in the lent slice is what the call promises.
use Rattle.std.specs.Prelude.{ℕ, ◌≡◌, List, ◌++◌, length, drop}
use Rattle.std.proofs.Common.{◌∙◌, sym, ap}
use Rattle.layout.specs.declared.Span.{Span}
use Rattle.layout.specs.Listing.{after}
use Rattle.counts.specs.declared.Placed.{Placed}
use Rattle.counts.specs.Placing.{placing}
use Rattle.rows.specs.Rows.{spans_of}
use Rattle.rows.proofs.Laws.{spans_length}
use Rattle.answer.specs.Answer.{PlacedAs}

-- the first k records of zs go over ys
pub placed : (file m : List ℕ) (n : ℕ) (ys : List Span) {out zs ws : List Span} {r : Placed} {k : ℕ} → PlacedAs file m n (length ys) out zs r
    → k ≡ r.spans → ws ≡ spans_of zs k → (r ≡ placing file m n ys) × (ws ++ drop k ys ≡ after file m n ys)
unfolding placing after
placed file m n ys {zs = zs} {r = r} known e f =
    let w = f ∙ ap (spans_of zs) e ∙ known.records in
    let j = e ∙ sym (spans_length zs r.spans known.long) ∙ ap length known.records in
    (known.placed, rw (w, j))
