-- What the copying of the answers and of the records leaves in the lent slices is what the call promises.
use Rattle.std.specs.Prelude.{ℕ, ◌≡◌, refl, List, ◌++◌, length, drop, Some, None, Result, Ok, Err}
use Rattle.std.proofs.Common.{◌∙◌, sym, ap}
use Rattle.refusal.specs.declared.Refusal.{Refusal}
use Rattle.layout.specs.declared.Span.{Span}
use Rattle.rows.specs.Rows.{spans_of}
use Rattle.every.specs.declared.Shown.{Shown}
use Rattle.every.specs.declared.Listed.{Listed}
use Rattle.every.specs.All.{Gathered, gathered, listed_as, listing_all, answers_after, records_after}
use Rattle.every.specs.Walk.{showns_of, Written, Settles}
use Rattle.every.proofs.Laws.{counts_listed, counts_refused}

module _ (file m : List ℕ) (ys : List Shown) (zs : List Span) {shown : List Shown} {out : List Span} {r : Result Listed Refusal}
    (known : Settles file m (length ys) (length zs) shown out r) where
  abbrev g : Gathered
  g = gathered file m (length ys) (length zs)

  abbrev Tells : Result Listed Refusal → List Shown → List Span → Type 0
  Tells q vs ws = (q ≡ listing_all file m ys zs) × (vs ≡ answers_after file m ys zs) × (ws ≡ records_after file m ys zs)

  pub refused : {x : Refusal} → r ≡ Err x → Tells (Err x) ys zs
  unfolding listing_all answers_after records_after
  refused e =
      let f : g.refusal ≡ Some _ = counts_refused g.refusal (length g.answers) (length g.records) (sym known.counts ∙ e) in
      rw f (refl, refl, refl)

  -- the first i answers go over ys, and the first j records over zs
  pub listed : {n : Listed} {i j : ℕ} {vs : List Shown} {ws : List Span} → r ≡ Ok n → i ≡ n.answers → vs ≡ showns_of shown i → j ≡ n.records
      → ws ≡ spans_of out j → Tells (Ok n) (vs ++ drop i ys) (ws ++ drop j zs)
  unfolding listing_all answers_after records_after
  listed {n} e a p b q =
      let f : (g.refusal ≡ None) × (listed_as (length g.answers) (length g.records) ≡ n) =
      counts_listed g.refusal (length g.answers) (length g.records) (sym known.counts ∙ e) in
      let w : Written g (length ys) (length zs) shown out n = rw e at known.written in
      let v = p ∙ ap (showns_of shown) a ∙ w.answers in
      let u = q ∙ ap (spans_of out) b ∙ w.records in
      let i = a ∙ sym (ap (λ (k : Listed). k.answers) f.1) in
      let j = b ∙ sym (ap (λ (k : Listed). k.records) f.1) in
      rw f.0 (sym (ap Ok f.1), rw (v, i), rw (u, j))
