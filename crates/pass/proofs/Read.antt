-- layout's `read`, pass by pass: an equation for any items, with the blank line and the state that each step leaves. layout's `ReadAs` forgets both, and asks
-- for honest items, so that the steps are gone through here once more.
use Prim.Native.Nat.{ℕ}
use mathlib.Core.Path.{◌≡◌, refl, ◌∙◌, ap}
use mathlib.Core.Bool.{Bool, true}
use mathlib.Core.List.{List, [], ◌∷◌, ◌++◌, append_assoc, append-nil}
use Rattle.records.specs.declared.Config.{Config}
use Rattle.layout.specs.declared.RenderState.{RenderState}
use Rattle.layout.specs.declared.Entry.{Entry}
use Rattle.layout.specs.declared.Step.{Step}
use Rattle.layout.specs.declared.Step.TheVariants.{Go, Emit, Cut, Turn}
use Rattle.std.specs.Prelude.{Result, Ok, Err}
use Rattle.refusal.specs.declared.Refusal.{Refusal}
use Rattle.layout.specs.Types.{Item}
use Rattle.layout.specs.Read.{step, follow, renumbered, read}
use Rattle.pass.specs.Pass.{entries_by, entries_after, entries_of, ending_by, ending_after, ending_of, events_by}

module _ (c : Config) (a b : ℕ) where
  follow_pass : (st : RenderState) (acc : List Entry) (its : List Item) (t : Result Step Refusal)
      → ((st' : RenderState) (bl : Bool) (l : List Entry)
      → read c its a b st' bl l ≡ events_by c a b (l ++ entries_after c its st' bl l) (ending_after c its st' bl l))
      → follow c a b st acc its (read c its) t
      ≡ events_by c a b (acc ++ entries_by (entries_after c its) acc t) (ending_by (renumbered c acc st) its (ending_after c its) acc t)
  follow_pass st acc its (Err r) h = refl
  follow_pass st acc its (Ok (Go st' bl)) h = h st' bl acc
  follow_pass st acc its (Ok (Emit e st' bl)) h =
      let u : List Entry = acc ++ (e ∷ []) in
      h st' bl u ∙ ap (λ (l : List Entry). events_by c a b l (ending_after c its st' bl u)) (append_assoc acc (e ∷ []) (entries_after c its st' bl u))
  follow_pass st acc its (Ok (Cut st')) h = rw (append-nil acc)
  follow_pass st acc its (Ok Turn) h = rw (append-nil acc)

  read_from_law : (its : List Item) (st : RenderState) (bl : Bool) (acc : List Entry)
      → read c its a b st bl acc ≡ events_by c a b (acc ++ entries_after c its st bl acc) (ending_after c its st bl acc)
  read_from_law [] st bl acc = rw (append-nil acc)
  read_from_law (it ∷ its) st bl acc = follow_pass st acc its (step c (renumbered c acc st) bl it) (λ st' bl' l. read_from_law its st' bl' l)

  -- a pass is read, and then what follows it
  pub read_pass : (its : List Item) (st : RenderState) → read c its a b st true [] ≡ events_by c a b (entries_of c its st true) (ending_of c its st true)
  read_pass its st = read_from_law its st true []
