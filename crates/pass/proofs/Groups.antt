-- A6: the table of the groups' numbers tells them.
use Prim.Native.Nat.{ℕ, zero, suc, ◌+◌, ◌<◌}
use mathlib.Core.Path.{◌≡◌, refl, sym, ◌∙◌, ap}
use mathlib.Core.Bool.{Bool, true, false}
use mathlib.Core.List.{List, [], ◌∷◌, ◌++◌}
use native.Mathlib.Omega.{arith}
use native.Mathlib.Numerals.{add-one}
use lib.ListN.{get_or, set, replicate, length-replicate, length-set}
use lib.Seq.{get_or-set_same, get_or-set_other}
use borrow.Author.Tests.{eq-eqb}
use Rattle.base.specs.Pick.{pick}
use Rattle.std.proofs.Common.{◌⊎◌, inl, inr}
use Rattle.records.specs.declared.Config.{Config}
use Rattle.layout.specs.declared.RenderState.{RenderState}
use Rattle.layout.specs.declared.Entry.{Entry}
use Rattle.layout.specs.Types.{JustsOf}
use Rattle.layout.specs.Read.{in_group, group_number, renumbered}
use Rattle.layout.proofs.PassLaws.{InOne, in_one}
use Rattle.layout.proofs.Groups.{number_snoc}
use Rattle.pass.specs.Groups.{group_count, slot_of, Slotted, renumbered_by, numbers_with, NumbersAfter, Numbered}

zeros : (n i : ℕ) → ◌≡◌ {A = ℕ} (get_or (replicate n 0) i 0) 0
zeros zero i = refl
zeros (suc n) zero = refl
zeros (suc n) (suc i) = zeros n i

-- before the first span
pub numbers_none : NumbersAfter [] (replicate group_count 0)
numbers_none = record { sized = length-replicate {A = ℕ} group_count 0; tells = λ st j. zeros group_count (slot_of st) }

slot_less : (st : RenderState) → JustsOf st → st.line < 256 → slot_of st < group_count
slot_less st j h = omega (arith, j.page_from, j.page_to, j.line_from, j.line_to)

-- groups have places of their own
slot_apart : (a : RenderState) (e : Entry) → JustsOf a → JustsOf e.state → slot_of a ≡ slot_of e.state → in_group a e ≡ true
slot_apart a e h k q =
    let l : a.line ≡ e.state.line = omega (arith, h.page_to, h.line_to, k.page_to, k.line_to, q) in
    let p : a.just_page ≡ e.state.just_page = omega (arith, l, h.page_from, h.line_to, k.page_from, k.line_to, q) in
    let j : a.just_line ≡ e.state.just_line = omega (arith, l, p, h.line_from, k.line_from, q) in
    simp (eq-eqb _ _ p, eq-eqb _ _ l, eq-eqb _ _ j)

-- a span more: the table has the number above in its group's place
module _ (es : List Entry) (l : List ℕ) (z : NumbersAfter es l) (e : Entry) (j : JustsOf e.state) (h : e.state.line < 256) where
  abbrev next : List ℕ
  next = set l (slot_of e.state) (e.state.span + 1)

  -- b: whether the span is of the state's group
  tells_by : (st : RenderState) → JustsOf st → (b : Bool) → in_group st e ≡ b → get_or next (slot_of st) 0 ≡ pick b (suc e.state.span) (group_number st 0 es)
  tells_by st k true q =
      let o : InOne st e.state = in_one st e q in
      let same : slot_of st ≡ slot_of e.state = rw (o.just_page, o.line, o.just_line) in
      ap (λ (i : ℕ). get_or next i 0) same
      ∙ get_or-set_same l (slot_of e.state) (e.state.span + 1) 0 (omega (arith, slot_less e.state j h, z.sized))
      ∙ add-one e.state.span
  tells_by st k false q = get_or-set_other l (slot_of e.state) (slot_of st) (e.state.span + 1) 0 other ∙ z.tells st k
    where
      other : slot_of st ≡ slot_of e.state → ⊥
      other p = absurd (let t : true ≡ false = sym (slot_apart st e k j p) ∙ q in cc)

  numbers_more : NumbersAfter (es ++ (e ∷ [])) next
  numbers_more =
      record {
        sized = length-set l (slot_of e.state) (e.state.span + 1) ∙ z.sized;
        tells = λ st k. tells_by st k (in_group st e) refl ∙ sym (number_snoc st 0 es e);
      }

-- where the numbers count, the table tells the state's; else there is none
module _ (c : Config) {es : List Entry} {l : List ℕ} where
  pub slotted : Numbered c es l → (st : RenderState) → JustsOf st → Slotted l st
  slotted (inl n) st j = record { justs = j; room = inl (rw n.1 refl) }
  slotted (inr n) st j = record { justs = j; room = inr n.1.sized }

  pub few_left : Numbered c es l → {n : ℕ} → (c.groups ≡ true → n < 255) → l ≡ [] ⊎ n < 255
  few_left (inl n) f = inl n.1
  few_left (inr n) f = inr (f n.0)

  pub renumbers : Numbered c es l → (st : RenderState) → JustsOf st → renumbered_by l st ≡ renumbered c es st
  renumbers (inl n) st j = rw (n.0, n.1) refl
  renumbers (inr n) st j = rw (n.0, n.1.sized, n.1.tells st j) refl

  pub numbers_on : Numbered c es l → (e : Entry) → JustsOf e.state → e.state.line < 256 → Numbered c (es ++ (e ∷ [])) (numbers_with l e.state)
  numbers_on (inl n) e j h = inl (n.0, rw n.1 refl)
  numbers_on (inr n) e j h = inr (n.0, rw n.1.sized (numbers_more es l n.1 e j h))
