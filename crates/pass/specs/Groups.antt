-- A6: the numbers that come next in the groups of a pass, as the code keeps them where the file has kind 6: a table by line, page justification and
-- line justification.
use Rattle.std.specs.Prelude.{ℕ, ◌+◌, ◌-◌, ◌*◌, ◌≡◌, ◌⊎◌, true, false, List, [], eqb, length, get_or, set}
use Rattle.base.specs.Pick.{pick}
use Rattle.records.specs.declared.Config.{Config}
use Rattle.layout.specs.declared.RenderState.{RenderState}
use Rattle.layout.specs.declared.Entry.{Entry}
use Rattle.layout.specs.Types.{JustsOf}
use Rattle.layout.specs.Read.{with_span, group_number}

-- 256 lines, with 3 page justifications and 3 line justifications each
abbrev pub group_count : ℕ
group_count = 2304

-- the place of a state's group
abbrev pub slot_of : RenderState → ℕ
slot_of st = (st.line * 3 + (st.just_page - 2)) * 3 + (st.just_line - 2)

-- the state with the number of its group
abbrev pub renumbered_by : List ℕ → RenderState → RenderState
renumbered_by l st = pick (eqb (length l) 0) st (with_span st (get_or l (slot_of st) 0))

-- the table after a span that was read in the state
abbrev pub numbers_with : List ℕ → RenderState → List ℕ
numbers_with l st = pick (eqb (length l) 0) l (set l (slot_of st) (st.span + 1))

-- the state's group has a place in the table, unless it is empty
pub record Slotted (l : List ℕ) (st : RenderState) : Type 0 where
  pub justs : JustsOf st
  pub room : length l ≡ 0 ⊎ length l ≡ group_count

-- after the spans es of a pass the table tells the next number of each group
pub record NumbersAfter (es : List Entry) (l : List ℕ) : Type 0 where
  pub sized : length l ≡ group_count
  pub tells : (st : RenderState) → JustsOf st → get_or l (slot_of st) 0 ≡ group_number st 0 es

-- the table tells the numbers after the spans es where the file has kind 6; else it is empty
abbrev pub Numbered : Config → List Entry → List ℕ → Type 0
Numbered c es l = (c.groups ≡ false) × (l ≡ []) ⊎ (c.groups ≡ true) × NumbersAfter es l
