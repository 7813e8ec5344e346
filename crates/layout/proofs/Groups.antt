-- A6: on a sign with kind 6 the numbers of a group are 0, 1, 2 and on.
use Prim.Native.Nat.{ℕ, suc, ◌+◌}
use native.Mathlib.Omega.{arith}
use mathlib.Core.Path.{◌≡◌, refl, sym, ◌∙◌, ap, subst}
use mathlib.Core.Bool.{Bool, true, false}
use mathlib.Core.List.{List, [], ◌∷◌, ◌++◌, append-nil}
use lib.ListN.{length}
use Rattle.base.specs.Pick.{pick}
use Rattle.records.specs.declared.Config.{Config}
use Rattle.layout.specs.declared.RenderState.{RenderState}
use Rattle.layout.specs.declared.Entry.{Entry}
use Rattle.layout.specs.Types.{Item}
use Rattle.layout.specs.Placing.{keep, select}
use Rattle.layout.specs.Demand.{From, Rises, Consecutive, spans}
use Rattle.layout.specs.Read.{Event, in_group, group_number, renumbered}
use Rattle.layout.proofs.PassLaws.{InOne, in_one}
use Rattle.layout.proofs.Cover.{SpanOf, ReadAs, ends, refuses, goes, emits, cuts, turns, fails, EachPass}

-- ---- consecutive numbers rise

consecutive_from : (n : ℕ) (ks : List ℕ) → Consecutive (suc n) ks → From n ks
consecutive_from n [] h = tt
consecutive_from n (k ∷ ks) h = (omega (arith, h.0), rw h.0 (consecutive_from (suc n) ks h.1))

consecutive_rise : (n : ℕ) (ks : List ℕ) → Consecutive n ks → Rises ks
consecutive_rise n [] h = tt
consecutive_rise n (k ∷ ks) h = rw h.0 (consecutive_from n ks h.1)

-- with kind 6 they are consecutive; without it they are asked to rise
pub rises : (b : Bool) (ks : List ℕ) → (b ≡ true → Consecutive 0 ks) → (b ≡ false → Rises ks) → Rises ks
rises true ks h f = consecutive_rise 0 ks (h refl)
rises false ks h f = f refl

-- ---- one span more

-- two states of one group have the same next number
number_same : (a b : RenderState) → InOne a b → (n : ℕ) (es : List Entry) → group_number a n es ≡ group_number b n es
number_same a b o n [] = refl
number_same a b o n (e ∷ es) =
    let i : in_group a e ≡ in_group b e = rw (o.just_page, o.line, o.just_line) in
    ap (λ (t : Bool). group_number a (pick t (suc e.state.span) n) es) i ∙ number_same a b o (pick (in_group b e) (suc e.state.span) n) es

pub number_snoc : (st : RenderState) (n : ℕ) (es : List Entry) (e : Entry)
    → group_number st n (es ++ (e ∷ [])) ≡ pick (in_group st e) (suc e.state.span) (group_number st n es)
number_snoc st n [] e = refl
number_snoc st n (x ∷ es) e = number_snoc st (pick (in_group st x) (suc x.state.span) n) es e

keep_snoc : {A : Type 0} (b : Bool) (a : A) (l u : List A) → keep b a (l ++ u) ≡ keep b a l ++ u
keep_snoc true a l u = refl
keep_snoc false a l u = refl

select_snoc : {A : Type 0} (f : A → Bool) (l : List A) (e : A) → select f (l ++ (e ∷ [])) ≡ select f l ++ keep (f e) e []
select_snoc f [] e = refl
select_snoc f (x ∷ l) e = ap (keep (f x) x) (select_snoc f l e) ∙ keep_snoc (f x) x (select f l) (keep (f e) e [])

consecutive_snoc : (n : ℕ) (es : List Entry) (e : Entry) → Consecutive n (spans es) → e.state.span ≡ n + length es → Consecutive n (spans (es ++ (e ∷ [])))
consecutive_snoc n [] e h q = (omega (arith, q), tt)
consecutive_snoc n (x ∷ es) e h q = (h.0, consecutive_snoc (suc n) es e h.1 (omega (arith, q)))

length_snoc : {A : Type 0} (l : List A) (e : A) → length (l ++ (e ∷ [])) ≡ suc (length l)
length_snoc [] e = refl
length_snoc (x ∷ l) e = ap suc (length_snoc l e)

-- of each group: its numbers are 0, 1 and on, and its next number is their count
pub record GroupInOrder (st : RenderState) (es : List Entry) : Type 0 where
  pub numbers : Consecutive 0 (spans (select (in_group st) es))
  pub due : group_number st 0 es ≡ length (select (in_group st) es)

abbrev pub InOrder : List Entry → Type 0
InOrder es = (st : RenderState) → GroupInOrder st es

in_order_none : InOrder []
in_order_none st = record { numbers = tt; due = refl }

module _ (es : List Entry) (e : Entry) (h : InOrder es) (q : e.state.span ≡ group_number e.state 0 es) where
  -- the spans of a group, where b is whether e is one of them
  selected : (st : RenderState) (b : Bool) → in_group st e ≡ b → select (in_group st) (es ++ (e ∷ [])) ≡ select (in_group st) es ++ keep b e []
  selected st b t = select_snoc (in_group st) es e ∙ ap (λ (c : Bool). select (in_group st) es ++ keep c e []) t

  numbered : (st : RenderState) (b : Bool) → in_group st e ≡ b → group_number st 0 (es ++ (e ∷ [])) ≡ pick b (suc e.state.span) (group_number st 0 es)
  numbered st b t = number_snoc st 0 es e ∙ ap (λ (c : Bool). pick c (suc e.state.span) (group_number st 0 es)) t

  in_order_by : (st : RenderState) (b : Bool) → in_group st e ≡ b → GroupInOrder st (es ++ (e ∷ []))
  in_order_by st true t =
      let l : e.state.span ≡ length (select (in_group st) es) = q ∙ sym (number_same st e.state (in_one st e t) 0 es) ∙ (h st).due in
      let u : select (in_group st) (es ++ (e ∷ [])) ≡ select (in_group st) es ++ (e ∷ []) = selected st true t in
      record {
        numbers =
            subst (λ (l : List Entry). Consecutive 0 (spans l)) (sym u)
            (consecutive_snoc 0 (select (in_group st) es) e (h st).numbers (omega (arith, l)));
        due = numbered st true t ∙ ap suc l ∙ sym (ap length u ∙ length_snoc (select (in_group st) es) e);
      }
  in_order_by st false t =
      let u : select (in_group st) (es ++ (e ∷ [])) ≡ select (in_group st) es = selected st false t ∙ append-nil (select (in_group st) es) in
      record {
        numbers = subst (λ (l : List Entry). Consecutive 0 (spans l)) (sym u) (h st).numbers;
        due = numbered st false t ∙ (h st).due ∙ sym (ap length u);
      }

  in_order_snoc : InOrder (es ++ (e ∷ []))
  in_order_snoc st = in_order_by st (in_group st e) refl

-- ---- a message

-- a span is read in the state whose number is its group's next
number_is : (s : Config) → s.groups ≡ true → (acc : List Entry) (st : RenderState) {it : Item} {e : Entry} → SpanOf (renumbered s acc st) it e
    → e.state.span ≡ group_number e.state 0 acc
number_is s g acc st o =
    ap (λ (x : RenderState). x.span) o.state
    ∙ ap (λ (b : Bool). pick b (group_number st 0 acc) st.span) g
    ∙ number_same st (renumbered s acc st) (record { just_page = refl; line = refl; just_line = refl }) 0 acc
    ∙ sym (ap (λ (x : RenderState). group_number x 0 acc) o.state)

module _ {s : Config} (g : s.groups ≡ true) where
  in_order_from : {its : List Item} {st : RenderState} {acc : List Entry} {l : List Event} → ReadAs s its st acc l → InOrder acc
      → EachPass (λ r es. InOrder es) l
  in_order_from ends h = (h, tt)
  in_order_from (refuses f) h = tt
  in_order_from (goes f q r) h = in_order_from r h
  in_order_from (emits {st = st} {acc = acc} {e = e} f q o r) h = in_order_from r (in_order_snoc acc e h (number_is s g acc st o))
  in_order_from (cuts f q r) h = (h, in_order_from r in_order_none)
  in_order_from (turns f q r) h = (h, in_order_from r in_order_none)
  in_order_from (fails f q x y e) h = (h, tt)

  pub read_in_order : {its : List Item} {st : RenderState} {l : List Event} → ReadAs s its st [] l → EachPass (λ r es. InOrder es) l
  read_in_order r = in_order_from r in_order_none
