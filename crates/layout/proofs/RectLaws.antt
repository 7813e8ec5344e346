-- The text rectangle and the page justification at a place of the message are those that reading its spans has.
use Prim.Native.Nat.{ℕ, suc, ◌≤◌}
use native.Mathlib.Nat.{le_refl}
use native.Mathlib.Omega.{arith}
use mathlib.Core.Path.{◌≡◌, sym, ap, ◌∙◌}
use mathlib.Core.List.{List, [], ◌∷◌, ◌++◌}
use borrow.Author.Tests.{le-leb, lt-leb}
use Rattle.records.specs.declared.Config.{Config}
use Rattle.layout.specs.declared.Rect.{Rect}
use Rattle.layout.specs.declared.RenderState.{RenderState}
use Rattle.layout.specs.declared.Entry.{Entry}
use Rattle.layout.specs.Types.{Item}
use Rattle.layout.specs.Demand.{Role, at_place, rect_after, just_after, role_in, In, here, there, From, Rises}
use Rattle.layout.specs.Read.{Event, renumbered}
use Rattle.layout.proofs.Cover.{Taken, SpanOf, ReadAs, ends, refuses, goes, emits, cuts, turns, fails, item_starts, EachPass}

-- the starts rise strictly from lo on
abbrev pub Low : ℕ → List Item → Type 0
Low lo [] = Unit {0}
Low lo (it ∷ its) = (lo ≤ it.start) × Low (suc it.start) its

pub from_low : (n : ℕ) (its : List Item) → From n (item_starts its) → Low (suc n) its
from_low n [] f = tt
from_low n (it ∷ its) f = (f.0, from_low it.start its f.1)

pub rises_low : (its : List Item) → Rises (item_starts its) → Low 0 its
rises_low [] f = tt
rises_low (it ∷ its) f = (omega arith, from_low it.start its f)

in_snoc : {e : Entry} (l : List Entry) (a : Entry) (P : Entry → Type 0) → ((c : Entry) → In c l → P c) → P a → In e (l ++ (a ∷ [])) → P e
in_snoc [] a P f p here = p
in_snoc (c ∷ l) a P f p here = f c here
in_snoc (c ∷ l) a P f p (there i) = in_snoc l a P (λ d j. f d (there j)) p i
in_snoc {e = e} [] a P f p (there i) = elim i [ ]

-- ---- what holds at a place

-- F: what holds at each place of the whole message; from lo on, what is left of it agrees
module _ {A : Type 0} (next : A → Role → A) (F : ℕ → A) where
  pub record Agrees (lo : ℕ) (a : A) (its : List Item) : Type 0 where
    pub at : (n : ℕ) → lo ≤ n → F n ≡ at_place next a its n

  module _ {lo : ℕ} {a : A} {it : Item} {its : List Item} (h : lo ≤ it.start) (t : Agrees lo a (it ∷ its)) where
    agrees_here : F it.start ≡ a
    agrees_here = rw (le-leb it.start it.start (le_refl _)) at (t.at it.start h)

    agrees_next : {b : A} → next a (role_in it.says) ≡ b → Agrees (suc it.start) b its
    agrees_next e =
        record { at = λ n m. rw (lt-leb n it.start m) at (t.at n (omega arith)) ∙ ap (λ (x : A). at_place next x its n) e }

-- R and J: the rectangle and the page justification at each place of the whole message
module _ (s : Config) (R : ℕ → Rect) (J : ℕ → ℕ) where
  -- a span in a pass of the rectangle r
  pub record Seen (r : Rect) (e : Entry) : Type 0 where
    pub rect : r ≡ R e.start
    pub just : e.state.just_page ≡ J e.start

  abbrev Known : Rect → List Entry → Type 0
  Known r es = (e : Entry) → In e es → Seen r e

  pub record Rest (lo : ℕ) (st : RenderState) (its : List Item) : Type 0 where
    pub rect : Agrees (rect_after s) R lo st.rect its
    pub just : Agrees (just_after s) J lo st.just_page its

  module _ {lo : ℕ} {it : Item} {its : List Item} {st : RenderState} (h : lo ≤ it.start) (t : Rest lo st (it ∷ its)) where
    rest_next : {st' : RenderState} {es : List Entry} → Taken s st it st' es → Rest (suc it.start) st' its
    rest_next f = record { rect = agrees_next (rect_after s) R h t.rect f.rect; just = agrees_next (just_after s) J h t.just f.just }

    seen : (acc : List Entry) {e : Entry} → SpanOf (renumbered s acc st) it e → Seen st.rect e
    seen acc o =
        record {
          rect = rw o.start (sym (agrees_here (rect_after s) R h t.rect));
          just = rw (o.start, o.state) (sym (agrees_here (just_after s) J h t.just));
        }

  none_known : {r : Rect} → Known r []
  none_known e i = elim i [ ]

  same_known : {r r' : Rect} {es : List Entry} → r' ≡ r → Known r es → Known r' es
  same_known q u = rw q u

  more_known : {r : Rect} (es : List Entry) {e : Entry} → Known r es → Seen r e → Known r (es ++ (e ∷ []))
  more_known {r = r} es {e = e} u z c i = in_snoc es e (Seen r) u z i

  pub read_known : {its : List Item} {st : RenderState} {acc : List Entry} {l : List Event} → ReadAs s its st acc l → {lo : ℕ} → Low lo its → Rest lo st its
      → Known st.rect acc → EachPass Known l
  read_known ends h t u = (u, tt)
  read_known (refuses f) h t u = tt
  read_known (goes f q r) h t u = read_known r h.1 (rest_next h.0 t f) (same_known q u)
  read_known (emits {acc = acc} f q o r) h t u = read_known r h.1 (rest_next h.0 t f) (same_known q (more_known acc u (seen h.0 t acc o)))
  read_known (cuts f q r) h t u = (u, read_known r h.1 (rest_next h.0 t f) none_known)
  read_known (turns f q r) h t u = (u, read_known r h.1 (rest_next h.0 t f) none_known)
  read_known (fails f q x y e) h t u = (u, tt)
