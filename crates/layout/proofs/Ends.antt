-- A listing ends: after the answers of its pages comes the end, or a refusal before.
use Prim.Native.Nat.{ℕ, zero, suc, ◌+◌, ◌*◌, ◌≤◌, ◌<◌}
use native.Mathlib.Omega.{arith}
use native.Mathlib.Nat.{add-zero, zero-add}
use mathlib.Core.Path.{◌≡◌, refl, sym, ap, ◌∙◌, subst}
use mathlib.Core.Bool.{Bool, true, false}
use Rattle.std.specs.Prelude.{Option, Some, None}
use mathlib.Core.List.{List, [], ◌∷◌, ◌++◌, map}
use lib.Dec.{ltb}
use borrow.Author.Tests.{ltb-true, ltb-false, le-ltb}
use lib.ListN.{length}
use Rattle.token.specs.Token.{Slice, slices}
use Rattle.admit.specs.Admission.{Admission, denied, admitted, admission}
use Rattle.refusal.specs.declared.Refusal.{Refusal}
use Rattle.layout.specs.declared.Span.{Span}
use Rattle.layout.specs.declared.Answer.{Answer}
use Rattle.layout.specs.declared.Answer.TheVariants.{On, Off, End, Refused}
use Rattle.layout.specs.declared.RenderState.{RenderState}
use Rattle.layout.specs.declared.Entry.{Entry}
use Rattle.records.specs.declared.Config.{Config}
use Rattle.layout.specs.Types.{Item, item_at, items, Board}
use Rattle.layout.specs.Fonts.{board_of}
use Rattle.layout.specs.Placing.{pass_records}
use Rattle.layout.specs.declared.Scan.{Scan}
use Rattle.layout.specs.Read.{Event, pass, close, stop, opening, events}
use Rattle.layout.specs.Listing.{Page, on, off, refused, stop_at, offs, pass_stop, walk, pages, numbered, listing, Result, result_on}
use Rattle.layout.specs.Demand.{Shows, role_in}
use Rattle.layout.specs.Bounds.{breaks, page_breaks, Stops, StopsBy}
use Rattle.layout.proofs.Cover.{ReadAs, ends, refuses, goes, emits, cuts, turns, fails, EventsAs, refused_at_once, begun, events_as}
use Rattle.layout.proofs.Times.{same_breaks}
use Rattle.layout.proofs.Items.{items_honest}
use Rattle.layout.proofs.Checks.{admitted_result, answer_on}

-- ---- the pages of a message: two for each end of a page at most

abbrev closes : List Event → ℕ
closes [] = 0
closes (pass r es ∷ evs) = closes evs
closes (close a b ∷ evs) = suc (closes evs)
closes (stop x ∷ evs) = closes evs

offs_le : (n : ℕ) (l : List Page) → length (offs n l) ≤ suc (length l)
offs_le zero l = omega arith
offs_le (suc n) l = omega arith

stop_le : (f : Option Refusal) (l : List Page) (n : ℕ) → length l ≤ n → 0 < n → length (stop_at f l) ≤ n
stop_le None l n h p = h
stop_le (Some r) l n h p = p

walk_le : (s : Board) (evs : List Event) (a b : ℕ) (rs : List Span) (n : ℕ) → length (walk s evs a b rs n) ≤ 2 * suc (closes evs)
walk_le s [] a b rs n = omega (arith, offs_le b [])
walk_le s (pass r es ∷ evs) a b rs n = stop_le (pass_stop s n r es) _ _ (walk_le s evs a b (rs ++ pass_records s r es) (suc n)) (omega arith)
walk_le s (close p q ∷ evs) a b rs n = omega (arith, offs_le b (walk s evs p q [] 0), walk_le s evs p q [] 0)
walk_le s (stop r ∷ evs) a b rs n = omega arith

-- the items that are [np]
abbrev item_breaks : List Item → ℕ
item_breaks [] = 0
item_breaks (it ∷ its) = breaks (role_in it.says) + item_breaks its

cuts_breaks : (c : Config) (ss : List Slice) → item_breaks (map (item_at c) ss) ≡ page_breaks ss
cuts_breaks c [] = refl
cuts_breaks c (s ∷ ss) = rw (same_breaks c.long_times s.start s.bytes, cuts_breaks c ss)

items_breaks : (c : Config) (msg : List ℕ) → item_breaks (items c msg) ≡ page_breaks (slices msg)
unfolding items
items_breaks c msg = cuts_breaks c (slices msg)

read_closes : {s : Config} {its : List Item} {st : RenderState} {acc : List Entry} {l : List Event} → ReadAs s its st acc l → closes l ≤ item_breaks its
read_closes ends = omega arith
read_closes (refuses f) = omega arith
read_closes (goes f q r) = omega (arith, read_closes r)
read_closes (emits f q o r) = omega (arith, read_closes r)
read_closes (cuts f q r) = omega (arith, read_closes r)
read_closes (turns f q r) = omega (arith, ap breaks q, read_closes r)
read_closes (fails f q x y e) = omega (arith, ap breaks q)

events_closes : {s : Config} {its : List Item} {l : List Event} → EventsAs s its l → closes l ≤ item_breaks its
events_closes (refused_at_once a b e) = omega arith
events_closes (begun r) = read_closes r

pages_le : (msg : List ℕ) (s : Board) → length (pages s (items s.config msg)) ≤ 2 * suc (page_breaks (slices msg))
unfolding pages
pages_le msg s =
    let c : Config = s.config in
    let o : Scan = opening c (items c msg) in
    omega (
      arith,
      walk_le s (events c (items c msg)) o.on o.off [] 0,
      events_closes (events_as c (items c msg) (items_honest c msg)),
      items_breaks c msg,
    )

-- ---- the first answer that stops

up_to : (P : ℕ → Type 0) (i : ℕ) → ((n : ℕ) → n < i → P n) → P i → (n : ℕ) → n < suc i → P n
up_to P i h p n m = look (ltb n i) refl
  where
    look : (t : Bool) → ltb n i ≡ t → P n
    look true q = h n (ltb-true n i q)
    look false q =
        let z : n ≡ i = omega (arith, ltb-false n i q) in
        rw z p

module _ (file msg : List ℕ) (lent : ℕ → List Span) where
  abbrev answer_at : ℕ → Answer
  answer_at n = listing file msg n (lent n)

  -- the answer i stops, or the answers go on
  stops_or : (i top : ℕ) → i ≤ top → ((n : ℕ) → n < i → Shows (answer_at n)) → (Shows (answer_at i) → StopsBy file msg lent top) → (a : Answer)
      → answer_at i ≡ a → StopsBy file msg lent top
  stops_or i top m h more (On d n) q = more (rw q tt)
  stops_or i top m h more (Off d) q = more (rw q tt)
  stops_or i top m h more (End n) q = record { last = i; soon = m; shows = h; stops = rw q tt }
  stops_or i top m h more (Refused r) q = record { last = i; soon = m; shows = h; stops = rw q tt }

  -- none of the answers before i stops, and i + k does
  first_stop : (i k : ℕ) → ((n : ℕ) → n < i → Shows (answer_at n)) → Stops (answer_at (i + k)) → StopsBy file msg lent (i + k)
  first_stop i zero h e = record { last = i; soon = omega arith; shows = h; stops = rw (add-zero i) at e }
  first_stop i (suc k) h e =
      let q : i + suc k ≡ suc i + k = omega arith in
      stops_or i (i + suc k) (omega arith) h
      (λ s. subst (λ (j : ℕ). StopsBy file msg lent j) (sym q)
      (first_stop (suc i) k (up_to (λ n. Shows (answer_at n)) i h s) (subst (λ (j : ℕ). Stops (answer_at j)) q e)))
      (answer_at i) refl

  stop_at_law : (k top : ℕ) → k ≤ top → Stops (answer_at k) → StopsBy file msg lent top
  stop_at_law k top m e =
      let r : StopsBy file msg lent (0 + k) = first_stop 0 k (λ n l. absurd (omega arith)) (rw (zero-add k) e) in
      record { last = r.last; soon = omega (arith, r.soon); shows = r.shows; stops = r.stops }

-- past the last page
numbered_stops : (c : ℕ) (l : List Page) → Stops (numbered c l (length l)).answer
numbered_stops c [] = tt
numbered_stops c (on d rs ∷ l) = numbered_stops (suc c) l
numbered_stops c (off d ∷ l) = numbered_stops (suc c) l
numbered_stops c (refused x ∷ l) = tt

pub always_stops : (file msg : List ℕ) (lent : ℕ → List Span) → StopsBy file msg lent (2 * suc (page_breaks (slices msg)))
unfolding board_of
always_stops file msg lent = look (admission file msg) refl
  where
    look : (a : Admission) → admission file msg ≡ a → StopsBy file msg lent (2 * suc (page_breaks (slices msg)))
    look (denied r) e = stop_at_law file msg lent 0 _ (omega arith) (rw (answer_on file msg 0 (lent 0) (denied r) e) tt)
    look (admitted c fs) e =
        let n : ℕ = length (pages (board_of msg c fs) (items c msg)) in
        stop_at_law file msg lent n _ (pages_le msg (board_of msg c fs))
        (rw (answer_on file msg n (lent n) (admitted c fs) e)
        (admitted_result msg n (length (lent n)) (λ r. Stops r.answer) c fs tt (λ q. numbered_stops 0 (pages (board_of msg c fs) (items c msg)))))

-- ---- "From a refused answer on, every later answer is that refusal"

numbered_stays : (x : Refusal) (c : ℕ) (l : List Page) (n m : ℕ) → n ≤ m → (numbered c l n).answer ≡ Refused x → (numbered c l m).answer ≡ Refused x
numbered_stays x c [] n m h e = absurd cc
numbered_stays x c (p ∷ l) zero zero h e = e
numbered_stays x c (on d rs ∷ l) zero (suc m) h e = absurd cc
numbered_stays x c (off d ∷ l) zero (suc m) h e = absurd cc
numbered_stays x c (refused r ∷ l) zero (suc m) h e = e
numbered_stays x c (p ∷ l) (suc n) zero h e = absurd (omega arith)
numbered_stays x c (on d rs ∷ l) (suc n) (suc m) h e = numbered_stays x (suc c) l n m (omega arith) e
numbered_stays x c (off d ∷ l) (suc n) (suc m) h e = numbered_stays x (suc c) l n m (omega arith) e
numbered_stays x c (refused r ∷ l) (suc n) (suc m) h e = e

-- with room enough, the result does not depend on it
room_is : (a : Admission) (msg : List ℕ) (n room : ℕ) → 1400 ≤ room → result_on a msg n room ≡ result_on a msg n 1400
room_is (denied r) msg n room h = refl
room_is (admitted c fs) msg n room h = rw (le-ltb room 1400 h)

result_stays : (a : Admission) (msg : List ℕ) (x : Refusal) (n m : ℕ) → n ≤ m → (result_on a msg n 1400).answer ≡ Refused x
    → (result_on a msg m 1400).answer ≡ Refused x
result_stays (denied r) msg x n m h e = e
result_stays (admitted c fs) msg x n m h e = numbered_stays x 0 (pages (board_of msg c fs) (items c msg)) n m h e

pub stays : (file msg : List ℕ) (n m : ℕ) (a b : List Span) (x : Refusal) → n ≤ m → 1400 ≤ length a → 1400 ≤ length b → listing file msg n a ≡ Refused x
    → listing file msg m b ≡ Refused x
stays file msg n m a b x h p q e =
    let s : Admission = admission file msg in
    let now : (result_on s msg n 1400).answer ≡ Refused x =
    ap (λ (r : Result). r.answer) (sym (room_is s msg n (length a) p)) ∙ sym (answer_on file msg n a s refl) ∙ e in
    answer_on file msg m b s refl ∙ ap (λ (r : Result). r.answer) (room_is s msg m (length b) q) ∙ result_stays s msg x n m h now
