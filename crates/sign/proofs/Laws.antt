-- The ways on and out of the reader's functions, as the code has them.
use Prim.Native.Nat.{ℕ, zero, suc, ◌+◌, ◌-◌, ◌≤◌, ◌<◌}
use mathlib.Core.Path.{◌≡◌, refl, sym, ◌∙◌, ap, subst}
use mathlib.Core.List.{List, [], ◌∷◌, ◌++◌}
use mathlib.Core.Bool.{Bool, true, false, not}
use native.Mathlib.Nat.{le_refl, zero-add}
use native.Mathlib.Omega.{arith}
use lib.Dec.{ltb, leb, eqb}
use lib.ListN.{length, get_or, set, replicate, length-set}
use lib.Seq.{get_or-set_same, get_or-set_other}
use borrow.Author.Tests.{lt-ltb, leb-true, leb-false, le-ltb, eq-eqb, ne_eqb, eqb-true, eqb-false}
use Rattle.base.specs.Pick.{pick}
use Rattle.records.specs.Record.{all, little_at, Piece, Record, CutShort, pieces_at, head_at}
use Rattle.records.specs.Config.{not_zero}
use Rattle.records.proofs.Laws.{tests, head_start, head_from, head_to, pieces_next, pieces_short, pieces_end}
use Rattle.std.specs.Prelude.{Option, Some, None}
use Rattle.records.specs.declared.Record.{Record as Head}
use Rattle.sign.specs.Sign.{characters_of, fonts_of, member, Before, After, adding, is_font, is_character, bitmap_len, fault_from}
use Rattle.sign.specs.Reading.{part, char_shape, char_of, char_in, char_by, char_at, Marked, stops, Run, Running, Ran, RunIn}
use Rattle.sign.specs.declared.CharRecord.{CharRecord}
use Rattle.sign.specs.declared.CharRun.{CharRun}

-- what a table of marks says of a number, and after a mark more
member_other : (n m : ℕ) (l : List ℕ) → (n ≡ m → ⊥) → member n (m ∷ l) ≡ member n l
unfolding member
member_other n m l h = rw (ne_eqb n m h)

member_same : (n : ℕ) (l : List ℕ) → member n (n ∷ l) ≡ true
unfolding member
member_same n l = rw (eq-eqb n n refl)

pub marked_more : (k : ℕ) (ns : List ℕ) (table : List Bool) → k < length table → Marked ns table → Marked (k ∷ ns) (set table k true)
marked_more k ns table h g = record { at_number = λ n. go n (eqb n k) refl }
  where
    go : (n : ℕ) (t : Bool) → eqb n k ≡ t → member n (k ∷ ns) ≡ get_or (set table k true) n false
    go n true e =
        let q : n ≡ k = eqb-true n k e in
        rw (q, member_same k ns, get_or-set_same table k true false h)
    go n false e =
        let q : n ≡ k → ⊥ = eqb-false n k e in
        rw (member_other n k ns q, get_or-set_other table k n true false q) (g.at_number n)

-- no number is marked yet
pub marked_none : (table : List Bool) → ((n : ℕ) → get_or table n false ≡ false) → Marked [] table
unfolding member
marked_none table h = record { at_number = λ n. rw (h n) }

pub unmarked : (n i : ℕ) → get_or (replicate n false) i false ≡ false
unmarked zero i = refl
unmarked (suc n) zero = refl
unmarked (suc n) (suc i) = unmarked n i

-- tests of a record's shape, and tests by what came before
pub all_split : (t : Bool) (ts : List Bool) (u : Bool) (us : List Bool) → all (t ∷ (ts ++ u ∷ us)) ≡ all (all (t ∷ ts) ∷ u ∷ us)
all_split t [] u us = refl
all_split true (s ∷ ts) u us = all_split s ts u us
all_split false (s ∷ ts) u us = refl

pub character_is_law : (height kind : ℕ) (cs body : List ℕ)
    → is_character (After height cs) kind body ≡ all (char_shape height kind body ∷ not (member (little_at 2 0 body) cs) ∷ ltb (length cs) 256 ∷ [])
unfolding is_character char_shape
character_is_law height kind cs body =
    all_split (eqb kind 3) (eqb (length body) (3 + bitmap_len (get_or body 2 0) height) ∷ not_zero (little_at 2 0 body) ∷ [])
    (not (member (little_at 2 0 body) cs)) (ltb (length cs) 256 ∷ [])

-- what `char_at` found
record CharHere (file : List ℕ) (at height : ℕ) (ch : CharRecord) : Type 0 where
  head : Head
  is : head_at file at ≡ Some head
  ends : head.end ≡ ch.end
  is_kind : head.kind ≡ 3
  shape : char_shape height head.kind (part file head.start head.end) ≡ true
  number : little_at 2 0 (part file head.start head.end) ≡ ch.code

shape_kind : (height kind : ℕ) (body : List ℕ) → char_shape height kind body ≡ true → kind ≡ 3
unfolding char_shape
shape_kind height kind body e =
    eqb-true kind 3 (tests (eqb kind 3 ∷ eqb (length body) (3 + bitmap_len (get_or body 2 0) height) ∷ not_zero (little_at 2 0 body) ∷ []) e).0

char_here : (file : List ℕ) (at height : ℕ) (ch : CharRecord) → char_at file at height ≡ Some ch → CharHere file at height ch
unfolding char_at char_in
char_here file at height ch e = go (head_at file at) refl e
  where
    inner : (h : Head) (t : Bool) → head_at file at ≡ Some h → char_shape height h.kind (part file h.start h.end) ≡ t
        → pick t (Some (char_of (part file h.start h.end) h.end)) None ≡ Some ch → CharHere file at height ch
    inner h true p q r =
        let same : char_of (part file h.start h.end) h.end ≡ ch = cc in
        record {
          head = h;
          is = p;
          ends = ap (λ (x : CharRecord). x.end) same;
          is_kind = shape_kind height h.kind (part file h.start h.end) q;
          shape = q;
          number = ap (λ (x : CharRecord). x.code) same;
        }
    inner h false p q r = cc

    go : (x : Option Head) → head_at file at ≡ x → char_by file height x ≡ Some ch → CharHere file at height ch
    go (Some h) p q = inner h (char_shape height h.kind (part file h.start h.end)) p refl q
    go None p q = cc

pub all_no : (t : Bool) → all (t ∷ false ∷ []) ≡ false
all_no true = refl
all_no false = refl

-- a record of another kind is no font
not_font : (ns : List ℕ) (kind : ℕ) (body : List ℕ) → (kind ≡ 2 → ⊥) → is_font ns kind body ≡ false
unfolding is_font
not_font ns kind body n = rw (ne_eqb kind 2 n)

-- a character, in each of the recursions
fault_char : (ns : List ℕ) (b : Before) (at kind : ℕ) (body : List ℕ) (ps : List Piece) (code : ℕ) → little_at 2 0 body ≡ code
    → is_font ns kind body ≡ false → is_character b kind body ≡ true → fault_from ns b (Record at kind body ∷ ps) ≡ fault_from ns (adding code b) ps
unfolding fault_from
fault_char ns b at kind body ps code e p q = rw (p, q, e)

count_char : (at kind : ℕ) (body : List ℕ) (ps : List Piece) → kind ≡ 3 → length (characters_of (Record at kind body ∷ ps)) ≡ suc (length (characters_of ps))
unfolding characters_of
count_char at kind body ps k = rw (eq-eqb kind 3 k)

pub fonts_other : (at kind : ℕ) (body : List ℕ) (ps : List Piece) → (kind ≡ 2 → ⊥) → fonts_of (Record at kind body ∷ ps) ≡ fonts_of ps
unfolding fonts_of
fonts_other at kind body ps n = rw (ne_eqb kind 2 n)

stops_here : (b : Before) (at kind : ℕ) (body : List ℕ) (ps : List Piece) → is_character b kind body ≡ false → stops b (Record at kind body ∷ ps) ≡ true
unfolding stops
stops_here b at kind body ps e = rw e

stops_short : (b : Before) (at : ℕ) → stops b (CutShort at ∷ []) ≡ true
unfolding stops
stops_short b at = refl

stops_end : (b : Before) → stops b [] ≡ true
unfolding stops
stops_end b = refl

pub run_start : (file : List ℕ) (from height : ℕ) (table : List Bool) → from ≤ length file → ((n : ℕ) → get_or table n false ≡ false)
    → Running file from height (length table) table 0 from
run_start file from height table h z = record { run = run; marked = marked_none table z; same = refl }
  where
    run : Run file from height 0 from
    run =
        record {
          cs = [];
          few = refl;
          most = omega arith;
          onward = le_refl from;
          inside = h;
          fault = λ ns. refl;
          count = sym (zero-add (length (characters_of (pieces_at file from))));
          fonts = refl;
        }

module _ (file : List ℕ) (from height size n at : ℕ) (table : List Bool) (so : Running file from height size table n at) where
  abbrev run : Run file from height n at
  run = so.run

  abbrev cs : List ℕ
  cs = run.cs

  -- no character follows
  abbrev Ended : Type 0
  Ended = stops (After height cs) (pieces_at file at) ≡ true

  ended : Ended → RunIn file from height size (Some (record { n = n; at = at }))
  ended e =
      record {
        ran = λ q d.
            let same : record { n = n; at = at } ≡ q = cc in
            subst (λ (x : CharRun). Ran file from height x.n x.at) same (record { run = run; stop = e });
        narrow = λ h. refl;
      }

  -- the record at the offset has the shape of a character
  module _ (ch : CharRecord) (p : Some ch ≡ char_at file at height) where
    here : CharHere file at height ch
    here = char_here file at height ch (sym p)

    abbrev body : List ℕ
    body = part file here.head.start here.head.end

    next : pieces_at file at ≡ Record at here.head.kind body ∷ pieces_at file ch.end
    next = pieces_next file at here.head here.is ∙ ap (λ (e : ℕ). Record at here.head.kind body ∷ pieces_at file e) here.ends

    test : is_character (After height cs) here.head.kind body ≡ all (not (get_or table ch.code false) ∷ ltb n 256 ∷ [])
    test = rw (character_is_law height here.head.kind cs body, here.shape, here.number, so.marked.at_number ch.code, run.few)

    no_font : here.head.kind ≡ 2 → ⊥
    no_font e = omega (arith, here.is_kind)

    past : (at < ch.end) × (ch.end ≤ length file)
    past =
        let a : here.head.start ≡ at + 4 = head_start file at here.head here.is in
        let b : here.head.start ≤ here.head.end = head_from file at here.head here.is in
        let c : here.head.end ≤ length file = head_to file at here.head here.is in
        (omega (arith, here.ends), omega (arith, here.ends))

    pub run_less : length file - ch.end < length file - at
    run_less = omega (arith, past.0, past.1)

    pub run_on : (n ≡ 256 → ⊥) → (k : ℕ) → k ≡ ch.code → k < length table → get_or table k false ≡ false
        → Running file from height size (set table k true) (n + 1) ch.end
    run_on f k e l v = rw e (record { run = on; marked = marked_more ch.code cs table (rw (← e) l) so.marked; same = length-set table ch.code true ∙ so.same })
      where
        u : get_or table ch.code false ≡ false
        u = rw (← e) v

        good : is_character (After height cs) here.head.kind body ≡ true
        good = rw (test, u, lt-ltb n 256 (omega (arith, run.most)))

        fault : (ns : List ℕ) → fault_from ns (After height []) (pieces_at file from) ≡ fault_from ns (After height (ch.code ∷ cs)) (pieces_at file ch.end)
        fault ns =
            run.fault ns
            ∙ rw next
            (fault_char ns (After height cs) at here.head.kind body (pieces_at file ch.end) ch.code here.number
            (not_font ns here.head.kind body no_font) good)

        count : length (characters_of (pieces_at file from)) ≡ n + 1 + length (characters_of (pieces_at file ch.end))
        count =
            let step : length (characters_of (pieces_at file at)) ≡ suc (length (characters_of (pieces_at file ch.end))) =
            rw next (count_char at here.head.kind body (pieces_at file ch.end) here.is_kind) in
            omega (arith, run.count)

        fonts : fonts_of (pieces_at file from) ≡ fonts_of (pieces_at file ch.end)
        fonts = run.fonts ∙ rw next (fonts_other at here.head.kind body (pieces_at file ch.end) no_font)

        on : Run file from height (n + 1) ch.end
        on =
            record {
              cs = ch.code ∷ cs;
              few = omega (arith, run.few);
              most = omega (arith, run.most);
              onward = omega (arith, run.onward, past.0);
              inside = past.1;
              fault = fault;
              count = count;
              fonts = fonts;
            }

    bad : is_character (After height cs) here.head.kind body ≡ false → Ended
    bad e = rw next (stops_here (After height cs) at here.head.kind body (pieces_at file ch.end) e)

    pub run_full : n ≡ 256 → RunIn file from height size (Some (record { n = n; at = at }))
    run_full e = ended (bad (rw (test, le-ltb n 256 (omega arith)) (all_no (not (get_or table ch.code false)))))

    pub run_used : (k : ℕ) → k ≡ ch.code → get_or table k false ≡ true → RunIn file from height size (Some (record { n = n; at = at }))
    run_used k e u = ended (bad (rw (test, ← e, u)))

  pub run_other : (s : Option CharRecord) → s ≡ char_at file at height → s ≡ None → RunIn file from height size (Some (record { n = n; at = at }))
  unfolding char_at char_in
  run_other s p q = ended (go (head_at file at) refl (sym p ∙ q))
    where
      inner : (h : Head) (t : Bool) → head_at file at ≡ Some h → char_shape height h.kind (part file h.start h.end) ≡ t
          → pick t (Some (char_of (part file h.start h.end) h.end)) None ≡ None → Ended
      inner h true d e f = cc
      inner h false d e f =
          let no : is_character (After height cs) h.kind (part file h.start h.end) ≡ false =
          rw (character_is_law height h.kind cs (part file h.start h.end), e) in
          rw (pieces_next file at h d) (stops_here (After height cs) at h.kind (part file h.start h.end) (pieces_at file h.end) no)

      go : (x : Option Head) → head_at file at ≡ x → char_by file height x ≡ None → Ended
      go (Some h) d e = inner h (char_shape height h.kind (part file h.start h.end)) d refl e
      go None d e = short (leb (length file) at) refl
        where
          short : (t : Bool) → leb (length file) at ≡ t → Ended
          short true l = rw (pieces_end file at (leb-true (length file) at l)) (stops_end (After height cs))
          short false l = rw (pieces_short file at (leb-false (length file) at l) d) (stops_short (After height cs) at)
