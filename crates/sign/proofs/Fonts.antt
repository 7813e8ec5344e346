-- The ways on and out of the loop over the fonts.
use Prim.Native.Nat.{ℕ, zero, suc, ◌+◌, ◌-◌, ◌≤◌, ◌<◌}
use mathlib.Core.Path.{◌≡◌, refl, sym, ◌∙◌, ap}
use mathlib.Core.List.{List, [], ◌∷◌, ◌++◌, map, append_assoc, append-nil}
use mathlib.Core.Bool.{Bool, true, false, not}
use native.Mathlib.Omega.{arith}
use native.Mathlib.Numerals.{add-one}
use lib.Dec.{ltb, eqb}
use lib.ListN.{length, get_or, set, take, drop, replicate, length-set, length-replicate, length-take, length-drop, length-map, take-append-drop}
use lib.Seq.{take-suc-set, length-take-le, drop-set-lt, drop-drop}
use borrow.Author.Tests.{lt-ltb, le-ltb, eq-eqb, ne_eqb, eqb-true, not-true}
use Rattle.base.specs.Pick.{pick}
use Rattle.records.specs.Record.{all, Piece, Record, CutShort, pieces_at, head_at}
use Rattle.records.specs.Config.{not_zero}
use Rattle.records.proofs.Laws.{tests, head_start, head_from, head_to, pieces_next, pieces_short, pieces_end}
use Rattle.records.specs.declared.Config.{Config}
use Rattle.records.specs.declared.Record.{Record as Head}
use Rattle.std.specs.Prelude.{Option, Some, None, Result, Ok, Err, IsErrAnd}
use Rattle.std.specs.Option.{ok_or}
use Rattle.std.proofs.lemmas.Result.{err_from_is_err_and}
use Rattle.sign.specs.Sign.{Font, font_of, characters_of, fonts_of, member, Before, NoFont, After, is_font, is_character, fault_from, Fine, FailsAt}
use Rattle.sign.specs.Given.{entry_of, no_fonts, content_of, refusal_at}
use Rattle.sign.specs.Reading.{font_entry, filled, given_from, part, font_shape, font_in, font_by, font_at, stops, Ran, Reading}
use Rattle.sign.specs.declared.FontEntry.{FontEntry}
use Rattle.sign.specs.declared.RefusedAt.{RefusedAt}
use Rattle.sign.specs.declared.SignFile.{SignFile}
use Rattle.sign.proofs.Laws.{all_split, all_no, unmarked, marked_none, marked_more}

-- a font by its record's shape, and by the fonts before
font_test : (ns : List ℕ) (kind : ℕ) (body : List ℕ)
    → is_font ns kind body ≡ all (font_shape kind body ∷ not (member (get_or body 0 0) ns) ∷ ltb (length ns) 24 ∷ [])
unfolding is_font font_shape
font_test ns kind body =
    all_split (eqb kind 2) (eqb (length body) 6 ∷ not_zero (get_or body 0 0) ∷ not_zero (get_or body 1 0) ∷ []) (not (member (get_or body 0 0) ns))
    (ltb (length ns) 24 ∷ [])

-- what `font_at` found
record FontHere (file : List ℕ) (at : ℕ) (f : FontEntry) : Type 0 where
  head : Head
  is : head_at file at ≡ Some head
  is_kind : head.kind ≡ 2
  shape : font_shape head.kind (part file head.start head.end) ≡ true
  entry : font_entry (part file head.start head.end) head.end ≡ f

shape_kind : (kind : ℕ) (body : List ℕ) → font_shape kind body ≡ true → kind ≡ 2
unfolding font_shape
shape_kind kind body e = eqb-true kind 2 (tests (eqb kind 2 ∷ eqb (length body) 6 ∷ not_zero (get_or body 0 0) ∷ not_zero (get_or body 1 0) ∷ []) e).0

font_here : (file : List ℕ) (at : ℕ) (f : FontEntry) → font_at file at ≡ Some f → FontHere file at f
unfolding font_at font_in
font_here file at f e = go (head_at file at) refl e
  where
    inner : (h : Head) (t : Bool) → head_at file at ≡ Some h → font_shape h.kind (part file h.start h.end) ≡ t
        → pick t (Some (font_entry (part file h.start h.end) h.end)) None ≡ Some f → FontHere file at f
    inner h true p q r =
        let same : font_entry (part file h.start h.end) h.end ≡ f = cc in
        record { head = h; is = p; is_kind = shape_kind h.kind (part file h.start h.end) q; shape = q; entry = same }
    inner h false p q r = cc

    go : (x : Option Head) → head_at file at ≡ x → font_by file x ≡ Some f → FontHere file at f
    go (Some h) p q = inner h (font_shape h.kind (part file h.start h.end)) p refl q
    go None p q = cc

-- a font, in each of the recursions
fault_font : (ns : List ℕ) (b : Before) (at kind : ℕ) (body : List ℕ) (ps : List Piece) (n h : ℕ) → get_or body 0 0 ≡ n → get_or body 1 0 ≡ h
    → is_font ns kind body ≡ true → fault_from ns b (Record at kind body ∷ ps) ≡ fault_from (n ∷ ns) (After h []) ps
unfolding fault_from
fault_font ns b at kind body ps n h d e p = rw (p, d, e)

fault_none : (ns : List ℕ) (b : Before) (at kind : ℕ) (body : List ℕ) (ps : List Piece) → is_font ns kind body ≡ false
    → stops b (Record at kind body ∷ ps) ≡ true → fault_from ns b (Record at kind body ∷ ps) ≡ FailsAt at
unfolding fault_from stops
fault_none ns b at kind body ps p q = rw (p, not-true (is_character b kind body) q)

fault_short : (ns : List ℕ) (b : Before) (at : ℕ) → fault_from ns b (CutShort at ∷ []) ≡ FailsAt at
unfolding fault_from
fault_short ns b at = refl

fault_end : (ns : List ℕ) (b : Before) → fault_from ns b [] ≡ Fine
unfolding fault_from
fault_end ns b = refl

fonts_font : (at kind : ℕ) (body : List ℕ) (ps : List Piece) → kind ≡ 2 → fonts_of (Record at kind body ∷ ps) ≡ font_of at body (characters_of ps) ∷ fonts_of ps
unfolding fonts_of
fonts_font at kind body ps k = rw (eq-eqb kind 2 k)

-- records without a fault that start with no character: the font before has no more
fine_stop : (ns : List ℕ) (b : Before) (ps : List Piece) → stops b ps ≡ true → fault_from ns b ps ≡ Fine → characters_of ps ≡ []
unfolding characters_of fault_from stops is_font
fine_stop ns b [] p q = refl
fine_stop ns b (CutShort at ∷ ps) p q = refl
fine_stop ns b (Record at kind body ∷ ps) p q = go (eqb kind 2) (rest) refl (rw (not-true (is_character b kind body) p) at q)
  where
    rest : Bool
    rest = all (eqb (length body) 6 ∷ not_zero (get_or body 0 0) ∷ not_zero (get_or body 1 0) ∷ not (member (get_or body 0 0) ns) ∷ ltb (length ns) 24 ∷ [])

    go : (t u : Bool) → eqb kind 2 ≡ t → pick (pick t u false) (fault_from (get_or body 0 0 ∷ ns) (After (get_or body 1 0) []) ps) (FailsAt at) ≡ Fine
        → characters_of (Record at kind body ∷ ps) ≡ []
    go true u e r = rw (ne_eqb kind 3 (λ d. omega (arith, eqb-true kind 2 e)))
    go false u e r = cc

length_none : (n : ℕ) → length (no_fonts n) ≡ n
unfolding no_fonts
length_none zero = refl
length_none (suc n) = ap suc (length_none n)

drop_none : (n m : ℕ) → n ≡ suc m → drop 1 (no_fonts n) ≡ no_fonts m
unfolding no_fonts
drop_none n m e = rw e

content_is : (c : Config) (fs : List Font) (fonts : List FontEntry) (count : ℕ) → length fs ≡ count → map entry_of fs ++ no_fonts (24 - count) ≡ fonts
    → record { config = c; fonts = fonts; count = count } ≡ content_of c fs
unfolding content_of
content_is c fs fonts count d e = rw (← e, d)

-- what `?` gives of an option that is not there
pub refused_by : {X : Type 0} {o : Option X} {e f : RefusedAt} (r : Result SignFile RefusedAt) → o ≡ None → Err f ≡ ok_or o e
    → IsErrAnd r (λ y. y ≡ f) → r ≡ Err e
refused_by {X} {e = e} {f = f} r none is told =
    let p = err_from_is_err_and r told in
    let same : ◌≡◌ {A = Result X RefusedAt} (Err f) (Err e) = rw none at is in
    let given : f ≡ e = cc in
    p.1 ∙ ap Err (p.2 ∙ given)

-- the start: no font yet
pub fonts_start : (file : List ℕ) (from : ℕ) → from ≤ length file → (d : FontEntry)
    → d.number ≡ 0 × (d.height ≡ 0 × (d.char_spacing ≡ 0 × (d.line_spacing ≡ 0 × (d.version_id ≡ 0 × (d.first ≡ 0 × d.characters ≡ 0)))))
    → Reading file from (replicate 256 false) (replicate 24 d) 0 from
fonts_start file from h d blank =
    record {
      ns = [];
      prior = NoFont;
      few = refl;
      most = omega arith;
      inside = h;
      used_size = length-replicate {A = Bool} 256 false;
      fonts_size = ap length z ∙ length_none 24;
      unused = z;
      marked = marked_none (replicate 256 false) (unmarked 256);
      stop = none (pieces_at file from);
      fault = refl;
      listed = λ e. refl;
    }
  where
    z : replicate 24 d ≡ no_fonts 24
    z = unfold no_fonts in rw (blank.0, blank.1.0, blank.1.1.0, blank.1.1.1.0, blank.1.1.1.1.0, blank.1.1.1.1.1.0, blank.1.1.1.1.1.1)

    none : (ps : List Piece) → stops NoFont ps ≡ true
    none [] = unfold stops in refl
    none (CutShort at ∷ ps) = unfold stops in refl
    none (Record at kind body ∷ ps) = unfold stops is_character in refl

module _ (file : List ℕ) (from : ℕ) (used : List Bool) (fonts : List FontEntry) (count at : ℕ) (got : Reading file from used fonts count at) where
  -- what is given where the next record fails
  abbrev Failed : Config → Type 0
  Failed c = refusal_at at ≡ given_from file from c

  fails : fault_from got.ns got.prior (pieces_at file at) ≡ FailsAt at → (c : Config) → Failed c
  unfolding given_from
  fails e c = rw (got.fault, e)

  -- what is given where no record is left
  pub fonts_end : length file ≤ at → (c : Config) → Ok (record { config = c; fonts = fonts; count = count }) ≡ given_from file from c
  unfolding given_from fonts_of
  fonts_end h c = rw (got.fault, fine) (ap Ok (content_is c fs fonts count len (rw (list, ← got.unused) (take-append-drop count fonts))))
    where
      fs : List Font
      fs = fonts_of (pieces_at file from)

      fine : fault_from got.ns got.prior (pieces_at file at) ≡ Fine
      fine = rw (pieces_end file at h) (fault_end got.ns got.prior)

      list : map entry_of (fonts_of (pieces_at file from)) ≡ take count fonts
      list = got.listed fine ∙ rw (pieces_end file at h) (append-nil (take count fonts))

      len : length (fonts_of (pieces_at file from)) ≡ count
      len = sym (length-map (fonts_of (pieces_at file from)) entry_of) ∙ ap length list ∙ length-take-le count fonts (omega (arith, got.fonts_size, got.most))

  -- the record at the offset has the shape of a font
  module _ (f : FontEntry) (p : font_at file at ≡ Some f) where
    here : FontHere file at f
    here = font_here file at f p

    abbrev body : List ℕ
    body = part file here.head.start here.head.end

    first_is : here.head.end ≡ f.first
    first_is = ap (λ (g : FontEntry). g.first) here.entry

    next : pieces_at file at ≡ Record at here.head.kind body ∷ pieces_at file f.first
    next = pieces_next file at here.head here.is ∙ ap (λ (e : ℕ). Record at here.head.kind body ∷ pieces_at file e) first_is

    number_is : get_or body 0 0 ≡ f.number
    number_is = ap (λ (g : FontEntry). g.number) here.entry

    height_is : get_or body 1 0 ≡ f.height
    height_is = ap (λ (g : FontEntry). g.height) here.entry

    test : is_font got.ns here.head.kind body ≡ all (not (get_or used f.number false) ∷ ltb count 24 ∷ [])
    test = rw (font_test got.ns here.head.kind body, here.shape, number_is, got.marked.at_number f.number, got.few)

    stopped : is_font got.ns here.head.kind body ≡ false → fault_from got.ns got.prior (pieces_at file at) ≡ FailsAt at
    stopped e = rw next (fault_none got.ns got.prior at here.head.kind body (pieces_at file f.first) e (rw next at got.stop))

    pub fails_full : count ≡ 24 → (c : Config) → Failed c
    fails_full e = fails (stopped (rw (test, le-ltb count 24 (omega arith)) (all_no (not (get_or used f.number false)))))

    pub fails_used : (k : ℕ) → k ≡ f.number → get_or used k false ≡ true → (c : Config) → Failed c
    fails_used k d e = fails (stopped (rw (test, ← d, e)))

    within : (at < f.first) × (f.first ≤ length file)
    within =
        let a : here.head.start ≡ at + 4 = head_start file at here.head here.is in
        let b : here.head.start ≤ here.head.end = head_from file at here.head here.is in
        let c : here.head.end ≤ length file = head_to file at here.head here.is in
        (omega (arith, first_is), omega (arith, first_is))

    pub run_inside : f.first ≤ length file
    run_inside = within.1

    module _ (n to : ℕ) (ran : Ran file f.first f.height n to) where
      pub fonts_less : length file - to < length file - at
      fonts_less = omega (arith, within.0, ran.run.onward, ran.run.inside)

      module _ (room : count ≡ 24 → ⊥) (k : ℕ) (named : k ≡ f.number) (fresh : get_or used k false ≡ false) where
        new : get_or used f.number false ≡ false
        new = rw (← named) fresh

        good : is_font got.ns here.head.kind body ≡ true
        good = rw (test, new, lt-ltb count 24 (omega (arith, got.most)))

        abbrev cs : List ℕ
        cs = ran.run.cs

        step : fault_from got.ns got.prior (pieces_at file at) ≡ fault_from (f.number ∷ got.ns) (After f.height cs) (pieces_at file to)
        step =
            let font : fault_from got.ns got.prior (pieces_at file at)
            ≡ fault_from (f.number ∷ got.ns) (After f.height []) (pieces_at file f.first) =
            rw next
            (fault_font got.ns got.prior at here.head.kind body (pieces_at file f.first) f.number f.height number_is height_is good) in
            font ∙ ran.run.fault (f.number ∷ got.ns)

        module _ (fine : fault_from (f.number ∷ got.ns) (After f.height cs) (pieces_at file to) ≡ Fine) where
          none : characters_of (pieces_at file to) ≡ []
          none = fine_stop (f.number ∷ got.ns) (After f.height cs) (pieces_at file to) ran.stop fine

          count_is : length (characters_of (pieces_at file f.first)) ≡ n
          count_is = ran.run.count ∙ rw none (omega arith)

          size_is : at + 4 + length body ≡ here.head.end
          size_is =
              let a : here.head.start ≡ at + 4 = head_start file at here.head here.is in
              let b : here.head.start ≤ here.head.end = head_from file at here.head here.is in
              let c : here.head.end ≤ length file = head_to file at here.head here.is in
              simp (length-take, length-drop) (omega arith)

          entry_is : entry_of (font_of at body (characters_of (pieces_at file f.first))) ≡ filled f n
          entry_is =
              let e : entry_of (font_of at body (characters_of (pieces_at file f.first))) ≡ filled (font_entry body here.head.end) n = rw (size_is, count_is) in
              e ∙ ap (λ (g : FontEntry). filled g n) here.entry

          abbrev rest : List FontEntry
          rest = map entry_of (fonts_of (pieces_at file to))

          list_is : map entry_of (fonts_of (pieces_at file at)) ≡ filled f n ∷ rest
          list_is =
              let e : fonts_of (pieces_at file at) ≡ font_of at body (characters_of (pieces_at file f.first)) ∷ fonts_of (pieces_at file f.first) =
              rw next (fonts_font at here.head.kind body (pieces_at file f.first) here.is_kind) in
              ap (map entry_of) e ∙ rw (entry_is, ran.run.fonts)

          put : take count fonts ++ (filled f n ∷ rest) ≡ take (count + 1) (set fonts count (filled f n)) ++ rest
          put =
              rw (
                add-one count,
                take-suc-set fonts count (filled f n) (omega (arith, got.fonts_size, got.most)),
                append_assoc (take count fonts) (filled f n ∷ []) rest,
              )

          listed : map entry_of (fonts_of (pieces_at file from)) ≡ take (count + 1) (set fonts count (filled f n)) ++ rest
          listed = got.listed (step ∙ fine) ∙ ap (λ (l : List FontEntry). take count fonts ++ l) list_is ∙ put

        unused : drop (count + 1) (set fonts count (filled f n)) ≡ no_fonts (24 - (count + 1))
        unused =
            drop-set-lt (count + 1) fonts count (filled f n) (omega arith) ∙ sym (drop-drop 1 count fonts) ∙ ap (drop 1) got.unused
            ∙ drop_none (24 - count) (24 - (count + 1)) (omega (arith, got.most))

        pub fonts_on : f.number < 256 → Reading file from (set used k true) (set fonts count (filled f n)) (count + 1) to
        fonts_on l =
            rw named
            (record {
              ns = f.number ∷ got.ns;
              prior = After f.height cs;
              few = omega (arith, got.few);
              most = omega (arith, got.most);
              inside = ran.run.inside;
              used_size = length-set used f.number true ∙ got.used_size;
              fonts_size = length-set fonts count (filled f n) ∙ got.fonts_size;
              unused = unused;
              marked = marked_more f.number got.ns used (rw got.used_size l) got.marked;
              stop = ran.stop;
              fault = got.fault ∙ step;
              listed = listed;
            })

  pub fails_not : font_at file at ≡ None → at < length file → (c : Config) → Failed c
  unfolding font_at font_in
  fails_not q l = fails (go (head_at file at) refl q)
    where
      inner : (h : Head) (t : Bool) → head_at file at ≡ Some h → font_shape h.kind (part file h.start h.end) ≡ t
          → pick t (Some (font_entry (part file h.start h.end) h.end)) None ≡ None → fault_from got.ns got.prior (pieces_at file at) ≡ FailsAt at
      inner h true d e r = cc
      inner h false d e r =
          let l : pieces_at file at ≡ Record at h.kind (part file h.start h.end) ∷ pieces_at file h.end = pieces_next file at h d in
          let no : is_font got.ns h.kind (part file h.start h.end) ≡ false = rw (font_test got.ns h.kind (part file h.start h.end), e) in
          rw l (fault_none got.ns got.prior at h.kind (part file h.start h.end) (pieces_at file h.end) no (rw l at got.stop))

      go : (x : Option Head) → head_at file at ≡ x → font_by file x ≡ None → fault_from got.ns got.prior (pieces_at file at) ≡ FailsAt at
      go (Some h) d e = inner h (font_shape h.kind (part file h.start h.end)) d refl e
      go None d e = rw (pieces_short file at l d) (fault_short got.ns got.prior at)
