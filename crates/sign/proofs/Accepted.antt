-- Every file that is accepted keeps the rules.
use Prim.Native.Nat.{ℕ, zero, suc, ◌+◌, ◌-◌, ◌≤◌, ◌<◌}
use mathlib.Core.Path.{◌≡◌, refl, sym, ◌∙◌, ap}
use mathlib.Core.List.{List, [], ◌∷◌, map}
use mathlib.Core.Bool.{Bool, true, false, not}
use native.Mathlib.Omega.{arith}
use lib.Dec.{leb, ltb, eqb}
use lib.ListN.{length, get_or, take, drop, length-take, length-drop}
use lib.Seq.{drop-drop}
use borrow.Author.Tests.{leb-true, ltb-true, ltb-false, eqb-true, not-true, eq-eqb, ne_eqb}
use Rattle.base.specs.Pick.{pick}
use Rattle.records.specs.Record.{little_at, body_len, kind_of, whole, first_piece, rest_len, cut_from, Piece, Record, CutShort, pieces, pieces_at}
use Rattle.records.specs.Config.{not_zero, size_ok, just_ok, bits_ok, tags_ok, config_of, config_ok, is_config}
use Rattle.records.proofs.Laws.{Tests, tests, skips, room, bits_known}
use Rattle.records.specs.declared.Config.{Config}
use Rattle.sign.specs.Sign.{Character, Font, character_of, font_of, characters_of, fonts_of, past_options, optioned, config_in, member, Before, NoFont, After, is_font, is_character, bitmap_len, Verdict, Fine, FailsAt, fault_from, first_fault, fault, Accepted, answer, sign_file}
use Rattle.sign.specs.Accepted.{Each, each_none, each_more, Apart, apart_none, apart_more, GoodConfig, GoodCharacter, GoodFont, GoodSign, Bytes}
use Rattle.sign.proofs.Laws.{fonts_other}
use Rattle.sign.proofs.Options.{options_fonts, options_keep}

some : (n : ℕ) → not_zero n ≡ true → 0 < n
unfolding not_zero
some n e = ltb-true 0 n e

-- a list's parts are bytes
module _ where
  pub bytes_take : (n : ℕ) (l : List ℕ) → Bytes l → Bytes (take n l)
  bytes_take zero l h i = omega arith
  bytes_take (suc n) [] h i = omega arith
  bytes_take (suc n) (b ∷ l) h zero = h 0
  bytes_take (suc n) (b ∷ l) h (suc i) = bytes_take n l (λ j. h (suc j)) i

  pub bytes_drop : (n : ℕ) (l : List ℕ) → Bytes l → Bytes (drop n l)
  bytes_drop zero l h i = h i
  bytes_drop (suc n) [] h i = omega arith
  bytes_drop (suc n) (b ∷ l) h i = bytes_drop n l (λ j. h (suc j)) i

pub word : (k : ℕ) (l : List ℕ) → Bytes l → little_at 2 k l < 65536
unfolding little_at
word k l h = omega (arith, h k, h (k + 1))

-- how the records stand in the file: each body lies within it, and the records after one start at its end
record Placed (file : List ℕ) (at : ℕ) (body : List ℕ) (ps : List Piece) : Type 0 where
  inside : at + 4 + length body ≤ length file
  byte : Bytes body
  after : ps ≡ pieces_at file (at + 4 + length body)

abbrev Chain : List ℕ → List Piece → Type 0
Chain file [] = Unit {0}
Chain file (CutShort at ∷ ps) = Chain file ps
Chain file (Record at kind body ∷ ps) = Placed file at body ps × Chain file ps

drop_tail : (at : ℕ) (file : List ℕ) (b : ℕ) (l : List ℕ) → drop at file ≡ b ∷ l → drop (suc at) file ≡ l
drop_tail zero [] b l e = cc
drop_tail zero (x ∷ file) b l e = cc
drop_tail (suc at) [] b l e = cc
drop_tail (suc at) (x ∷ file) b l e = drop_tail at file b l e

rest_drop : (n at : ℕ) (file : List ℕ) (b : ℕ) (l : List ℕ) → drop at file ≡ b ∷ l → drop (3 + n) l ≡ drop (at + 4 + n) file
rest_drop n at file b l e =
    let to : suc at + (3 + n) ≡ at + 4 + n = omega arith in
    rw (← drop_tail at file b l e, drop-drop (3 + n) (suc at) file, to)

-- a whole record at the start of what is left of the file
placed : (file : List ℕ) (at b : ℕ) (l : List ℕ) → Bytes file → drop at file ≡ b ∷ l → whole (b ∷ l) ≡ true
    → Placed file at (take (body_len (b ∷ l)) (drop 4 (b ∷ l))) (cut_from (suc at) (rest_len (b ∷ l)) l)
unfolding pieces_at rest_len
placed file at b l h e w =
    record {
      inside = omega (arith, size, left, (room (b ∷ l) w).1);
      byte = bytes_take (body_len (b ∷ l)) (drop 4 (b ∷ l)) (bytes_drop 4 (b ∷ l) (rw (← e) (bytes_drop at file h)));
      after = after;
    }
  where
    size : length (take (body_len (b ∷ l)) (drop 4 (b ∷ l))) ≡ body_len (b ∷ l)
    size = simp (length-take, length-drop) (omega (arith, (room (b ∷ l) w).1))

    left : length file - at ≡ length (b ∷ l)
    left = rw (← length-drop at file, e)

    after : cut_from (suc at) (pick (whole (b ∷ l)) (3 + body_len (b ∷ l)) (length (b ∷ l))) l
        ≡ cut_from (at + 4 + length (take (body_len (b ∷ l)) (drop 4 (b ∷ l)))) 0 (drop (at + 4 + length (take (body_len (b ∷ l)) (drop 4 (b ∷ l)))) file)
    after =
        let to : suc at + (3 + body_len (b ∷ l)) ≡ at + 4 + body_len (b ∷ l) = omega arith in
        rw (size, w, skips (suc at) (3 + body_len (b ∷ l)) l, to, rest_drop (body_len (b ∷ l)) at file b l e)

chain : (file : List ℕ) → Bytes file → (l : List ℕ) (at k : ℕ) → drop at file ≡ l → Chain file (cut_from at k l)
unfolding cut_from first_piece
chain file h [] at k e = tt
chain file h (b ∷ l) at (suc k) e = chain file h l (suc at) k (drop_tail at file b l e)
chain file h (b ∷ l) at zero e = go (whole (b ∷ l)) refl (chain file h l (suc at) (rest_len (b ∷ l)) (drop_tail at file b l e))
  where
    go : (t : Bool) → whole (b ∷ l) ≡ t → Chain file (cut_from (suc at) (rest_len (b ∷ l)) l)
        → Chain file (pick t (Record at (kind_of (b ∷ l)) (take (body_len (b ∷ l)) (drop 4 (b ∷ l)))) (CutShort at) ∷ cut_from (suc at) (rest_len (b ∷ l)) l)
    go true w r = (placed file at b l h e w, r)
    go false w r = r

-- what is left of the records keeps the rules, where ns are the numbers of the fonts before and b the font before
module _ (file : List ℕ) where
  record Characters (height : ℕ) (cs : List ℕ) (chs : List Character) : Type 0 where
    few : length cs + length chs ≤ 256
    apart : Apart cs (map (λ (ch : Character). ch.number) chs)
    each : Each (GoodCharacter file height) chs

  abbrev Now : Before → List Character → Type 0
  Now NoFont chs = Unit {0}
  Now (After height cs) chs = Characters height cs chs

  abbrev Small : Before → Type 0
  Small NoFont = Unit {0}
  Small (After height cs) = length cs ≤ 256

  record Rest (ns : List ℕ) (b : Before) (ps : List Piece) : Type 0 where
    few : length ns + length (fonts_of ps) ≤ 24
    apart : Apart ns (map (λ (f : Font). f.number) (fonts_of ps))
    each : Each (GoodFont file) (fonts_of ps)
    now : Now b (characters_of ps)

  -- no character follows
  now_none : (b : Before) → Small b → Now b []
  now_none NoFont h = tt
  now_none (After height cs) h = record { few = omega arith; apart = apart_none; each = each_none }

  module _ (at kind : ℕ) (body : List ℕ) (ps : List Piece) (pl : Placed file at body ps) where
    -- a font and what follows it
    rest_font : (ns : List ℕ) (b : Before) → Small b → is_font ns kind body ≡ true → Rest (get_or body 0 0 ∷ ns) (After (get_or body 1 0) []) ps
        → Rest ns b (Record at kind body ∷ ps)
    unfolding is_font
    rest_font ns b sm e r =
        record {
          few = rw fonts (omega (arith, r.few));
          apart = rw fonts (apart_more (not-true (member (get_or body 0 0) ns) ok.1.1.1.1.0) r.apart);
          each = rw fonts (each_more font r.each);
          now = rw chars (now_none b sm);
        }
      where
        ok : Tests
            (eqb kind 2 ∷ eqb (length body) 6 ∷ not_zero (get_or body 0 0) ∷ not_zero (get_or body 1 0) ∷ not (member (get_or body 0 0) ns)
            ∷ ltb (length ns) 24 ∷ [])
        ok =
            tests
            (eqb kind 2 ∷ eqb (length body) 6 ∷ not_zero (get_or body 0 0) ∷ not_zero (get_or body 1 0) ∷ not (member (get_or body 0 0) ns)
            ∷ ltb (length ns) 24 ∷ []) e

        is_kind : kind ≡ 2
        is_kind = eqb-true kind 2 ok.0

        fonts : fonts_of (Record at kind body ∷ ps) ≡ font_of at body (characters_of ps) ∷ fonts_of ps
        fonts = unfold fonts_of in rw (eq-eqb kind 2 is_kind)

        chars : characters_of (Record at kind body ∷ ps) ≡ []
        chars = unfold characters_of in rw (ne_eqb kind 3 (λ d. omega (arith, is_kind)))

        font : GoodFont file (font_of at body (characters_of ps))
        font =
            record {
              number_some = some (get_or body 0 0) ok.1.1.0;
              number_byte = pl.byte 0;
              height_some = some (get_or body 1 0) ok.1.1.1.0;
              height_byte = pl.byte 1;
              char_spacing_byte = pl.byte 2;
              line_spacing_byte = pl.byte 3;
              version_word = word 4 body pl.byte;
              inside = pl.inside;
              are = ap characters_of pl.after;
              few = omega (arith, r.now.few);
              apart = r.now.apart;
              each = r.now.each;
            }

    -- a character and what follows it
    rest_char : (ns : List ℕ) (height : ℕ) (cs : List ℕ) → is_character (After height cs) kind body ≡ true
        → Rest ns (After height (little_at 2 0 body ∷ cs)) ps → Rest ns (After height cs) (Record at kind body ∷ ps)
    unfolding is_character
    rest_char ns height cs e r =
        record {
          few = rw fonts r.few;
          apart = rw fonts r.apart;
          each = rw fonts r.each;
          now =
              rw chars
              (record {
                few = omega (arith, r.now.few);
                apart = apart_more (not-true (member (little_at 2 0 body) cs) ok.1.1.1.0) r.now.apart;
                each = each_more char r.now.each;
              });
        }
      where
        ok : Tests
            (eqb kind 3 ∷ eqb (length body) (3 + bitmap_len (get_or body 2 0) height) ∷ not_zero (little_at 2 0 body)
            ∷ not (member (little_at 2 0 body) cs) ∷ ltb (length cs) 256 ∷ [])
        ok =
            tests
            (eqb kind 3 ∷ eqb (length body) (3 + bitmap_len (get_or body 2 0) height) ∷ not_zero (little_at 2 0 body)
            ∷ not (member (little_at 2 0 body) cs) ∷ ltb (length cs) 256 ∷ []) e

        is_kind : kind ≡ 3
        is_kind = eqb-true kind 3 ok.0

        fonts : fonts_of (Record at kind body ∷ ps) ≡ fonts_of ps
        fonts = unfold fonts_of in rw (ne_eqb kind 2 (λ d. omega (arith, is_kind)))

        chars : characters_of (Record at kind body ∷ ps) ≡ character_of at body ∷ characters_of ps
        chars = unfold characters_of in rw (eq-eqb kind 3 is_kind)

        char : GoodCharacter file height (character_of at body)
        char =
            record {
              number_some = some (little_at 2 0 body) ok.1.1.0;
              number_word = word 0 body pl.byte;
              width_byte = pl.byte 2;
              inside = omega (arith, pl.inside, eqb-true (length body) (3 + bitmap_len (get_or body 2 0) height) ok.1.0);
            }

  font_few : (ns : List ℕ) (kind : ℕ) (body : List ℕ) → is_font ns kind body ≡ true → length ns < 24
  unfolding is_font
  font_few ns kind body e =
      ltb-true (length ns) 24
      (tests
      (eqb kind 2 ∷ eqb (length body) 6 ∷ not_zero (get_or body 0 0) ∷ not_zero (get_or body 1 0) ∷ not (member (get_or body 0 0) ns)
      ∷ ltb (length ns) 24 ∷ []) e).1.1.1.1.1.0

  char_few : (height : ℕ) (cs : List ℕ) (kind : ℕ) (body : List ℕ) → is_character (After height cs) kind body ≡ true → length cs < 256
  unfolding is_character
  char_few height cs kind body e =
      ltb-true (length cs) 256
      (tests
      (eqb kind 3 ∷ eqb (length body) (3 + bitmap_len (get_or body 2 0) height) ∷ not_zero (little_at 2 0 body)
      ∷ not (member (little_at 2 0 body) cs) ∷ ltb (length cs) 256 ∷ []) e).1.1.1.1.0

  rest : (ps : List Piece) (ns : List ℕ) (b : Before) → Chain file ps → length ns ≤ 24 → Small b → fault_from ns b ps ≡ Fine → Rest ns b ps
  unfolding fault_from fonts_of characters_of
  rest [] ns b ch h sm e = record { few = omega arith; apart = apart_none; each = each_none; now = now_none b sm }
  rest (CutShort at ∷ ps) ns b ch h sm e = cc
  rest (Record at kind body ∷ ps) ns NoFont ch h sm e = go (is_font ns kind body) refl (rest ps (get_or body 0 0 ∷ ns) (After (get_or body 1 0) []) ch.1) e
    where
      go : (t : Bool) → is_font ns kind body ≡ t
          → (suc (length ns) ≤ 24 → 0 ≤ 256 → fault_from (get_or body 0 0 ∷ ns) (After (get_or body 1 0) []) ps ≡ Fine
          → Rest (get_or body 0 0 ∷ ns) (After (get_or body 1 0) []) ps)
          → pick t (fault_from (get_or body 0 0 ∷ ns) (After (get_or body 1 0) []) ps) (pick (is_character NoFont kind body) (fault_from ns NoFont ps) (FailsAt at))
          ≡ Fine → Rest ns NoFont (Record at kind body ∷ ps)
      go true p k q = rest_font at kind body ps ch.0 ns NoFont tt p (k (font_few ns kind body p) (omega arith) q)
      go false p k q = unfold is_character in cc
  rest (Record at kind body ∷ ps) ns (After height cs) ch h sm e =
      go (is_font ns kind body) (is_character (After height cs) kind body) refl refl (rest ps (get_or body 0 0 ∷ ns) (After (get_or body 1 0) []) ch.1)
      (rest ps ns (After height (little_at 2 0 body ∷ cs)) ch.1 h) e
    where
      go : (t u : Bool) → is_font ns kind body ≡ t → is_character (After height cs) kind body ≡ u
          → (suc (length ns) ≤ 24 → 0 ≤ 256 → fault_from (get_or body 0 0 ∷ ns) (After (get_or body 1 0) []) ps ≡ Fine
          → Rest (get_or body 0 0 ∷ ns) (After (get_or body 1 0) []) ps)
          → (suc (length cs) ≤ 256 → fault_from ns (After height (little_at 2 0 body ∷ cs)) ps ≡ Fine → Rest ns (After height (little_at 2 0 body ∷ cs)) ps)
          → pick t (fault_from (get_or body 0 0 ∷ ns) (After (get_or body 1 0) []) ps)
          (pick u (fault_from ns (After height (little_at 2 0 body ∷ cs)) ps) (FailsAt at)) ≡ Fine
          → Rest ns (After height cs) (Record at kind body ∷ ps)
      go true u p q k m r = rest_font at kind body ps ch.0 ns (After height cs) sm p (k (font_few ns kind body p) (omega arith) r)
      go false true p q k m r = rest_char at kind body ps ch.0 ns height cs q (m (char_few height cs kind body q) r)
      go false false p q k m r = cc

-- the configuration
sized : (n : ℕ) → size_ok n ≡ true → (1 ≤ n) × (n ≤ 4096)
unfolding size_ok
sized n e =
    let ok : Tests (leb 1 n ∷ leb n 4096 ∷ []) = tests (leb 1 n ∷ leb n 4096 ∷ []) e in
    (leb-true 1 n ok.0, leb-true n 4096 ok.1.0)

justified : (n : ℕ) → just_ok n ≡ true → (2 ≤ n) × (n ≤ 4)
unfolding just_ok
justified n e =
    let ok : Tests (leb 2 n ∷ leb n 4 ∷ []) = tests (leb 2 n ∷ leb n 4 ∷ []) e in
    (leb-true 2 n ok.0, leb-true n 4 ok.1.0)

config_good : (c : Config) → config_ok c ≡ true → GoodConfig c
unfolding config_ok tags_ok
config_good c e =
    record {
      width_some = (sized c.width ok.0).0;
      width_most = (sized c.width ok.0).1;
      height_some = (sized c.height ok.1.0).0;
      height_most = (sized c.height ok.1.0).1;
      font_some = some c.font ok.1.1.0;
      line_from = (justified c.line_just ok.1.1.1.0).0;
      line_to = (justified c.line_just ok.1.1.1.0).1;
      page_from = (justified c.page_just ok.1.1.1.1.0).0;
      page_to = (justified c.page_just ok.1.1.1.1.0).1;
      tags_known = λ k h. bits_known 32 0 c.tags k ok.1.1.1.1.1.0 (omega arith) (omega arith);
    }
  where
    ok : Tests (size_ok c.width ∷ size_ok c.height ∷ not_zero c.font ∷ just_ok c.line_just ∷ just_ok c.page_just ∷ bits_ok 32 0 c.tags ∷ [])
    ok = tests (size_ok c.width ∷ size_ok c.height ∷ not_zero c.font ∷ just_ok c.line_just ∷ just_ok c.page_just ∷ bits_ok 32 0 c.tags ∷ []) e

-- the whole file
first_good : (file : List ℕ) (ps : List Piece) → length file ≤ 65535 → Chain file ps → first_fault ps ≡ Fine → GoodSign file (config_in ps) (fonts_of ps)
unfolding first_fault config_in
first_good file [] h ch e = cc
first_good file (CutShort at ∷ ps) h ch e = cc
first_good file (Record at kind body ∷ ps) h ch e = go (is_config kind body) refl e
  where
    go : (t : Bool) → is_config kind body ≡ t → pick t (fault_from [] NoFont (past_options ps)) (FailsAt at) ≡ Fine
        → GoodSign file (optioned ps (config_of body)) (fonts_of (Record at kind body ∷ ps))
    go true p q =
        record {
          size = h;
          config = config_good (optioned ps (config_of body)) (unfold config_ok in ok.1.1.0);
          few = rw fonts (omega (arith, r.few));
          apart = rw fonts r.apart;
          each = rw fonts r.each;
        }
      where
        ok : Tests (eqb kind 1 ∷ eqb (length body) 15 ∷ config_ok (config_of body) ∷ [])
        ok = tests (eqb kind 1 ∷ eqb (length body) 15 ∷ config_ok (config_of body) ∷ []) (unfold is_config in p)

        r : Rest file [] NoFont (past_options ps)
        r = rest file (past_options ps) [] NoFont (options_keep (Chain file) (λ a k b qs c. c.1) ps ch.1) (omega arith) tt q

        fonts : fonts_of (Record at kind body ∷ ps) ≡ fonts_of (past_options ps)
        fonts = fonts_other at kind body ps (λ d. omega (arith, eqb-true kind 1 ok.0)) ∙ sym (options_fonts ps)
    go false p q = cc

pub accepted : (file : List ℕ) (c : Config) (fs : List Font) → Bytes file → sign_file file ≡ Accepted c fs → GoodSign file c fs
unfolding sign_file fault
accepted file c fs h e = go (ltb 65535 (length file)) (first_fault (pieces file)) refl refl e
  where
    made : length file ≤ 65535 → first_fault (pieces file) ≡ Fine → GoodSign file (config_in (pieces file)) (fonts_of (pieces file))
    made p q = first_good file (pieces file) p (unfold pieces in chain file h file 0 0 refl) q

    go : (t : Bool) (v : Verdict) → ltb 65535 (length file) ≡ t → first_fault (pieces file) ≡ v
        → answer (pick t (FailsAt 0) v) (config_in (pieces file)) (fonts_of (pieces file)) ≡ Accepted c fs → GoodSign file c fs
    go true v p q r = cc
    go false Fine p q r =
        let a : config_in (pieces file) ≡ c = cc in
        let b : fonts_of (pieces file) ≡ fs = cc in
        rw (← a, ← b) (made (ltb-false 65535 (length file) p) q)
    go false (FailsAt at) p q r = cc
