-- A span in its font, by the code's ways.
use Prim.Native.Nat.{ℕ, ◌+◌, ◌-◌}
use mathlib.Core.Path.{◌≡◌, refl, sym, ◌∙◌, ap}
use mathlib.Core.Bool.{Bool, true, false}
use mathlib.Core.List.{List, [], ◌∷◌}
use native.Mathlib.Omega.{arith}
use lib.Dec.{eqb}
use lib.ListN.{take, drop, length-take}
use lib.Seq.{take_all}
use Rattle.std.specs.Prelude.{Option, Some, None}
use Rattle.std.specs.Option.{option_or}
use Rattle.base.specs.Pick.{pick}
use Rattle.utf8.specs.Utf8.{codes}
use Rattle.sign.specs.Sign.{Character, Font, sign_file}
use Rattle.sign.specs.Given.{entry_of}
use Rattle.sign.specs.Accepted.{GoodFont}
use Rattle.sign.specs.declared.FontEntry.{FontEntry}
use Rattle.sign.proofs.Answer.{Accepts, accepts}
use Rattle.font.specs.Character.{character_in}
use Rattle.font.specs.Table.{font_numbered, entry_found}
use Rattle.font.specs.declared.Found.{Found}
use Rattle.font.specs.declared.FontWidths.{FontWidths}
use Rattle.font.specs.declared.Looked.{Looked}
use Rattle.font.proofs.Tables.{table_holds, named_good}
use Rattle.font.proofs.Laws.{entry_stands}
use Rattle.font.specs.Measure.{Measure, widened, with_width, width_after, text_width, measure_of}
use Rattle.layout.specs.declared.Entry.{Entry}
use Rattle.layout.specs.Fonts.{version_fault as font_version, missing, fault, chars_of, measure_in, char_fault_after, meter_of}
use Rattle.counts.specs.Placing.{fonts_in, capitals_in, looked_in}
use Rattle.rows.specs.declared.Gauge.{Gauge}
use Rattle.meter.specs.Gauges.{meter_in, numbered_in, FontIs, WidthsOf, CodesFit, CodeFits, WidthFound, EntryIn, part_codes, font_at, version_fault, gauge_for, GaugedIn, GaugedBy}
use Rattle.meter.specs.declared.call.Call.{Call}

-- ---- widths

-- a missing character of codes that fit fits
after_fits : (chs : List Character) (spacing w : ℕ) (l : List ℕ) → CodesFit l → CodeFits (width_after chs spacing w l)
unfolding width_after
after_fits chs spacing w [] h = tt
after_fits chs spacing w (c ∷ l) h = go (character_in c chs) (λ v. after_fits chs spacing v l h.1)
  where
    go : (f : Option Found) → ((v : ℕ) → CodeFits (width_after chs spacing v l))
        → CodeFits (with_width f c (λ more. width_after chs spacing (widened w spacing more) l))
    go (Some f) k = k (widened w spacing f.width)
    go None k = h.0

text_found : (chs : List Character) (spacing : ℕ) (l : List ℕ) (r : Looked) → CodesFit l → r ≡ measure_of chs spacing l → WidthFound chs spacing l r
unfolding text_width
text_found chs spacing l r h e = record { is = e; fits = rw e (after_fits chs spacing 0 l h) }

pub part_text : (call : Call) (chs : List Character) (spacing : ℕ) (e : Entry) (r : Looked) {i n : ℕ} → EntryIn call e → e.kind ≡ 0 → i ≡ e.start → n ≡ e.len
    → r ≡ measure_of chs spacing (codes (take 65000 (take (i + n - i) (drop i call.msg.now))))
    → WidthFound chs spacing (part_codes call.msg.now e) r
part_text call chs spacing e r {i} {n} so k a b q =
    text_found chs spacing (part_codes call.msg.now e) r (so.codes_fit k) (q ∙ ap (λ (l : List ℕ). measure_of chs spacing (codes l)) all)
  where
    part : take (i + n - i) (drop i call.msg.now) ≡ take e.len (drop e.start call.msg.now)
    part = let d : i + n - i ≡ n = omega arith in rw (d, a, b)

    all : take 65000 (take (i + n - i) (drop i call.msg.now)) ≡ take e.len (drop e.start call.msg.now)
    all = take_all 65000 (take (i + n - i) (drop i call.msg.now)) (simp length-take (omega (arith, so.inside, call.small))) ∙ part

-- ---- a span in a font

-- the fault of a version id that differs comes first
pub fault_parts : (msg : List ℕ) (e : Entry) (capitals : Bool) (f : Font) (v : Option ℕ) (m : Measure) → measure_in msg e capitals f ≡ m
    → option_or (version_fault v f.version) (missing m) ≡ char_fault_after msg e capitals (font_version v f) f
fault_parts msg e capitals f None m q = rw q
fault_parts msg e capitals f (Some n) m q = go (eqb n f.version) m q
  where
    go : (t : Bool) (x : Measure) → measure_in msg e capitals f ≡ x
        → option_or (pick t None (Some (fault 11 0))) (missing x) ≡ char_fault_after msg e capitals (pick t None (Some (fault 11 0))) f
    go true x d = rw d
    go false x d = refl

gauge_none : (l : List ℕ) (e : Entry) (t : Bool) → gauge_for l e t None ≡ gauge_for [] e false None
gauge_none l e t = refl

-- ---- the font of a span

module _ (call : Call) (n : ℕ) where
  opened : Accepts call.file.now call.table
  opened = accepts call.file.now call.table call.opened call.bytes

  fonts : fonts_in (sign_file call.file.now) ≡ opened.fs
  fonts = ap fonts_in opened.is

  found : numbered_in call n ≡ entry_found (font_numbered n opened.fs)
  found = table_holds call.file.now call.table opened n

  back : (g : Font) → GoodFont call.file.now g → font_at call.file.now (entry_of g) ≡ g
  back g k = rw (entry_stands call.file.now g k)

  entry_font : (x : FontEntry) → numbered_in call n ≡ Some x → font_numbered n (fonts_in (sign_file call.file.now)) ≡ Some (font_at call.file.now x)
  entry_font x p = rw fonts (go (font_numbered n opened.fs) refl (sym found ∙ p))
    where
      go : (u : Option Font) → font_numbered n opened.fs ≡ u → entry_found u ≡ Some x → u ≡ Some (font_at call.file.now x)
      go None q r = cc
      go (Some g) q r =
          let y : entry_of g ≡ x = cc in
          let k : GoodFont call.file.now g = (named_good (GoodFont call.file.now) n g opened.fs opened.good.each q).1 in
          ap (λ (z : Font). Some z) (sym (back g k)) ∙ ap (λ (z : FontEntry). Some (font_at call.file.now z)) y

  entry_none : numbered_in call n ≡ None → font_numbered n (fonts_in (sign_file call.file.now)) ≡ None
  entry_none p = rw fonts (go (font_numbered n opened.fs) refl (sym found ∙ p))
    where
      go : (u : Option Font) → font_numbered n opened.fs ≡ u → entry_found u ≡ None → u ≡ None
      go None q r = refl
      go (Some g) q r = cc

-- the gauge of a span in the font that was found, or in none
module _ (call : Call) (e : Entry) where
  gauge_found : (o : Option Font) (g : Gauge × ℕ) → font_numbered e.state.font (fonts_in (sign_file call.file.now)) ≡ o
      → g.0 ≡ gauge_for call.msg.now e call.table.config.capitals o → g.1 ≡ looked_in call.table.config.capitals (chars_of call.msg.now e) o
      → GaugedBy call e g
  unfolding meter_in meter_of
  gauge_found o g h p q =
      let c : call.table.config.capitals ≡ capitals_in (sign_file call.file.now) = sym (ap capitals_in (opened call e.state.font).is) in
      record {
        is =
            p ∙ ap (λ (t : Bool). gauge_for call.msg.now e t o) c
            ∙ ap (gauge_for call.msg.now e (capitals_in (sign_file call.file.now))) (sym h);
        looked =
            q ∙ ap (λ (t : Bool). looked_in t (chars_of call.msg.now e) o) c
            ∙ ap (looked_in (capitals_in (sign_file call.file.now)) (chars_of call.msg.now e)) (sym h);
      }

  pub gauge_entry : {o : Option (FontWidths 256)} {w : FontWidths 256} {g : Gauge × ℕ} → WidthsOf call e.state.font o → o ≡ Some w → GaugedIn call e w g
      → GaugedBy call e g
  gauge_entry {o} {w} {g} h d q =
      let k : FontIs call e.state.font w = rw d at h in
      gauge_found (Some (font_at call.file.now w.font.entry)) g (entry_font call e.state.font w.font.entry k.entry) (rw (← k.file, ← k.capitals) q.is)
      (rw (← k.file, ← k.capitals) q.looked)

  pub gauge_absent : {o : Option (FontWidths 256)} {g : Gauge} → WidthsOf call e.state.font o → o ≡ None → g ≡ gauge_for [] e false None
      → GaugedBy call e (g, 0)
  gauge_absent {o} h d q =
      let k : numbered_in call e.state.font ≡ None = rw d at h in
      gauge_found None _ (entry_none call e.state.font k) (q ∙ sym (gauge_none call.msg.now e call.table.config.capitals)) refl
