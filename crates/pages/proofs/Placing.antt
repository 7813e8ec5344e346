-- A pass that is read and placed.
use Prim.Native.Nat.{ℕ, ◌+◌}
use mathlib.Core.Path.{◌≡◌, sym, ◌∙◌, ap, subst}
use mathlib.Core.Bool.{true}
use Rattle.std.specs.Prelude.{Option, Result, Ok, Err, IfOk}
use Rattle.std.specs.Result.{result_err}
use mathlib.Core.List.{List, ◌++◌}
use native.Mathlib.Omega.{arith}
use Rattle.refusal.specs.declared.Refusal.{Refusal}
use Rattle.records.specs.declared.Config.{Config}
use Rattle.sign.specs.Sign.{Sign, sign_file}
use Rattle.font.specs.Table.{font_numbered}
use Rattle.counts.specs.Placing.{chars_in, fonts_in, capitals_in, looked_in, chars_looked}
use Rattle.counts.proofs.Laws.{looked_pass}
use Rattle.std.proofs.lemmas.List.Sums.{sum_by-append}
use Rattle.sign.proofs.Answer.{Accepts, accepts}
use Rattle.layout.specs.declared.Entry.{Entry}
use Rattle.layout.specs.declared.Span.{Span}
use Rattle.layout.specs.Types.{Board}
use Rattle.layout.specs.Placing.{pass_fault, pass_records}
use Rattle.rows.specs.Rows.{rows_of, spans_of}
use Rattle.place.specs.Placed.{rows_fault, rows_records, Placeable, PassPlaced}
use Rattle.place.proofs.Laws.{asks_part, written_part}
use borrow.Rule.Slice.PartMut.{put_mid}
use lib.ListN.{length-append, length-drop, length-take}
use lib.Seq.{length-take-le}
use Rattle.rows.specs.declared.Row.{Row}
use Rattle.meter.specs.declared.call.Call.{Call}
use Rattle.std.specs.Prelude.{◌-◌, ◌≤◌, take, drop, length}
use Rattle.place.proofs.Bridge.{pass_fault_law, pass_records_law}
use Rattle.meter.specs.Gauges.{meter_in}
use Rattle.meter.proofs.Tells.{meter_told}
use Rattle.pass.specs.declared.PassDone.{PassDone}
use Rattle.pass.specs.declared.Reached.{Reached}
use Rattle.pass.specs.Pass.{Ending, entries_from, ending_from, told, SpansRead, PassRead}
use Rattle.pages.specs.Pages.{board_of, looked_for, RenderAsked, stop_by, placed_ending, PassRendered}

-- a part of the records is written: their number stays
part_room : (a k : ℕ) (xs ys : List Span) → a + k ≤ length xs → length ys ≡ length (take k (drop a xs)) → length (put_mid a k xs ys) ≡ length xs
part_room a k xs ys h e =
    omega (
      arith,
      length-append (take a xs) (ys ++ drop k (drop a xs)),
      length-append ys (drop k (drop a xs)),
      length-take-le a xs (omega arith),
      length-drop k (drop a xs),
      length-drop a xs,
      length-take k (drop a xs),
    )

-- a pass was read: t is its end, rows₀ were there before it, and rows hold its spans
module _ {call : Call} {p : Reached} {rows₀ : List Row} {out : List Span} {rows : List Row} {t : Result PassDone Refusal}
    (asked : RenderAsked call rows₀ out p) (read : PassRead call p.at p.state rows₀ rows t) where
  abbrev c : Config
  c = call.table.config

  abbrev s : Board
  s = board_of call

  abbrev es : List Entry
  es = entries_from call p.at p.state true

  abbrev sign : Sign
  sign = sign_file call.file.now

  abbrev end : Ending
  end = ending_from call p.at p.state true

  -- it is rendered so: out' are the records after it, v is its end
  abbrev Rendered : List Span → Result PassDone Refusal → Type 0
  Rendered out' v = PassRendered call p rows₀ out rows out' v

  -- it is done
  module _ {d : PassDone} (q : t ≡ Ok d) where
    spans : SpansRead call p.at p.state rows d
    spans = subst (λ (r : Result PassDone Refusal). IfOk r (SpansRead call p.at p.state rows)) q read.done

    abbrev n : ℕ
    n = d.reached.count

    abbrev from : ℕ
    from = p.count

    -- its rows, and its records among those of the page
    pub render_few : from + n ≤ 2048
    render_few = omega (arith, spans.counted, spans.within, asked.counted, call.small)

    pub render_rows : n ≤ length rows
    render_rows = omega (arith, spans.counted, spans.within, read.room, asked.ready.rowed)

    pub render_room : from + n ≤ length out
    render_room = omega (arith, spans.counted, spans.within, asked.counted, asked.ready.room)

    pub render_asks : Placeable d.rect (rows_of rows n) (take (length out - from) (drop from out))
    render_asks =
        let a : Accepts call.file.now call.table = accepts call.file.now call.table call.opened call.bytes in
        asks_part rows n out from render_few render_rows render_room (omega (arith, spans.inside.across, a.good.config.width_most))
        (omega (arith, spans.inside.down, a.good.config.height_most))

    -- and placed: part are its records, and o is the answer
    module _ {part : List Span} {o : Result (Unit {0}) Refusal}
        (placed : PassPlaced c d.rect (rows_of rows n) (take (length out - from) (drop from out)) part o) where
      fault_is_law : rows_fault c d.rect (rows_of rows n) ≡ pass_fault s d.rect es
      fault_is_law = ap (rows_fault c d.rect) spans.spans ∙ pass_fault_law (meter_in call.file.now call.msg.now) (meter_told call.file.now call.msg.now) c d.rect es

      records_are : rows_records c d.rect (rows_of rows n) ≡ pass_records s d.rect es
      records_are =
          ap (rows_records c d.rect) spans.spans ∙ pass_records_law (meter_in call.file.now call.msg.now) (meter_told call.file.now call.msg.now) c d.rect es

      ends_by : {y : Option Refusal} → result_err o ≡ y → stop_by y (told c call.msg.now (Ok d)) ≡ placed_ending s es end
      ends_by e =
          ap (λ (x : Option Refusal). stop_by x (told c call.msg.now (Ok d))) (sym e ∙ placed.fault ∙ fault_is_law)
          ∙ ap (placed_ending s es) (ap (told c call.msg.now) (sym q) ∙ read.ends)

      -- the page's records
      abbrev out' : List Span
      out' = put_mid from (length out - from) out part

      room : length part ≡ length (take (length out - from) (drop from out)) → length out' ≡ length out
      room e = part_room from (length out - from) out part (omega (arith, render_room)) e

      pub render_stop : {x : Refusal} → o ≡ Err x → length part ≡ length (take (length out - from) (drop from out)) → Rendered out' (Err x)
      render_stop e l = record { ends = ends_by (ap result_err e); done = tt; rowed = read.room; room = room l }

      -- the records of the page so far, and its characters looked up
      written : o ≡ Ok tt → spans_of out' (from + n) ≡ spans_of out from ++ pass_records s d.rect es
      written e =
          written_part rows n placed e render_rows out from (length out - from) (omega (arith, render_room))
          ∙ ap (λ (l : List Span). spans_of out from ++ l) records_are

      looked_so : o ≡ Ok tt → p.looked + d.reached.looked ≡ looked_for call.file.now call.msg.now out' (from + n)
      looked_so e =
          omega (
            arith,
            asked.looked,
            spans.looked,
            looked_pass sign call.msg.now s d.rect es,
            sum_by-append (λ q. looked_in (capitals_in sign) (chars_in call.msg.now q) (font_numbered q.font (fonts_in sign))) (spans_of out from)
                (pass_records s d.rect es),
          )
          ∙ ap (chars_looked sign call.msg.now) (sym (written e))

      -- the pass with the page's counts
      abbrev so_far : PassDone
      so_far =
          record {
            how = d.how;
            rect = d.rect;
            reached = record { at = d.reached.at; count = from + n; looked = p.looked + d.reached.looked; state = d.reached.state };
          }

      pub render_done : o ≡ Ok tt → length part ≡ length (take (length out - from) (drop from out)) → Rendered out' (Ok so_far)
      render_done e l =
          record {
            ends = ends_by (ap result_err e);
            done =
                record {
                  written = written e;
                  looked = looked_so e;
                  counted = omega (arith, asked.counted, spans.counted);
                  few = omega (arith, asked.few, spans.few);
                  forward = omega (arith, spans.counted);
                  within = spans.within;
                  inside = spans.next;
                };
            rowed = read.room;
            room = room l;
          }
