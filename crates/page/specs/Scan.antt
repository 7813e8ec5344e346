-- The scan of a page as the code makes it, item by item.
use Rattle.std.specs.Prelude.{ℕ, List, map, length, Option, Some, None, Result, Ok, Err, unwrap_or}
use Rattle.std.specs.declared.ops.ControlFlow.{ControlFlow}
use Rattle.std.specs.declared.ops.ControlFlow.TheVariants.{Continue, Break}
use Rattle.token.specs.Token.{slices_from}
use Rattle.value.specs.declared.Place.{Place}
use Rattle.value.specs.declared.SyntaxError.{SyntaxError}
use Rattle.value.specs.Syntax.{number_of}
use Rattle.reading.specs.Reading.{place, item_of}
use Rattle.refusal.specs.declared.Refusal.{Refusal}
use Rattle.records.specs.declared.Config.{Config}
use Rattle.layout.specs.declared.Mark.{Mark}
use Rattle.layout.specs.declared.Mark.TheVariants.{Plain, Ends, Timed}
use Rattle.layout.specs.declared.Scan.{Scan}
use Rattle.layout.specs.Types.{Item, item_at}
use Rattle.layout.specs.Read.{refusal_at, mark_item}
use Rattle.page.specs.declared.Times.{Times}

-- the scan that ends with these times
abbrev pub end_of : Times → Option Refusal → Scan
end_of t f = record { on = t.on; off = t.off; fault = f }

-- the times after an item at a place, by its mark, or the scan's end
abbrev pub look_by : Config → Times → Place → Result Mark SyntaxError → ControlFlow Scan Times
look_by c t p (Ok Plain) = Continue t
look_by c t p (Ok Ends) = Break (end_of t None)
look_by c t p (Ok (Timed a b)) = Continue (record { on = unwrap_or a c.on_time; off = unwrap_or b c.off_time })
look_by c t p (Err e) = Break (end_of t (Some (refusal_at p (number_of e))))

-- the same of the slice s, which starts at a place
abbrev pub look_at : Config → Times → ℕ → List ℕ → ControlFlow Scan Times
look_at c t at s = look_by c t (place at (length s)) (mark_item c.tags (item_of c.long_times at s))

-- the items of a message from a place on
unfoldable pub items_from : Config → ℕ → List ℕ → List Item
items_from c at msg = map (item_at c) (slices_from at msg)
