-- Document 01, "Page states": `PageState` of the Rust.
use Rattle.std.specs.Prelude.{Bool, true, false}
use Rattle.page.specs.declared.PageState.{PageState}
use Rattle.page.specs.declared.PageState.TheVariants.{On, Off, Done}

-- after [np]: off first, where the off time is above 0
abbrev pub new_page : Bool → PageState
new_page true = Off true
new_page false = On true

-- after the message's end
abbrev pub done_after : Bool → PageState
done_after true = Off false
done_after false = Done

-- `next_state`
abbrev pub next_state : PageState → PageState
next_state (On true) = Off true
next_state (On false) = Done
next_state (Off true) = On false
next_state (Off false) = Done
next_state Done = Done
