-- The board of a call is the definitions' own, where the sign file is accepted.
use Prim.Native.Nat.{ℕ}
use mathlib.Core.Path.{◌≡◌, ap}
use mathlib.Core.List.{List}
use Rattle.records.specs.declared.Config.{Config}
use Rattle.sign.specs.Sign.{Font, Sign, Accepted, sign_file}
use Rattle.layout.specs.Fonts.{meter_of, board_of}
use Rattle.counts.specs.Placing.{fonts_in, capitals_in}
use Rattle.meter.specs.Gauges.{meter_in}
use Rattle.pages.specs.Pages.{board_in}

pub board_is : (file msg : List ℕ) (c : Config) (fs : List Font) → sign_file file ≡ Accepted c fs → board_in file msg c ≡ board_of msg c fs
unfolding board_of meter_in
board_is file msg c fs q = ap (λ (x : Sign). record { config = c; meter = meter_of msg (capitals_in x) (fonts_in x) }) q
