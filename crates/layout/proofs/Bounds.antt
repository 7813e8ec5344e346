-- What holds of every call, refused or not.
use Prim.Native.Nat.{ℕ}
use mathlib.Core.List.{List}
use Rattle.layout.specs.Bounds.{Bounded}
use Rattle.layout.proofs.Ends.{always_stops, stays}
use Rattle.layout.proofs.Room.{fits, keeps, unchanged}
use Rattle.layout.proofs.Places.{early, places, sign}
use Rattle.layout.proofs.SignPlace.{sign_place}

pub bounded : (file msg : List ℕ) → Bounded file msg
bounded file msg =
    record {
      answers = always_stops file msg;
      fits = fits file msg;
      keeps = keeps file msg;
      unchanged = unchanged file msg;
      stays = stays file msg;
      early = early file msg;
      places = places file msg;
      sign = sign file msg;
      sign_place = sign_place file;
    }
