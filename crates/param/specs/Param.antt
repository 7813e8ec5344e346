-- Parameters of tags that are more than one number. `up_to 44`, `past 44` and `holds 44` speak of the first comma: what stands before it, after
-- it, and whether there is one; so the last part of a list keeps its commas, as with Rust's `splitn`.
use Rattle.std.specs.Prelude.{ℕ, ◌-◌, List, leb, eqb, length, get_or, Option, Some, None}
use Rattle.base.specs.Pick.{pick}
use Rattle.number.specs.Number.{read_number, version_id}
use Rattle.part.specs.Part.{up_to, past, holds}
use Rattle.value.specs.declared.Color.{Color}
use Rattle.value.specs.declared.Color.TheVariants.{Legacy, Rgb}
use Rattle.value.specs.declared.Rectangle.{Rectangle}

-- go on with what was read, if it was
abbrev pub and_then : {A B : Type 0} → Option A → (A → Option B) → Option B
and_then None f = None
and_then (Some x) f = f x

-- `parse_optional`: "missing or empty is none, a number is itself, the rest is refused"
unfoldable pub read_optional : ℕ → List ℕ → Option (Option ℕ)
read_optional max p = pick (eqb (length p) 0) (Some None) (and_then (read_number 10 max p) λ n. Some (Some n))

-- `parse_version_id`, of the part after the first comma: missing is none
unfoldable pub optional_version : List ℕ → Option (Option ℕ)
optional_version p = pick (holds 44 p) (and_then (version_id (past 44 p)) λ n. Some (Some n)) (Some None)

-- nothing, or one digit from 1 to top
unfoldable pub justification : ℕ → List ℕ → Option (Option ℕ)
justification top p =
    pick (eqb (length p) 0) (Some None)
    (pick (eqb (length p) 1)
    (pick (leb 49 (get_or p 0 0)) (pick (leb (get_or p 0 0 - 48) top) (Some (Some (get_or p 0 0 - 48))) None) None)
    None)

-- `parse_xy`: "x and y are nonzero 16-bit numbers"
unfoldable pub read_xy : List ℕ → List ℕ → Option (ℕ × ℕ)
read_xy x y =
    and_then (read_number 10 65535 x) λ a.
    and_then (read_number 10 65535 y) λ b.
    pick (eqb a 0) None (pick (eqb b 0) None (Some (a, b)))

-- "nonzero x and y, width and height possibly 0"
unfoldable pub rectangle_of : List ℕ → List ℕ → List ℕ → List ℕ → Option Rectangle
rectangle_of x y w h =
    and_then (read_xy x y) λ (a, b).
    and_then (read_number 10 65535 w) λ c.
    and_then (read_number 10 65535 h) λ d.
    Some (record { x = a; y = b; width = c; height = d })

unfoldable pub read_rgb : List ℕ → List ℕ → List ℕ → Option Color
read_rgb r g b =
    and_then (read_number 10 255 r) λ x.
    and_then (read_number 10 255 g) λ y.
    and_then (read_number 10 255 b) λ z.
    Some (Rgb x y z)

unfoldable pub rgb_of : List ℕ → Option Color
rgb_of p = read_rgb (up_to 44 p) (up_to 44 (past 44 p)) (past 44 (past 44 p))

-- `parse_color`: one number or three
unfoldable pub color_of : List ℕ → Option Color
color_of p = pick (holds 44 p) (rgb_of p) (and_then (read_number 10 255 p) λ n. Some (Legacy n))
