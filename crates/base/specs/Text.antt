-- Texts in worked examples.
use Rattle.std.specs.Prelude.{ℕ, List, [], ◌∷◌}
use Prim.Native.String.{String, [] as ε, ◌∷◌ as ◌∷ᵗ◌}
use Prim.Native.Char.{code}

-- the bytes of an ASCII text
abbrev pub ascii : String → List ℕ
ascii ε = []
ascii (c ∷ᵗ s) = code c ∷ ascii s
