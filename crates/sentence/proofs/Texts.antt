-- Tests that hold of all of a list; the words are short.
use Rattle.std.proofs.Common.{ℕ, zero, suc, ◌≤◌, ◌≡◌, refl, Bool, true, false, ◌&&◌, List, [], ◌∷◌, length, get_or, arith}
use Rattle.std.specs.List.{list_all}
use lib.Dec.{leb}
use borrow.Author.Tests.{leb-true}
use Rattle.sentence.specs.Words.{words, table, unknown}

pub all_here : (a b : Bool) → a && b ≡ true → a ≡ true
all_here true b e = refl
all_here false b e = e

pub all_there : (a b : Bool) → a && b ≡ true → b ≡ true
all_there true b e = e
all_there false b e = let z : ◌≡◌ {A = ℕ} 0 1 = cc in absurd (omega arith)

pub all_at : {A : Type 0} (f : A → Bool) (d : A) → f d ≡ true → (ws : List A) → list_all f ws ≡ true → (n : ℕ) → f (get_or ws n d) ≡ true
all_at f d e [] h n = e
all_at f d e (w ∷ ws) h zero = all_here (f w) (list_all f ws) h
all_at f d e (w ∷ ws) h (suc n) = all_at f d e ws (all_there (f w) (list_all f ws) h) n

pub words_short : (n : ℕ) → length (words n) ≤ 40
unfolding words table unknown
words_short n = leb-true (length (get_or table n unknown)) 40 (all_at (λ w. leb (length w) 40) unknown refl table refl n)
