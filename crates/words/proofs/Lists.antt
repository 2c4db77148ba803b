-- What loops over lists need: one place more, and an array's length. Assumes nothing.
use mathlib.Core.Path.{◌≡◌, sym, ◌∙◌}
use mathlib.Core.Bool.{Bool, ◌&&◌}
use mathlib.Core.List.{List, map}
use Prim.Native.Nat.{ℕ, ◌+◌}
use native.Mathlib.Numerals.{add-one}
use lib.ListN.{length, length-map}
use Rattle.words.specs.Lists.{first_fine}

pub one_more : (fine : ℕ → Bool) (n : ℕ) → fine n && first_fine fine n ≡ first_fine fine (n + 1)
unfolding first_fine
one_more fine n = rw (add-one n)

-- an array of structs is told of by what its elements are taken apart to
pub unmapped : {X Y : Type 0} (f : X → Y) (l : List X) (n : ℕ) → length (map f l) ≡ n → length l ≡ n
unmapped f l n e = sym (length-map l f) ∙ e
