-- `roots::root_of_bits` meets its contract: every positive double is m · 2^f / 2^54 units with an m of 53 digits (`Doubles`). Assumes nothing.
use mathlib.Core.Path.{◌≡◌, sym, ap, ◌∙◌}
use mathlib.Core.Bool.{false}
use Prim.Native.Nat.{ℕ, ◌+◌, ◌*◌, ◌-◌, ◌/◌, ◌%◌, ◌^◌, ◌<◌}
use native.Mathlib.Nat.{mod-eq_of_lt, lt_trans}
use native.Mathlib.Omega.{arith}
use lib.Dec.{lit<}
use lib.Ieee.{binary64, odd, of_bits}
use Rattle.roots.specs.Root.{nearest_root}
use Rattle.roots.proofs.Scale.{Scaled, root_is}
use Rattle.roots.proofs.Pattern.{hidden}
use Rattle.roots.proofs.Doubles.{lift, lift_in, normal_scaled, subnormal_scaled}
use Rattle.roots.proofs.root_of_bits.Goals as goal

-- below 2^52 the pattern has no exponent
low : (c : goal.Else-field-gt0) → c.args.b < hidden
low c = omega arith

shape : (c : goal.Else-field-gt0) → (let b = c.args.b in Scaled (of_bits binary64 b) (b * 2 ^ lift b) (54 - lift b))
shape c = subnormal_scaled c.args.b c.requires.positive (low c)

-- nothing is shifted out
kept : (c : goal.Else-field-gt0) → c.args.b * 2 ^ lift c.args.b % 2 ^ 64 ≡ c.args.b * 2 ^ lift c.args.b
kept c = mod-eq_of_lt (lt_trans (shape c).hi (lit< tt))

pub returns-then-field-gt0 : goal.returns-then-field-gt0
returns-then-field-gt0 c =
    let b = c.args.b in
    c.root_of.ensures ∙ sym (root_is (of_bits binary64 b) (hidden + b % hidden) (b / hidden + 53) (normal_scaled b (omega arith) c.requires.finite))

pub overflow_sub-lift : goal.overflow_sub-lift
overflow_sub-lift c = (lift_in c.args.b c.requires.positive (low c)).0

pub root_of-requires-2 : goal.root_of-requires-2
root_of-requires-2 c = rw (kept c) (record { from_digits = (shape c).lo; to_digits = (shape c).hi; f_bound = omega arith })

pub returns : goal.returns
returns c =
    let b = c.args.b in
    c.root_of-2.ensures
    ∙ ap (λ (m : ℕ). odd 53 false (nearest_root 53 (m * 2 ^ ((54 - lift b) % 2) * 2 ^ 52)) ((54 - lift b) / 2) 590) (kept c.before)
    ∙ sym (root_is (of_bits binary64 b) (b * 2 ^ lift b) (54 - lift b) (shape c.before))
