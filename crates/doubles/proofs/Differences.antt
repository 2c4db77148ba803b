-- What a rounded difference has to do with a rounded sum, and that what lies between finite doubles is finite. Assumes nothing.
use Rattle.std.proofs.Common.{ℕ, ◌+◌, ◌*◌, ◌≤◌, true, false, T, mul-pos, arith}
use native.Mathlib.Decide.{dec_le}
use lib.Ieee.{Float, nan, inf, fin, sub, neg, le}
use lib.Ieee.Positive.{den, den_pos}
use lib.Ieee.Scale.{finite}
use Rattle.doubles.specs.Arithmetic.{◌⊕◌, ◌⊖◌}
use Rattle.doubles.specs.Order.{◌≼◌, ◌≺◌, Finite, Fits}
use Rattle.doubles.proofs.Order.{positive_part, negative_part, lt_excludes}
use Rattle.doubles.proofs.Rounding.{Rounded, rounded_mono, add_rounds}
use Rattle.doubles.proofs.Exact.{own_rounded}

-- ---- below a difference

pub sub_rounds : (x y : Float) → T (finite x) → T (finite y)
    → Rounded (x ⊖ y) (positive_part x * den y + negative_part y * den x) (negative_part x * den y + positive_part y * den x) (den x * den y)
unfolding sub neg
sub_rounds x nan f g = absurd g
sub_rounds x (inf s) f g = absurd g
sub_rounds x (fin true m e) f g = add_rounds x (fin false m e) f tt
sub_rounds x (fin false m e) f g = add_rounds x (fin true m e) f tt

-- x + y ≤ z, cross-multiplied, or z − y ≤ x
turned : (px nx dx py ny dy pz nz dz : ℕ)
    → ((px * dy + py * dx) * dz + nz * (dx * dy) ≤ pz * (dx * dy) + (nx * dy + ny * dx) * dz → ⊥)
    → (pz * dy + ny * dz) * dx + nx * (dz * dy) ≤ px * (dz * dy) + (nz * dy + py * dz) * dx
turned px nx dx py ny dy pz nz dz h = omega arith

-- a double below z − y, rounded, is at most z − y itself, so that its sum with y does not pass z
pub below_difference : {x y z : Float} → Fits x → Fits z → Finite x → Finite y → Finite z → x ≺ z ⊖ y → x ⊕ y ≼ z
below_difference {x} {y} {z} fx fz f g h l =
    go (dec_le ((positive_part x * den y + positive_part y * den x) * den z + negative_part z * (den x * den y)) (positive_part z * (den x * den y) + (negative_part x * den y + negative_part y * den x) * den z))
  where
    go : Dec ((positive_part x * den y + positive_part y * den x) * den z + negative_part z * (den x * den y) ≤ positive_part z * (den x * den y) + (negative_part x * den y + negative_part y * den x) * den z) → x ⊕ y ≼ z
    go (yes k) =
        rounded_mono (x ⊕ y) z
        (positive_part x * den y + positive_part y * den x) (negative_part x * den y + negative_part y * den x) (den x * den y)
        (positive_part z) (negative_part z) (den z)
        (mul-pos (den_pos x) (den_pos y)) (den_pos z)
        (add_rounds x y f.holds g.holds) (own_rounded z h.holds fz.holds) k
    go (no k) =
        absurd (lt_excludes l
        (rounded_mono (z ⊖ y) x
        (positive_part z * den y + negative_part y * den z) (negative_part z * den y + positive_part y * den z) (den z * den y)
        (positive_part x) (negative_part x) (den x)
        (mul-pos (den_pos z) (den_pos y)) (den_pos x)
        (sub_rounds z y h.holds g.holds) (own_rounded x f.holds fx.holds)
        (turned (positive_part x) (negative_part x) (den x) (positive_part y) (negative_part y) (den y) (positive_part z) (negative_part z) (den z) k)))

-- ---- between finite doubles

pub between_finite : {a x b : Float} → Finite a → Finite b → a ≼ x → x ≼ b → Finite x
unfolding le
between_finite {a} {x} {b} f g h k = record { holds = go a x b f.holds g.holds h.holds k.holds }
  where
    go : (a x b : Float) → T (finite a) → T (finite b) → T (le a x) → T (le x b) → T (finite x)
    go nan x b f g h k = absurd f
    go (inf s) x b f g h k = absurd f
    go (fin s m e) nan b f g h k = absurd k
    go (fin s m e) (inf true) b f g h k = absurd h
    go (fin s m e) (inf false) nan f g h k = absurd g
    go (fin s m e) (inf false) (inf t) f g h k = absurd g
    go (fin s m e) (inf false) (fin t n d) f g h k = absurd k
    go (fin s m e) (fin t n d) b f g h k = tt
