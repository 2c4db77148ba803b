-- From 0 to a bound, and what is finite there; and what the tests of a range say. Assumes nothing.
use Rattle.std.proofs.Common.{Bool, true, false, not, ◌&&◌, T}
use lib.Ieee.{Float, nan, inf, fin, add, sub, neg, lt, le, is_nan}
use lib.Ieee.Scale.{finite}
use Rattle.doubles.specs.Arithmetic.{◌⊖◌, whole}
use Rattle.doubles.specs.Order.{◌≼◌, ◌≺◌, InRange, Number, Finite}
use Rattle.doubles.specs.Ranges.{within, above_zero}
use Rattle.doubles.proofs.Bounds.{sub_number}

-- from 0 to a bound
pub record Between (most x : Float) : Type 0 where
  pub low : whole 0 ≼ x
  pub high : x ≼ most

finite_test : (x y : Float) → T (le (whole 0) x) → T (le x y) → T (finite y) → T (finite x)
unfolding le whole
finite_test nan y h k f = absurd h
finite_test (inf true) y h k f = absurd h
finite_test (inf false) nan h k f = absurd k
finite_test (inf false) (inf t) h k f = f
finite_test (inf false) (fin t n d) h k f = absurd k
finite_test (fin s m e) y h k f = tt

pub finite_between : {x y : Float} → Finite y → Between y x → Finite x
finite_between {x} {y} f b = record { holds = finite_test x y b.low.holds b.high.holds f.holds }

pub finite_minus : {x y : Float} → Finite x → Number y → Number (x ⊖ y)
unfolding sub add neg is_nan
finite_minus {x} {y} f n = record { holds = go x y f.holds n.holds }
  where
    go : (x y : Float) → T (finite x) → T (not (is_nan y)) → T (not (is_nan (x ⊖ y)))
    go nan y f n = absurd f
    go (inf s) y f n = absurd f
    go (fin s m e) nan f n = absurd n
    go (fin s m e) (inf t) f n = tt
    go (fin s m e) (fin t k d) f n = (sub_number {x = fin s m e} {y = fin t k d} (record { holds = tt }) (record { holds = tt })).holds

-- ---- the tests

pub both_of : (a b : Bool) → T (a && b) → T a × T b
both_of true b t = (tt, t)
both_of false b t = absurd t

pub within_range : (lowest highest x : Float) → T (within lowest highest x) → InRange lowest highest x
unfolding within
within_range lowest highest x t =
    let p = both_of (le lowest x) (le x highest) t in
    record { from = record { holds = p.0 }; to = record { holds = p.1 } }

pub above_range : (highest x : Float) → T (above_zero highest x) → (whole 0 ≺ x) × (x ≼ highest)
unfolding above_zero
above_range highest x t =
    let p = both_of (lt (whole 0) x) (le x highest) t in
    (record { holds = p.0 }, record { holds = p.1 })
