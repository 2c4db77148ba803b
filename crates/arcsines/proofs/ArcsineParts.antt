-- The arcsine taken apart and put together again.
use mathlib.Core.Bool.{Bool, true, false, cond}
use mathlib.Core.Path.{◌≡◌, refl, sym}
use lib.Ieee.{Float, neg, lt}
use Rattle.doubles.specs.Arithmetic.{◌⊗◌, whole}
use Rattle.doubles.specs.Functions.{clamp}
use Rattle.arcsines.specs.Arcsine.{half_pi, complement, up_to_half, half_angle_sine, arcsine_series, upward_by, arcsine_upward, arcsine}
use Rattle.arcsines.specs.ArcsineParts.{magnitude, series_argument, arcsine_by}
use Rattle.arcsines.proofs.Range.{arcsine_above, arcsine_below}

upward_by_lem : (m : Float) → (let s = arcsine_series (series_argument m) in upward_by m s s) ≡ arcsine_upward m
unfolding upward_by series_argument arcsine_upward
upward_by_lem m = go (up_to_half m) (half_angle_sine m)
  where
    go : (b : Bool) (half : Float) →
        cond b (arcsine_series (cond b m half)) (complement (whole 2 ⊗ arcsine_series (cond b m half)))
        ≡ cond b (arcsine_series m) (complement (whole 2 ⊗ arcsine_series half))
    go true half = refl
    go false half = refl

pub arcsine_by_lem : (a : Float) → arcsine_by a (arcsine_series (series_argument (magnitude a))) ≡ arcsine a
unfolding arcsine_by magnitude
arcsine_by_lem a = go (lt (whole 1) a) (lt a (neg (whole 1))) refl refl
  where
    by : Float → Float → Float
    by m x = let s = arcsine_series (series_argument x) in upward_by m s s

    inside : (b : Bool) →
        cond b (neg (by (neg a) (cond b (neg a) a))) (by a (cond b (neg a) a))
        ≡ cond b (neg (arcsine_upward (neg a))) (arcsine_upward a)
    inside true = rw (upward_by_lem (neg a)) refl
    inside false = rw (upward_by_lem a) refl

    go : (b c : Bool) → lt (whole 1) a ≡ b → lt a (neg (whole 1)) ≡ c
        → cond b half_pi (cond c (neg half_pi) (cond (lt a (whole 0)) (neg (by (neg a) (cond (lt a (whole 0)) (neg a) a))) (by a (cond (lt a (whole 0)) (neg a) a))))
        ≡ arcsine a
    go true c p q = sym (arcsine_above (record { holds = rw p tt }))
    go false true p q = sym (arcsine_below (record { holds = rw q tt }))
    go false false p q = unfold arcsine clamp in rw (q, p) (inside (lt a (whole 0)))
