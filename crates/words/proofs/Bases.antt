-- A number in the base b, cut at its lowest or at its highest digit.
use mathlib.Core.Path.{◌≡◌}
use Prim.Native.Nat.{ℕ, suc, ◌+◌, ◌*◌, ◌/◌, ◌%◌, ◌^◌, ◌≤◌, ◌<◌, zero-le}
use native.Mathlib.Nat.{pow-zero, pow-suc, pow-succ', pow-le-pow_right}
use lib.Arith.{mod-mul}

module _ (b : ℕ) (h : 0 < b) (n w : ℕ) where
  pub power_positive : 0 < b ^ n
  power_positive = let p : b ^ 0 ≤ b ^ n = pow-le-pow_right h zero-le in rw pow-zero at p

  pub cut_lowest : w % b ^ suc n ≡ w / b % b ^ n * b + w % b
  cut_lowest = rw (pow-suc b n) (mod-mul w power_positive h)

  pub cut_highest : w % b ^ suc n ≡ w / b ^ n % b * b ^ n + w % b ^ n
  cut_highest = rw (pow-succ' b n) (mod-mul w h power_positive)
