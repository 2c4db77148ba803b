-- A test at every step, one step after the other.
use Rattle.std.proofs.Common.{◌≡◌, ℕ, suc, ◌+◌, ◌-◌, ◌≤◌, ◌<◌, Bool, true, ◌&&◌, sym, ap, arith}
use mathlib.Core.Bool.{and-true}
use Rattle.std.proofs.Math.Bool.{and_assoc}
use lib.Ieee.{Float}
use Rattle.doubles.specs.Arithmetic.{◌⊕◌}
use Rattle.simulation_time.specs.Steps.{times_from, at_all}
use Rattle.simulation_time.specs.Timestep.{series_index}
use Rattle.weather.specs.declared.Series.{Series}
use Rattle.weather.specs.Weather.{in_series, read_series, reading_fine}

-- the two tests that a run makes of its series
abbrev pub on_series : Series → ℕ → Float → Float → Bool
on_series series day width time = in_series series.diffuse.now series.direct.now series.reflectivity.now (series_index time day width)

abbrev pub in_range : Series → ℕ → Float → Float → Bool
in_range series day width time = reading_fine (read_series series.diffuse.now series.direct.now series.reflectivity.now (series_index time day width))

module _ (test : Float → Bool) (step : Float) (count : ℕ) where
  -- what is so far, and what is left from the i-th step on
  unfoldable pub left : ℕ → Float → Bool
  left i time = at_all test (times_from (count - i) step time)

  pub at_first : (start : Float) → true && left 0 start ≡ at_all test (times_from count step start)
  unfolding left
  at_first start = let e : count - 0 ≡ count = omega arith in ap (λ (n : ℕ). at_all test (times_from n step start)) e

  pub one_more : (fine : Bool) (i : ℕ) (time : Float) (now : Bool) → now ≡ test time → i < count → (fine && now) && left (i + 1) (time ⊕ step) ≡ fine && left i time
  unfolding left at_all times_from
  one_more fine i time now e h =
      let n : count - i ≡ suc (count - (i + 1)) = omega (arith, h) in
      rw (e, n) (and_assoc fine (test time) (at_all test (times_from (count - (i + 1)) step (time ⊕ step))))

  pub at_last : (fine : Bool) (i : ℕ) (time : Float) → count ≤ i → fine ≡ fine && left i time
  unfolding left at_all times_from
  at_last fine i time h = let e : count - i ≡ 0 = omega (arith, h) in rw e (sym (and-true fine))
