-- What is left of each series, from the brackets so far, comes to the whole.
use Rattle.std.proofs.Common.{◌≡◌, ◌-◌}
use Rattle.doubles.specs.Arithmetic.{◌⊗◌, whole}
use Rattle.doubles.specs.Series.{horner}
use Rattle.arcsines.specs.Arcsine.{arcsine_step}
use Rattle.arcsines.proofs.arcsine_series_both.Given as goal

abbrev pub invariant-loop-factor : goal.invariant-loop-factor
invariant-loop-factor l = record {
  first : horner (arcsine_step (l.a ⊗ l.a)) (24 - l.factor-index) l.h ≡ horner (arcsine_step (l.a ⊗ l.a)) 24 (whole 1);
  second : horner (arcsine_step (l.b ⊗ l.b)) (24 - l.factor-index) l.k ≡ horner (arcsine_step (l.b ⊗ l.b)) 24 (whole 1);
}
