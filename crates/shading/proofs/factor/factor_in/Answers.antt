use Rattle.std.specs.Prelude.{Ok}
use mathlib.Core.Path.{◌≡◌, ap}
use Rattle.objects.specs.Objects.{counted}
use Rattle.shading.specs.Factor.{factor_in, reduction_factor, overhang_shade, sunlit_height, sunlit_width}
use Rattle.doubles.proofs.Lists.{largest_append}
use Rattle.shading.proofs.factor.factor_in.Goals as goal

pub returns-then-near : goal.returns-then-near
unfolding factor_in
returns-then-near c = rw (← c.window_shades-near.ensures.3, c.if-near.true)

-- the factor, part by part
reduced : (c : goal.After-least_factor-factor) → c.least_factor-factor.result ≡ reduction_factor c.args.surface c.args.sun (counted c.args.segment.now) c.args.window.now
unfolding reduction_factor overhang_shade sunlit_height sunlit_width
reduced c =
    let w = c.window_shades-near.ensures in
    let d = c.distant_shades-distant.ensures in
    rw (
      largest_append,
      ← c.objects.ensures,
      ← d.0,
      ← d.1,
      ← w.0,
      ← w.1,
      ← w.2,
      c.least_factor-factor.ensures,
      c.sunlit_part-first.ensures,
      c.between-wk_sun.ensures,
      c.min_of_2-wk_finl.ensures,
      c.min_of_2-wk_finr.ensures,
      c.between-hk_sun.ensures,
      c.min_of_2-hk_ovh.ensures,
      c.min_of_2-hk_obst.ensures,
    )

pub returns : goal.returns
unfolding factor_in
returns c = rw (← c.window_shades-near.ensures.3, c.if-near.false) (ap Ok (reduced c))
