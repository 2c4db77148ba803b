use lib.Ieee.{of_bits}
use Rattle.shading.specs.Factor.{near_factor}
use Rattle.shading.proofs.factor.near_factor.Goals as goal

pub returns : goal.returns
unfolding near_factor of_bits
returns c = rw (c.sunlit_part.ensures, c.float_min-behind.ensures, c.float_max-above.ensures, c.float_min-hk_obst.ensures, c.obstacle_shading_height-new_shade_height.ensures)
