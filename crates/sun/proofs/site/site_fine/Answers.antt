-- `site_fine` meets its contract.
use Rattle.std.proofs.Common.{refl, to_z-of_z, w64, SFits, rules}
use lib.Ieee.{of_bits}
use Rattle.sun.specs.Site.{site_fine}
use Rattle.sun.proofs.site.site_fine.Goals as goal

pub returns : goal.returns
unfolding site_fine of_bits
returns c = let zone : SFits w64 c.args.site.timezone = search rules in rw (to_z-of_z zone) refl
