-- `two_sectors_factor` meets its contract.
use mathlib.Core.Path.{◌∙◌, ap}
use mathlib.Core.List.{[]}
use lib.Ieee.{of_bits}
use Rattle.doubles.specs.Arithmetic.{whole}
use Rattle.words.specs.Words.{put_double}
use Rattle.edges.specs.Shades.{factor_at, two_sectors}
use Rattle.edges.proofs.shades.two_sectors_factor.Goals as goal

pub returns : goal.returns
unfolding two_sectors of_bits whole
returns c =
    let a = c.args in
    c.factor_at.ensures
    ∙ ap (λ l. factor_at 1 a.azimuth l [])
    (c.store_double-3.ensures
    ∙ ap (λ l. put_double l 28 (whole 360)) (c.store_double-2.ensures ∙ ap (λ l. put_double l 27 a.start) c.store_double.ensures))
