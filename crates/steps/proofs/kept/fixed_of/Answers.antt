-- `fixed_of` meets its contract.
use mir.Facts.{to_z-of_z}
use mir.Syntax.{w64}
use mir.Val.{SFits}
use Rattle.steps.specs.Kept.{fixed_of}
use borrow.Author.Rules.{rules}
use Rattle.steps.proofs.kept.fixed_of.Goals as goal

pub returns : goal.returns
unfolding fixed_of
returns c =
    let zone : SFits w64 c.args.site.timezone = search rules in
    rw (
      c.sin_cos_of_degrees-latitude.ensures,
      c.sin_cos_of_degrees-tilt.ensures,
      c.sin_cos_of_degrees-orientation.ensures,
      c.transform_to_180.ensures,
      c.init_time_shift-time_shift.ensures,
      to_z-of_z zone,
    )
