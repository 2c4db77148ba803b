-- `roots::sqrt` meets its contract, by the tests that it makes (`Cases`). Assumes nothing.
use mathlib.Core.Path.{◌≡◌, sym, ap, ◌∙◌, subst}
use mathlib.Core.Bool.{Bool}
use lib.Dec.{T}
use lib.Ieee.{Float, binary64, fits, of_bits, lt, eq}
use lib.Ieee.Bits.{of_bits-to_bits}
use Rattle.roots.specs.Root.{square_root}
use Rattle.roots.proofs.Pattern.{positive_bits}
use Rattle.roots.proofs.Cases.{none, none_is, below_infinity, at_infinity, at_zero, elsewhere}
use Rattle.roots.proofs.sqrt.Goals as goal
use Rattle.roots.proofs.sqrt.Goals.{Start}

-- what owning an `f64` tells: the format holds it
held : (c : Start) → T (fits binary64 c.args.x)
held c = subst T (sym c.well_formed.0.1) tt

-- the tests, of the constant 0.0 as a plain zero
is_above : (x : Float) {b : Bool} → lt (of_bits binary64 0) x ≡ b → lt none x ≡ b
is_above x h = ap (λ (z : Float). lt z x) (sym none_is) ∙ h

is_zero : (x : Float) {b : Bool} → eq x (of_bits binary64 0) ≡ b → eq x none ≡ b
is_zero x h = ap (eq x) (sym none_is) ∙ h

pub root_of_bits-requires : goal.root_of_bits-requires
root_of_bits-requires c =
    let x = c.args.x in
    record { positive = (positive_bits x (held c.before.before) (below_infinity x (is_above x c.if-x.true) c.if-b-lt9218868437227405312.true)).0; finite = c.if-b-lt9218868437227405312.true }

pub returns-then-b-lt9218868437227405312 : goal.returns-then-b-lt9218868437227405312
returns-then-b-lt9218868437227405312 c = c.root_of_bits.ensures ∙ ap square_root (of_bits-to_bits binary64 c.args.x (held c.before.before.before))

pub returns-then-x : goal.returns-then-x
returns-then-x c =
    let x = c.args.x in
    at_infinity x (held c.before.before) (is_above x c.if-x.true) c.if-b-lt9218868437227405312.false

pub returns-then-x-2 : goal.returns-then-x-2
returns-then-x-2 c = at_zero c.args.x (is_zero c.args.x c.if-x-2.true)

pub returns : goal.returns
unfolding of_bits
returns c = elsewhere c.args.x (is_above c.args.x c.if-x.false) (is_zero c.args.x c.if-x-2.false)
