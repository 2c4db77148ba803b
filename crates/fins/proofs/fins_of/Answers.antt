-- `fins_of` meets its contract: what `then` and `then_some` give is the choice of the definitions.
use Rattle.std.proofs.Common.{◌≡◌, Bool, true, false, not, cond, Float, Option, Some, None, is_some, IfSome, refl, ap, rules}
use Rattle.std.specs.Bool.{then_some}
use borrow.Author.Tests.{ne_eqb}
use lib.Ieee.{neg, of_bits}
use Rattle.doubles.specs.Functions.{to_radians}
use Rattle.angles.specs.Sine.{tangent}
use Rattle.fins.specs.Fins.{right_fin1, left_fin1, right_fin2, left_fin2, fins_of}
use Rattle.fins.proofs.fins_of.Goals as goal

chosen : (b : Bool) (r : Option Float) (P : Float → Type 0) (x : Float) → is_some r ≡ b → IfSome r P → ((y : Float) → P y → y ≡ x) → r ≡ cond b (Some x) None
chosen true (Some y) P x e h g = ap Some (g y h)
chosen false (Some y) P x e h g = cc
chosen true None P x e h g = cc
chosen false None P x e h g = refl

otherwise : (b : Bool) (x : Float) → then_some (not b) x ≡ cond b None (Some x)
otherwise true x = refl
otherwise false x = refl

pub returns-then-edition-eq2 : goal.returns-then-edition-eq2
unfolding fins_of right_fin2 left_fin2 of_bits neg
returns-then-edition-eq2 c =
    let w = c.wrap_once-wrapped.result in
    let right = chosen _ _ _ (tangent (to_radians (neg w))) c.then.ensures.variant c.then.ensures.some (λ y h. search rules) in
    let left = chosen _ _ _ (tangent (to_radians w)) c.then-then-edition-eq2.ensures.variant c.then-then-edition-eq2.ensures.some (λ y h. search rules) in
    rw (c.if-edition-eq2.true, ← c.wrap_once-wrapped.ensures) (λ i. record { right = right i; left = left i })

pub returns : goal.returns
unfolding fins_of right_fin1 left_fin1 of_bits
returns c = rw (ne_eqb c.args.edition 2 c.if-edition-eq2.false, c.then_some.ensures, c.then_some-2.ensures, otherwise, otherwise, c.requires)
