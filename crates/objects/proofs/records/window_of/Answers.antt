-- `window_of` meets its contract.
use mathlib.Core.Path.{◌≡◌, refl, sym, ap, ◌∙◌, subst}
use Prim.Native.Nat.{ℕ, ◌/◌, ◌≤◌, ◌<◌}
use native.Mathlib.Omega.{arith}
use Rattle.objects.specs.Records.{window_object_at, window_count, no_window_object, window_of, filled}
use Rattle.objects.proofs.Places.{none_filled, one_filled}
use Rattle.objects.proofs.records.window_of.Goals as goal

pub loop-i-init : goal.loop-i-init
unfolding window_count
loop-i-init c = (
  subst (λ (n : ℕ). n / 4 ≤ 16) (sym c.word_count-n.ensures) c.requires,
  refl,
  c.no_window_objects.ensures ∙ none_filled (window_object_at c.args.bytes.now) no_window_object 16,
)

pub loop-i-preserved : goal.loop-i-preserved
loop-i-preserved c =
    let q = c.loop-i in
    let l = c.args.bytes.now in
    let few : q.i < 16 = omega arith in
    (q.invariant.0, q.invariant.1, rw (q.invariant.2, c.window_object_at.ensures) (one_filled (window_object_at l) no_window_object 16 q.i few))

pub returns : goal.returns
unfolding window_of window_count
returns c =
    let q = c.loop-i in
    let l = c.args.bytes.now in
    let e = ap (λ (n : ℕ). n / 4) c.word_count-n.ensures in
    let all : q.i ≡ window_count l = omega (arith, e) in
    λ k. record { count = (q.invariant.1 ∙ e) k; objects = (q.invariant.2 ∙ ap (filled (window_object_at l) no_window_object 16) all) k }
