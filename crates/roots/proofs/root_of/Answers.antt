-- `roots::root_of` meets its contract: the nearest whole number has 53 digits, so its pattern is the double (`Pattern`). Assumes nothing.
use mathlib.Core.Path.{◌≡◌, sym, ap, ◌∙◌, subst}
use mathlib.Core.Bool.{false}
use Prim.Native.Nat.{ℕ, ◌+◌, ◌*◌, ◌/◌, ◌%◌, ◌^◌, ◌≤◌, ◌<◌}
use native.Mathlib.Nat.{mod-eq_of_lt, mul_assoc}
use native.Mathlib.Omega.{arith}
use lib.Ieee.{odd}
use Rattle.roots.specs.Root.{nearest_root}
use Rattle.roots.proofs.Scale.{scaled, radicand, scaled_in, root_digits}
use Rattle.roots.proofs.Pattern.{finite_bits, pattern}
use Rattle.roots.proofs.root_of.Goals as goal

-- what is handed over is n, and nothing is shifted out
handed : (m f : ℕ) → 2 ^ 52 ≤ m → m < 2 ^ 53 → m * 2 ^ (f % 2) % 2 ^ 64 * 1024 * 2 ^ 42 ≡ radicand m f
handed m f lo hi = ap (λ (w : ℕ). w * 1024 * 2 ^ 42) (mod-eq_of_lt (few (scaled m f) (scaled_in m f lo hi).1)) ∙ mul_assoc (scaled m f) 1024 (2 ^ 42)
  where
    few : (w : ℕ) → w + 2 ≤ 2 ^ 54 → w < 2 ^ 64
    few w h = omega arith

is_root : (c : goal.After-nearest_root-r) → c.nearest_root-r.result ≡ nearest_root 53 (radicand c.args.m c.args.f)
is_root c = c.nearest_root-r.ensures ∙ ap (nearest_root 53) (handed c.args.m c.args.f c.requires.from_digits c.requires.to_digits)

digits : (c : goal.After-nearest_root-r) → (2 ^ 52 ≤ c.nearest_root-r.result) × (c.nearest_root-r.result < 2 ^ 53)
digits c =
    subst (λ (r : ℕ). (2 ^ 52 ≤ r) × (r < 2 ^ 53)) (sym (is_root c))
    (root_digits c.args.m c.args.f c.requires.from_digits c.requires.to_digits)

pub overflow_mul-m : goal.overflow_mul-m
overflow_mul-m c = omega (arith, scaled_in c.args.m c.args.f c.requires.from_digits c.requires.to_digits)

pub overflow_add-result-2 : goal.overflow_add-result-2
overflow_add-result-2 c = omega (arith, digits c)

pub float_from_bits-result : goal.float_from_bits-result
float_from_bits-result c = finite_bits _ (omega (arith, digits c))

pub returns : goal.returns
returns c =
    pattern c.nearest_root-r.result (c.args.f / 2) (digits c).0 (digits c).1 (half c.args.f c.requires.f_bound)
    ∙ ap (λ (r : ℕ). odd 53 false r (c.args.f / 2) 590) (is_root c)
  where
    half : (f : ℕ) → f ≤ 2099 → f / 2 ≤ 1050
    half f h = omega arith
