-- Each way of `reduce` is one lemma of `Reduction`: above 0, at a whole number, and between two.
use Rattle.std.proofs.Common.{◌≤◌, arith}
use lib.Ieee.{of_bits, neg}
use Rattle.doubles.specs.Arithmetic.{whole}
use Rattle.angles.specs.Sine.{is_angle}
use Rattle.angles.proofs.Reduction.{unfloored, ask_up, ask_down, up_le, down_le, reduced_up, reduced_level, reduced_down, reduced_none}
use Rattle.angles.proofs.reduce.Goals as goal

pub truncating_f64_to_u64-n-requires : goal.truncating_f64_to_u64-n-requires
unfolding is_angle unfloored whole of_bits neg
truncating_f64_to_u64-n-requires c = let met = ask_up c.args.a c.if-a.true c.if-v.true in record { lower_bound = met.0; upper_bound = met.1 }

pub overflow_cast-n : goal.overflow_cast-n
unfolding is_angle unfloored whole of_bits neg
overflow_cast-n c =
    let l : c.truncating_f64_to_u64-n.result ≤ 128 = up_le c.args.a c.truncating_f64_to_u64-n.result c.if-a.true c.truncating_f64_to_u64-n.ensures in
    omega arith

pub returns-then-v : goal.returns-then-v
unfolding is_angle unfloored whole of_bits neg
returns-then-v c = reduced_up c.args.a c.left_over.result c.if-a.true c.if-v.true c.truncating_f64_to_u64-n.ensures c.left_over.ensures

pub truncating_f64_to_u64-n-requires-then-a : goal.truncating_f64_to_u64-n-requires-then-a
unfolding is_angle unfloored whole of_bits neg
truncating_f64_to_u64-n-requires-then-a c = let met = ask_down c.args.a c.if-a.true c.if-v.false in record { lower_bound = met.0; upper_bound = met.1 }

pub overflow_cast-n-then-a : goal.overflow_cast-n-then-a
unfolding is_angle unfloored whole of_bits neg
overflow_cast-n-then-a c =
    let l : c.truncating_f64_to_u64-n-then-a.result ≤ 128 = down_le c.args.a c.truncating_f64_to_u64-n-then-a.result c.if-a.true c.truncating_f64_to_u64-n-then-a.ensures in
    omega arith

pub overflow_cast-n-else-n-v : goal.overflow_cast-n-else-n-v
unfolding is_angle unfloored whole of_bits neg
overflow_cast-n-else-n-v c =
    let l : c.truncating_f64_to_u64-n-then-a.result ≤ 128 = down_le c.args.a c.truncating_f64_to_u64-n-then-a.result c.if-a.true c.truncating_f64_to_u64-n-then-a.ensures in
    omega arith

pub returns-then-n-v : goal.returns-then-n-v
unfolding is_angle unfloored whole of_bits neg
returns-then-n-v c =
    reduced_level c.args.a c.left_over-then-n-v.result c.if-a.true c.if-v.false c.truncating_f64_to_u64-n-then-a.ensures c.if-n-v.true c.left_over-then-n-v.ensures

pub returns-else-n-v : goal.returns-else-n-v
unfolding is_angle unfloored whole of_bits neg
returns-else-n-v c =
    reduced_down c.args.a c.left_over-else-n-v.result c.if-a.true c.if-v.false c.truncating_f64_to_u64-n-then-a.ensures c.if-n-v.false c.left_over-else-n-v.ensures

pub returns-else-a : goal.returns-else-a
unfolding is_angle unfloored whole of_bits neg
returns-else-a c = reduced_none c.args.a c.if-a.false
