-- The steps from shade extents to a part of the surface, on plain doubles: each result lies from 0 to its bound, and falls as the
-- shades grow. Assumes nothing.
use mathlib.Core.Path.{◌≡◌, refl, sym, subst}
use lib.Ieee.{Float, add, mul, lt, le, eq}
use Rattle.doubles.specs.Arithmetic.{◌⊕◌, ◌⊖◌, ◌⊗◌, ◌⊘◌, whole, decimal}
use Rattle.doubles.specs.Functions.{min_of2, float_min, float_max}
use Rattle.doubles.specs.Order.{◌≼◌, ◌≺◌, Number, Finite, Fits, Zero}
use Rattle.doubles.proofs.Order.{or_right, le_refl, le_trans, right_number, lt-le_trans, lt→le, finite_number}
use Rattle.doubles.proofs.Monotone.{add_mono, sub_mono, mul_mono, div_mono}
use Rattle.doubles.proofs.Bounds.{zero_number, mul-number, div-number, add_nonneg_number, add_nonneg, mul_nonneg, div_nonneg, div-le_one, sub-le, sub_nonneg, positive_nonzero}
use Rattle.shading.specs.Factor.{sunlit_between}
use Rattle.doubles.proofs.Folds.{min_left, max_left}
use Rattle.doubles.proofs.MinMax.{min_greatest, max_least, min_mono, max_mono, float_min_is, float_max_is}
use Rattle.doubles.proofs.Ranges.{Between, finite_between, finite_minus}

pub finite_1000 : Finite (whole 1000)
unfolding whole
finite_1000 = record { holds = tt }

-- ---- a side of the surface, from 0.001 to 1000

pub record Side (x : Float) : Type 0 where
  pub least : decimal 1 3 ≼ x
  pub most : x ≼ whole 1000
  pub double : Fits x

pub zero-lt_least : whole 0 ≺ decimal 1 3
unfolding whole decimal lt
zero-lt_least = record { holds = tt }

pub side_positive : {x : Float} → Side x → whole 0 ≺ x
side_positive s = lt-le_trans zero-lt_least s.least

pub side_nonneg : {x : Float} → Side x → whole 0 ≼ x
side_nonneg s = lt→le (side_positive s)

pub side_finite : {x : Float} → Side x → Finite x
side_finite s = finite_between finite_1000 (record { low = side_nonneg s; high = s.most })

pub side_number : {x : Float} → Side x → Number x
side_number s = finite_number (side_finite s)

-- a shade is cut off at the side
pub cut_between : {side x : Float} → Side side → whole 0 ≼ x → Between side (min_of2 side x)
cut_between s h = record { low = min_greatest (side_nonneg s) h; high = min_left (side_number s) (right_number h) }

-- ---- what two shades leave of a side

pub left_over_number : {side a b : Float} → Side side → whole 0 ≼ a → whole 0 ≼ b → Number (side ⊖ (a ⊕ b))
left_over_number s h k = finite_minus (side_finite s) (add_nonneg_number h k)

pub remains_between : {side a b : Float} → Side side → whole 0 ≼ a → whole 0 ≼ b → Between side (sunlit_between side a b)
unfolding sunlit_between
remains_between s h k = record {
  low = max_left zero_number (left_over_number s h k);
  high = max_least (side_nonneg s) (sub-le s.double (add_nonneg h k) (left_over_number s h k));
}

-- larger shades leave no more
pub remains_falls : {side a a' b b' : Float} → Side side → whole 0 ≼ a → whole 0 ≼ b → a ≼ a' → b ≼ b' → sunlit_between side a' b' ≼ sunlit_between side a b
unfolding sunlit_between
remains_falls s h k p q =
    let h' = le_trans h p in
    let k' = le_trans k q in
    max_mono (le_refl zero_number)
    (sub_mono (le_refl (side_number s)) (add_mono p q (add_nonneg_number h k) (add_nonneg_number h' k')) (left_over_number s h' k') (left_over_number s h k))

-- ---- the part of the surface that a sunlit height and width make

-- h · w over the sides' product
unfoldable pub part : Float → Float → Float → Float → Float
part height width h w = h ⊗ w ⊘ (height ⊗ width)

product_bound : Finite (whole 2000 ⊗ whole 1000)
unfolding whole mul
product_bound = record { holds = tt }

pub finite_2000 : Finite (whole 2000)
unfolding whole
finite_2000 = record { holds = tt }

product_number : {h w : Float} → Between (whole 2000) h → Between (whole 1000) w → Number (h ⊗ w)
product_number b c = mul-number (finite_between finite_2000 b) (finite_between finite_1000 c)

product_between : {h w : Float} → Between (whole 2000) h → Between (whole 1000) w → Between (whole 2000 ⊗ whole 1000) (h ⊗ w)
product_between b c = record {
  low = mul_nonneg b.low c.low (product_number b c);
  high = mul_mono b.low c.low b.high c.high (product_number b c) (finite_number product_bound);
}

product_finite : {h w : Float} → Between (whole 2000) h → Between (whole 1000) w → Finite (h ⊗ w)
product_finite b c = finite_between product_bound (product_between b c)

thousand_le : whole 1000 ≼ whole 2000
unfolding whole le
thousand_le = record { holds = tt }

least_nonneg : whole 0 ≼ decimal 1 3
least_nonneg = lt→le zero-lt_least

least_product : whole 0 ≺ decimal 1 3 ⊗ decimal 1 3
unfolding whole decimal mul lt
least_product = record { holds = tt }

module _ {height width : Float} (H : Side height) (W : Side width) where
  whole_between : Between (whole 2000) height
  whole_between = record { low = side_nonneg H; high = le_trans H.most thousand_le }

  width_between : Between (whole 1000) width
  width_between = record { low = side_nonneg W; high = W.most }

  pub area_positive : whole 0 ≺ height ⊗ width
  area_positive =
      lt-le_trans least_product
      (mul_mono least_nonneg least_nonneg H.least W.least (right_number (lt→le least_product)) (product_number whole_between width_between))

  wide : {w : Float} → Between width w → Between (whole 1000) w
  wide c = record { low = c.low; high = le_trans c.high W.most }

  pub high : {h : Float} → Between height h → Between (whole 2000) h
  high b = record { low = b.low; high = le_trans b.high whole_between.high }

  pub area_finite : Finite (height ⊗ width)
  area_finite = product_finite whole_between width_between

  pub part_number : {h w : Float} → Between (whole 2000) h → Between width w → Number (part height width h w)
  unfolding part
  part_number b c =
      div-number (product_finite b (wide c)) area_finite (positive_nonzero area_positive)

  pub part_nonneg : {h w : Float} → Between (whole 2000) h → Between width w → whole 0 ≼ part height width h w
  unfolding part
  part_nonneg b c =
      div_nonneg (product_between b (wide c)).low area_positive (part_number b c)

  pub part_le_one : {h w : Float} → Between height h → Between width w → part height width h w ≼ whole 1
  unfolding part
  part_le_one b c =
      div-le_one area_positive
      (mul_mono b.low c.low b.high c.high (product_number (high b) (wide c)) (product_number whole_between width_between))
      (part_number (high b) c)

  pub part_mono : {h h' w w' : Float} → Between (whole 2000) h → Between width w → Between (whole 2000) h' → Between width w'
      → h ≼ h' → w ≼ w' → part height width h w ≼ part height width h' w'
  unfolding part
  part_mono b c b' c' p q =
      div_mono area_positive (mul_mono b.low c.low p q (product_number b (wide c)) (product_number b' (wide c'))) (part_number b c) (part_number b' c')

-- ---- the sunlit height behind a near obstacle: what is above it, and what it lets through

unfoldable pub near_height : Float → Float → Float → Float → Float
near_height height a overhang transparency =
    float_max (whole 0) (height ⊖ (a ⊕ overhang)) ⊕ float_min a (height ⊖ overhang) ⊗ transparency

times_zero : whole 1000 ⊗ whole 0 ≡ whole 0
unfolding whole mul
times_zero = refl

zero_below : {t : Float} → Zero t → t ≼ whole 0
unfolding le
zero_below {t} z = record { holds = or_right (lt t (whole 0)) (eq t (whole 0)) z.holds }

through_bound : whole 1000 ⊗ whole 1 ≡ whole 1000
unfolding whole mul
through_bound = refl

sum_bound : whole 1000 ⊕ whole 1000 ≡ whole 2000
unfolding whole add
sum_bound = refl

module _ {height : Float} (H : Side height) where
  -- what is lit above it
  above_is : {a o : Float} → whole 0 ≼ a → whole 0 ≼ o → float_max (whole 0) (height ⊖ (a ⊕ o)) ≡ sunlit_between height a o
  unfolding sunlit_between
  above_is h k = float_max_is zero_number (left_over_number H h k)

  rest_number : {o : Float} → whole 0 ≼ o → Number (height ⊖ o)
  rest_number k = finite_minus (side_finite H) (right_number k)

  -- what is lit through it, before its transparency
  unfoldable pub covered : Float → Float → Float
  covered a o = min_of2 a (height ⊖ o)

  covered_is : {a o : Float} → whole 0 ≼ a → whole 0 ≼ o → float_min a (height ⊖ o) ≡ covered a o
  unfolding covered
  covered_is h k = float_min_is (right_number h) (rest_number k)

  pub covered_between : {a o : Float} → Between height a → Between height o → Between (whole 1000) (covered a o)
  unfolding covered
  covered_between b c = record {
    low = min_greatest b.low (sub_nonneg c.high (rest_number c.low));
    high = le_trans (min_left (right_number b.low) (rest_number c.low)) (le_trans b.high H.most);
  }

  through_number : {x t : Float} → Between (whole 1000) x → Between (whole 1) t → Number (x ⊗ t)
  unfolding whole
  through_number b c = mul-number (finite_between finite_1000 b) (finite_between {y = whole 1} (record { holds = tt }) c)

  pub through_between : {x t : Float} → Between (whole 1000) x → Between (whole 1) t → Between (whole 1000) (x ⊗ t)
  through_between {x} {t} b c = record {
    low = mul_nonneg b.low c.low (through_number b c);
    high = subst (λ (y : Float). x ⊗ t ≼ y) through_bound
        (mul_mono b.low c.low b.high c.high (through_number b c) (subst Number (sym through_bound) (finite_number finite_1000)));
  }

  pub near_shape : {a o : Float} (t : Float) → whole 0 ≼ a → whole 0 ≼ o → near_height height a o t ≡ sunlit_between height a o ⊕ covered a o ⊗ t
  unfolding near_height
  near_shape t h k = rw (above_is h k, covered_is h k)

  lit_between : {x y : Float} → Between height x → Between (whole 1000) y → Between (whole 2000) (x ⊕ y)
  lit_between {x} {y} b c = record {
    low = add_nonneg b.low c.low;
    high = subst (λ (z : Float). x ⊕ y ≼ z) sum_bound
        (add_mono (le_trans b.high H.most) c.high (add_nonneg_number b.low c.low) (subst Number (sym sum_bound) (finite_number finite_2000)));
  }

  pub near_between : {a o t : Float} → Between height a → Between height o → Between (whole 1) t → Between (whole 2000) (near_height height a o t)
  near_between {a} {o} {t} b c d =
      subst (Between (whole 2000)) (sym (near_shape t b.low c.low))
      (lit_between (remains_between H b.low c.low) (through_between (covered_between b c) d))

  -- a larger overhang leaves no more
  pub near_falls : {a o o' t : Float} → Between height a → Between height o → Between height o' → Between (whole 1) t
      → o ≼ o' → near_height height a o' t ≼ near_height height a o t
  unfolding covered
  near_falls {a} {o} {o'} {t} b c c' d p =
      rw (near_shape {a = a} {o = o} t b.low c.low, near_shape {a = a} {o = o'} t b.low c'.low)
      (add_mono (remains_falls H b.low c.low (le_refl (right_number b.low)) p)
      (mul_mono (covered_between b c').low d.low
      (min_mono (le_refl (right_number b.low)) (sub_mono (le_refl (side_number H)) p (rest_number c'.low) (rest_number c.low)))
      (le_refl (right_number d.low)) (through_number (covered_between b c') d) (through_number (covered_between b c) d))
      (add_nonneg_number (remains_between H b.low c'.low).low (through_between (covered_between b c') d).low)
      (add_nonneg_number (remains_between H b.low c.low).low (through_between (covered_between b c) d).low))

  -- nor does a taller obstacle that lets nothing through
  pub near_taller : {a a' o t : Float} → Between height a → Between height a' → Between height o → Between (whole 1) t → Zero t
      → a ≼ a' → near_height height a' o t ≼ near_height height a o t
  near_taller {a} {a'} {o} {t} b b' c d z p =
      rw (near_shape {a = a} {o = o} t b.low c.low, near_shape {a = a'} {o = o} t b'.low c.low)
      (add_mono (remains_falls H b.low c.low p (le_refl (right_number c.low)))
      (le_trans nothing_through (through_between (covered_between b c) d).low)
      (add_nonneg_number (remains_between H b'.low c.low).low (through_between (covered_between b' c) d).low)
      (add_nonneg_number (remains_between H b.low c.low).low (through_between (covered_between b c) d).low))
    where
      nothing_through : covered a' o ⊗ t ≼ whole 0
      nothing_through =
          let r = covered_between b' c in
          rw times_zero at (mul_mono r.low d.low r.high (zero_below z) (through_number r d) (rw times_zero zero_number))

  -- nor one that lets less through
  pub near_darker : {a o t t' : Float} → Between height a → Between height o → Between (whole 1) t → Between (whole 1) t'
      → t' ≼ t → near_height height a o t' ≼ near_height height a o t
  near_darker {a} {o} {t} {t'} b c d d' p =
      let r = covered_between b c in
      let above = remains_between H b.low c.low in
      rw (near_shape {a = a} {o = o} t b.low c.low, near_shape {a = a} {o = o} t' b.low c.low)
      (add_mono (le_refl (right_number above.low))
      (mul_mono r.low d'.low (le_refl (right_number r.low)) p (through_number r d') (through_number r d))
      (add_nonneg_number above.low (through_between r d').low) (add_nonneg_number above.low (through_between r d).low))
