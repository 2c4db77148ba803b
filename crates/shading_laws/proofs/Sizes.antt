-- Objects that shade no less dominate, so that the factor is no larger. Assumes nothing.
use mathlib.Core.Path.{◌≡◌, sym, ap, ap₂, ◌∙◌, subst}
use mathlib.Core.Logic.{◌⊎◌, inl, inr}
use mathlib.Core.Bool.{true, false}
use mathlib.Core.List.{List, Memᴰ}
use lib.Dec.{T, eqb, eqb→eq}
use lib.Ieee.{Float}
use Rattle.std.specs.Prelude.{Option}
use Rattle.doubles.specs.Arithmetic.{whole}
use Rattle.doubles.specs.Functions.{float_min}
use Rattle.doubles.specs.Order.{◌≼◌, Number, Zero}
use Rattle.doubles.proofs.Order.{le_refl, right_number, eq→eqb}
use Rattle.doubles.proofs.Lists.{AllReached}
use Rattle.doubles.proofs.MinMax.{min_mono, float_min_is}
use Rattle.doubles.proofs.Ranges.{Between}
use Rattle.objects.specs.declared.surface.Surface.{Surface}
use Rattle.objects.specs.declared.sectors.ShadingObject.{ShadingObject}
use Rattle.objects.specs.declared.sectors.ShadingObjectType.{ShadingObjectType}
use Rattle.objects.specs.declared.sectors.ShadingObjectType.TheVariants as distant
use Rattle.objects.specs.declared.window.WindowShadingObject.{WindowShadingObject}
use Rattle.objects.specs.declared.window.WindowShadingType.{WindowShadingType}
use Rattle.objects.specs.declared.window.WindowShadingType.TheVariants.{Obstacle, Overhang, SideFinRight, SideFinLeft}
use Rattle.objects.specs.Objects.{is_obstacle, is_overhang, kind_number, of_kind}
use Rattle.extents.specs.Extents.{obstacle_height, overhang_height}
use Rattle.fins.specs.Fins.{fin_width}
use Rattle.shading.specs.declared.sun_on_surface.SunOnSurface.{SunOnSurface}
use Rattle.shading.specs.Factor.{obstacle_extents, overhang_extents, window_overhang_extents, right_fin_extents, left_fin_extents, near_obstacle_height, reduction_factor}
use Rattle.shading_laws.specs.Premises.{AcceptedSurface, NoNanExtent, AcceptedNear}
use Rattle.shading_laws.specs.Sizes.{asked_at, TangentUp, NotNegative, Both, ShadesNoLess, same, taller_obstacle, nearer_obstacle, lower_overhang, farther_overhang, ReachesNoLess, deeper, nearer, DarkensNoLess, taller, closer, darker, WindowShadesNoLess, unchanged, overhang, right_fin, left_fin, a_near_obstacle}
use Rattle.shading_laws.proofs.Sides.{side_number, near_height, near_between, near_taller, near_darker}
use Rattle.shading_laws.proofs.Members.{Partner, partners_reach}
use Rattle.shading_laws.proofs.Bounds.{height_side, near_shade, near_shade_between}
use Rattle.shading_laws.proofs.ExtentSizes as size
use Rattle.shading_laws.proofs.MoreShade.{own_height, Darkened, Dominates, factor_falls}

-- ---- kinds

not_both : (o : ShadingObject) → T (is_obstacle o) → T (is_overhang o) → ⊥
unfolding is_obstacle is_overhang
not_both o s t = go o.object_type s t
  where
    go : (k : ShadingObjectType) → T (elim k [ distant.Obstacle ↦ true | distant.Overhang ↦ false ]) → T (elim k [ distant.Obstacle ↦ false | distant.Overhang ↦ true ]) → ⊥
    go distant.Obstacle s t = t
    go distant.Overhang s t = s

-- an object at the window is of one kind: of two different ones the test is false by computation
pub one_kind : (k l : WindowShadingType) (o : WindowShadingObject) → T (of_kind k o) → T (of_kind l o) → T (eqb (kind_number k) (kind_number l))
unfolding of_kind
one_kind k l o s t = eq→eqb (kind_number k) (kind_number l) (eqb→eq _ _ s ∙ sym (eqb→eq _ _ t))

-- ---- each extent

module _ (surface : Surface) (sun : SunOnSurface) where
  abbrev obstacle : ShadingObject → Float
  obstacle o = obstacle_height surface.base_height o.height o.distance sun.tan_altitude

  obstacle_moves : (o p : ShadingObject) → ShadesNoLess (asked_at surface sun) o p → T (is_obstacle o) → Number (obstacle o) → (T (is_obstacle p) → Number (obstacle p))
      → T (is_obstacle p) × ((obstacle o ≼ whole 0) ⊎ (obstacle o ≼ obstacle p))
  obstacle_moves o p (same e) t n m = (subst (λ (q : ShadingObject). T (is_obstacle q)) e t, inr (size.level n (ap obstacle e)))
  obstacle_moves o p (taller_obstacle k e h) t n m = (k.second, inr (size.taller _ _ o.height p.height o.distance p.distance n (m k.second) e h))
  obstacle_moves o p (nearer_obstacle up k e h) t n m = (k.second, inr (size.nearer _ _ o.height p.height o.distance p.distance n (m k.second) up e h))
  obstacle_moves o p (lower_overhang r k e h) t n m = absurd (not_both o t k.first)
  obstacle_moves o p (farther_overhang r up k e h) t n m = absurd (not_both o t k.first)

  abbrev distant_overhang : ShadingObject → Float
  distant_overhang o = overhang_height surface.height surface.base_height o.height o.distance sun.tan_altitude

  overhang_moves : (o p : ShadingObject) → ShadesNoLess (asked_at surface sun) o p → T (is_overhang o) → Number (distant_overhang o) → (T (is_overhang p) → Number (distant_overhang p))
      → T (is_overhang p) × ((distant_overhang o ≼ whole 0) ⊎ (distant_overhang o ≼ distant_overhang p))
  overhang_moves o p (same e) t n m = (subst (λ (q : ShadingObject). T (is_overhang q)) e t, inr (size.level n (ap distant_overhang e)))
  overhang_moves o p (lower_overhang r k e h) t n m = (k.second, inr (size.lower _ _ _ o.height p.height o.distance p.distance r e h))
  overhang_moves o p (farther_overhang r up k e h) t n m = (k.second, inr (size.farther _ _ _ o.height p.height o.distance p.distance r up e h))
  overhang_moves o p (taller_obstacle k e h) t n m = absurd (not_both o k.first t)
  overhang_moves o p (nearer_obstacle up k e h) t n m = absurd (not_both o k.first t)

  window_overhang_moves : (o p : WindowShadingObject) → WindowShadesNoLess (asked_at surface sun) o p → T (of_kind Overhang o) → Number (size.overhang_at sun o)
      → (T (of_kind Overhang p) → Number (size.overhang_at sun p)) → T (of_kind Overhang p) × ((size.overhang_at sun o ≼ whole 0) ⊎ (size.overhang_at sun o ≼ size.overhang_at sun p))
  unfolding kind_number
  window_overhang_moves o p (unchanged e) t n m = (subst (λ (q : WindowShadingObject). T (of_kind Overhang q)) e t, inr (size.level n (ap (size.overhang_at sun) e)))
  window_overhang_moves o p (overhang k (deeper q e h)) t n m = (k.second, size.window_overhang_deeper sun o p n (m k.second) q.0 e h q.1)
  window_overhang_moves o p (overhang k (nearer e h)) t n m = (k.second, inr (size.window_overhang_nearer sun o p n (m k.second) e h))
  window_overhang_moves o p (right_fin k r) t n m = absurd (one_kind Overhang SideFinRight o t k.first)
  window_overhang_moves o p (left_fin k r) t n m = absurd (one_kind Overhang SideFinLeft o t k.first)
  window_overhang_moves o p (a_near_obstacle k r) t n m = absurd (one_kind Overhang Obstacle o t k.first)

  -- the fins of one side: what such a fin may be changed by
  abbrev FinChange : WindowShadingType → Option Float → WindowShadingObject → WindowShadingObject → Type 0
  FinChange side fin o p = (o ≡ p) ⊎ (Both (of_kind side) o p × ReachesNoLess (TangentUp fin ⊎ NotNegative o) o p)

  abbrev fin_at : Option Float → WindowShadingObject → Float
  fin_at fin o = fin_width fin o.size o.distance

  fin_moves : (side : WindowShadingType) (fin : Option Float) (o p : WindowShadingObject) → FinChange side fin o p → T (of_kind side o) → Number (fin_at fin o)
      → (T (of_kind side p) → Number (fin_at fin p)) → T (of_kind side p) × ((fin_at fin o ≼ whole 0) ⊎ (fin_at fin o ≼ fin_at fin p))
  fin_moves side fin o p (inl e) t n m = (subst (λ (q : WindowShadingObject). T (of_kind side q)) e t, inr (size.level n (ap (fin_at fin) e)))
  fin_moves side fin o p (inr (k, deeper q e h)) t n m = (k.second, size.fin_deeper fin o p q n (m k.second) e h)
  fin_moves side fin o p (inr (k, nearer e h)) t n m = (k.second, inr (size.fin_nearer fin o p n (m k.second) e h))

  right_change : (o p : WindowShadingObject) → WindowShadesNoLess (asked_at surface sun) o p → T (of_kind SideFinRight o) → FinChange SideFinRight sun.fins.right o p
  unfolding kind_number
  right_change o p (unchanged e) t = inl e
  right_change o p (right_fin k r) t = inr (k, r)
  right_change o p (overhang k r) t = absurd (one_kind SideFinRight Overhang o t k.first)
  right_change o p (left_fin k r) t = absurd (one_kind SideFinRight SideFinLeft o t k.first)
  right_change o p (a_near_obstacle k r) t = absurd (one_kind SideFinRight Obstacle o t k.first)

  left_change : (o p : WindowShadingObject) → WindowShadesNoLess (asked_at surface sun) o p → T (of_kind SideFinLeft o) → FinChange SideFinLeft sun.fins.left o p
  unfolding kind_number
  left_change o p (unchanged e) t = inl e
  left_change o p (left_fin k r) t = inr (k, r)
  left_change o p (overhang k r) t = absurd (one_kind SideFinLeft Overhang o t k.first)
  left_change o p (right_fin k r) t = absurd (one_kind SideFinLeft SideFinRight o t k.first)
  left_change o p (a_near_obstacle k r) t = absurd (one_kind SideFinLeft Obstacle o t k.first)

-- ---- near obstacles

module _ {surface : Surface} (a : AcceptedSurface surface) (sun : SunOnSurface) (o p : WindowShadingObject)
    (n : Number (near_obstacle_height surface sun o)) (m : Number (near_obstacle_height surface sun p))
    (t : Between (whole 1) o.transparency) (t' : Between (whole 1) p.transparency) where
  shade_rises : near_obstacle_height surface sun o ≼ near_obstacle_height surface sun p → near_shade surface sun o ≼ near_shade surface sun p
  unfolding near_shade
  shade_rises h =
      rw (float_min_is (side_number (height_side a)) n, float_min_is (side_number (height_side a)) m)
      (min_mono (le_refl (side_number (height_side a))) h)

  shade_same : o.size ≡ p.size → o.distance ≡ p.distance → near_shade surface sun o ≡ near_shade surface sun p
  unfolding near_shade near_obstacle_height
  shade_same e f = ap₂ (λ (height distance : Float). float_min surface.height (obstacle_height surface.base_height height distance sun.tan_altitude)) e f

  -- one that lets nothing through
  opaque : Zero o.transparency → o.transparency ≡ p.transparency → near_obstacle_height surface sun o ≼ near_obstacle_height surface sun p
      → (shade : Float) → Between surface.height shade → own_height surface sun p shade ≼ own_height surface sun o shade
  opaque z e h shade b =
      subst (λ (u : Float). near_height surface.height (near_shade surface sun p) shade u ≼ own_height surface sun o shade) e
      (near_taller (height_side a) (near_shade_between surface sun o a n) (near_shade_between surface sun p a m) b t z (shade_rises h))

  near_moves : DarkensNoLess (whole 0 ≼ sun.tan_altitude) o p → (shade : Float) → Between surface.height shade → own_height surface sun p shade ≼ own_height surface sun o shade
  unfolding near_obstacle_height
  near_moves (taller z e f h) = opaque z e (size.taller _ _ o.size p.size o.distance p.distance n m f h)
  near_moves (closer up z e f h) = opaque z e (size.nearer _ _ o.size p.size o.distance p.distance n m up f h)
  near_moves (darker e f h) = λ shade b.
      subst (λ (u : Float). near_height surface.height u shade p.transparency ≼ own_height surface sun o shade) (shade_same e f)
      (near_darker (height_side a) (near_shade_between surface sun o a n) b t t' h)

-- ---- objects that shade no less dominate

module _ {surface : Surface} {sun : SunOnSurface} {xs ys : List ShadingObject} {ws vs : List WindowShadingObject}
    (a : AcceptedSurface surface) (less : NoNanExtent surface sun xs ws) (more : NoNanExtent surface sun ys vs) (b : AcceptedNear ws) (c : AcceptedNear vs)
    (h : (o : ShadingObject) → Memᴰ o xs → Partner (ShadesNoLess (asked_at surface sun)) ys o)
    (k : (o : WindowShadingObject) → Memᴰ o ws → Partner (WindowShadesNoLess (asked_at surface sun)) vs o) where
  obstacles_reach : AllReached (obstacle_extents surface sun xs) (obstacle_extents surface sun ys)
  unfolding obstacle_extents
  obstacles_reach = partners_reach is_obstacle (obstacle surface sun) xs ys less.obstacles more.obstacles (obstacle_moves surface sun) h

  overhangs_reach : AllReached (overhang_extents surface sun xs) (overhang_extents surface sun ys)
  unfolding overhang_extents
  overhangs_reach = partners_reach is_overhang (distant_overhang surface sun) xs ys less.overhangs more.overhangs (overhang_moves surface sun) h

  window_overhangs_reach : AllReached (window_overhang_extents sun ws) (window_overhang_extents sun vs)
  unfolding window_overhang_extents
  window_overhangs_reach = partners_reach (of_kind Overhang) (size.overhang_at sun) ws vs less.window_overhangs more.window_overhangs (window_overhang_moves surface sun) k

  right_fins_reach : AllReached (right_fin_extents sun ws) (right_fin_extents sun vs)
  unfolding right_fin_extents
  right_fins_reach =
      partners_reach (of_kind SideFinRight) (fin_at surface sun sun.fins.right) ws vs less.right_fins more.right_fins
      (λ o p r t. fin_moves surface sun SideFinRight sun.fins.right o p (right_change surface sun o p r t) t) k

  left_fins_reach : AllReached (left_fin_extents sun ws) (left_fin_extents sun vs)
  unfolding left_fin_extents
  left_fins_reach =
      partners_reach (of_kind SideFinLeft) (fin_at surface sun sun.fins.left) ws vs less.left_fins more.left_fins
      (λ o p r t. fin_moves surface sun SideFinLeft sun.fins.left o p (left_change surface sun o p r t) t) k

  near_darkened : (o : WindowShadingObject) → Memᴰ o ws → T (of_kind Obstacle o) → Darkened surface sun vs o
  unfolding kind_number
  near_darkened o m t = go (k o m) (k o m).related
    where
      first : Between (whole 1) o.transparency
      first = record { low = b.transparency_from o m t; high = b.transparency_to o m t }

      own : (shade : Float) → Between surface.height shade → Number (own_height surface sun o shade)
      own shade r = right_number (near_between (height_side a) (near_shade_between surface sun o a (less.near_obstacles o m t)) r first).low

      by : (p : WindowShadingObject) → Memᴰ p vs → Both (of_kind Obstacle) o p → DarkensNoLess (whole 0 ≼ sun.tan_altitude) o p → Darkened surface sun vs o
      by p q k r = record {
        object = p;
        member = q;
        of_kind_lem = k.second;
        lower = near_moves a sun o p (less.near_obstacles o m t) (more.near_obstacles p q k.second) first
            (record { low = c.transparency_from p q k.second; high = c.transparency_to p q k.second }) r;
      }

      go : (q : Partner (WindowShadesNoLess (asked_at surface sun)) vs o) → WindowShadesNoLess (asked_at surface sun) o q.other → Darkened surface sun vs o
      go q (unchanged e) = record {
        object = o;
        member = subst (λ (p : WindowShadingObject). Memᴰ p vs) (sym e) q.member;
        of_kind_lem = t;
        lower = λ shade r. le_refl (own shade r);
      }
      go q (a_near_obstacle k r) = by q.other q.member k r
      go q (overhang k r) = absurd (one_kind Obstacle Overhang o t k.first)
      go q (right_fin k r) = absurd (one_kind Obstacle SideFinRight o t k.first)
      go q (left_fin k r) = absurd (one_kind Obstacle SideFinLeft o t k.first)

  pub dominates : Dominates surface sun xs ys ws vs
  dominates = record {
    obstacles = obstacles_reach;
    overhangs = overhangs_reach;
    window_overhangs = window_overhangs_reach;
    right_fins = right_fins_reach;
    left_fins = left_fins_reach;
    near_obstacles = near_darkened;
  }

  pub factor_no_larger : reduction_factor surface sun ys vs ≼ reduction_factor surface sun xs ws
  factor_no_larger = factor_falls a less more dominates b c
