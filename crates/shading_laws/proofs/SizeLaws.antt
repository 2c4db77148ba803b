-- The laws of sizes, proved: at one step, and in factor calls. Assumes nothing.
use Rattle.objects.specs.declared.answers.Refusal.{Refusal}
use Rattle.std.specs.Prelude.{Err, Ok, Result}
use mathlib.Core.Path.{◌≡◌, refl, sym, ap, ap₂, ◌∙◌, subst}
use mathlib.Core.Bool.{Bool, true, false, cond, ◌&&◌, ◌||◌}
use mathlib.Core.List.{List, ◌∷◌, ◌++◌}
use Prim.Native.Nat.{ℕ}
use lib.Dec.{T, not_T, eqb}
use lib.Ieee.{Float}
use lib.Ieee.Bits.{is_false}
use lib.Ieee.Fits.{and_l, and_r}
use Rattle.doubles.specs.Arithmetic.{whole}
use Rattle.doubles.specs.Ranges.{within}
use Rattle.doubles.specs.Order.{◌≼◌, InRange}
use Rattle.doubles.proofs.Order.{le_refl}
use Rattle.doubles.proofs.Bounds.{one_number}
use Rattle.doubles.proofs.Ranges.{both_of, within_range}
use Rattle.objects.specs.declared.sectors.ShadingSegment.{ShadingSegment}
use Rattle.words.specs.Lists.{PlaceByPlace, none, and_then}
use Rattle.objects.specs.declared.surface.Surface.{Surface}
use Rattle.objects.specs.declared.sectors.ShadingObject.{ShadingObject}
use Rattle.objects.specs.declared.window.WindowShadingObject.{WindowShadingObject}
use Rattle.objects.specs.declared.window.WindowShadingType.{WindowShadingType}
use Rattle.objects.specs.declared.window.WindowShadingType.TheVariants.{Obstacle, Overhang, SideFinRight, SideFinLeft, Reveal}
use Rattle.objects.specs.declared.answers.Refusal.TheVariants as refusal
use Rattle.objects.specs.Objects.{kind_number, of_kind}
use Rattle.objects.specs.Records.{sectors_of, window_objects_of}
use Rattle.objects.specs.Surface.{surface_fine}
use Rattle.object_checks.specs.Checks.{sectors_fine, window_fine}
use Rattle.beam.specs.Beam.{outside_solar_beam}
use Rattle.fins.specs.Fins.{edition_fine}
use Rattle.segments.specs.Segments.{segment_of}
use Rattle.segments.proofs.SameWalks.{SameWalk, both_found, both_none, segment_alike}
use Rattle.shading.specs.Factor.{sun_on, has_reveal, factor_in, shading_factor}
use Rattle.shading.specs.Call.{sun_fine, factor_call}
use Rattle.shading_laws.specs.Premises.{Doubles, NoNanAt}
use Rattle.shading_laws.specs.Sizes.{Asked, asked_at, nothing, Both, ShadesNoLess, same, WindowShadesNoLess, unchanged, overhang, right_fin, left_fin, a_near_obstacle, SectorShadesNoLess, NoLargerAnswer, SizesAtOneStep, SizesInCalls}
use Rattle.shading_laws.proofs.Members.{partner, one_changed}
use Rattle.shading_laws.proofs.Sizes.{one_kind, factor_no_larger}
use Rattle.shading_laws.proofs.Accepted.{accepted_surface, accepted_near, sectors_asked, window_asked}

-- ---- one object changed at any place of its list, and all else the same

pub one_at_window : {asked : Asked} (before : List WindowShadingObject) (o p : WindowShadingObject) (after : List WindowShadingObject) → WindowShadesNoLess asked o p
    → PlaceByPlace (WindowShadesNoLess asked) (before ++ o ∷ after) (before ++ p ∷ after)
one_at_window = one_changed (λ o. unchanged refl)

pub one_in_a_sector : {asked : Asked} (before : List ShadingObject) (o p : ShadingObject) (after : List ShadingObject) → ShadesNoLess asked o p
    → PlaceByPlace (ShadesNoLess asked) (before ++ o ∷ after) (before ++ p ∷ after)
one_in_a_sector = one_changed (λ o. same refl)

-- ---- a reveal stays one

not_reveal : (k : WindowShadingType) (o : WindowShadingObject) → (T (eqb (kind_number k) (kind_number Reveal)) → ⊥) → T (of_kind k o) → of_kind Reveal o ≡ false
not_reveal k o other t = is_false (of_kind Reveal o) (not_T (of_kind Reveal o) (λ r. other (one_kind k Reveal o t r)))

neither : (k : WindowShadingType) (o p : WindowShadingObject) → (T (eqb (kind_number k) (kind_number Reveal)) → ⊥) → Both (of_kind k) o p → of_kind Reveal o ≡ of_kind Reveal p
neither k o p other b = not_reveal k o other b.first ∙ sym (not_reveal k p other b.second)

reveal_same : {asked : Asked} (o p : WindowShadingObject) → WindowShadesNoLess asked o p → of_kind Reveal o ≡ of_kind Reveal p
unfolding kind_number
reveal_same o p (unchanged e) = ap (of_kind Reveal) e
reveal_same o p (overhang k r) = neither Overhang o p (λ t. t) k
reveal_same o p (right_fin k r) = neither SideFinRight o p (λ t. t) k
reveal_same o p (left_fin k r) = neither SideFinLeft o p (λ t. t) k
reveal_same o p (a_near_obstacle k r) = neither Obstacle o p (λ t. t) k

reveals_same : {asked : Asked} {ws vs : List WindowShadingObject} → PlaceByPlace (WindowShadesNoLess asked) ws vs → has_reveal ws ≡ has_reveal vs
unfolding has_reveal
reveals_same none = refl
reveals_same (and_then {x = o} {y = p} r rest) = ap₂ ◌||◌ (reveal_same o p r) (reveals_same rest)

-- ---- at one step

pub sizes_at_one_step : SizesAtOneStep
unfolding shading_factor factor_in NoLargerAnswer
sizes_at_one_step edition surface altitude azimuth ss ts ws vs a b c n m p q = go (outside_solar_beam surface.tilt surface.orientation altitude azimuth) refl
  where
    by_reveal : (r r' : Bool) {x y : Float} → r ≡ r' → y ≼ x → NoLargerAnswer (cond r (Err refusal.Reveal) (Ok x)) (cond r' (Err refusal.Reveal) (Ok y))
    by_reveal true true e h = refl
    by_reveal false false e h = h
    by_reveal true false e h = absurd (subst T e tt)
    by_reveal false true e h = absurd (subst T (sym e) tt)

    walked : outside_solar_beam surface.tilt surface.orientation altitude azimuth ≡ false
        → {w z : Result ShadingSegment Refusal} → SameWalk (SectorShadesNoLess (asked_at surface (sun_on edition surface altitude azimuth))) w z → segment_of azimuth ss ≡ w → segment_of azimuth ts ≡ z
        → NoLargerAnswer (factor_in surface (sun_on edition surface altitude azimuth) ws w) (factor_in surface (sun_on edition surface altitude azimuth) vs z)
    walked k both_none i j = refl
    walked k (both_found {s} {t} r) i j =
        by_reveal (has_reveal ws) (has_reveal vs) (reveals_same q)
        (factor_no_larger a (n.at_found k s i) (m.at_found k t j) b c (partner r.objects) (partner q))

    go : (o : Bool) → outside_solar_beam surface.tilt surface.orientation altitude azimuth ≡ o
        → NoLargerAnswer (cond o (Ok (whole 1)) (factor_in surface (sun_on edition surface altitude azimuth) ws (segment_of azimuth ss)))
        (cond o (Ok (whole 1)) (factor_in surface (sun_on edition surface altitude azimuth) vs (segment_of azimuth ts)))
    go true k = le_refl one_number
    go false k = walked k (segment_alike (SectorShadesNoLess (asked_at surface (sun_on edition surface altitude azimuth))) (λ s t r. r.bounds) azimuth p) refl refl

-- ---- in two calls

-- an accepted sun's altitude
altitude_range : (altitude azimuth : Float) → T (sun_fine altitude azimuth) → InRange (whole 0) (whole 90) altitude
unfolding sun_fine
altitude_range altitude azimuth t = within_range (whole 0) (whole 90) altitude (both_of (within (whole 0) (whole 90) altitude) _ t).0

-- of an accepted surface and sun, and accepted lists: what is asked is so
pub sizes_accepted : (edition : ℕ) (surface : Surface) (altitude azimuth : Float) (l m w v : List ℕ) → T (surface_fine surface) → Doubles surface → InRange (whole 0) (whole 90) altitude
    → T (sectors_fine m) → T (window_fine w) → T (window_fine v)
    → NoNanAt edition surface altitude azimuth (sectors_of l) (window_objects_of w) → NoNanAt edition surface altitude azimuth (sectors_of m) (window_objects_of v)
    → PlaceByPlace (SectorShadesNoLess nothing) (sectors_of l) (sectors_of m) → PlaceByPlace (WindowShadesNoLess nothing) (window_objects_of w) (window_objects_of v)
    → NoLargerAnswer (shading_factor edition surface altitude azimuth (sectors_of l) (window_objects_of w)) (shading_factor edition surface altitude azimuth (sectors_of m) (window_objects_of v))
sizes_accepted edition surface altitude azimuth l m w v t d r fm fw fv x y p q =
    sizes_at_one_step edition surface altitude azimuth (sectors_of l) (sectors_of m) (window_objects_of w) (window_objects_of v)
    (accepted_surface surface t d) (accepted_near w fw) (accepted_near v fv) x y
    (sectors_asked edition surface t altitude azimuth r m fm p) (window_asked edition surface t altitude azimuth r w fw q)

pub sizes_in_calls : SizesInCalls
unfolding factor_call NoLargerAnswer
sizes_in_calls edition altitude azimuth surface l m w v d e x y p q = go (edition_fine edition)
  where
    listed : (b c : Bool) → b ≡ c → sectors_fine l && window_fine w ≡ b → sectors_fine m && window_fine v ≡ c → T (sun_fine altitude azimuth && surface_fine surface)
        → NoLargerAnswer (cond b (shading_factor edition surface altitude azimuth (sectors_of l) (window_objects_of w)) (Err refusal.Object))
        (cond c (shading_factor edition surface altitude azimuth (sectors_of m) (window_objects_of v)) (Err refusal.Object))
    listed false false e i j t = refl
    listed true false e i j t = absurd (subst T e tt)
    listed false true e i j t = absurd (subst T (sym e) tt)
    listed true true e i j t =
        sizes_accepted edition surface altitude azimuth l m w v (and_r (sun_fine altitude azimuth) (surface_fine surface) t) d
        (altitude_range altitude azimuth (and_l (sun_fine altitude azimuth) (surface_fine surface) t))
        (and_l (sectors_fine m) (window_fine v) (rw j tt)) (and_r (sectors_fine l) (window_fine w) (rw i tt)) (and_r (sectors_fine m) (window_fine v) (rw j tt)) x y p q

    ranged : (b : Bool) → sun_fine altitude azimuth && surface_fine surface ≡ b
        → NoLargerAnswer (cond b (cond (sectors_fine l && window_fine w) (shading_factor edition surface altitude azimuth (sectors_of l) (window_objects_of w)) (Err refusal.Object)) (Err refusal.Surface))
        (cond b (cond (sectors_fine m && window_fine v) (shading_factor edition surface altitude azimuth (sectors_of m) (window_objects_of v)) (Err refusal.Object)) (Err refusal.Surface))
    ranged false k = refl
    ranged true k = listed (sectors_fine l && window_fine w) (sectors_fine m && window_fine v) e refl refl (rw k tt)

    go : (b : Bool)
        → NoLargerAnswer (cond b (cond (sun_fine altitude azimuth && surface_fine surface) (cond (sectors_fine l && window_fine w) (shading_factor edition surface altitude azimuth (sectors_of l) (window_objects_of w)) (Err refusal.Object)) (Err refusal.Surface)) (Err refusal.Edition))
        (cond b (cond (sun_fine altitude azimuth && surface_fine surface) (cond (sectors_fine m && window_fine v) (shading_factor edition surface altitude azimuth (sectors_of m) (window_objects_of v)) (Err refusal.Object)) (Err refusal.Surface)) (Err refusal.Edition))
    go false = refl
    go true = ranged (sun_fine altitude azimuth && surface_fine surface) refl
