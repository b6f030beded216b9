-- The fractions that are local at a list of points are a ring.
use Rattle.std.proofs.Common.{List, All, subst}
use Rattle.fraction_laws.specs.Fractions as Fr
use Rattle.point_laws.specs.Points as Pt
use Rattle.polys.specs.declared.term.Term.{Term}
use Rattle.polys.specs.Curve.{CurveData}
use Rattle.curve_model.specs.Fraction.{sum_of, product_of}
use Rattle.curve_model.specs.Local.{LocalAt}
use Rattle.curve_model.specs.Laws.{IsFinite, ArePolys}
use Rattle.curve_model.specs.Rings.{IsFractionRing, LocalAtIsRing}
use Rattle.curve_laws.proofs.Base.{d, Q, equal_up}
use Rattle.curve_laws.proofs.Scalars.{point_laws}
use Rattle.curve_laws.proofs.StatedLaws.{frac, sum_poly, product_poly, sum-frac, product-frac}
use Rattle.curve_laws.proofs.SplitLaws.{Frac, unfrac}
use Rattle.curve_laws.proofs.ManyPoints.{lift_all, local_at_up, local_at_down}

module _ (A : CurveData) (c : IsFinite A) (S : List (List (List Term))) (q : All (ArePolys A) S) where
  abbrev W : Frac A c → Type 0
  W x = Pt.LocalAt (Q A c.curve) (d A c.curve) (lift_all A c S q) x.0 x.1

  abbrev One : Frac A c
  One = (Fr.fraction_ops (Q A c.curve) (d A c.curve)).𝟙

  abbrev minus : Frac A c → Frac A c
  minus = (Fr.fraction_ops (Q A c.curve) (d A c.curve)).neg

  ring_above : Fr.IsFractionRing (Q A c.curve) (d A c.curve) W
  ring_above = (point_laws A c).rings.0 (lift_all A c S q)

  ring : IsFractionRing A (LocalAt A S)
  ring = record {
    respects = λ f g hf hg e h. local_at_down A c S q g hg (ring_above.resp (frac A c f hf) (frac A c g hg) (equal_up A c.curve f g hf hg e) (local_at_up A c S q f hf h));
    one = local_at_down A c S q (unfrac A c One) One.0.is_poly ring_above.one;
    sum = λ f g hf hg h k. local_at_down A c S q (sum_of A f g) (sum_poly A c f g hf hg)
        (subst W (sum-frac A c f g hf hg) (ring_above.add (frac A c f hf) (frac A c g hg) (local_at_up A c S q f hf h) (local_at_up A c S q g hg k)));
    product = λ f g hf hg h k. local_at_down A c S q (product_of A f g) (product_poly A c f g hf hg)
        (subst W (product-frac A c f g hf hg) (ring_above.mul (frac A c f hf) (frac A c g hg) (local_at_up A c S q f hf h) (local_at_up A c S q g hg k)));
    negative = λ f hf h. local_at_down A c S q (unfrac A c (minus (frac A c f hf))) (minus (frac A c f hf)).0.is_poly (ring_above.neg (frac A c f hf) (local_at_up A c S q f hf h));
  }

pub local_ring_law : LocalAtIsRing
local_ring_law A c S q = ring A c S q
