-- Where d is regular, equal fractions are integral together and local together.
use Rattle.std.proofs.Common.{List}
use Rattle.comm_ring.specs.Ring.{pow}
use Rattle.fraction_laws.specs.Fractions as Fr
use Rattle.fraction_laws.specs.Curves.{RegularOver}
use Rattle.fraction_laws.proofs.Forms as Forms
use Rattle.fraction_laws.proofs.CurveLaws as CurveLaws
use Rattle.fraction_laws.proofs.WrittenOut.{integral_of_equal, local_of_equal}
use Rattle.fraction_laws.proofs.Translations.{local_in, local_out}
use Rattle.polys.specs.declared.term.Term.{Term}
use Rattle.polys.specs.Curve.{CurveData}
use Rattle.curve_model.specs.Fraction.{Fraction, IsFraction, AreEqual}
use Rattle.curve_model.specs.Integral.{Integral}
use Rattle.curve_model.specs.Local.{Local}
use Rattle.curve_model.specs.Laws.{IsRegular, ArePolys, EqualFractionsAgree}
use Rattle.curve_laws.proofs.Members.{ideal_from, ideal_to}
use Rattle.ideal_laws.proofs.Members.{lift}
use Rattle.curve_laws.proofs.Chains.{flip}
use Rattle.curve_laws.proofs.Base.{high, Ring, Poly, I, d, Q, Curve, member, equal_up, equal_down}
use Rattle.curve_laws.proofs.Equations.{integral_up, integral_down}
use Rattle.curve_laws.proofs.Locals.{local_up, local_down}

module _ (A : CurveData) (c : IsRegular A) where
  pub regular : RegularOver (Ring A c).ops (I A c) (d A c)
  regular x h = ideal_from A.prime A.variables (high A c) A.ideal c.ideal x
      (c.regular x.terms x.is_poly (ideal_to A.prime A.variables (high A c) A.ideal c.ideal ((Ring A c).◌⊗◌ (d A c) x) h))

  abbrev pub regular_curve : Fr.Regular (Q A c) (d A c)
  regular_curve = CurveLaws.regular_of_curve (Ring A c) (I A c) (d A c) regular

  module _ (f g : Fraction) (a : IsFraction A f) (b : IsFraction A g) (e : AreEqual A f g) where
    abbrev x : Poly A c
    x = member A c f.numerator a

    abbrev y : Poly A c
    y = member A c g.numerator b

    integral : Integral A f → Integral A g
    integral w = integral_down A c g b (integral_of_equal (Curve A c) (d A c) regular_curve x y f.exponent g.exponent (equal_up A c f g a b e) (integral_up A c f a w))

    local : (P : List (List Term)) → ArePolys A P → Local A P f → Local A P g
    local P q w = local_down A c P q g b (local_out (Curve A c) (d A c) (lift A.prime A.variables P q) y g.exponent
        (local_of_equal (Curve A c) (d A c) regular_curve (Forms.Mem (Q A c) (d A c) (lift A.prime A.variables P q)) x y f.exponent g.exponent (equal_up A c f g a b e)
        (local_in (Curve A c) (d A c) (lift A.prime A.variables P q) x f.exponent (local_up A c P q f a w))))

  pub turn_equal : (f g : Fraction) → IsFraction A f → IsFraction A g → AreEqual A f g → AreEqual A g f
  turn_equal f g a b e = equal_down A c g f b a (flip (Curve A c)
      ((Q A c).◌⊗◌ (member A c f.numerator a) (pow (Q A c) (d A c) g.exponent)) ((Q A c).◌⊗◌ (member A c g.numerator b) (pow (Q A c) (d A c) f.exponent)) (equal_up A c f g a b e))

pub equal_law : EqualFractionsAgree
equal_law A c f g a b e = (
  (integral A c f g a b e, integral A c g f b a (turn_equal A c f g a b e)),
  λ P q. (local A c f g a b e P q, local A c g f b a (turn_equal A c f g a b e) P q),
)
