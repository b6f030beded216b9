-- The laws of integral fractions at polynomials.
use Rattle.std.proofs.Common.{◌≡◌, ◌↔◌, ℕ, ◌+◌, ◌*◌, List, refl, sym, ap, ap₂, subst}
use Rattle.std.specs.List.{Contains}
use Rattle.comm_ring.specs.Ring.{pow}
use Rattle.fraction_laws.specs.Fractions as Fr
use Rattle.polys.specs.declared.term.Term.{Term}
use Rattle.polys.specs.Terms.{IsPoly, add, mul, power}
use Rattle.polys.specs.Curve.{CurveData}
use Rattle.polys.proofs.Affine.{poly_add, poly_mul, poly_power, positive}
use Rattle.curve_model.specs.Fraction.{Fraction, IsFraction, EqualsOver, over, sum_of, product_of, denominator_power}
use Rattle.curve_model.specs.Integral.{Integral}
use Rattle.curve_model.specs.Laws.{IsFinite, ArePolys, power_of, OnePowerServes, AreClosed, FractionsAreClosed}
use Rattle.ideal_laws.proofs.Members.{lift}
use Rattle.curve_laws.proofs.Facts.{same_member}
use Rattle.curve_laws.proofs.Base.{high, Poly, d, Q, member, pow-curve, pow_d, equal_up, equal_down}
use Rattle.curve_laws.proofs.Equations.{integral_up, integral_down}
use Rattle.curve_laws.proofs.Locals.{local_up, local_down}
use Rattle.curve_laws.proofs.Scalars.{laws}

module _ (A : CurveData) (c : IsFinite A) where
  -- a fraction of the ring modulo I
  abbrev pub frac : (f : Fraction) → IsFraction A f → Fr.Frac (Q A c.curve) (d A c.curve)
  frac f h = (member A c.curve f.numerator h, f.exponent)

  pub power_poly : (k : ℕ) → IsPoly A.prime A.variables (denominator_power A k)
  power_poly k = poly_power A.prime A.variables A.denominator k (high A c.curve) c.curve.denominator

  pub sum_poly : (f g : Fraction) → IsFraction A f → IsFraction A g → IsFraction A (sum_of A f g)
  sum_poly f g a b = poly_add A.prime A.variables _ _ (positive A.prime (high A c.curve))
      (poly_mul A.prime A.variables f.numerator (denominator_power A g.exponent) (positive A.prime (high A c.curve)) a (power_poly g.exponent))
      (poly_mul A.prime A.variables g.numerator (denominator_power A f.exponent) (positive A.prime (high A c.curve)) b (power_poly f.exponent))

  pub product_poly : (f g : Fraction) → IsFraction A f → IsFraction A g → IsFraction A (product_of A f g)
  product_poly f g a b = poly_mul A.prime A.variables f.numerator g.numerator (positive A.prime (high A c.curve)) a b

  pub sum-frac : (f g : Fraction) (a : IsFraction A f) (b : IsFraction A g) → (Fr.fraction_ops (Q A c.curve) (d A c.curve)).◌⊕◌ (frac f a) (frac g b) ≡ frac (sum_of A f g) (sum_poly f g a b)
  sum-frac f g a b = ap (λ z. (z, f.exponent + g.exponent))
      (same_member ((Fr.fraction_ops (Q A c.curve) (d A c.curve)).◌⊕◌ (frac f a) (frac g b)).0 (member A c.curve (sum_of A f g).numerator (sum_poly f g a b))
      (ap₂ (add A.prime) (ap (mul A.prime f.numerator) (pow_d A c.curve g.exponent)) (ap (mul A.prime g.numerator) (pow_d A c.curve f.exponent))))

  pub product-frac : (f g : Fraction) (a : IsFraction A f) (b : IsFraction A g) → (Fr.fraction_ops (Q A c.curve) (d A c.curve)).◌⊗◌ (frac f a) (frac g b) ≡ frac (product_of A f g) (product_poly f g a b)
  product-frac f g a b = ap (λ z. (z, f.exponent + g.exponent))
      (same_member ((Fr.fraction_ops (Q A c.curve) (d A c.curve)).◌⊗◌ (frac f a) (frac g b)).0 (member A c.curve (product_of A f g).numerator (product_poly f g a b)) refl)

  abbrev Up : Fr.Frac (Q A c.curve) (d A c.curve) → Type 0
  Up x = Fr.IntegralAt (Q A c.curve) (d A c.curve) x.0 x.1

  abbrev UpLocal : (P : List (List Term)) → ArePolys A P → Fr.Frac (Q A c.curve) (d A c.curve) → Type 0
  UpLocal P a x = Fr.LocalTo (Q A c.curve) (d A c.curve) (Contains (lift A.prime A.variables P a)) x.0 x.1

  closed : AreClosed A
  closed = record {
    integral = record {
      sum = λ f g a b h k. integral_down A c.curve (sum_of A f g) (sum_poly f g a b)
          (subst Up (sum-frac f g a b) ((laws A c).closed.0 (frac f a) (frac g b) (integral_up A c.curve f a h) (integral_up A c.curve g b k)).0);
      product = λ f g a b h k. integral_down A c.curve (product_of A f g) (product_poly f g a b)
          (subst Up (product-frac f g a b) ((laws A c).closed.0 (frac f a) (frac g b) (integral_up A c.curve f a h) (integral_up A c.curve g b k)).1);
    };
    local = λ P q. record {
      sum = λ f g a b h k. local_down A c.curve P q (sum_of A f g) (sum_poly f g a b)
          (subst (UpLocal P q) (sum-frac f g a b) ((laws A c).closed.1 (lift A.prime A.variables P q) (frac f a) (frac g b) (local_up A c.curve P q f a h) (local_up A c.curve P q g b k)).0);
      product = λ f g a b h k. local_down A c.curve P q (product_of A f g) (product_poly f g a b)
          (subst (UpLocal P q) (product-frac f g a b) ((laws A c).closed.1 (lift A.prime A.variables P q) (frac f a) (frac g b) (local_up A c.curve P q f a h) (local_up A c.curve P q g b k)).1);
    };
  }

  pub equals_up : (K : ℕ) (f : Fraction) (a : IsFraction A f) → EqualsOver A K f → (b : Poly A c.curve) × Fr.Equal (Q A c.curve) (d A c.curve) (member A c.curve f.numerator a) f.exponent b K
  equals_up K f a w = (member A c.curve w.0 w.1, equal_up A c.curve f (over w.0 K) a w.1 w.2)

  pub equals_down : (K : ℕ) (f : Fraction) (a : IsFraction A f) → (b : Poly A c.curve) × Fr.Equal (Q A c.curve) (d A c.curve) (member A c.curve f.numerator a) f.exponent b K → EqualsOver A K f
  equals_down K f a w = (w.0.terms, w.0.is_poly, equal_down A c.curve f (over w.0.terms K) a w.0.is_poly w.1)

  power-member : (f : Fraction) (a : IsFraction A f) (j : ℕ) → pow (Q A c.curve) (member A c.curve f.numerator a) j ≡ member A c.curve (power A.prime f.numerator j) (poly_power A.prime A.variables f.numerator j (high A c.curve) a)
  power-member f a j = same_member (pow (Q A c.curve) (member A c.curve f.numerator a) j) (member A c.curve (power A.prime f.numerator j) (poly_power A.prime A.variables f.numerator j (high A c.curve) a)) (pow-curve A c.curve (member A c.curve f.numerator a) j)

  abbrev Over : Fraction → ℕ → ℕ → Poly A c.curve → Type 0
  Over f j K z = (b : Poly A c.curve) × Fr.Equal (Q A c.curve) (d A c.curve) z (f.exponent * j) b K

  serves : (f : Fraction) → IsFraction A f → Integral A f ↔ ((K : ℕ) × ((j : ℕ) → EqualsOver A K (power_of A f j)))
  serves f a = (
    (λ w. let s = ((laws A c).serves (member A c.curve f.numerator a) f.exponent).0 (integral_up A c.curve f a w) in
        (s.0, λ j. equals_down s.0 (power_of A f j) (poly_power A.prime A.variables f.numerator j (high A c.curve) a) (subst (Over f j s.0) (power-member f a j) (s.1 j)))),
    λ w. integral_down A c.curve f a (((laws A c).serves (member A c.curve f.numerator a) f.exponent).1
        (w.0, λ j. subst (Over f j w.0) (sym (power-member f a j)) (equals_up w.0 (power_of A f j) (poly_power A.prime A.variables f.numerator j (high A c.curve) a) (w.1 j)))),
  )

pub serves_law : OnePowerServes
serves_law A c f a = serves A c f a

pub closed_law : FractionsAreClosed
closed_law A c = closed A c
