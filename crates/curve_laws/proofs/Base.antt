-- A curve as a ring modulo an ideal, and its fractions as those of that ring.
use Rattle.std.proofs.Common.{◌≡◌, ℕ, zero, suc, ◌<◌, List, refl, sym, ap, ap₂, subst}
use Rattle.prime_field.proofs.Table.{above_one}
use Rattle.comm_ring.specs.Ring.{Ops, CommRing, pow}
use Rattle.comm_ring.specs.Ideals as Ideals
use Rattle.comm_ring.proofs.Ideals as IdealLaws
use Rattle.fraction_laws.specs.Fractions as Fr
use Rattle.fraction_laws.specs.Curves.{curve_ops}
use Rattle.fraction_laws.proofs.CurveLaws as CurveLaws
use Rattle.polys.specs.declared.term.Term.{Term}
use Rattle.polys.specs.Terms.{IsPoly, sub, mul, power}
use Rattle.polys.specs.Ideal.{InIdeal}
use Rattle.polys.specs.Curve.{CurveData}
use Rattle.polys.specs.Ring.{Member}
use Rattle.curve_model.specs.Fraction.{Fraction, IsFraction, AreEqual, denominator_power}
use Rattle.curve_model.specs.Laws.{IsRegular}
use Rattle.curve_laws.proofs.Members.{R, ideal_from, ideal_to}
use Rattle.ideal_laws.proofs.Members.{lift}

module _ (A : CurveData) (c : IsRegular A) where
  abbrev pub p : ℕ
  p = A.prime

  abbrev pub n : ℕ
  n = A.variables

  pub high : 1 < A.prime
  high = above_one A.prime c.prime

  abbrev pub Ring : CommRing
  Ring = R A.prime A.variables high

  abbrev pub Poly : Type 0
  Poly = Member A.prime A.variables

  abbrev pub I : List Poly
  I = lift A.prime A.variables A.ideal c.ideal

  abbrev pub d : Poly
  d = record { terms = A.denominator; is_poly = c.denominator }

  -- the ring modulo I
  abbrev pub Q : Ops
  Q = curve_ops Ring.ops I

  abbrev pub Curve : CommRing
  Curve = CurveLaws.curve Ring I

  -- a polynomial as a member
  abbrev pub member : (f : List Term) → IsPoly A.prime A.variables f → Poly
  member f h = record { terms = f; is_poly = h }

  -- powers modulo I are powers
  pub pow-curve : (x : Poly) (k : ℕ) → (pow Q x k).terms ≡ power A.prime x.terms k
  unfolding pow
  pow-curve x zero = refl
  pow-curve x (suc k) = ap (mul A.prime x.terms) (pow-curve x k)

  pub pow_d : (k : ℕ) → (pow Q d k).terms ≡ denominator_power A k
  pow_d k = pow-curve d k

  -- equal modulo I
  pub same_down : (x y : Poly) → Q.◌≈◌ x y → InIdeal A.prime A.variables A.ideal (sub A.prime x.terms y.terms)
  same_down x y e = ideal_to A.prime A.variables high A.ideal c.ideal (Ring.◌⊕◌ x (Ring.neg y)) e

  pub same_up : (x y : Poly) → InIdeal A.prime A.variables A.ideal (sub A.prime x.terms y.terms) → Q.◌≈◌ x y
  same_up x y e = ideal_from A.prime A.variables high A.ideal c.ideal (Ring.◌⊕◌ x (Ring.neg y)) e

  -- equal polynomials are equal modulo I
  pub of_terms : (x y : Poly) → x.terms ≡ y.terms → Q.◌≈◌ x y
  of_terms x y e = IdealLaws.equal_modulo Ring (Ideals.InIdeal Ring.ops I) (IdealLaws.ideal_of_list Ring I) x y e

  module _ (f g : Fraction) (a : IsFraction A f) (b : IsFraction A g) where
    left : (Q.◌⊗◌ (member f.numerator a) (pow Q d g.exponent)).terms ≡ mul A.prime f.numerator (denominator_power A g.exponent)
    left = ap (mul A.prime f.numerator) (pow_d g.exponent)

    right : (Q.◌⊗◌ (member g.numerator b) (pow Q d f.exponent)).terms ≡ mul A.prime g.numerator (denominator_power A f.exponent)
    right = ap (mul A.prime g.numerator) (pow_d f.exponent)

    pub equal_up : AreEqual A f g → Fr.Equal Q d (member f.numerator a) f.exponent (member g.numerator b) g.exponent
    equal_up e = same_up (Q.◌⊗◌ (member f.numerator a) (pow Q d g.exponent)) (Q.◌⊗◌ (member g.numerator b) (pow Q d f.exponent))
        (subst (InIdeal A.prime A.variables A.ideal) (sym (ap₂ (sub A.prime) left right)) e)

    pub equal_down : Fr.Equal Q d (member f.numerator a) f.exponent (member g.numerator b) g.exponent → AreEqual A f g
    equal_down e = subst (InIdeal A.prime A.variables A.ideal) (ap₂ (sub A.prime) left right)
        (same_down (Q.◌⊗◌ (member f.numerator a) (pow Q d g.exponent)) (Q.◌⊗◌ (member g.numerator b) (pow Q d f.exponent)) e)
