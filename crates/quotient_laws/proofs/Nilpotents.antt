-- The radical of a ring of fractions at a point, by the nilpotent elements of its quotient.
use Rattle.std.proofs.Common.{◌≡◌, ◌↔◌, ℕ, zero, suc, ◌%◌, List, All, refl, sym, ap, ◌∙◌, subst, arith}
use Rattle.comm_ring.specs.Ring.{CommRing, pow}
use Rattle.comm_ring.proofs.Derived as Derived
use Rattle.comm_ring.proofs.Residues.{residues}
use Rattle.comm_ring.proofs.Rows.{row_module, row-entry}
use Rattle.polys.specs.declared.term.Term.{Term}
use Rattle.polys.specs.Terms.{one}
use Rattle.polys.specs.Curve.{CurveData}
use Rattle.curve_model.specs.Fraction.{Fraction, IsFraction, InA, over, product_of}
use Rattle.curve_model.specs.Closure.{InModule}
use Rattle.curve_model.specs.Laws.{IsFinite, ArePolys}
use Rattle.curve_model.specs.Rings.{IsFractionRing, InRadical}
use Rattle.finite_algebra.specs.Elements.{FiniteAlgebra, IsAlgebra, IsElement, times, ring_of, IsNilpotent}
use Rattle.finite_algebra.proofs.Totals.{linear-origin}
use Rattle.finite_algebra.proofs.Units.{along, along_linear}
use Rattle.finite_algebra.proofs.Products.{pow_fits}
use Rattle.curve_laws.proofs.Chains.{chain, flip, mul_both}
use Rattle.curve_laws.proofs.StatedLaws.{product_poly}
use Rattle.curve_laws.proofs.DescentLaws.{radical_up, radical_down}
use Rattle.chain_laws.proofs.ChainLaws.{one_poly}
use Rattle.quotient_laws.specs.Quotients.{fraction_of, DifferByProducts, IsQuotientAt, NilpotentsAreRadical}
use Rattle.quotient_laws.proofs.FractionQuotients.{N, inside}
use Rattle.quotient_laws.proofs.Quotients.{Quotient, F, M, at, inner, fraction_poly, member_in, worth_inner, differ_up, product_inside, one_inside, none_down, none_up, none_from, positive}

module _ (A : CurveData) (c : IsFinite A) (P : List (List Term)) (p : ArePolys A P) (K : ℕ) (L : List (List Term)) (l : ArePolys A L)
    (r : IsFractionRing A (InModule A K L)) (holds : (f : Fraction) → IsFraction A f → InA A f → InModule A K L f) (k : ℕ)
    (n : ℕ) (one_row : List ℕ) (table : List (List ℕ)) (us : List (List Term)) where
  abbrev a : FiniteAlgebra
  a = record { prime = A.prime; dimension = n; one = one_row; products = table }

  abbrev C : CommRing
  C = Quotient A c P p K L l r holds

  module _ (algebra : IsAlgebra a) (q : IsQuotientAt A P k (InModule A K L) (record { prime = A.prime; dimension = n; one = one_row; products = table }) us) where
    abbrev of : List ℕ → C.carrier
    of x = inner A c P p K L l r holds k us q.polys q.members x

    abbrev fraction : List ℕ → Fraction
    fraction x = fraction_of A k us x

    abbrev poly : (x : List ℕ) → IsFraction A (fraction_of A k us x)
    poly x = fraction_poly A c P p K L l r holds k us q.polys q.members x

    abbrev is_in : (x : List ℕ) → InModule A K L (fraction_of A k us x)
    is_in x = member_in A c P p K L l r holds k us q.polys q.members x

    one_is : C.◌≈◌ (of one_row) C.𝟙
    one_is =
        let v = inside A c P p K L l r holds (over one 0) (one_poly A c) r.one in
        chain C (of one_row) v C.𝟙 (flip C v (of one_row) (differ_up A c P p K L l r holds (over one 0) (fraction one_row) (one_poly A c) (poly one_row) r.one (is_in one_row) q.one))
        (one_inside A c P p K L l r holds)

    product_is : (x y : List ℕ) → IsElement a x → IsElement a y → C.◌≈◌ (C.◌⊗◌ (of x) (of y)) (of (times a x y))
    product_is x y hx hy =
        let v = inside A c P p K L l r holds (product_of A (fraction x) (fraction y)) (product_poly A c (fraction x) (fraction y) (poly x) (poly y)) (r.product (fraction x) (fraction y) (poly x) (poly y) (is_in x) (is_in y)) in
        chain C (C.◌⊗◌ (of x) (of y)) v (of (times a x y)) (product_inside A c P p K L l r holds (fraction x) (fraction y) (poly x) (poly y) (is_in x) (is_in y))
        (differ_up A c P p K L l r holds (product_of A (fraction x) (fraction y)) (fraction (times a x y)) (product_poly A c (fraction x) (fraction y) (poly x) (poly y)) (poly (times a x y))
        (r.product (fraction x) (fraction y) (poly x) (poly y) (is_in x) (is_in y)) (is_in (times a x y)) (q.product x y hx hy))

    power_is : (x : List ℕ) → IsElement a x → (m : ℕ) → C.◌≈◌ (pow C.ops (of x) m) (of (pow (ring_of a) x m))
    unfolding pow
    power_is x h zero = flip C (of one_row) C.𝟙 one_is
    power_is x h (suc m) =
        chain C (C.◌⊗◌ (of x) (pow C.ops (of x) m)) (C.◌⊗◌ (of x) (of (pow (ring_of a) x m))) (of (times a x (pow (ring_of a) x m)))
        (mul_both C (of x) (of x) (pow C.ops (of x) m) (of (pow (ring_of a) x m)) (C.rfl (of x)) (power_is x h m))
        (product_is x (pow (ring_of a) x m) h (pow_fits a (positive A c P p K L l r holds) algebra x m))

    first_power : (v : C.carrier) (m : ℕ) → (pow C.ops v m).0 ≡ pow (F A c P p K L l r holds).ops v.0 m
    unfolding pow
    first_power v zero = refl
    first_power v (suc m) = ap (λ z. (F A c P p K L l r holds).◌⊗◌ v.0 z) (first_power v m)

    module _ (f : Fraction) (h : IsFraction A f) (b : InModule A K L f) (x : List ℕ) (hx : IsElement a x)
        (w : DifferByProducts A P (InModule A K L) f (fraction_of A k us x)) where
      abbrev v : C.carrier
      v = inside A c P p K L l r holds f h b

      -- the powers of the fraction and of the element
      powers : (m : ℕ) → C.◌≈◌ (pow C.ops v m) (of (pow (ring_of a) x m))
      powers m = chain C (pow C.ops v m) (pow C.ops (of x) m) (of (pow (ring_of a) x m))
          (Derived.pow_cong C {x = v} {y = of x} m (differ_up A c P p K L l r holds f (fraction x) h (poly x) b (is_in x) w)) (power_is x hx m)

      into : InRadical A P (InModule A K L) f → IsNilpotent a x
      into s =
          let u = radical_up A c K L l P p f h s in
          let m = u.1.0 in
          let y = pow (ring_of a) x m in
          let e : C.◌≈◌ (of y) C.𝟘 = chain C (of y) (pow C.ops v m) C.𝟘 (flip C (pow C.ops v m) (of y) (powers m))
          (none_up A c P p K L l r holds (pow C.ops v m) (subst (N A c P p K L l r holds) (sym (first_power v m)) u.1.1)) in
          let zeros : All (λ t. t ≡ 0) y = q.zero y (pow_fits a (positive A c P p K L l r holds) algebra x m) (none_down A c P p K L l r holds (fraction y) (poly y) (is_in y) e) in
          (m, λ i g. ap (λ t. t % A.prime) (zeros i 0 (let fit = (pow_fits a (positive A c P p K L l r holds) algebra x m).0 in omega arith) ∙ sym (row-entry n (λ _. 0) i g)))

      out : IsNilpotent a x → InRadical A P (InModule A K L) f
      out z =
          let m = z.0 in
          let y = pow (ring_of a) x m in
          let R = residues A.prime (positive A c P p K L l r holds) in
          let V = row_module A.prime (positive A c P p K L l r holds) n in
          let module_ = M A c P p K L l r holds k in
          let worth : List ℕ → C.carrier = along A.prime (positive A c P p K L l r holds) n module_ (at A c P p K L l r holds k us q.polys q.members) in
          let linear = along_linear A.prime (positive A c P p K L l r holds) n module_ (at A c P p K L l r holds k us q.polys q.members) in
          let e : C.◌≈◌ (of y) C.𝟘 = chain C (of y) (worth y) C.𝟘 (flip C (worth y) (of y) (worth_inner A c P p K L l r holds k us q.polys q.members n q.count y))
          (chain C (worth y) (worth V.origin) C.𝟘 (linear.resp y V.origin z.1) (linear-origin R V module_ worth linear)) in
          let g : C.◌≈◌ (pow C.ops v m) C.𝟘 = chain C (pow C.ops v m) (of y) C.𝟘 (powers m) e in
          radical_down A c K L l P p f h (v.1, (m, subst (N A c P p K L l r holds) (first_power v m) (none_from A c P p K L l r holds (pow C.ops v m) g)))

pub nilpotent_law : NilpotentsAreRadical
nilpotent_law A c P p K L l r holds k a us algebra q f h b x hx w =
    law a.prime q.prime algebra q hx
  where
    with_prime : ℕ → FiniteAlgebra
    with_prime e = record { prime = e; dimension = a.dimension; one = a.one; products = a.products }

    law : (e : ℕ) → e ≡ A.prime → IsAlgebra (with_prime e) → IsQuotientAt A P k (InModule A K L) (with_prime e) us → IsElement (with_prime e) x
        → InRadical A P (InModule A K L) f ↔ IsNilpotent (with_prime e) x
    law e path = subst (λ e. IsAlgebra (with_prime e) → IsQuotientAt A P k (InModule A K L) (with_prime e) us → IsElement (with_prime e) x → InRadical A P (InModule A K L) f ↔ IsNilpotent (with_prime e) x) (sym path)
        (λ algebra q hx. (into A c P p K L l r holds k a.dimension a.one a.products us algebra q f h b x hx w, out A c P p K L l r holds k a.dimension a.one a.products us algebra q f h b x hx w))
