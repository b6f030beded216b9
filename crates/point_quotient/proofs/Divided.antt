-- The product of two numerators over d^k of a ring of fractions, divided by d^k.
use Rattle.std.proofs.Common.{◌≡◌, ℕ, suc, ◌+◌, ◌-◌, ◌*◌, ◌≤◌, List, ◌++◌, length, take, drop, replicate, refl, sym, ap, ◌∙◌, subst, arith}
use Rattle.std.proofs.lemmas.List.{length-replicate}
use Rattle.std.proofs.Math.Seq.{drop-append_seam}
use Rattle.polys.specs.declared.term.Term.{Term}
use Rattle.polys.specs.Terms.{IsPoly, sub, mul}
use Rattle.polys.specs.Curve.{CurveData, data_of}
use Rattle.polys.proofs.Affine.{poly_mul, positive}
use Rattle.ideal_laws.proofs.Ideals.{in_more}
use Rattle.row_space.specs.Subspace.{Subspace}
use Rattle.curve_model.specs.Fraction.{AreEqual, denominator_power, over, product_of}
use Rattle.curve_model.specs.OneExponent.{InPower}
use Rattle.curve_model.specs.Rings.{IsFractionRing}
use Rattle.curve_laws.proofs.Base.{high}
use Rattle.curve_laws.proofs.StatedLaws.{product_poly}
use Rattle.chain_laws.proofs.OneExponent.{eq_trans, one_equal_up}
use Rattle.digit_laws.specs.Digits.{AreDigits}
use Rattle.digit_laws.specs.Laws.{DigitsAreCoordinates}
use Rattle.digit_laws.proofs.DigitLaws.{digit_law}
use Rattle.digit_laws.proofs.Blocks.{block_law}
use Rattle.digit_space.specs.Model.{DigitData, IsDigitSpace, IsDigitsOf}
use Rattle.over_laws.specs.Over.{InOver, HasRows}
use Rattle.quotient_laws.specs.QuotientRows.{IsMemberRow}
use Rattle.quotient_laws.proofs.QuotientRows.{row_of}
use Rattle.over_module.specs.Raising.{behind_zeros}
use Rattle.over_module.proofs.DepthRows.{raise, raise_poly, raise_equal, raise_digits}
use Rattle.over_module.proofs.Facts.{finite}
use Rattle.point_quotient.proofs.Numerators.{here}

module _ (g : DigitData) (s : IsDigitSpace g) (n k : ℕ) (R : Subspace) (h : HasRows (here g s n k R)) (r : IsFractionRing (data_of g.curve) (InOver (here g s n k R)))
    (deep : k + suc k ≤ g.depth) where
  abbrev A : CurveData
  A = data_of g.curve

  abbrev N : ℕ
  N = length g.basis

  abbrev Good : List Term → Type 0
  Good f = IsPoly g.curve.prime g.curve.variables f

  -- the blocks behind the first k
  abbrev pub behind : List ℕ → List ℕ
  behind whole = take (N * suc k) (drop (N * k) whole)

  -- b over d^k is the product, and the row has the digits of b
  pub record IsQuotientRow (u v : List Term) (row : List ℕ) : Type 0 where
    pub numerator : List Term
    pub poly : IsPoly g.curve.prime g.curve.variables numerator
    pub equal : AreEqual (data_of g.curve) (product_of (data_of g.curve) (over u k) (over v k)) (over numerator k)
    pub digits : AreDigits (data_of g.curve) g.basis (suc k) numerator row
    pub member : IsMemberRow (here g s n k R) g.basis row

  pub divided_row : (u v : List Term) → Good u → Good v → InOver (here g s n k R) (over u k) → InOver (here g s n k R) (over v k) → (whole : List ℕ) → IsDigitsOf g (mul g.curve.prime u v) whole
      → IsQuotientRow u v (take (length g.basis * suc k) (drop (length g.basis * k) whole))
  divided_row u v hu hv iu iv whole d =
      let c = finite g s in
      let f = product_of A (over u k) (over v k) in
      let hf = product_poly A c (over u k) (over v k) hu hv in
      let m = row_of (here g s n k R) h g.basis s.corners f (r.product (over u k) (over v k) hu hv iu iv) in
      let b = m.numerator in
      let D = g.depth in
      let E = D - k in
      let laws : DigitsAreCoordinates A g.basis g.depth = digit_law A c g.basis s.corners g.depth in
      let low : DigitsAreCoordinates A g.basis E = digit_law A c g.basis s.corners E in
      let y = raise A k b in
      let hy = raise_poly A c k b m.poly in
      let t = low.exist b m.poly in
      let sum : g.depth ≡ k + E = omega arith in
      let high_digits : IsDigitsOf g y (behind_zeros (N * k) t.0) = raise_digits A c g.basis s.corners k E D (N * k) b t.0 m.poly sum refl t.1 in
      let same : AreEqual A f (over y (k + k)) = eq_trans A c f (over b k) (over y (k + k)) hf m.poly hy m.equal (raise_equal A c k k (k + k) b m.poly refl) in
      let hw = poly_mul g.curve.prime g.curve.variables u v (positive g.curve.prime (high A c.curve)) hu hv in
      let near : InPower A g.depth (sub g.curve.prime (mul g.curve.prime u v) y) = in_more g.curve.prime g.curve.variables (denominator_power A g.depth) A.ideal (sub g.curve.prime (mul g.curve.prime u v) y)
      (one_equal_up A c (k + k) (mul g.curve.prime u v) y hw hy same) in
      let is : whole ≡ behind_zeros (N * k) t.0 = laws.unique y whole (behind_zeros (N * k) t.0) hy (laws.same (mul g.curve.prime u v) y whole hw hy near d) high_digits in
      let cut : drop (N * k) whole ≡ t.0 = ap (drop (N * k)) is ∙ subst (λ z. drop z (replicate (N * k) 0 ++ t.0) ≡ t.0) (length-replicate {A = ℕ} (N * k) 0) (drop-append_seam (replicate (N * k) 0) t.0) in
      let front : AreDigits A g.basis (suc k) b (take (N * suc k) t.0) = (block_law A c g.basis s.corners).truncated (suc k) (E - suc k) b t.0 m.poly (let q : E ≡ suc k + (E - suc k) = omega arith in subst (λ z. AreDigits A g.basis z b t.0) q t.1) in
      let row : m.row ≡ take (N * suc k) (drop (N * k) whole) = (digit_law A c g.basis s.corners (suc k)).unique b m.row (take (N * suc k) t.0) m.poly m.digits front ∙ ap (take (N * suc k)) (sym cut) in
      record {
        numerator = b;
        poly = m.poly;
        equal = m.equal;
        digits = subst (AreDigits A g.basis (suc k) b) row m.digits;
        member = subst (IsMemberRow (here g s n k R) g.basis) row m.member;
      }
