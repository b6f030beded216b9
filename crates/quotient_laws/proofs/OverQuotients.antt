-- A ring of fractions by rows, modulo its products with a point, and its radical there.
use Rattle.std.proofs.Common.{◌↔◌, ℕ, suc, ◌*◌, List, [], length, subst}
use Rattle.std.proofs.lemmas.List.Elements.{All-contains}
use Rattle.comm_ring.specs.Ring.{CommRing}
use Rattle.monomials.specs.Mono.{Monomial}
use Rattle.polys.specs.declared.term.Term.{Term}
use Rattle.polys.specs.Terms.{IsPoly}
use Rattle.polys.specs.Curve.{CurveData, data_of}
use Rattle.row_space.specs.Echelon.{IsRow}
use Rattle.row_space.specs.Subspace.{Subspace, IsIn}
use Rattle.curve_model.specs.Fraction.{Fraction, IsFraction, AreEqual, InA, over, sum_of, product_of}
use Rattle.curve_model.specs.Closure.{InModule}
use Rattle.curve_model.specs.Laws.{IsFinite}
use Rattle.curve_model.specs.Rings.{IsFractionRing, IsProduct, no_product, one_more, InRadical}
use Rattle.curve_model.specs.Enlarging.{difference_of}
use Rattle.polys.proofs.Affine.{poly_none}
use Rattle.curve_laws.proofs.Base.{equal_down}
use Rattle.curve_laws.proofs.FitLaws.{fit_law}
use Rattle.curve_laws.proofs.StatedLaws.{frac, sum_poly, product_poly, sum-frac}
use Rattle.chain_laws.proofs.ChainLaws.{transfer}
use Rattle.chain_laws.proofs.OneExponent.{eq_refl, eq_sym, numbers_poly}
use Rattle.digit_laws.specs.Digits.{AreCornersOf, AreDigits, IsOfDigits}
use Rattle.digit_laws.proofs.Corners.{corners_law}
use Rattle.finite_algebra.specs.Elements.{FiniteAlgebra, IsAlgebra, IsElement, IsNilpotent}
use Rattle.over_laws.specs.Over.{OverData, InOver, InRows, HasRows}
use Rattle.over_laws.specs.Laws.{RowsAreModule}
use Rattle.over_laws.proofs.Rows.{rows_law}
use Rattle.quotient_laws.specs.Quotients.{fraction_of, DifferByProducts, IsQuotientAt}
use Rattle.quotient_laws.specs.ProductRows.{HoldsCurve, IsProductSpace}
use Rattle.quotient_laws.specs.QuotientRows.{AreMemberRows, AreQuotientRows}
use Rattle.quotient_laws.specs.OverQuotients.{HoldsProducts, ProductSpacesHoldProducts, QuotientRowsAreAlgebras, IsRadicalRow, RadicalsByRows}
use Rattle.quotient_laws.proofs.Quotients.{F, member_in, difference, difference_poly, quotient_law}
use Rattle.quotient_laws.proofs.Nilpotents.{nilpotent_law}
use Rattle.quotient_laws.proofs.ProductRows.{products_law}
use Rattle.quotient_laws.proofs.QuotientRows.{row_of, rows_differ, member_law, quotient_rows_law}
use Rattle.quotient_laws.proofs.Transport.{product_moved, radical_moved, span_moved, products_moved, quotient_moved}

module _ (o : OverData) (h : HasRows o) (r : IsFractionRing (data_of o.curve) (InOver o)) (ms : List Monomial) (corners : AreCornersOf (data_of o.curve) ms)
    (P : List (List Term)) (point : HoldsCurve (data_of o.curve) P) where
  abbrev A : CurveData
  A = data_of o.curve

  c : IsFinite (data_of o.curve)
  c = fit_law o.curve h.prime h.fit

  abbrev k : ℕ
  k = o.power

  abbrev B : Fraction → Type 0
  B = InOver o

  module_of : RowsAreModule o
  module_of = rows_law o h

  abbrev L : List (List Term)
  L = module_of.is_module.list

  abbrev M : Fraction → Type 0
  M = InModule A k L

  same : (f : Fraction) → IsFraction A f → B f ↔ M f
  same = module_of.is_module.same

  back : (f : Fraction) → IsFraction A f → M f ↔ B f
  back f hf = ((same f hf).1, (same f hf).0)

  ring_here : IsFractionRing A M
  ring_here = transfer A c B M same r

  holds : (f : Fraction) → IsFraction A f → InA A f → M f
  holds f hf w = (same f hf).0 (module_of.whole f hf w)

  space_holds : (vs : List (List Term)) (list : List (List ℕ)) → AreMemberRows o ms vs list → (space : Subspace) → IsProductSpace A ms (suc k) P vs space → HoldsProducts o ms P space
  space_holds vs list w space s = record {
    of_digits = s.of_digits;
    exact = λ f hf. let e = products_law A c ms corners P point k L module_of.is_module.polys ring_here holds k vs (span_moved A P B M same k vs (member_law o h ms corners vs list w)) space s f hf in
        (λ x. product_moved A P M B back f (e.0 x), λ z. e.1 (product_moved A P B M same f z));
  }

  -- sums of products are in the ring
  pub product_inside : (f : Fraction) → IsFraction A f → IsProduct A P B f → B f
  product_inside f hf (no_product _ h' e) = r.respects (over [] 0) f (poly_none A.prime A.variables) hf
      (eq_sym A c f (over [] 0) hf (poly_none A.prime A.variables) e) (module_of.whole (over [] 0) (poly_none A.prime A.variables) ([], poly_none A.prime A.variables, eq_refl A c (over [] 0) (poly_none A.prime A.variables)))
  product_inside f hf (one_more _ b g q h' hb hg cq bb z e) =
      let hq : IsPoly A.prime A.variables q = All-contains (IsPoly A.prime A.variables) P q point.polys cq in
      let m = product_of A (over q 0) b in
      let hm = product_poly A c (over q 0) b hq hb in
      r.respects (sum_of A m g) f (sum_poly A c m g hm hg) hf (eq_sym A c f (sum_of A m g) hf (sum_poly A c m g hm hg) e)
      (r.sum m g hm hg (r.product (over q 0) b hq hb (module_of.whole (over q 0) hq (q, hq, eq_refl A c (over q 0) hq)) bb) (product_inside g hg z))

  module _ (space : Subspace) (products : HoldsProducts o ms P space) (a : FiniteAlgebra) (us : List (List Term)) (list : List (List ℕ)) (w : AreQuotientRows o ms space a us list) where
    here : IsAlgebra a × IsQuotientAt A P k M a us
    here = quotient_law A c P point.polys k L module_of.is_module.polys ring_here holds k a us
        (products_moved A P B M same k a us (quotient_rows_law o h ms corners P space products.of_digits products.exact a us list w))

    algebra : IsAlgebra a × IsQuotientAt A P k B a us
    algebra = (here.0, quotient_moved A P M B back k a us here.1)

    nilpotent : (f : Fraction) → IsFraction A f → B f → (x : List ℕ) → IsElement a x → DifferByProducts A P B f (fraction_of A k us x) → InRadical A P M f ↔ IsNilpotent a x
    nilpotent f hf b x hx d = nilpotent_law A c P point.polys k L module_of.is_module.polys ring_here holds k a us here.0 here.1 f hf ((same f hf).0 b) x hx (product_moved A P B M same _ d)

    -- the fractions of the elements are in the ring
    fraction_in : (x : List ℕ) → IsFraction A (fraction_of A k us x)
    fraction_in x = numbers_poly A c k x us w.polys

    value_in : (x : List ℕ) → B (fraction_of A k us x)
    value_in x = (same (fraction_of A k us x) (fraction_in x)).1 (member_in A c P point.polys k L module_of.is_module.polys ring_here holds k us here.1.polys here.1.members x)

    plus_difference : (f g : Fraction) (hf : IsFraction A f) (hg : IsFraction A g) → AreEqual A (sum_of A (difference_of A f g) g) f
    plus_difference f g hf hg =
        let R = F A c P point.polys k L module_of.is_module.polys ring_here holds in
        let d = difference_of A f g in
        let hd = difference_poly A c P point.polys k L module_of.is_module.polys ring_here holds f g hf hg in
        equal_down A c.curve (sum_of A d g) f (sum_poly A c d g hd hg) hf
        (subst (λ x. R.◌≈◌ x (frac A c f hf)) (sum-frac A c d g hd hg)
        (subst (λ x. R.◌≈◌ (R.◌⊕◌ x (frac A c g hg)) (frac A c f hf)) (difference A c P point.polys k L module_of.is_module.polys ring_here holds f g hf hg)
        (restored R (frac A c f hf) (frac A c g hg))))
      where
        restored : (C : CommRing) (x y : C.carrier) → C.◌≈◌ (C.◌⊕◌ (C.◌⊕◌ x (C.neg y)) y) x
        restored C x y = C.trans (C.add_assoc x (C.neg y) y) (C.trans (C.add_cong (C.rfl x) (C.trans (C.add_comm (C.neg y) y) (C.add_neg y))) (C.add_zero x))

    module _ (radical : Subspace) (d : IsOfDigits A ms (suc k) radical)
        (rows_of : (row : List ℕ) → IsRow A.prime (length ms * suc k) row → IsIn radical row ↔ IsRadicalRow o ms space a list row) where
      into : (f : Fraction) → IsFraction A f → InRows A k (suc k) radical f → InRadical A P B f
      into f hf x =
          let b = x.numerator in
          let row = x.inside.0 in
          let digits : AreDigits A ms (suc k) b row = subst (λ z. AreDigits A z (suc k) b row) (corners_law A c x.corners ms x.known corners) x.inside.1 in
          let e = (rows_of row digits.fits).0 x.inside.2 in
          let g = fraction_of A k us e.element in
          let hg = fraction_in e.element in
          let near : DifferByProducts A P B f g = rows_differ o h ms corners P space products.of_digits products.exact a us list w f hf b x.poly x.equal row digits e.element e.near in
          let hd = difference_poly A c P point.polys k L module_of.is_module.polys ring_here holds f g hf hg in
          let inside : B f = r.respects (sum_of A (difference_of A f g) g) f (sum_poly A c (difference_of A f g) g hd hg) hf (plus_difference f g hf hg)
          (r.sum (difference_of A f g) g hd hg (product_inside (difference_of A f g) hd near) (value_in e.element)) in
          radical_moved A P M B back f hf ((nilpotent f hf inside e.element e.fits near).1 e.nilpotent)

      out : (f : Fraction) → IsFraction A f → InRadical A P B f → InRows A k (suc k) radical f
      out f hf s =
          let b : B f = s.0 in
          let m = row_of o h ms corners f b in
          let t = w.onto m.row m.member in
          let near = rows_differ o h ms corners P space products.of_digits products.exact a us list w f hf m.numerator m.poly m.equal m.row m.digits t.0 t.2 in
          record {
            corners = ms;
            known = corners;
            numerator = m.numerator;
            poly = m.poly;
            inside = (m.row, m.digits, (rows_of m.row m.digits.fits).1 (record { element = t.0; fits = t.1; nilpotent = (nilpotent f hf b t.0 t.1 near).0 (radical_moved A P B M same f hf s); near = t.2 }));
            equal = m.equal;
          }

pub space_law : ProductSpacesHoldProducts
space_law o h r ms corners P point vs list w space s = space_holds o h r ms corners P point vs list w space s

pub algebra_law : QuotientRowsAreAlgebras
algebra_law o h r ms corners P point space products a us list w = algebra o h r ms corners P point space products a us list w

pub radical_law : RadicalsByRows
radical_law o h r ms corners P point space products a us list w radical d rows_of f hf =
    (into o h r ms corners P point space products a us list w radical d rows_of f hf, out o h r ms corners P point space products a us list w radical d rows_of f hf)
