-- A ring of fractions modulo its products with a list of polynomials, as a ring.
use Rattle.std.proofs.Common.{ℕ, List, [], sym, ap, ◌∙◌, subst}
use Rattle.std.specs.List.{Contains}
use Rattle.std.proofs.lemmas.List.Elements.{All-contains}
use Rattle.comm_ring.specs.Ring.{CommRing, IsRingMap}
use Rattle.comm_ring.specs.Residues.{residue_ops}
use Rattle.comm_ring.specs.Ideals as Ideals
use Rattle.comm_ring.proofs.Ideals as IdealLaws
use Rattle.fraction_laws.specs.Fractions as Fr
use Rattle.fraction_laws.proofs.Basic.{gen_module}
use Rattle.fraction_laws.proofs.Settings.{IsRing, IsModule}
use Rattle.fraction_laws.proofs.Independence as Independence
use Rattle.fraction_laws.proofs.WrittenOut.{em_whole}
use Rattle.polys.specs.declared.term.Term.{Term}
use Rattle.polys.specs.Terms.{IsPoly}
use Rattle.polys.specs.Curve.{CurveData}
use Rattle.curve_model.specs.Fraction.{Fraction, IsFraction, InA, over, sum_of, product_of}
use Rattle.curve_model.specs.Closure.{InModule}
use Rattle.curve_model.specs.Laws.{IsFinite, ArePolys}
use Rattle.curve_model.specs.Rings.{IsFractionRing, IsProduct, no_product, one_more}
use Rattle.ideal_laws.proofs.Members.{terms-lift}
use Rattle.curve_laws.proofs.Facts.{contains_terms, contains_member}
use Rattle.curve_laws.proofs.Chains.{chain, add_both, mul_both}
use Rattle.curve_laws.proofs.Base.{Ring, Poly, d, Q, Curve, member, equal_up, equal_down}
use Rattle.curve_laws.proofs.Regulars.{regular_curve}
use Rattle.curve_laws.proofs.Scalars.{scalar}
use Rattle.curve_laws.proofs.StatedLaws.{frac, sum_poly, product_poly, sum-frac, product-frac}
use Rattle.curve_laws.proofs.SplitLaws.{Frac, unfrac, in_down}
use Rattle.curve_laws.proofs.DeltaLaws.{scal, curve_map}
use Rattle.curve_laws.proofs.DescentLaws.{Frs, B', P', Products, module_up, module_down, ring_up}
use Rattle.quotient_laws.proofs.Subquotients.{subring, subquotient, ideal}

module _ (A : CurveData) (c : IsFinite A) (P : List (List Term)) (a : ArePolys A P) (K : ℕ) (L : List (List Term)) (l : ArePolys A L)
    (r : IsFractionRing A (InModule A K L)) (holds : (f : Fraction) → IsFraction A f → InA A f → InModule A K L f) where
  abbrev B : Fraction → Type 0
  B = InModule A K L

  abbrev pub Up : Frac A c → Type 0
  Up = B' A c K L l

  abbrev pub N : Frac A c → Type 0
  N = Products A c K L l P a

  pub product_up : (f : Fraction) (h : IsFraction A f) → IsProduct A P B f → N (frac A c f h)
  product_up _ h (no_product f hf e) = Ideals.no_product (frac A c f h) (equal_up A c.curve f (over [] 0) h (Ring A c.curve).𝟘.is_poly e)
  product_up _ h (one_more f b g q hf hb hg cq bb hy e) =
      let hq : IsPoly A.prime A.variables q = All-contains (IsPoly A.prime A.variables) P q a cq in
      let u : Frac A c = frac A c (over q 0) hq in
      Ideals.one_more (frac A c f h) u (frac A c b hb) (frac A c g hg)
      (member A c.curve q hq, contains_member (P' A c K L l P a) (member A c.curve q hq) (subst (λ z. Contains z q) (sym (terms-lift A.prime A.variables P a)) cq), (Frs A c).rfl u)
      (module_up A c K L l (frac A c b hb) bb)
      (product_up g hg hy)
      (subst (λ z. (Fr.fraction_ops (Q A c.curve) (d A c.curve)).◌≈◌ (frac A c f h) z)
      (sym (ap (λ z. (Fr.fraction_ops (Q A c.curve) (d A c.curve)).◌⊕◌ z (frac A c g hg)) (product-frac A c (over q 0) b hq hb) ∙ sum-frac A c (product_of A (over q 0) b) g (product_poly A c (over q 0) b hq hb) hg))
      (equal_up A c.curve f (sum_of A (product_of A (over q 0) b) g) h (sum_poly A c (product_of A (over q 0) b) g (product_poly A c (over q 0) b hq hb) hg) e))

  pub product_down : (x : Frac A c) → N x → IsProduct A P B (unfrac A c x)
  product_down _ (Ideals.no_product x z) = no_product (unfrac A c x) x.0.is_poly (equal_down A c.curve (unfrac A c x) (over [] 0) x.0.is_poly (Ring A c.curve).𝟘.is_poly z)
  product_down _ (Ideals.one_more x u v y hu hv hy z) =
      let q : Poly A c.curve = hu.0 in
      let w : Frac A c = (q, 0) in
      let s : Frac A c = (Frs A c).◌⊕◌ ((Frs A c).◌⊗◌ w v) y in
      one_more (unfrac A c x) (unfrac A c v) (unfrac A c y) q.terms x.0.is_poly v.0.is_poly y.0.is_poly
      (subst (λ g. Contains g q.terms) (terms-lift A.prime A.variables P a) (contains_terms (P' A c K L l P a) q hu.1))
      (module_down A c K L l v hv) (product_down y hy)
      (equal_down A c.curve (unfrac A c x) (sum_of A (product_of A (over q.terms 0) (unfrac A c v)) (unfrac A c y)) x.0.is_poly
      (sum_poly A c (product_of A (over q.terms 0) (unfrac A c v)) (unfrac A c y) (product_poly A c (over q.terms 0) (unfrac A c v) q.is_poly v.0.is_poly) y.0.is_poly)
      (subst (λ z. (Fr.fraction_ops (Q A c.curve) (d A c.curve)).◌≈◌ x z)
      (ap (λ z. (Fr.fraction_ops (Q A c.curve) (d A c.curve)).◌⊕◌ z y) (product-frac A c (over q.terms 0) (unfrac A c v) q.is_poly v.0.is_poly)
      ∙ sum-frac A c (product_of A (over q.terms 0) (unfrac A c v)) (unfrac A c y) (product_poly A c (over q.terms 0) (unfrac A c v) q.is_poly v.0.is_poly) y.0.is_poly)
      (chain (Frs A c) x ((Frs A c).◌⊕◌ ((Frs A c).◌⊗◌ u v) y) s z
      (add_both (Frs A c) ((Frs A c).◌⊗◌ u v) ((Frs A c).◌⊗◌ w v) y y (mul_both (Frs A c) u w v v hu.2 ((Frs A c).rfl v)) ((Frs A c).rfl y)))))

  pub ring : IsRing (Frs A c).ops Up
  ring = let w = ring_up A c K L l r in record { resp = w.resp; one = w.one; add = w.add; mul = w.mul; neg = w.neg }

  pub products : IsModule (Frs A c).ops Up N
  products = gen_module (Frs A c) (Fr.Whole (Q A c.curve) (d A c.curve) (P' A c K L l P a)) Up ring

  -- the ring modulo the products
  abbrev pub E : CommRing
  E = subquotient (Frs A c) Up N ring products

  -- a fraction of the ring
  abbrev pub inside : (f : Fraction) (h : IsFraction A f) → B f → E.carrier
  inside f h b = (frac A c f h, module_up A c K L l (frac A c f h) b)

  -- a residue, as a fraction of the ring
  abbrev pub constant : ℕ → E.carrier
  constant e = (scal A c e, module_up A c K L l (scal A c e) (holds (unfrac A c (scal A c e)) (scal A c e).0.is_poly (whole e)))
    where
      whole : (e : ℕ) → InA A (unfrac A c (scal A c e))
      whole e = in_down A c (unfrac A c (scal A c e)) (scal A c e).0.is_poly (em_whole (Curve A c.curve) (d A c.curve) (regular_curve A c.curve) (scalar A c e))

  map : IsRingMap (residue_ops A.prime) (Frs A c).ops (scal A c)
  map = Independence.scalar_map (Curve A c.curve) (d A c.curve) (regular_curve A c.curve) A.prime c.curve.prime (scalar A c) (curve_map A c)

  -- what is equal is equal modulo the products
  pub same : (x y : E.carrier) → (Frs A c).◌≈◌ x.0 y.0 → E.◌≈◌ x y
  same x y e = IdealLaws.equal_modulo (subring (Frs A c) Up N ring products) (λ x. N x.0) (ideal (Frs A c) Up N ring products) x y e

  pub constants : IsRingMap (residue_ops A.prime) E.ops constant
  constants = record {
    resp = λ x y e. same (constant x) (constant y) (map.resp x y e);
    one = same (constant 1) E.𝟙 map.one;
    add = λ x y. same (constant ((residue_ops A.prime).◌⊕◌ x y)) (E.◌⊕◌ (constant x) (constant y)) (map.add x y);
    mul = λ x y. same (constant ((residue_ops A.prime).◌⊗◌ x y)) (E.◌⊗◌ (constant x) (constant y)) (map.mul x y);
  }
