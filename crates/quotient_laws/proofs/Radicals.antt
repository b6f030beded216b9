-- The radical of a ring of fractions at a point is closed under products with polynomials.
use Rattle.std.proofs.Common.{◌↔◌, ℕ, List, subst}
use Rattle.comm_ring.specs.Ring.{CommRing, pow}
use Rattle.comm_ring.proofs.Derived as Derived
use Rattle.fraction_laws.proofs.Basic.{pow_in}
use Rattle.polys.specs.declared.term.Term.{Term}
use Rattle.polys.specs.Terms.{IsPoly}
use Rattle.polys.specs.Curve.{CurveData, data_of}
use Rattle.curve_model.specs.Fraction.{Fraction, IsFraction, InA, over, product_of}
use Rattle.curve_model.specs.Closure.{InModule}
use Rattle.curve_model.specs.Laws.{IsFinite, ArePolys}
use Rattle.curve_model.specs.Rings.{IsFractionRing, InRadical}
use Rattle.curve_laws.proofs.Chains.{flip}
use Rattle.curve_laws.proofs.FitLaws.{fit_law}
use Rattle.curve_laws.proofs.StatedLaws.{frac, product_poly, product-frac}
use Rattle.curve_laws.proofs.DescentLaws.{Frs, module_up, radical_up, radical_down}
use Rattle.chain_laws.proofs.ChainLaws.{transfer}
use Rattle.chain_laws.proofs.OneExponent.{eq_refl}
use Rattle.over_laws.specs.Over.{OverData, InOver, HasRows}
use Rattle.over_laws.proofs.Rows.{rows_law}
use Rattle.quotient_laws.proofs.FractionQuotients.{N, Up, ring, products}
use Rattle.quotient_laws.proofs.Transport.{radical_moved}

module _ (A : CurveData) (c : IsFinite A) (P : List (List Term)) (p : ArePolys A P) (K : ℕ) (L : List (List Term)) (l : ArePolys A L)
    (r : IsFractionRing A (InModule A K L)) (holds : (f : Fraction) → IsFraction A f → InA A f → InModule A K L f) where
  abbrev B : Fraction → Type 0
  B = InModule A K L

  abbrev F : CommRing
  F = Frs A c

  radical_times : (q : List Term) (hq : IsPoly A.prime A.variables q) (f : Fraction) (h : IsFraction A f) → InRadical A P B f → InRadical A P B (product_of A (over q 0) f)
  radical_times q hq f h w =
      let u = radical_up A c K L l P p f h w in
      let x = frac A c (over q 0) hq in
      let y = frac A c f h in
      let m = u.1.0 in
      let in_x : Up A c P p K L l r holds x = module_up A c K L l x (holds (over q 0) hq (q, hq, eq_refl A c (over q 0) hq)) in
      let rg = ring A c P p K L l r holds in
      let ps = products A c P p K L l r holds in
      let n : N A c P p K L l r holds (pow F.ops (F.◌⊗◌ x y) m) = ps.resp (F.◌⊗◌ (pow F.ops x m) (pow F.ops y m)) (pow F.ops (F.◌⊗◌ x y) m)
      (flip F (pow F.ops (F.◌⊗◌ x y) m) (F.◌⊗◌ (pow F.ops x m) (pow F.ops y m)) (Derived.mul-pow F x y m))
      (ps.mul (pow F.ops x m) (pow F.ops y m) (pow_in F (Up A c P p K L l r holds) rg x m in_x) u.1.1) in
      radical_down A c K L l P p (product_of A (over q 0) f) (product_poly A c (over q 0) f hq h)
      (subst (λ z. Up A c P p K L l r holds z × ((m : ℕ) × N A c P p K L l r holds (pow F.ops z m))) (product-frac A c (over q 0) f hq h) (rg.mul x y in_x u.0, (m, n)))

-- a module by rows
pub radical_closed : (o : OverData) → HasRows o → IsFractionRing (data_of o.curve) (InOver o) → (P : List (List Term)) → ArePolys (data_of o.curve) P
    → (q : List Term) → IsPoly o.curve.prime o.curve.variables q → (f : Fraction) → IsFraction (data_of o.curve) f → InRadical (data_of o.curve) P (InOver o) f
    → InRadical (data_of o.curve) P (InOver o) (product_of (data_of o.curve) (over q 0) f)
radical_closed o h r P p q hq f hf w =
    let A = data_of o.curve in
    let c = fit_law o.curve h.prime h.fit in
    let m = rows_law o h in
    let L = m.is_module.list in
    let M = InModule A o.power L in
    let same = m.is_module.same in
    let back : (f : Fraction) → IsFraction A f → M f ↔ InOver o f = λ f hf. ((same f hf).1, (same f hf).0) in
    radical_moved A P M (InOver o) back (product_of A (over q 0) f) (product_poly A c (over q 0) f hq hf)
    (radical_times A c P p o.power L m.is_module.polys (transfer A c (InOver o) M same r) (λ f hf i. (same f hf).0 (m.whole f hf i)) q hq f hf (radical_moved A P (InOver o) M same f hf w))
