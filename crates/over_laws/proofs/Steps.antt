-- The steps of a chain, by rows.
use Rattle.std.proofs.Common.{◌≡◌, ◌↔◌, suc, ◌+◌, ◌-◌, ◌≤◌, List, [], ◌∷◌, length, sym, ◌∙◌, subst, arith}
use Rattle.std.proofs.lemmas.List.Elements.{All-nil, All-cons}
use Rattle.polys.specs.declared.term.Term.{Term}
use Rattle.polys.specs.declared.curve.Curve.{Curve}
use Rattle.polys.specs.Terms.{IsPoly, one}
use Rattle.polys.specs.Curve.{CurveData, data_of}
use Rattle.curve_model.specs.Fraction.{Fraction, IsFraction, product_of}
use Rattle.curve_model.specs.Point.{IsPoint}
use Rattle.curve_model.specs.Closure.{InModule}
use Rattle.curve_model.specs.Delta.{HasIndependent, HasDelta}
use Rattle.curve_model.specs.Laws.{IsFinite, ArePolys, power_of}
use Rattle.curve_model.specs.Rings.{IsProduct, no_product, one_more, InRadical, KeepsRadical, IsFull}
use Rattle.curve_model.specs.Enlarging.{IsLocalRing, IsBasisModuloA}
use Rattle.curve_model.specs.Steps.{LiesWithin, DimensionsDecide}
use Rattle.curve_laws.proofs.StatedLaws.{product_poly}
use Rattle.chain_laws.proofs.ChainLaws.{starts_law, one_poly, whole}
use Rattle.curve_laws.proofs.EnlargingLaws.{full_law}
use Rattle.curve_laws.proofs.CountingLaws.{counts_law, members_law}
use Rattle.curve_laws.proofs.FitLaws.{fit_law}
use Rattle.chain_laws.proofs.StepLaws.{enlarged_ring_law, one_module_law, dimensions_law}
use Rattle.chain_laws.proofs.FewerLaws.{fewer_law}
use Rattle.over_laws.specs.Over.{OverData, InOver, HasRows}
use Rattle.over_laws.specs.Laws.{RowsAreModule}
use Rattle.over_laws.specs.Chain.{IsLocalOver, rank, IsEnlarged, EnlargementSays, ChainSteps, ChainBegins, EnlargementsAreOne}
use Rattle.over_laws.proofs.Rows.{rows_law, basis_moved}

module _ (A : CurveData) (c : IsFinite A) (P : List (List Term)) where
  product_more : (B W : Fraction → Type 0) → ((f : Fraction) → IsFraction A f → B f → W f) → (f : Fraction) → IsProduct A P B f → IsProduct A P W f
  product_more B W e _ (no_product f h z) = no_product f h z
  product_more B W e _ (one_more f b g q hf hb hg cq bb hy z) = one_more f b g q hf hb hg cq (e b hb bb) (product_more B W e g hy) z

  radical_more : (B W : Fraction → Type 0) → ((f : Fraction) → IsFraction A f → B f → W f) → (f : Fraction) → IsFraction A f → InRadical A P B f → InRadical A P W f
  radical_more B W e f h r = (e f h r.0, (r.1.0, product_more B W e (power_of A f r.1.0) r.1.1))

  pub keeps_same : (B W : Fraction → Type 0) → ((f : Fraction) → IsFraction A f → B f ↔ W f) → (h : Fraction) → IsFraction A h → KeepsRadical A P B h → KeepsRadical A P W h
  keeps_same B W e h hh k f hf r =
      radical_more B W (λ g z. (e g z).0) (product_of A h f) (product_poly A c h f hh hf) (k f hf (radical_more W B (λ g z. (e g z).1) f hf r))

module _ (o q : OverData) (ho : HasRows o) (P : List (List Term)) (point : IsPoint (data_of o.curve) P) where
  abbrev A : CurveData
  A = data_of o.curve

  c : IsFinite (data_of o.curve)
  c = fit_law o.curve ho.prime ho.fit

  abbrev with_curve : Curve → OverData
  with_curve C = record { curve = C; dimension = q.dimension; power = q.power; rows = q.rows }

  module _ (hq : HasRows (with_curve o.curve)) (w : IsLocalOver o P) (e : (f : Fraction) → IsFraction (data_of o.curve) f → InOver (with_curve o.curve) f ↔ KeepsRadical (data_of o.curve) P (InOver o) f) where
    abbrev q' : OverData
    q' = with_curve o.curve

    ro : RowsAreModule o
    ro = rows_law o ho

    rq : RowsAreModule (with_curve o.curve)
    rq = rows_law (with_curve o.curve) hq

    abbrev L : List (List Term)
    L = w.list

    M : List (List Term)
    M = rq.is_module.list

    abbrev B : Fraction → Type 0
    B = InModule (data_of o.curve) o.power w.list

    W : Fraction → Type 0
    unfolding M
    W = InModule (data_of o.curve) q.power M

    keep : (f : Fraction) → IsFraction (data_of o.curve) f → InModule (data_of o.curve) q.power rq.is_module.list f ↔ KeepsRadical (data_of o.curve) P B f
    keep f hf = (
      (λ z. keeps_same (data_of o.curve) c P (InOver o) B w.same f hf ((e f hf).0 ((rq.is_module.same f hf).1 z))),
      λ z. (rq.is_module.same f hf).0 ((e f hf).1 (keeps_same (data_of o.curve) c P B (InOver o) (λ g hg. ((w.same g hg).1, (w.same g hg).0)) f hf z)),
    )

    ring : IsLocalRing (data_of o.curve) P q.power rq.is_module.list × LiesWithin (data_of o.curve) o.power w.list q.power rq.is_module.list
    ring = enlarged_ring_law (data_of o.curve) c P point o.power w.list w.polys w.ring q.power rq.is_module.list rq.is_module.polys keep

    abbrev us : List Fraction
    us = ro.basis.fractions

    abbrev vs : List Fraction
    vs = rq.basis.fractions

    bu : IsBasisModuloA (data_of o.curve) B ro.basis.fractions
    bu = basis_moved (data_of o.curve) (InOver o) B w.same ro.basis.fractions ro.basis.basis

    bv : IsBasisModuloA (data_of o.curve) (InModule (data_of o.curve) q.power rq.is_module.list) rq.basis.fractions
    bv = basis_moved (data_of o.curve) (InOver (with_curve o.curve)) (InModule (data_of o.curve) q.power rq.is_module.list) rq.is_module.same rq.basis.fractions rq.basis.basis

    dims : DimensionsDecide (data_of o.curve) o.power w.list q.power rq.is_module.list (length ro.basis.fractions) (length rq.basis.fractions)
    dims = dimensions_law (data_of o.curve) c o.power w.list w.polys w.ring.ring w.ring.holds q.power rq.is_module.list rq.is_module.polys ring.1 ro.basis.fractions rq.basis.fractions bu bv

    same_ranks : rank o ≡ rank q → length ro.basis.fractions ≡ length rq.basis.fractions
    same_ranks z =
        let a : length ro.basis.fractions ≡ rank o = ro.basis.as_many in
        let b : length rq.basis.fractions ≡ rank q = rq.basis.as_many in
        omega arith

    is_full : rank o ≡ rank q → IsFull (data_of o.curve) P B
    is_full z h hh s = dims.equal (same_ranks z) h hh ((keep h hh).1 s)

    says : EnlargementSays o P (with_curve o.curve)
    says = record {
      ring = record { list = rq.is_module.list; polys = rq.is_module.polys; same = rq.is_module.same; ring = ring.0 };
      holds = λ f hf z. (rq.is_module.same f hf).1 (ring.1 f hf ((w.same f hf).0 z));
      grows =
          let a : length ro.basis.fractions ≡ rank o = ro.basis.as_many in
          let b : length rq.basis.fractions ≡ rank q = rq.basis.as_many in
          let m : length ro.basis.fractions ≤ length rq.basis.fractions = dims.most in
          omega arith;
      full = λ z f hf.
          let l = full_law (data_of o.curve) c P point o.power w.list w.polys w.ring (is_full z) f hf in
          ((λ i. l.0 ((w.same f hf).0 i)), λ i. (w.same f hf).1 (l.1 i));
      delta = λ z. subst (HasDelta (data_of o.curve) P) ro.basis.as_many
          (counts_law (data_of o.curve) c P point o.power w.list w.polys w.ring (is_full z) ro.basis.fractions bu);
      above = λ l z.
          let b : length rq.basis.fractions ≡ rank q = rq.basis.as_many in
          let n : length rq.basis.fractions ≡ (length rq.basis.fractions - suc l) + suc l = omega arith in
          fewer_law (data_of o.curve) c P (suc l) (length rq.basis.fractions - suc l)
          (subst (HasIndependent (data_of o.curve) P) n
          (members_law (data_of o.curve) c P point q.power rq.is_module.list rq.is_module.polys ring.0 rq.basis.fractions bv.fractions bv.members bv.independent));
    }

pub steps_law : ChainSteps
steps_law o q ho hq P point w n =
    subst (λ C. HasRows (with_curve o q ho P point C)
    → ((f : Fraction) → IsFraction (data_of o.curve) f → InOver (with_curve o q ho P point C) f ↔ KeepsRadical (data_of o.curve) P (InOver o) f)
    → EnlargementSays o P (with_curve o q ho P point C)) (sym n.curve)
    (λ h e. says o q ho P point h w e) hq n.exact

pub begins_law : ChainBegins
begins_law o h P point e =
    let A = data_of o.curve in
    let c : IsFinite (data_of o.curve) = fit_law o.curve h.prime h.fit in
    let r = (rows_law o h).is_module in
    let p : ArePolys (data_of o.curve) (one ∷ []) = All-cons (IsPoly (data_of o.curve).prime (data_of o.curve).variables) one [] (one_poly (data_of o.curve) c) (All-nil (IsPoly (data_of o.curve).prime (data_of o.curve).variables)) in
    record {
      list = r.list;
      polys = r.polys;
      same = r.same;
      ring = (one_module_law (data_of o.curve) c P point 0 (one ∷ []) p o.power r.list r.polys
          (λ f hf. ((λ z. (r.same f hf).0 ((e f hf).1 ((whole (data_of o.curve) c f hf).1 z))), λ z. (whole (data_of o.curve) c f hf).0 ((e f hf).0 ((r.same f hf).1 z))))).ring
          (starts_law (data_of o.curve) c P point);
    }

module _ (q r : OverData) (hq : HasRows q) where
  abbrev on_curve : Curve → OverData
  on_curve C = record { curve = C; dimension = r.dimension; power = r.power; rows = r.rows }

  module _ (hr : HasRows (on_curve q.curve)) (P : List (List Term)) (w : IsLocalOver q P)
      (inside : (f : Fraction) → IsFraction (data_of q.curve) f → InOver q f → InOver (on_curve q.curve) f) where
    few : rank q ≤ rank r
    few =
        let A = data_of q.curve in
        let c : IsFinite (data_of q.curve) = fit_law q.curve hq.prime hq.fit in
        let rq = rows_law q hq in
        let rr = rows_law (on_curve q.curve) hr in
        let within : LiesWithin (data_of q.curve) q.power w.list r.power rr.is_module.list = λ f h z. (rr.is_module.same f h).0 (inside f h ((w.same f h).1 z)) in
        let bq = basis_moved (data_of q.curve) (InOver q) (InModule (data_of q.curve) q.power w.list) w.same rq.basis.fractions rq.basis.basis in
        let br = basis_moved (data_of q.curve) (InOver (on_curve q.curve)) (InModule (data_of q.curve) r.power rr.is_module.list) rr.is_module.same rr.basis.fractions rr.basis.basis in
        let m : length rq.basis.fractions ≤ length rr.basis.fractions =
        (dimensions_law (data_of q.curve) c q.power w.list w.polys w.ring.ring w.ring.holds r.power rr.is_module.list rr.is_module.polys within rq.basis.fractions rr.basis.fractions bq br).most in
        let a : length rq.basis.fractions ≡ rank q = rq.basis.as_many in
        let b : length rr.basis.fractions ≡ rank r = rr.basis.as_many in
        omega arith

-- a ring of local fractions within another module has no more dimensions
fewer : (q r : OverData) → HasRows q → HasRows r → (P : List (List Term)) → r.curve ≡ q.curve → IsLocalOver q P
    → ((f : Fraction) → IsFraction (data_of q.curve) f → InOver q f → InOver r f) → rank q ≤ rank r
fewer q r hq hr P e w inside =
    subst (λ C. HasRows (on_curve q r hq C) → ((f : Fraction) → IsFraction (data_of q.curve) f → InOver q f → InOver (on_curve q r hq C) f) → rank q ≤ rank r) (sym e)
    (λ h i. few q r hq h P w i) hr inside

pub one_law : EnlargementsAreOne
one_law o q r ho hq hr P point w eq er =
    let inside : (x y : OverData) → IsEnlarged o P x → IsEnlarged o P y → (f : Fraction) → IsFraction (data_of x.curve) f → InOver x f → InOver y f = λ x y ex ey f h z.
    let hf = subst (λ C. IsFraction (data_of C) f) ex.curve h in
    (ey.exact f hf).1 ((ex.exact f hf).0 z) in
    let a : rank q ≤ rank r = fewer q r hq hr P (er.curve ∙ sym eq.curve) (steps_law o q ho hq P point w eq).ring (inside q r eq er) in
    let b : rank r ≤ rank q = fewer r q hr hq P (eq.curve ∙ sym er.curve) (steps_law o r ho hr P point w er).ring (inside r q er eq) in
    omega arith
