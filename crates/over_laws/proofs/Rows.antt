-- Rows of digits as modules of fractions.
use Rattle.std.proofs.Common.{◌↔◌, ◌*◌, ◌<◌, List, [], ◌∷◌, map, length, All, sym, ap, ◌∙◌, subst}
use Rattle.std.proofs.lemmas.List.{length-map}
use Rattle.std.proofs.lemmas.List.Elements.{All-nil, All-cons, All-head, All-tail, Contains-append_right}
use Rattle.comm_ring.specs.Ring.{pow}
use Rattle.comm_ring.specs.Residues.{residue_ops}
use Rattle.comm_ring.specs.Rows.{rows}
use Rattle.comm_ring.specs.Modules.{Independent}
use Rattle.monomials.specs.Mono.{Monomial}
use Rattle.polys.specs.declared.term.Term.{Term}
use Rattle.polys.specs.Terms.{IsPoly, mul}
use Rattle.polys.specs.Ideal.{InIdeal}
use Rattle.polys.specs.Curve.{CurveData, data_of}
use Rattle.polys.proofs.Affine.{poly_mul, positive}
use Rattle.ideal_laws.proofs.Ideals.{in_poly, in_generator, in_mul}
use Rattle.ideal_laws.proofs.Unique.{contains_head}
use Rattle.curve_model.specs.Fraction.{Fraction, IsFraction, AreEqual, InA, denominator_power, over}
use Rattle.curve_model.specs.Closure.{InModule}
use Rattle.curve_model.specs.Laws.{IsFinite}
use Rattle.curve_model.specs.Enlarging.{IsBasisModuloA}
use Rattle.curve_model.specs.OneExponent.{all_over}
use Rattle.curve_laws.proofs.Base.{high, Q, Curve as RingOf, d, member, equal_down, of_terms, pow_d}
use Rattle.curve_laws.proofs.Chains.{flip, over_none}
use Rattle.curve_laws.proofs.StatedLaws.{power_poly}
use Rattle.chain_laws.proofs.OneExponent.{eq_trans}
use Rattle.curve_laws.proofs.FitLaws.{fit_law}
use Rattle.digit_laws.specs.Digits.{AreCornersOf, value, HasDigitsIn, IsIdealSpace, numerators}
use Rattle.digit_laws.specs.Laws.{SpaceIsIdeal}
use Rattle.digit_laws.proofs.Spaces.{spaces_law}
use Rattle.digit_laws.proofs.Corners.{corners_law}
use Rattle.over_laws.specs.Over.{OverData, InOver, HasRows, HasBasis}
use Rattle.over_laws.specs.Laws.{RowsAreModules}

module _ (A : CurveData) (B W : Fraction → Type 0) (same : (f : Fraction) → IsFraction A f → B f ↔ W f) where
  all_same : (us : List Fraction) → All (IsFraction A) us → All B us → All W us
  all_same [] h b = All-nil W
  all_same (u ∷ us) h b = All-cons W u us ((same u (All-head (IsFraction A) u us h)).0 (All-head B u us b)) (all_same us (All-tail (IsFraction A) u us h) (All-tail B u us b))

  pub basis_moved : (us : List Fraction) → IsBasisModuloA A B us → IsBasisModuloA A W us
  basis_moved us b = record {
    fractions = b.fractions;
    members = all_same us b.fractions b.members;
    independent = b.independent;
    spans = λ f h w. b.spans f h ((same f h).1 w);
  }

module _ (o : OverData) (h : HasRows o) (ms : List Monomial) (k : AreCornersOf (data_of o.curve) ms) where
  abbrev A : CurveData
  A = data_of o.curve

  c : IsFinite (data_of o.curve)
  c = fit_law o.curve h.prime h.fit

  i : IsIdealSpace (data_of o.curve) ms o.power o.rows
  i = subst (λ z. IsIdealSpace (data_of o.curve) z o.power o.rows) (corners_law (data_of o.curve) c h.corners ms h.known k) h.ideal

  space : SpaceIsIdeal (data_of o.curve) ms o.power o.rows
  space = spaces_law (data_of o.curve) c ms k o.power o.rows h.fits i

  abbrev L : List (List Term)
  L = numerators (data_of o.curve) ms o.power o.rows

  abbrev P : List Term → Type 0
  P f = IsPoly (data_of o.curve).prime (data_of o.curve).variables f

  pos : 0 < (data_of o.curve).prime
  pos = positive (data_of o.curve).prime (high (data_of o.curve) c.curve)

  into : (f : Fraction) → InOver o f → InModule (data_of o.curve) o.power L f
  into f r = (
    r.numerator,
    (space.exact r.numerator r.poly).1 (subst (λ z. HasDigitsIn (data_of o.curve) z o.power o.rows r.numerator) (corners_law (data_of o.curve) c r.corners ms r.known k) r.inside),
    r.equal,
  )

  out : (f : Fraction) → InModule (data_of o.curve) o.power L f → InOver o f
  out f w =
      let hb : P w.0 = in_poly (data_of o.curve).prime (data_of o.curve).variables L w.0 pos space.polys w.1 in
      record { corners = ms; known = k; numerator = w.0; poly = hb; inside = (space.exact w.0 hb).0 w.1; equal = w.2 }

  exact : (f : Fraction) → IsFraction (data_of o.curve) f → InOver o f ↔ InModule (data_of o.curve) o.power L f
  exact f hf = (into f, out f)

  independent : Independent (residue_ops (data_of o.curve).prime) (rows (data_of o.curve).prime (length ms * o.power)) o.rows.basis
  independent =
      subst (λ n. Independent (residue_ops (data_of o.curve).prime) (rows (data_of o.curve).prime n) o.rows.basis) i.of_digits.width
      (subst (λ p. Independent (residue_ops p) (rows p o.rows.width) o.rows.basis) i.of_digits.prime h.independent)

  abbrev us : List Fraction
  us = all_over o.power (map (value (data_of o.curve) ms o.power) o.rows.basis)

  basis : HasBasis (data_of o.curve) (InOver o) (length o.rows.basis)
  basis = record {
    fractions = us;
    as_many = length-map (map (value (data_of o.curve) ms o.power) o.rows.basis) (λ u. over u o.power) ∙ length-map o.rows.basis (value (data_of o.curve) ms o.power);
    basis = basis_moved (data_of o.curve) (InModule (data_of o.curve) o.power L) (InOver o) (λ f hf. (out f, into f)) us (space.basis independent);
  }

  power_in : InIdeal (data_of o.curve).prime (data_of o.curve).variables L (denominator_power (data_of o.curve) o.power)
  power_in = in_generator (data_of o.curve).prime (data_of o.curve).variables L (denominator_power (data_of o.curve) o.power) (high (data_of o.curve) c.curve) space.polys
      (Contains-append_right (map (value (data_of o.curve) ms o.power) o.rows.basis) (denominator_power (data_of o.curve) o.power ∷ (data_of o.curve).ideal) (denominator_power (data_of o.curve) o.power)
      (contains_head (denominator_power (data_of o.curve) o.power) (data_of o.curve).ideal))

  whole : (f : Fraction) → IsFraction (data_of o.curve) f → InA (data_of o.curve) f → InOver o f
  whole f hf w =
      let B = data_of o.curve in
      let e : List Term = denominator_power (data_of o.curve) o.power in
      let b : List Term = mul (data_of o.curve).prime w.0 (denominator_power (data_of o.curve) o.power) in
      let hb = poly_mul (data_of o.curve).prime (data_of o.curve).variables w.0 (denominator_power (data_of o.curve) o.power) pos w.1 (power_poly (data_of o.curve) c o.power) in
      let x = member (data_of o.curve) c.curve b hb in
      let y = (Q (data_of o.curve) c.curve).◌⊗◌ (member (data_of o.curve) c.curve w.0 w.1) (pow (Q (data_of o.curve) c.curve) (d (data_of o.curve) c.curve) o.power) in
      let same : (RingOf (data_of o.curve) c.curve).◌≈◌ x y = of_terms (data_of o.curve) c.curve x y (ap (mul (data_of o.curve).prime w.0) (sym (pow_d (data_of o.curve) c.curve o.power))) in
      let lifted : AreEqual (data_of o.curve) (over w.0 0) (over b o.power) =
      equal_down (data_of o.curve) c.curve (over w.0 0) (over b o.power) w.1 hb
      (flip (RingOf (data_of o.curve) c.curve) ((Q (data_of o.curve) c.curve).◌⊗◌ x (pow (Q (data_of o.curve) c.curve) (d (data_of o.curve) c.curve) 0)) y (over_none (RingOf (data_of o.curve) c.curve) (d (data_of o.curve) c.curve) x y same)) in
      out f (
        b,
        in_mul (data_of o.curve).prime (data_of o.curve).variables L w.0 (denominator_power (data_of o.curve) o.power) pos w.1 power_in,
        eq_trans (data_of o.curve) c f (over w.0 0) (over b o.power) hf w.1 hb w.2 lifted,
      )

pub rows_law : RowsAreModules
rows_law o h = record {
  exact = λ ms k. exact o h ms k;
  is_module = record { list = L o h h.corners h.known; polys = (space o h h.corners h.known).polys; same = exact o h h.corners h.known };
  basis = basis o h h.corners h.known;
  whole = whole o h h.corners h.known;
}
