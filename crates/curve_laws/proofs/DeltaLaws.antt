-- A finite delta bounds the power.
use Rattle.std.proofs.Common.{◌≡◌, ℕ, suc, ◌+◌, ◌%◌, ◌<◌, List, [], ◌∷◌, map, All, refl, sym, ap₂, ◌∙◌, subst, arith, mod-eq_of_lt}
use Rattle.std.specs.List.{Contains}
use Rattle.std.proofs.lemmas.List.{length-map}
use Rattle.std.proofs.lemmas.List.Elements.{All-nil, All-cons, All-head, All-tail}
use Rattle.comm_ring.specs.Ring.{CommRing, IsRingMap}
use Rattle.comm_ring.proofs.Residues.{residues}
use Rattle.prime_field.proofs.Table.{positive_of_prime}
use Rattle.comm_ring.specs.Residues.{residue_ops}
use Rattle.comm_ring.specs.Modules.{combine, combination, module_through, Independent}
use Rattle.comm_ring.proofs.Quotients.{origin_modulo}
use Rattle.fraction_laws.specs.Fractions as Fr
use Rattle.fraction_laws.proofs.Independence as Independence
use Rattle.fraction_laws.proofs.CurveLaws as CurveLaws
use Rattle.polys.specs.declared.term.Term.{Term}
use Rattle.polys.specs.Terms.{multiple}
use Rattle.polys.specs.Curve.{CurveData}
use Rattle.polys.proofs.Affine.{poly_multiple, mul_constant, sevens_of, positive}
use Rattle.curve_model.specs.Fraction.{Fraction, IsFraction, multiple_of}
use Rattle.curve_model.specs.Local.{Local}
use Rattle.curve_model.specs.Delta as Delta
use Rattle.curve_model.specs.Delta.{AreIndependent, HasIndependent}
use Rattle.curve_model.specs.Laws.{IsFinite, ArePolys, DeltaBoundsPower}
use Rattle.ideal_laws.proofs.Members.{lift}
use Rattle.curve_laws.proofs.Facts.{same_member}
use Rattle.curve_laws.proofs.Base.{high, Ring, I, d, Q, Curve, member}
use Rattle.curve_laws.proofs.Locals.{local_up, local_down}
use Rattle.curve_laws.proofs.Regulars.{regular_curve}
use Rattle.curve_laws.proofs.Scalars.{scalar, scalar_map, laws}
use Rattle.curve_laws.proofs.StatedLaws.{frac, sum_poly, sum-frac, equals_down}
use Rattle.curve_laws.proofs.SplitLaws.{unfrac, fractions_of, in_up}

module _ (A : CurveData) (c : IsFinite A) where
  abbrev Frac : Type 0
  Frac = Fr.Frac (Q A c.curve) (d A c.curve)

  abbrev pub scal : ℕ → Frac
  scal e = (scalar A c e, 0)

  pub multiple_poly : (e : ℕ) (f : Fraction) → IsFraction A f → IsFraction A (multiple_of A e f)
  multiple_poly e f h = poly_multiple A.prime A.variables e f.numerator (positive A.prime (high A c.curve)) h

  multiple-frac : (e : ℕ) (x : Frac) → (Fr.fraction_ops (Q A c.curve) (d A c.curve)).◌⊗◌ (scal e) x ≡ frac A c (multiple_of A e (unfrac A c x)) (multiple_poly e (unfrac A c x) x.0.is_poly)
  multiple-frac e x = ap₂ (λ z k. (z, k))
      (same_member ((Q A c.curve).◌⊗◌ (scalar A c e) x.0) (member A c.curve (multiple A.prime e x.0.terms) (multiple_poly e (unfrac A c x) x.0.is_poly)) (mul_constant A.prime e x.0.terms (sevens_of A.prime A.variables x.0.terms x.0.is_poly)))
      (let k : 0 + x.1 ≡ x.1 = omega arith in k)

  pub combination_poly : (cs : List ℕ) (xs : List Frac) → IsFraction A (Delta.combination A cs (map (unfrac A c) xs))
  combination_poly [] xs = (Ring A c.curve).𝟘.is_poly
  combination_poly (e ∷ cs) [] = (Ring A c.curve).𝟘.is_poly
  combination_poly (e ∷ cs) (x ∷ xs) = sum_poly A c (multiple_of A e (unfrac A c x)) (Delta.combination A cs (map (unfrac A c) xs)) (multiple_poly e (unfrac A c x) x.0.is_poly) (combination_poly cs xs)

  pub combination-frac : (cs : List ℕ) (xs : List Frac) → combination (module_through (Fr.fraction_ops (Q A c.curve) (d A c.curve)) scal) cs xs ≡ frac A c (Delta.combination A cs (map (unfrac A c) xs)) (combination_poly cs xs)
  unfolding combine combination_poly
  combination-frac [] xs = refl
  combination-frac (e ∷ cs) [] = refl
  combination-frac (e ∷ cs) (x ∷ xs) =
      ap₂ (Fr.fraction_ops (Q A c.curve) (d A c.curve)).◌⊕◌ (multiple-frac e x) (combination-frac cs xs)
      ∙ sum-frac A c (multiple_of A e (unfrac A c x)) (Delta.combination A cs (map (unfrac A c) xs)) (multiple_poly e (unfrac A c x) x.0.is_poly) (combination_poly cs xs)

  small : (cs : List ℕ) → All (λ e. e < A.prime) cs → All (λ e. e % A.prime ≡ 0 % A.prime) cs → All (λ e. e ≡ 0) cs
  small [] a h = All-nil (λ e. e ≡ 0)
  small (e ∷ cs) a h = All-cons (λ b. b ≡ 0) e cs
      (sym (mod-eq_of_lt (All-head (λ b. b < A.prime) e cs a)) ∙ All-head (λ b. b % A.prime ≡ 0 % A.prime) e cs h ∙ mod-eq_of_lt (positive A.prime (high A c.curve)))
      (small cs (All-tail (λ b. b < A.prime) e cs a) (All-tail (λ b. b % A.prime ≡ 0 % A.prime) e cs h))

  -- the residues modulo p, and how they act modulo I
  abbrev pub Residues : CommRing
  Residues = residues A.prime (positive_of_prime A.prime c.curve.prime)

  pub curve_map : IsRingMap Residues.ops (Q A c.curve) (scalar A c)
  curve_map = CurveLaws.map_to_curve (Ring A c.curve) (I A c.curve) Residues (scalar A c) (scalar_map A c)

  origin_in : (xs : List Frac) (cs : List ℕ) → Fr.InA (Q A c.curve) (d A c.curve) (combination (module_through (Fr.fraction_ops (Q A c.curve) (d A c.curve)) scal) cs xs)
      → Fr.InA (Q A c.curve) (d A c.curve) ((Fr.fraction_ops (Q A c.curve) (d A c.curve)).◌⊕◌ (combination (module_through (Fr.fraction_ops (Q A c.curve) (d A c.curve)) scal) cs xs) ((Fr.fraction_ops (Q A c.curve) (d A c.curve)).neg (Fr.fraction_ops (Q A c.curve) (d A c.curve)).𝟘))
  origin_in xs cs h = origin_modulo (Independence.K (Curve A c.curve) (d A c.curve) (regular_curve A c.curve) A.prime c.curve.prime (scalar A c) curve_map) (Independence.whole (Curve A c.curve) (d A c.curve) (regular_curve A c.curve) A.prime c.curve.prime (scalar A c) curve_map) (Fr.InA (Q A c.curve) (d A c.curve))
      (Independence.A_submodule (Curve A c.curve) (d A c.curve) (regular_curve A c.curve) A.prime c.curve.prime (scalar A c) curve_map) (combination (module_through (Fr.fraction_ops (Q A c.curve) (d A c.curve)) scal) cs xs) h

  independent_down : (xs : List Frac) → Independent (residue_ops A.prime) (Fr.fraction_space (Q A c.curve) (d A c.curve) A.prime (scalar A c)) xs → AreIndependent A (map (unfrac A c) xs)
  independent_down xs i cs a l h = small cs a (i cs (l ∙ length-map xs (unfrac A c)) (origin_in xs cs (subst (Fr.InA (Q A c.curve) (d A c.curve)) (sym (combination-frac cs xs)) (in_up A c (Delta.combination A cs (map (unfrac A c) xs)) (combination_poly cs xs) h))))

  locals_down : (P : List (List Term)) (a : ArePolys A P) (xs : List Frac) → All (λ x. Fr.LocalTo (Q A c.curve) (d A c.curve) (Contains (lift A.prime A.variables P a)) x.0 x.1) xs → All (Local A P) (map (unfrac A c) xs)
  locals_down P a [] h = All-nil (Local A P)
  locals_down P a (x ∷ xs) h = All-cons (Local A P) (unfrac A c x) (map (unfrac A c) xs)
      (local_down A c.curve P a (unfrac A c x) x.0.is_poly (All-head (λ y. Fr.LocalTo (Q A c.curve) (d A c.curve) (Contains (lift A.prime A.variables P a)) y.0 y.1) x xs h))
      (locals_down P a xs (All-tail (λ y. Fr.LocalTo (Q A c.curve) (d A c.curve) (Contains (lift A.prime A.variables P a)) y.0 y.1) x xs h))

  pub has_independent : (P : List (List Term)) (a : ArePolys A P) (r : ℕ) → Fr.LocalIndependent (Q A c.curve) (d A c.curve) A.prime (scalar A c) (lift A.prime A.variables P a) r → HasIndependent A P r
  has_independent P a r w = record {
    fractions = map (unfrac A c) w.0;
    as_many = length-map w.0 (unfrac A c) ∙ w.1;
    are_fractions = fractions_of A c w.0;
    local = locals_down P a w.0 w.2;
    independent = independent_down w.0 w.3;
  }

pub bound_law : DeltaBoundsPower
bound_law A c P point r delta f a w =
    let q = point.reduced.polys in
    equals_down A c r f a ((laws A c).bound (lift A.prime A.variables P q) r (λ b. delta.no_more (has_independent A c P q (suc r) b)) (member A c.curve f.numerator a) f.exponent (local_up A c.curve P q f a w))
