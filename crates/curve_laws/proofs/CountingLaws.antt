-- Delta counted by a basis of a ring of local fractions.
use Rattle.std.proofs.Common.{◌≡◌, ℕ, suc, ◌-◌, ◌<◌, List, [], ◌∷◌, map, length, All, refl, sym, ap, ◌∙◌, subst}
use Rattle.std.specs.List.{Contains}
use Rattle.std.proofs.lemmas.List.{length-map}
use Rattle.std.proofs.lemmas.List.Elements.{All-nil, All-cons, All-head, All-tail}
use Rattle.comm_ring.specs.Residues.{residue_ops}
use Rattle.comm_ring.specs.Modules.{combination, module_through, Independent, IsBasis}
use Rattle.comm_ring.proofs.Fields.{residue_field}
use Rattle.comm_ring.proofs.Dimension.{dimension_of_basis}
use Rattle.fraction_laws.specs.Fractions as Fr
use Rattle.fraction_laws.proofs.Settings.{EachN, comb_of}
use Rattle.fraction_laws.proofs.Independence as Independence
use Rattle.fraction_laws.proofs.Premises.{combination_is}
use Rattle.polys.specs.declared.term.Term.{Term}
use Rattle.polys.specs.Curve.{CurveData}
use Rattle.curve_model.specs.Fraction.{Fraction, IsFraction, InA, multiple_of}
use Rattle.curve_model.specs.Local.{Local}
use Rattle.curve_model.specs.Point.{IsPoint}
use Rattle.curve_model.specs.Closure.{InModule}
use Rattle.curve_model.specs.Delta as Delta
use Rattle.curve_model.specs.Delta.{AreIndependent, HasIndependent, HasDelta}
use Rattle.curve_model.specs.Laws.{IsFinite, ArePolys}
use Rattle.curve_model.specs.Rings.{IsFull}
use Rattle.curve_model.specs.Enlarging.{IsLocalRing, difference_of, IsBasisModuloA, BasisCountsDelta, MembersAreLocal}
use Rattle.ideal_laws.proofs.Members.{lift}
use Rattle.curve_laws.proofs.Base.{Q, Curve, d}
use Rattle.curve_laws.proofs.Locals.{local_up}
use Rattle.curve_laws.proofs.Scalars.{scalar, point_laws}
use Rattle.curve_laws.proofs.StatedLaws.{frac, sum_poly, sum-frac}
use Rattle.curve_laws.proofs.SplitLaws.{Frac, unfrac, frac_all, in_up, in_down}
use Rattle.curve_laws.proofs.DeltaLaws.{scal, multiple_poly, combination_poly, combination-frac, curve_map}
use Rattle.curve_laws.proofs.Regulars.{regular_curve}
use Rattle.curve_laws.proofs.DescentLaws.{module_up, module_down, full_up}
use Rattle.curve_laws.proofs.EnlargingLaws.{B', P', L', point', local_ring, enlarged}

each : (p : ℕ) (cs : List ℕ) → EachN (λ c. c < p) cs → All (λ c. c < p) cs
each p [] h = All-nil (λ c. c < p)
each p (c ∷ cs) h = All-cons (λ e. e < p) c cs h.0 (each p cs h.1)

zeros : (cs : List ℕ) → All (λ c. c ≡ 0) cs → EachN (λ c. c ≡ 0) cs
zeros [] h = tt
zeros (c ∷ cs) h = (All-head (λ e. e ≡ 0) c cs h, zeros cs (All-tail (λ e. e ≡ 0) c cs h))

module _ (A : CurveData) (c : IsFinite A) where
  pub unfrac_all : (fs : List Fraction) (h : All (IsFraction A) fs) → map (unfrac A c) (frac_all A c fs h) ≡ fs
  unfolding frac_all
  unfrac_all [] h = refl
  unfrac_all (f ∷ fs) h = ap (λ l. f ∷ l) (unfrac_all fs (All-tail (IsFraction A) f fs h))

  pub length-frac_all : (fs : List Fraction) (h : All (IsFraction A) fs) → length (frac_all A c fs h) ≡ length fs
  length-frac_all fs h = sym (length-map (frac_all A c fs h) (unfrac A c)) ∙ ap length (unfrac_all fs h)

  low_up : (fs : List Fraction) (h : All (IsFraction A) fs) → AreIndependent A fs → (cs : List ℕ) → length cs ≡ length (frac_all A c fs h) → EachN (λ e. e < A.prime) cs
      → Fr.InA (Q A c.curve) (d A c.curve) (comb_of (Fr.fraction_ops (Q A c.curve) (d A c.curve)) (scal A c) cs (frac_all A c fs h)) → EachN (λ e. e ≡ 0) cs
  low_up fs h i cs l s w = zeros cs (i cs (each A.prime cs s) (l ∙ length-frac_all fs h)
      (subst (λ g. InA A (Delta.combination A cs g)) (unfrac_all fs h)
      (in_down A c (Delta.combination A cs (map (unfrac A c) (frac_all A c fs h))) (combination_poly A c cs (frac_all A c fs h))
      (subst (Fr.InA (Q A c.curve) (d A c.curve)) (combination_is (Fr.fraction_ops (Q A c.curve) (d A c.curve)) (scal A c) cs (frac_all A c fs h) ∙ combination-frac A c cs (frac_all A c fs h)) w))))

  pub independent_up : (fs : List Fraction) (h : All (IsFraction A) fs) → AreIndependent A fs → Independent (residue_ops A.prime) (Fr.fraction_space (Q A c.curve) (d A c.curve) A.prime (scalar A c)) (frac_all A c fs h)
  independent_up fs h i = Independence.independent_out (Curve A c.curve) (d A c.curve) (regular_curve A c.curve) A.prime c.curve.prime (scalar A c) (curve_map A c) (frac_all A c fs h) (low_up fs h i)

  locals_up : (P : List (List Term)) (q : ArePolys A P) (fs : List Fraction) (h : All (IsFraction A) fs) → All (Local A P) fs → All (λ x. Fr.LocalTo (Q A c.curve) (d A c.curve) (Contains (lift A.prime A.variables P q)) x.0 x.1) (frac_all A c fs h)
  unfolding frac_all
  locals_up P q [] h w = All-nil _
  locals_up P q (f ∷ fs) h w = All-cons (λ x. Fr.LocalTo (Q A c.curve) (d A c.curve) (Contains (lift A.prime A.variables P q)) x.0 x.1) (frac A c f (All-head (IsFraction A) f fs h)) (frac_all A c fs (All-tail (IsFraction A) f fs h))
      (local_up A c.curve P q f (All-head (IsFraction A) f fs h) (All-head (Local A P) f fs w)) (locals_up P q fs (All-tail (IsFraction A) f fs h) (All-tail (Local A P) f fs w))

  pub has_independent_up : (P : List (List Term)) (q : ArePolys A P) (r : ℕ) → HasIndependent A P r → Fr.LocalIndependent (Q A c.curve) (d A c.curve) A.prime (scalar A c) (lift A.prime A.variables P q) r
  has_independent_up P q r w = (frac_all A c w.fractions w.are_fractions, length-frac_all w.fractions w.are_fractions ∙ w.as_many, locals_up P q w.fractions w.are_fractions w.local, independent_up w.fractions w.are_fractions w.independent)

  module _ (P : List (List Term)) (point : IsPoint A P) (K : ℕ) (L : List (List Term)) (l : ArePolys A L) (w : IsLocalRing A P K L) where
    abbrev B : Fraction → Type 0
    B = InModule A K L

    members_local : (fs : List Fraction) (h : All (IsFraction A) fs) → All B fs → All (Local A P) fs
    members_local [] h k = All-nil (Local A P)
    members_local (f ∷ fs) h k =
        let e = enlarged A c P point K L l w in
        let a = All-head (IsFraction A) f fs h in
        All-cons (Local A P) f fs (e.local f (All-head (IsFraction A) f fs h) (e.holds f (All-head (IsFraction A) f fs h) (All-head B f fs k)))
        (members_local fs (All-tail (IsFraction A) f fs h) (All-tail B f fs k))

    members : (us : List Fraction) (h : All (IsFraction A) us) → All B us → AreIndependent A us → HasIndependent A P (length us)
    members us h k i = record { fractions = us; as_many = refl; are_fractions = h; local = members_local us h k; independent = i }

    abbrev Up : Frac A c → Type 0
    Up = B' A c P point K L l w

    members_up : (fs : List Fraction) (h : All (IsFraction A) fs) → All B fs → All Up (frac_all A c fs h)
    unfolding frac_all
    members_up [] h k = All-nil Up
    members_up (f ∷ fs) h k = All-cons Up (frac A c f (All-head (IsFraction A) f fs h)) (frac_all A c fs (All-tail (IsFraction A) f fs h))
        (module_up A c K L l (frac A c f (All-head (IsFraction A) f fs h)) (All-head B f fs k)) (members_up fs (All-tail (IsFraction A) f fs h) (All-tail B f fs k))

    module _ (us : List Fraction) (b : IsBasisModuloA A B us) where
      abbrev xs : List (Frac A c)
      xs = frac_all A c us b.fractions

      comb : List ℕ → Frac A c
      comb cs = combination (module_through (Fr.fraction_ops (Q A c.curve) (d A c.curve)) (scal A c)) cs xs

      spans_up : (x : Frac A c) → Up x → (cs : List ℕ) × (length cs ≡ length xs) × Fr.InA (Q A c.curve) (d A c.curve) ((Fr.fraction_ops (Q A c.curve) (d A c.curve)).◌⊕◌ x ((Fr.fraction_ops (Q A c.curve) (d A c.curve)).neg (combination (module_through (Fr.fraction_ops (Q A c.curve) (d A c.curve)) (scal A c)) cs xs)))
      spans_up x h =
          let s = b.spans (unfrac A c x) x.0.is_poly (module_down A c K L l x h) in
          let cs : List ℕ = s.0 in
          let g : Fraction = Delta.combination A cs (map (unfrac A c) xs) in
          let gp : IsFraction A g = combination_poly A c cs xs in
          let e : map (unfrac A c) xs ≡ us = unfrac_all us b.fractions in (
            cs,
            s.2 ∙ sym (length-frac_all us b.fractions),
            subst (λ y. Fr.InA (Q A c.curve) (d A c.curve) ((Fr.fraction_ops (Q A c.curve) (d A c.curve)).◌⊕◌ x ((Fr.fraction_ops (Q A c.curve) (d A c.curve)).neg y))) (sym (combination-frac A c cs xs))
                (subst (Fr.InA (Q A c.curve) (d A c.curve)) (sym (sum-frac A c (unfrac A c x) (multiple_of A (A.prime - 1) g) x.0.is_poly (multiple_poly A c (A.prime - 1) g gp)))
                (in_up A c (difference_of A (unfrac A c x) g) (sum_poly A c (unfrac A c x) (multiple_of A (A.prime - 1) g) x.0.is_poly (multiple_poly A c (A.prime - 1) g gp)) (subst (λ z. InA A (difference_of A (unfrac A c x) (Delta.combination A cs z))) (sym e) s.3))),
          )

      basis_up : IsBasis (residue_ops A.prime) (Fr.fraction_space (Q A c.curve) (d A c.curve) A.prime (scalar A c)) Up xs
      basis_up = (members_up us b.fractions b.members, spans_up, independent_up us b.fractions b.independent)

      counts : IsFull A P B → HasDelta A P (length us)
      counts full =
          let D = dimension_of_basis (Independence.K (Curve A c.curve) (d A c.curve) (regular_curve A c.curve) A.prime c.curve.prime (scalar A c) (curve_map A c)) (residue_field A.prime c.curve.prime)
          (Independence.FractionSpace (Curve A c.curve) (d A c.curve) (regular_curve A c.curve) A.prime c.curve.prime (scalar A c) (curve_map A c)) Up xs basis_up in
          let delta = (point_laws A c).counts (P' A c P point K L l w) (point' A c P point K L l w) K (L' A c P point K L l w) (local_ring A c P point K L l w) (full_up A c K L l P point.reduced.polys full) (length xs) D in
          record {
            reached = members us b.fractions b.members b.independent;
            no_more = λ m. delta.1 (subst (λ r. Fr.LocalIndependent (Q A c.curve) (d A c.curve) A.prime (scalar A c) (P' A c P point K L l w) (suc r)) (sym (length-frac_all us b.fractions)) (has_independent_up P point.reduced.polys (suc (length us)) m));
          }

pub counts_law : BasisCountsDelta
counts_law A c P point K L l w full us b = counts A c P point K L l w us b full

pub members_law : MembersAreLocal
members_law A c P point K L l w us h k i = members A c P point K L l w us h k i
