-- Unique coordinates, decided membership, dimensions counted by bases, and the dimension modulo powers of d, at polynomials.
use Rattle.std.proofs.Common.{◌≡◌, ℕ, ◌*◌, ◌%◌, ◌<◌, ◌≤◌, List, [], ◌∷◌, map, length, All, refl, sym, ap, ap₂, ◌∙◌, subst, arith, mod-eq_of_lt, mod-lt}
use native.Mathlib.Nat.{mod-mod, zero-mod}
use Rattle.std.specs.List.{AllZip}
use Rattle.std.proofs.lemmas.List.{length-map}
use Rattle.std.proofs.lemmas.List.Elements.{All-nil, All-cons, All-head, All-tail}
use Rattle.prime_field.specs.Primes.{IsPrime}
use Rattle.comm_ring.specs.Ring.{CommRing, IsRingMap}
use Rattle.comm_ring.specs.Residues.{residue_ops}
use Rattle.comm_ring.specs.Modules.{IsSubmodule, combine, combination, InSpan, Independent, Dimension, module_through}
use Rattle.comm_ring.specs.Ideals as Ideals
use Rattle.comm_ring.proofs.Residues.{residues}
use Rattle.comm_ring.proofs.Fields.{residue_field, residue_coefficients}
use Rattle.prime_field.proofs.Table.{positive_of_prime, above_one}
use Rattle.comm_ring.proofs.Ideals as IdealLaws
use Rattle.comm_ring.proofs.Modules.{Module, through}
use Rattle.comm_ring.proofs.Quotients.{quotient}
use Rattle.comm_ring.proofs.Dimension as Dimensions
use Rattle.fraction_laws.proofs.CurveLaws as CurveLaws
use Rattle.polys.specs.declared.term.Term.{Term}
use Rattle.polys.specs.Terms.{IsPoly, keep, add, sub, mul}
use Rattle.polys.specs.Ideal.{InIdeal, number_combination, Spans, HasDim}
use Rattle.polys.specs.Curve.{CurveData}
use Rattle.polys.specs.Ring.{Member}
use Rattle.ideal_laws.proofs.Constants.{constant_sum, constant_product}
use Rattle.polys.proofs.Affine.{constant, poly_constant, mul_constant, sevens_of, positive}
use Rattle.monomials.specs.Mono.{unit}
use Rattle.curve_model.specs.Fraction.{denominator_power}
use Rattle.curve_model.specs.Laws.{IsFinite}
use Rattle.curve_model.specs.Quotient.{CoordinatesAreUnique, MembershipIsDecided, BasesCountDimension, PowersHaveDimension}
use Rattle.curve_laws.proofs.Members.{R, ideal_from, ideal_to}
use Rattle.ideal_laws.proofs.Members.{terms_of, lift, terms-lift, polys_of, length-lift}
use Rattle.curve_laws.proofs.Base as Base
use Rattle.curve_laws.proofs.Locals.{taken_up, taken_down}
use Rattle.curve_laws.proofs.Chains.{from_zero, of_zero}
use Rattle.curve_laws.proofs.Scalars as Scalars

module _ (p n : ℕ) (prime : IsPrime p) where
  high : 1 < p
  high = above_one p prime

  abbrev Poly : Type 0
  Poly = Member p n

  abbrev Ring : CommRing
  Ring = R p n high

  abbrev K : CommRing
  K = residues p (positive_of_prime p prime)

  abbrev scalar : ℕ → Poly
  scalar e = record { terms = constant p e; is_poly = poly_constant p n e (positive p high) }

  scalar_map : IsRingMap (residue_ops p) Ring.ops scalar
  scalar_map = record {
    resp = λ x y e. ap (λ r. keep r unit []) e;
    one = ap (λ r. keep r unit []) (mod-eq_of_lt high);
    add = constant_sum p (positive p high);
    mul = constant_product p (positive p high);
  }

  combination-numbers : (cs : List ℕ) (us : List Poly) → (combination (module_through Ring.ops scalar) cs us).terms ≡ number_combination p cs (terms_of us)
  unfolding combine
  combination-numbers [] us = refl
  combination-numbers (e ∷ cs) [] = refl
  combination-numbers (e ∷ cs) (u ∷ us) = ap₂ (add p) (mul_constant p e u.terms (sevens_of p n u.terms u.is_poly)) (combination-numbers cs us)

  abbrev number : List ℕ → List Poly → Poly
  number cs us = combination (module_through Ring.ops scalar) cs us

  abbrev differ : Poly → List ℕ → List Poly → Poly
  differ f cs us = Ring.◌⊕◌ f (Ring.neg (number cs us))

  differ-terms : (f : Poly) (cs : List ℕ) (us : List Poly) → (differ f cs us).terms ≡ sub p f.terms (number_combination p cs (terms_of us))
  differ-terms f cs us = ap (sub p f.terms) (combination-numbers cs us)

  reduced-numbers : (cs : List ℕ) (vs : List (List Term)) → All (IsPoly p n) vs → number_combination p (map (λ e. e % p) cs) vs ≡ number_combination p cs vs
  reduced-numbers [] vs h = refl
  reduced-numbers (e ∷ cs) [] h = refl
  reduced-numbers (e ∷ cs) (u ∷ vs) h =
      let s = sevens_of p n u (All-head (IsPoly p n) u vs h) in
      let k : constant p (e % p) ≡ constant p e = ap (λ r. keep r unit []) (mod-mod e p) in
      ap₂ (add p) (sym (mul_constant p (e % p) u s) ∙ ap (λ z. mul p z u) k ∙ mul_constant p e u s)
      (reduced-numbers cs vs (All-tail (IsPoly p n) u vs h))

  below : (cs : List ℕ) → All (λ e. e < p) (map (λ e. e % p) cs)
  below [] = All-nil (λ e. e < p)
  below (e ∷ cs) = All-cons (λ b. b < p) (e % p) (map (λ b. b % p) cs) (mod-lt e (positive_of_prime p prime)) (below cs)

  module _ (gs : List (List Term)) (a : All (IsPoly p n) gs) where
    abbrev G : List Poly
    G = lift p n gs a

    ideal : IsSubmodule (module_through Ring.ops scalar) (Ideals.InIdeal Ring.ops G)
    ideal = let i = IdealLaws.ideal_of_list Ring G in record { resp = i.resp; none = i.none; add = i.add; scale = λ e x h. i.scale (scalar e) x h }

    abbrev space : Module K
    space = quotient K (through K Ring scalar scalar_map) (Ideals.InIdeal Ring.ops G) ideal

    module _ (N : ℕ) (D : HasDim p n gs N) where
      abbrev us : List Poly
      us = lift p n D.basis D.spans.polys

      basis_is : terms_of us ≡ D.basis
      basis_is = terms-lift p n D.basis D.spans.polys

      dimension : Dimension space.ops N
      dimension = (
        us,
        length-lift p n D.basis D.spans.polys ∙ D.as_many,
        (λ k e l. tt),
        (λ f h. let s = D.spans.each f.terms f.is_poly in (
          s.residues,
          s.as_many ∙ sym (length-lift p n D.basis D.spans.polys),
          ideal_from p n high gs a (differ f s.residues us)
              (subst (InIdeal p n gs) (sym (differ-terms f s.residues us ∙ ap (λ l. sub p f.terms (number_combination p s.residues l)) basis_is)) s.close),
        )),
        λ vs b l s. D.least (terms_of vs) (subst (λ k. k < N) (sym (length-map vs (λ g. g.terms))) l) (record {
          polys = polys_of p n vs;
          each = λ f h.
              let m : Poly = record { terms = f; is_poly = h } in
              let r = residue_coefficients p (positive_of_prime p prime) space vs m (s m tt) in
              record {
                residues = r.0;
                below = r.2;
                as_many = r.1 ∙ sym (length-map vs (λ g. g.terms));
                close = subst (InIdeal p n gs) (differ-terms m r.0 vs) (ideal_to p n high gs a (differ m r.0 vs) r.3);
              };
        }),
      )

      small : (cs es : List ℕ) → All (λ e. e < p) cs → All (λ e. e < p) es → AllZip (λ x y. x % p ≡ y % p) cs es → cs ≡ es
      small [] [] h k z = refl
      small [] (e ∷ es) h k z = absurd z
      small (b ∷ cs) [] h k z = absurd z
      small (b ∷ cs) (e ∷ es) h k z = ap₂ ◌∷◌
          (sym (mod-eq_of_lt (All-head (λ x. x < p) b cs h)) ∙ z.0 ∙ mod-eq_of_lt (All-head (λ x. x < p) e es k))
          (small cs es (All-tail (λ x. x < p) b cs h) (All-tail (λ x. x < p) e es k) z.1)

      unique : (cs es : List ℕ) → All (λ e. e < p) cs → All (λ e. e < p) es → length cs ≡ N → length es ≡ N
          → InIdeal p n gs (sub p (number_combination p cs D.basis) (number_combination p es D.basis)) → cs ≡ es
      unfolding dimension
      unique cs es h k l m i = small cs es h k
          (Dimensions.unique_coordinates K (residue_field p prime) space us (Dimensions.independent_of_dimension K (residue_field p prime) space (λ f. Unit {0}) N dimension)
          cs es (l ∙ sym dimension.1) (m ∙ sym dimension.1)
          (ideal_from p n high gs a (differ (number cs us) es us)
          (subst (InIdeal p n gs) (sym (differ-terms (number cs us) es us ∙ ap₂ (sub p) (combination-numbers cs us ∙ ap (number_combination p cs) basis_is) (ap (number_combination p es) basis_is))) i)))

      decided : (f : Poly) → Dec (InIdeal p n gs f.terms)
      decided f = go (Dimensions.dimension_decides K (residue_field p prime) space (λ g. Unit {0}) N dimension f tt)
        where
          go : Dec (space.◌≋◌ f space.origin) → Dec (InIdeal p n gs f.terms)
          go (yes i) = yes (ideal_to p n high gs a f (of_zero Ring (Ideals.InIdeal Ring.ops G) (IdealLaws.ideal_of_list Ring G) f i))
          go (no i) = no (λ w. i (from_zero Ring (Ideals.InIdeal Ring.ops G) (IdealLaws.ideal_of_list Ring G) f (ideal_from p n high gs a f w)))

    -- a list that spans and is independent counts the dimension
    module _ (vs : List (List Term)) (s : Spans p n gs vs) (i : (cs : List ℕ) → All (λ e. e < p) cs → length cs ≡ length vs → InIdeal p n gs (number_combination p cs vs) → All (λ e. e ≡ 0) cs) where
      abbrev xs : List Poly
      xs = lift p n vs s.polys

      zeros : (cs : List ℕ) → All (λ e. e ≡ 0) (map (λ e. e % p) cs) → All (λ e. e % p ≡ 0 % p) cs
      zeros [] h = All-nil (λ e. e % p ≡ 0 % p)
      zeros (c ∷ cs) h = All-cons (λ e. e % p ≡ 0 % p) c cs (All-head (λ e. e ≡ 0) (c % p) (map (λ e. e % p) cs) h ∙ sym (zero-mod p)) (zeros cs (All-tail (λ e. e ≡ 0) (c % p) (map (λ e. e % p) cs) h))

      independent : Independent (residue_ops p) space.ops xs
      independent cs l e = zeros cs (i (map (λ b. b % p) cs) (below cs) (length-map cs (λ b. b % p) ∙ l ∙ length-lift p n vs s.polys)
          (subst (InIdeal p n gs) (combination-numbers cs xs ∙ ap (number_combination p cs) (terms-lift p n vs s.polys) ∙ sym (reduced-numbers cs vs s.polys))
          (ideal_to p n high gs a (number cs xs) (of_zero Ring (Ideals.InIdeal Ring.ops G) (IdealLaws.ideal_of_list Ring G) (number cs xs) e))))

      span : (ws : List (List Term)) (t : Spans p n gs ws) (f : Poly) → InSpan space.ops (lift p n ws t.polys) f
      span ws t f =
          let w = t.each f.terms f.is_poly in (
            w.residues,
            w.as_many ∙ sym (length-lift p n ws t.polys),
            ideal_from p n high gs a (differ f w.residues (lift p n ws t.polys))
                (subst (InIdeal p n gs) (sym (differ-terms f w.residues (lift p n ws t.polys) ∙ ap (λ l. sub p f.terms (number_combination p w.residues l)) (terms-lift p n ws t.polys))) w.close),
          )

      counted : HasDim p n gs (length vs)
      counted = record {
        basis = vs;
        as_many = refl;
        spans = s;
        least = λ ws l t.
            let most : length xs ≤ length (lift p n ws t.polys) = Dimensions.spans_at_least K (residue_field p prime) space (λ f. Unit {0}) xs (lift p n ws t.polys) (λ k e b. tt) independent (λ f h. span ws t f) in
            let b : length xs ≡ length vs = length-lift p n vs s.polys in
            let d : length (lift p n ws t.polys) ≡ length ws = length-lift p n ws t.polys in
            absurd (omega arith);
      }

pub counts_dimension_law : BasesCountDimension
counts_dimension_law p n prime gs a us s i = counted p n prime gs a us s i

pub decided_law : MembershipIsDecided
decided_law p n prime gs a N D f h = decided p n prime gs a N D (record { terms = f; is_poly = h })

-- ---- modulo powers of d

module _ (A : CurveData) (c : IsFinite A) where
  abbrev apart_from : Base.Poly A c.curve → List ℕ → List (Base.Poly A c.curve) → Base.Poly A c.curve
  apart_from f cs us = (Base.Ring A c.curve).◌⊕◌ f ((Base.Ring A c.curve).neg (combination (module_through (Base.Ring A c.curve).ops (Scalars.scalar A c)) cs us))

  powers : (t : ℕ) → HasDim A.prime A.variables (denominator_power A t ∷ A.ideal) (c.dimension.0 * t)
  powers t =
      let D = (Scalars.laws A c).powers c.dimension.0 (CurveLaws.dimension_of_curve (Base.Ring A c.curve) (Base.I A c.curve) (Scalars.scalar A c) (Base.d A c.curve) c.dimension.0 (Scalars.dimension A c)) t in
      record {
        basis = terms_of D.0;
        as_many = length-map D.0 (λ g. g.terms) ∙ D.1;
        spans = record {
          polys = polys_of A.prime A.variables D.0;
          each = λ f h.
              let m = Base.member A c.curve f h in
              let s = D.3 (Base.member A c.curve f h) tt in
              record {
                residues = map (λ e. e % A.prime) s.0;
                below = below A.prime A.variables c.curve.prime s.0;
                as_many = length-map s.0 (λ e. e % A.prime) ∙ s.1 ∙ sym (length-map D.0 (λ g. g.terms));
                close = subst (InIdeal A.prime A.variables (denominator_power A t ∷ A.ideal))
                    (ap (sub A.prime f) (Scalars.combination-numbers A c s.0 D.0 ∙ sym (reduced-numbers A.prime A.variables c.curve.prime s.0 (terms_of D.0) (polys_of A.prime A.variables D.0))))
                    (taken_down A c.curve t (apart_from (Base.member A c.curve f h) s.0 D.0) s.2);
              };
        };
        least = λ vs l s. D.4 (lift A.prime A.variables vs s.polys) (λ k e b. tt)
            (subst (λ k. k < c.dimension.0 * t) (sym (length-lift A.prime A.variables vs s.polys)) l)
            (λ f h. let w = s.each f.terms f.is_poly in (
              w.residues,
              w.as_many ∙ sym (length-lift A.prime A.variables vs s.polys),
              taken_up A c.curve t (apart_from f w.residues (lift A.prime A.variables vs s.polys))
                  (subst (InIdeal A.prime A.variables (denominator_power A t ∷ A.ideal))
                  (sym (ap (sub A.prime f.terms) (Scalars.combination-numbers A c w.residues (lift A.prime A.variables vs s.polys) ∙ ap (number_combination A.prime w.residues) (terms-lift A.prime A.variables vs s.polys)))) w.close),
            ));
      }

pub powers_law : PowersHaveDimension
powers_law A c t = powers A c t

pub unique_coordinates_law : CoordinatesAreUnique
unique_coordinates_law p n prime gs a N D cs es h k l m i = unique p n prime gs a N D cs es h k l m i
