-- A ring of fractions modulo its products with a point, by coordinates.
use Rattle.std.proofs.Common.{◌≡◌, ℕ, zero, suc, ◌+◌, ◌-◌, ◌*◌, ◌<◌, List, [], ◌∷◌, map, length, All, get_or, refl, sym, ap, ap₂, ◌∙◌, subst, arith}
use Rattle.std.proofs.lemmas.List.Elements.{All-head, All-tail}
use Rattle.comm_ring.specs.Ring.{CommRing}
use Rattle.comm_ring.specs.Modules.{combine, combination, module_through}
use Rattle.comm_ring.proofs.Derived as Derived
use Rattle.comm_ring.proofs.Modules.{Module, through}
use Rattle.comm_ring.proofs.Residues.{residues}
use Rattle.prime_field.proofs.Table.{positive_of_prime}
use Rattle.polys.specs.declared.term.Term.{Term}
use Rattle.polys.specs.Terms.{IsPoly, one}
use Rattle.polys.specs.Curve.{CurveData}
use Rattle.curve_model.specs.Fraction.{Fraction, IsFraction, AreEqual, InA, over, product_of, multiple_of}
use Rattle.curve_model.specs.Closure.{InModule}
use Rattle.curve_model.specs.Delta as Delta
use Rattle.curve_model.specs.Laws.{IsFinite, ArePolys}
use Rattle.curve_model.specs.OneExponent.{all_over}
use Rattle.curve_model.specs.Rings.{IsFractionRing, IsProduct}
use Rattle.curve_model.specs.Enlarging.{difference_of}
use Rattle.finite_algebra.specs.Elements.{FiniteAlgebra, IsAlgebra, IsElement, times}
use Rattle.finite_algebra.proofs.Units.{along}
use Rattle.curve_laws.proofs.Base.{member, equal_up}
use Rattle.curve_laws.proofs.Chains.{chain, flip, mul_both}
use Rattle.curve_laws.proofs.Facts.{same_member}
use Rattle.curve_laws.proofs.StatedLaws.{frac, sum_poly, product_poly, sum-frac, product-frac}
use Rattle.curve_laws.proofs.SplitLaws.{Frac, unfrac, frac_all}
use Rattle.curve_laws.proofs.CountingLaws.{unfrac_all}
use Rattle.curve_laws.proofs.DeltaLaws.{scal, multiple_poly, combination_poly, combination-frac}
use Rattle.curve_laws.proofs.DescentLaws.{Frs, module_down}
use Rattle.chain_laws.proofs.OneExponent.{numbers_poly, fractions_over, one_combination}
use Rattle.chain_laws.proofs.ChainLaws.{one_poly}
use Rattle.quotient_laws.specs.Quotients.{fraction_of, DifferByProducts, IsQuotientAt, HasQuotientProducts, QuotientProductsAreAlgebras}
use Rattle.quotient_laws.proofs.Constants as Constants
use Rattle.quotient_laws.proofs.FractionQuotients.{N, E, ring, products, same, inside, constant, constants, product_up, product_down}

module _ (A : CurveData) (c : IsFinite A) (P : List (List Term)) (p : ArePolys A P) (K : ℕ) (L : List (List Term)) (l : ArePolys A L)
    (r : IsFractionRing A (InModule A K L)) (holds : (f : Fraction) → IsFraction A f → InA A f → InModule A K L f) where
  abbrev pub B : Fraction → Type 0
  B = InModule A K L

  abbrev pub F : CommRing
  F = Frs A c

  abbrev pub Quotient : CommRing
  Quotient = E A c P p K L l r holds

  pub positive : 0 < A.prime
  positive = positive_of_prime A.prime c.curve.prime

  -- a fraction does not depend on how its numerator is known to be a polynomial
  same_frac : (f : Fraction) (h g : IsFraction A f) → frac A c f h ≡ frac A c f g
  same_frac f h g = ap (λ z. (z, f.exponent)) (same_member (member A c.curve f.numerator h) (member A c.curve f.numerator g) refl)

  abbrev minus : (g : Fraction) → IsFraction A g → Frac A c
  minus g hg = frac A c (multiple_of A (A.prime - 1) g) (multiple_poly A c (A.prime - 1) g hg)

  negative : (g : Fraction) (hg : IsFraction A g) → F.neg (frac A c g hg) ≡ minus g hg
  negative g hg = ap (λ z. (z, g.exponent)) (same_member (F.neg (frac A c g hg)).0 (minus g hg).0 refl)

  pub difference_poly : (f g : Fraction) → IsFraction A f → IsFraction A g → IsFraction A (difference_of A f g)
  difference_poly f g hf hg = sum_poly A c f (multiple_of A (A.prime - 1) g) hf (multiple_poly A c (A.prime - 1) g hg)

  pub difference : (f g : Fraction) (hf : IsFraction A f) (hg : IsFraction A g) → F.◌⊕◌ (frac A c f hf) (F.neg (frac A c g hg)) ≡ frac A c (difference_of A f g) (difference_poly f g hf hg)
  unfolding difference_poly
  difference f g hf hg = ap (F.◌⊕◌ (frac A c f hf)) (negative g hg) ∙ sum-frac A c f (multiple_of A (A.prime - 1) g) hf (multiple_poly A c (A.prime - 1) g hg)

  -- equality modulo the products, at fractions
  pub differ_up : (f g : Fraction) (hf : IsFraction A f) (hg : IsFraction A g) (bf : B f) (bg : B g) → DifferByProducts A P B f g
      → Quotient.◌≈◌ (inside A c P p K L l r holds f hf bf) (inside A c P p K L l r holds g hg bg)
  differ_up f g hf hg bf bg w = subst (N A c P p K L l r holds) (sym (difference f g hf hg)) (product_up A c P p K L l r holds (difference_of A f g) (difference_poly f g hf hg) w)

  pub differ_down : (f g : Fraction) (hf : IsFraction A f) (hg : IsFraction A g) (bf : B f) (bg : B g)
      → Quotient.◌≈◌ (inside A c P p K L l r holds f hf bf) (inside A c P p K L l r holds g hg bg) → DifferByProducts A P B f g
  differ_down f g hf hg bf bg w =
      product_down A c P p K L l r holds (frac A c (difference_of A f g) (difference_poly f g hf hg)) (subst (N A c P p K L l r holds) (difference f g hf hg) w)

  -- 1, as a fraction of the ring
  pub one_inside : Quotient.◌≈◌ (inside A c P p K L l r holds (over one 0) (one_poly A c) r.one) Quotient.𝟙
  one_inside = same A c P p K L l r holds (inside A c P p K L l r holds (over one 0) (one_poly A c) r.one) Quotient.𝟙
      (subst (λ z. F.◌≈◌ z F.𝟙) (sym (ap (λ z. (z, 0)) (same_member (member A c.curve one (one_poly A c)) (F.𝟙).0 refl))) (F.rfl F.𝟙))

  drop_zero : (R : CommRing) (x : R.carrier) → R.◌≈◌ (R.◌⊕◌ x (R.neg R.𝟘)) x
  drop_zero R x = R.trans (R.add_cong (R.rfl x) (Derived.neg_zero R)) (R.add_zero x)

  -- a sum of products is 0 modulo them
  pub none_up : (x : Quotient.carrier) → N A c P p K L l r holds x.0 → Quotient.◌≈◌ x Quotient.𝟘
  none_up x h = (products A c P p K L l r holds).resp x.0 (F.◌⊕◌ x.0 (F.neg F.𝟘)) (flip F (F.◌⊕◌ x.0 (F.neg F.𝟘)) x.0 (drop_zero F x.0)) h

  pub none_from : (x : Quotient.carrier) → Quotient.◌≈◌ x Quotient.𝟘 → N A c P p K L l r holds x.0
  none_from x e = (products A c P p K L l r holds).resp (F.◌⊕◌ x.0 (F.neg F.𝟘)) x.0 (drop_zero F x.0) e

  pub none_down : (f : Fraction) (h : IsFraction A f) (b : B f) → Quotient.◌≈◌ (inside A c P p K L l r holds f h b) Quotient.𝟘 → IsProduct A P B f
  none_down f h b e = product_down A c P p K L l r holds (frac A c f h) (none_from (inside A c P p K L l r holds f h b) e)

  -- a product of fractions of the ring, as one in the ring
  pub product_inside : (f g : Fraction) (hf : IsFraction A f) (hg : IsFraction A g) (bf : B f) (bg : B g)
      → Quotient.◌≈◌ (Quotient.◌⊗◌ (inside A c P p K L l r holds f hf bf) (inside A c P p K L l r holds g hg bg))
      (inside A c P p K L l r holds (product_of A f g) (product_poly A c f g hf hg) (r.product f g hf hg bf bg))
  product_inside f g hf hg bf bg = same A c P p K L l r holds (Quotient.◌⊗◌ (inside A c P p K L l r holds f hf bf) (inside A c P p K L l r holds g hg bg))
      (inside A c P p K L l r holds (product_of A f g) (product_poly A c f g hf hg) (r.product f g hf hg bf bg))
      (subst (λ z. F.◌≈◌ (F.◌⊗◌ (frac A c f hf) (frac A c g hg)) z) (product-frac A c f g hf hg) (F.rfl (F.◌⊗◌ (frac A c f hf) (frac A c g hg))))

  module _ (k : ℕ) where
    -- numerators as members of the ring
    pub members_of : (us : List (List Term)) → ArePolys A us → All (λ u. B (over u k)) us → List Quotient.carrier
    members_of [] h b = []
    members_of (u ∷ us) h b = inside A c P p K L l r holds (over u k) (All-head (IsPoly A.prime A.variables) u us h) (All-head (λ u. B (over u k)) u us b)
        ∷ members_of us (All-tail (IsPoly A.prime A.variables) u us h) (All-tail (λ u. B (over u k)) u us b)

    pub long : (us : List (List Term)) (h : ArePolys A us) (b : All (λ u. B (over u k)) us) → length (members_of us h b) ≡ length us
    unfolding members_of
    long [] h b = refl
    long (u ∷ us) h b = ap suc (long us (All-tail (IsPoly A.prime A.variables) u us h) (All-tail (λ u. B (over u k)) u us b))

    firsts : (us : List (List Term)) (h : ArePolys A us) (b : All (λ u. B (over u k)) us) (g : All (IsFraction A) (all_over k us))
        → map (λ x. x.0) (members_of us h b) ≡ frac_all A c (all_over k us) g
    unfolding frac_all members_of
    firsts [] h b g = refl
    firsts (u ∷ us) h b g = ap₂ (λ x xs. x ∷ xs) (same_frac (over u k) (All-head (IsPoly A.prime A.variables) u us h) (All-head (IsFraction A) (over u k) (all_over k us) g))
        (firsts us (All-tail (IsPoly A.prime A.variables) u us h) (All-tail (λ u. B (over u k)) u us b) (All-tail (IsFraction A) (over u k) (all_over k us) g))

    abbrev pub M : Module (residues A.prime positive)
    M = through (residues A.prime positive) Quotient (constant A c P p K L l r holds) (constants A c P p K L l r holds)

    -- a combination in the ring is one of fractions
    first_of : (cs : List ℕ) (xs : List Quotient.carrier) → (combination M.ops cs xs).0 ≡ combination (module_through F.ops (scal A c)) cs (map (λ x. x.0) xs)
    unfolding combine
    first_of [] xs = refl
    first_of (e ∷ cs) [] = refl
    first_of (e ∷ cs) (x ∷ xs) = ap (λ z. F.◌⊕◌ (F.◌⊗◌ (scal A c e) x.0) z) (first_of cs xs)

    module _ (us : List (List Term)) (h : ArePolys A us) (b : All (λ u. B (over u k)) us) where
      pub fraction_poly : (x : List ℕ) → IsFraction A (fraction_of A k us x)
      fraction_poly x = numbers_poly A c k x us h

      combined : (cs : List ℕ) → F.◌≈◌ (combination M.ops cs (members_of us h b)).0 (frac A c (fraction_of A k us cs) (fraction_poly cs))
      combined cs =
          let g = fractions_over A c k us h in
          let xs = frac_all A c (all_over k us) g in
          subst (λ z. F.◌≈◌ z (frac A c (fraction_of A k us cs) (fraction_poly cs)))
          (sym (first_of cs (members_of us h b) ∙ ap (combination (module_through F.ops (scal A c)) cs) (firsts us h b g) ∙ combination-frac A c cs xs))
          (equal_up A c.curve (Delta.combination A cs (map (unfrac A c) xs)) (fraction_of A k us cs) (combination_poly A c cs xs) (fraction_poly cs)
          (subst (λ fs. AreEqual A (Delta.combination A cs fs) (fraction_of A k us cs)) (sym (unfrac_all A c (all_over k us) g)) (one_combination A c k cs us h)))

      pub member_in : (x : List ℕ) → B (fraction_of A k us x)
      member_in x = module_down A c K L l (frac A c (fraction_of A k us x) (fraction_poly x))
          ((ring A c P p K L l r holds).resp (combination M.ops x (members_of us h b)).0 (frac A c (fraction_of A k us x) (fraction_poly x)) (combined x) (combination M.ops x (members_of us h b)).1)

      -- the fraction with these coordinates
      abbrev pub inner : List ℕ → Quotient.carrier
      inner x = inside A c P p K L l r holds (fraction_of A k us x) (fraction_poly x) (member_in x)

      abbrev pub at : ℕ → Quotient.carrier
      at i = get_or (members_of us h b) i Quotient.𝟘

      -- the fraction with the coordinates x is the sum of the members, each times its coordinate
      pub worth_inner : (n : ℕ) → length us ≡ n → (x : List ℕ)
          → Quotient.◌≈◌ (along A.prime positive n M at x) (inner x)
      worth_inner n e x = chain Quotient (along A.prime positive n M at x) (combination M.ops x (members_of us h b)) (inner x)
          (Constants.along_list Quotient A.prime positive (constant A c P p K L l r holds) (constants A c P p K L l r holds) n (members_of us h b) (long us h b ∙ e) x)
          (same A c P p K L l r holds (combination M.ops x (members_of us h b)) (inner x) (combined x))

    -- the member with this number
    first_at : (us : List (List Term)) (h : ArePolys A us) (b : All (λ u. B (over u k)) us) (i : ℕ) → i < length us → (g : IsPoly A.prime A.variables (get_or us i []))
        → (get_or (members_of us h b) i Quotient.𝟘).0 ≡ frac A c (over (get_or us i []) k) g
    unfolding members_of
    first_at [] h b i m g = absurd (omega arith)
    first_at (u ∷ us) h b zero m g = same_frac (over u k) (All-head (IsPoly A.prime A.variables) u us h) g
    first_at (u ∷ us) h b (suc i) m g = first_at us (All-tail (IsPoly A.prime A.variables) u us h) (All-tail (λ u. B (over u k)) u us b) i (let l : suc i < length (u ∷ us) = m in omega arith) g

    module _ (n : ℕ) (one_row : List ℕ) (rows : List (List ℕ)) (us : List (List Term))
        (q : HasQuotientProducts A P k (InModule A K L) (record { prime = A.prime; dimension = n; one = one_row; products = rows }) us) where
      abbrev a : FiniteAlgebra
      a = record { prime = A.prime; dimension = n; one = one_row; products = rows }

      abbrev u : ℕ → Quotient.carrier
      u i = at us q.polys q.members i

      abbrev worth : List ℕ → Quotient.carrier
      worth x = along A.prime positive n M (at us q.polys q.members) x

      abbrev of : List ℕ → Quotient.carrier
      of x = inner us q.polys q.members x

      abbrev fraction : List ℕ → Fraction
      fraction x = fraction_of A k us x

      abbrev poly : (x : List ℕ) → IsFraction A (fraction_of A k us x)
      poly x = fraction_poly us q.polys q.members x

      abbrev is_in : (x : List ℕ) → B (fraction_of A k us x)
      is_in x = member_in us q.polys q.members x

      of_worth : (x : List ℕ) → Quotient.◌≈◌ (worth x) (of x)
      of_worth x = worth_inner us q.polys q.members n q.count x

      place : (i : ℕ) → i < n → i < length us
      place i m = let e = q.count in omega arith

      poly_at : (i : ℕ) → i < n → IsPoly A.prime A.variables (get_or us i [])
      poly_at i m = q.polys i [] (place i m)

      in_at : (i : ℕ) → i < n → B (over (get_or us i []) k)
      in_at i m = q.members i [] (place i m)

      -- the member with a number is the fraction of its numerator
      u_is : (i : ℕ) (m : i < n) → Quotient.◌≈◌ (u i) (inside A c P p K L l r holds (over (get_or us i []) k) (poly_at i m) (in_at i m))
      u_is i m = same A c P p K L l r holds (u i) (inside A c P p K L l r holds (over (get_or us i []) k) (poly_at i m) (in_at i m))
          (subst (λ z. F.◌≈◌ z (frac A c (over (get_or us i []) k) (poly_at i m))) (sym (first_at us q.polys q.members i (place i m) (poly_at i m))) (F.rfl (frac A c (over (get_or us i []) k) (poly_at i m))))

      at_products : (i j : ℕ) → i < n → j < n → Quotient.◌≈◌ (worth (get_or rows (i * n + j) [])) (Quotient.◌⊗◌ (u i) (u j))
      at_products i j li lj =
          let x = get_or rows (i * n + j) [] in
          let f = over (get_or us i []) k in
          let g = over (get_or us j []) k in
          let hf = poly_at i li in
          let hg = poly_at j lj in
          let bf = in_at i li in
          let bg = in_at j lj in
          let vf = inside A c P p K L l r holds f hf bf in
          let vg = inside A c P p K L l r holds g hg bg in
          let v = inside A c P p K L l r holds (product_of A f g) (product_poly A c f g hf hg) (r.product f g hf hg bf bg) in
          chain Quotient (worth x) (of x) (Quotient.◌⊗◌ (u i) (u j)) (of_worth x)
          (chain Quotient (of x) v (Quotient.◌⊗◌ (u i) (u j))
          (flip Quotient v (of x) (differ_up (product_of A f g) (fraction x) (product_poly A c f g hf hg) (poly x) (r.product f g hf hg bf bg) (is_in x) (q.products i j li lj)))
          (chain Quotient v (Quotient.◌⊗◌ vf vg) (Quotient.◌⊗◌ (u i) (u j)) (flip Quotient (Quotient.◌⊗◌ vf vg) v (product_inside f g hf hg bf bg))
          (mul_both Quotient vf (u i) vg (u j) (flip Quotient (u i) vf (u_is i li)) (flip Quotient (u j) vg (u_is j lj)))))

      -- only 0 stands for a sum of products
      zero_in : (x : List ℕ) → IsElement a x → Quotient.◌≈◌ (worth x) Quotient.𝟘 → All (λ e. e ≡ 0) x
      zero_in x h e = q.zero x h (none_down (fraction x) (poly x) (is_in x) (chain Quotient (of x) (worth x) Quotient.𝟘 (flip Quotient (worth x) (of x) (of_worth x)) e))

      one_is : Quotient.◌≈◌ (worth one_row) Quotient.𝟙
      one_is =
          let v = inside A c P p K L l r holds (over one 0) (one_poly A c) r.one in
          chain Quotient (worth one_row) (of one_row) Quotient.𝟙 (of_worth one_row)
          (chain Quotient (of one_row) v Quotient.𝟙 (flip Quotient v (of one_row) (differ_up (over one 0) (fraction one_row) (one_poly A c) (poly one_row) r.one (is_in one_row) q.one)) one_inside)

      pub algebra : IsAlgebra a
      algebra = Constants.algebra Quotient a positive (constant A c P p K L l r holds) (constants A c P p K L l r holds) u at_products zero_in q.squares q.rows q.unit one_is

      pub product : (x y : List ℕ) → DifferByProducts A P B (product_of A (fraction x) (fraction y)) (fraction (times a x y))
      product x y =
          let t = times a x y in
          let v = inside A c P p K L l r holds (product_of A (fraction x) (fraction y)) (product_poly A c (fraction x) (fraction y) (poly x) (poly y)) (r.product (fraction x) (fraction y) (poly x) (poly y) (is_in x) (is_in y)) in
          differ_down (product_of A (fraction x) (fraction y)) (fraction t) (product_poly A c (fraction x) (fraction y) (poly x) (poly y)) (poly t)
          (r.product (fraction x) (fraction y) (poly x) (poly y) (is_in x) (is_in y)) (is_in t)
          (chain Quotient v (Quotient.◌⊗◌ (of x) (of y)) (of t) (flip Quotient (Quotient.◌⊗◌ (of x) (of y)) v (product_inside (fraction x) (fraction y) (poly x) (poly y) (is_in x) (is_in y)))
          (chain Quotient (Quotient.◌⊗◌ (of x) (of y)) (Quotient.◌⊗◌ (worth x) (worth y)) (of t)
          (mul_both Quotient (of x) (worth x) (of y) (worth y) (flip Quotient (worth x) (of x) (of_worth x)) (flip Quotient (worth y) (of y) (of_worth y)))
          (chain Quotient (Quotient.◌⊗◌ (worth x) (worth y)) (worth t) (of t)
          (flip Quotient (worth t) (Quotient.◌⊗◌ (worth x) (worth y)) (Constants.product Quotient a positive (constant A c P p K L l r holds) (constants A c P p K L l r holds) u at_products x y))
          (of_worth t))))

      pub quotient : IsAlgebra a × IsQuotientAt A P k (InModule A K L) (record { prime = A.prime; dimension = n; one = one_row; products = rows }) us
      quotient = (
        algebra,
        record {
          prime = refl;
          count = q.count;
          polys = q.polys;
          members = q.members;
          onto = q.onto;
          zero = q.zero;
          one = q.one;
          product = λ x y h g. product x y;
        },
      )

pub quotient_law : QuotientProductsAreAlgebras
quotient_law A c P p K L l r holds k a us q =
    subst (λ e. IsAlgebra (with_prime e) × IsQuotientAt A P k (InModule A K L) (with_prime e) us) (sym q.prime)
    (quotient A c P p K L l r holds k a.dimension a.one a.products us (subst (λ e. HasQuotientProducts A P k (InModule A K L) (with_prime e) us) q.prime q))
  where
    with_prime : ℕ → FiniteAlgebra
    with_prime e = record { prime = e; dimension = a.dimension; one = a.one; products = a.products }
