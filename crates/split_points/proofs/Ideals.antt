-- An ideal of A modulo d and its reduced basis: the polynomials of the basis's ideal are those with digits in the space.
use Rattle.std.proofs.Common.{◌≡◌, ◌↔◌, ℕ, ◌*◌, ◌%◌, ◌<◌, List, ◌∷◌, ◌++◌, map, length, get_or, refl, sym, ap, ◌∙◌, subst, mod-lt}
use Rattle.std.specs.List.{All, AllZip, Contains}
use Rattle.std.proofs.lemmas.List.{get_or-map, length-map}
use Rattle.std.proofs.lemmas.List.Elements.{All-contains, All-contains_itself, All-map, All-weaker}
use Rattle.comm_ring.specs.Rows.{rows}
use Rattle.comm_ring.specs.Modules.{combination, InSpan, IsSubmodule}
use Rattle.comm_ring.proofs.Modules as Modules
use Rattle.comm_ring.proofs.Residues.{residues}
use Rattle.prime_field.proofs.Table.{positive_of_prime}
use Rattle.monomials.specs.Mono.{Monomial, variable}
use Rattle.polys.specs.declared.term.Term.{Term}
use Rattle.polys.specs.Terms.{IsPoly, one, sub, mul}
use Rattle.polys.specs.Ideal.{InIdeal, number_combination, HasDim}
use Rattle.polys.specs.Curve.{CurveData}
use Rattle.polys.specs.Reduced.{IsReducedBasis}
use Rattle.polys.proofs.Affine.{poly_mul, poly_sub}
use Rattle.polys.proofs.Sums.{mul_comm}
use Rattle.ideal_laws.proofs.Differences.{less_difference}
use Rattle.ideal_laws.proofs.Ideals.{in_head, in_more, in_mul, in_sub}
use Rattle.curve_model.specs.Laws.{IsFinite}
use Rattle.curve_model.specs.OneExponent.{InPower}
use Rattle.curve_model.specs.Point.{IsPoint}
use Rattle.curve_laws.proofs.Coordinates.{unique_coordinates_law}
use Rattle.curve_points.proofs.Points.{degrees_law}
use Rattle.standard_monomials.specs.Standard.{polynomial_of}
use Rattle.standard_monomials.proofs.Powers.{affine_power}
use Rattle.row_space.specs.Subspace.{Subspace, DifferIn, IsIn}
use Rattle.finite_algebra.specs.Elements.{FiniteAlgebra, IsElement, times}
use Rattle.finite_algebra.specs.Projections.{IsIdealOf, IsProjection}
use Rattle.finite_algebra.proofs.Generated.{moved}
use Rattle.frobenius_map.proofs.Ground.{differ_moved}
use Rattle.frobenius_split.specs.Points.{IsMaximalIdeal}
use Rattle.digit_laws.specs.Digits.{AreCornersOf, AreDigits, HasDigitsIn, IsIdealSpace, value}
use Rattle.digit_laws.proofs.Spaces.{affine_poly}
use Rattle.over_module.proofs.DepthRows.{ideal_of_polys}
use Rattle.split_points.proofs.Classes as Classes
use Rattle.split_points.proofs.Counting.{as_many}
use native.Mathlib.Nat.{mod-mod, zero-mod}

-- numbers that are 0 modulo p
zeros_of : (p : ℕ) (cs : List ℕ) → map (λ e. e % p) cs ≡ map (λ (e : ℕ). 0) cs → All (λ e. e % p ≡ 0 % p) cs
zeros_of p cs same j d m = sym (get_or-map (λ e. e % p) cs j d 0 m) ∙ ap (λ xs. get_or xs j 0) same ∙ get_or-map (λ (e : ℕ). 0) cs j d 0 m ∙ sym (zero-mod p)

module _ (A : CurveData) (c : IsFinite A) (ms : List Monomial) (k : AreCornersOf A ms) (one_row : List ℕ) (products : List (List ℕ)) where
  abbrev pub a : FiniteAlgebra
  a = record { prime = A.prime; dimension = length ms * 1; one = one_row; products = products }

  abbrev P : List Term → Type 0
  P f = IsPoly A.prime A.variables f

  abbrev D : List Term → List ℕ → Type 0
  D f x = AreDigits A ms 1 f x

  pos : 0 < A.prime
  pos = positive_of_prime A.prime c.curve.prime

  high : 1 < A.prime
  high = Classes.high A c ms k

  abbrev RM : Modules.Module (residues A.prime (positive_of_prime A.prime c.curve.prime))
  RM = Classes.RM A c ms k

  module _ (first : AreDigits A ms 1 one one_row)
      (times_rule : (x y : List ℕ) → IsElement a x → IsElement a y → AreDigits A ms 1 (mul A.prime (value A ms 1 x) (value A ms 1 y)) (times a x y))
      (q : Subspace) (i : IsIdealOf a q) where
    product_digits : (f h : List Term) (x y : List ℕ) → P f → P h → D f x → D h y → D (mul A.prime f h) (times a x y)
    product_digits f h x y hf hh r s = Classes.times_digits A c ms k (times a) times_rule f h x y hf hh r s

    inward : (x : List ℕ) → IsIn q x → InSpan (rows A.prime (length ms * 1)) q.basis x
    inward x h = moved q.prime A.prime q.width (length ms * 1) q.basis x i.prime i.width h

    outward : (x : List ℕ) → InSpan (rows A.prime (length ms * 1)) q.basis x → IsIn q x
    outward x h = moved A.prime q.prime (length ms * 1) q.width q.basis x (sym i.prime) (sym i.width) h

    span : IsSubmodule (rows A.prime (length ms * 1)) (InSpan (rows A.prime (length ms * 1)) q.basis)
    span = Modules.span_submodule (residues A.prime (positive_of_prime A.prime c.curve.prime)) RM q.basis

    -- membership does not depend on how residues are written
    pub normal : (x : List ℕ) → IsIn q x ↔ IsIn q ((rows A.prime (length ms * 1)).◌·◌ 1 x)
    normal x =
        let y : List ℕ = (rows A.prime (length ms * 1)).◌·◌ 1 x in
        (λ h. outward y (span.resp x y (RM.symm {x = y} {y = x} (RM.one_scale x)) (inward x h)), λ h. outward x (span.resp y x (RM.one_scale x) (inward y h)))

    -- it is closed under the variables
    pub ideal_space : IsIdealSpace A ms 1 q
    ideal_space = ideal_of_polys A c ms k 1 q (record { prime = i.prime; width = i.width }) (λ v l f hf h.
        let x = polynomial_of (variable v) in
        let hx : P x = affine_poly A c ms k 1 (variable v) (affine_power A.variables v 1 l) in
        let r = (Classes.laws A c ms k).exist x hx in
        (times a r.0 h.0, product_digits x f r.0 h.0 hx hf r.1 h.1, i.absorbs r.0 h.0 r.1.fits h.1.fits h.2))

    module _ (qs : List (List Term)) (b : IsReducedBasis A.prime A.variables (HasDigitsIn A ms 1 q) qs) where
      abbrev Holds : List Term → Type 0
      Holds f = InIdeal A.prime A.variables qs f

      -- a polynomial is in the ideal exactly where its digits are in the space
      pub exact : (f : List Term) (x : List ℕ) → P f → D f x → InIdeal A.prime A.variables qs f ↔ IsIn q x
      exact f x hf r = (
        (λ h. let w = (b.exact f hf).0 h in subst (IsIn q) ((Classes.laws A c ms k).unique f w.0 x hf w.1 r) w.2),
        (λ h. (b.exact f hf).1 (x, r, h)),
      )

      zero_holds : (f : List Term) → P f → InPower A 1 f → Holds f
      zero_holds f hf h = (exact f (rows A.prime (length ms * 1)).origin hf (Classes.zero_digits A c ms k f hf h)).1 (outward (rows A.prime (length ms * 1)).origin span.none)

      -- the difference of polynomials whose digits differ by a row of the space
      pub difference : (f h : List Term) (x y : List ℕ) → P f → P h → D f x → D h y → DifferIn q x y → Holds (sub A.prime f h)
      difference f h x y hf hh r s d =
          let V = rows A.prime (length ms * 1) in
          (exact (sub A.prime f h) (V.◌⊞◌ x (V.opposite y)) (poly_sub A.prime A.variables f h pos hf hh) (Classes.sub_digits A c ms k f h x y hf hh r s)).1
          (outward (V.◌⊞◌ x (V.opposite y)) (differ_moved q.prime A.prime q.width (length ms * 1) q.basis x y i.prime i.width d))

      pub point : IsMaximalIdeal a q → IsPoint A qs
      point m = record {
        reduced = b.reduced;
        holds_ideal = All-weaker (Contains A.ideal) Holds (λ f n. zero_holds f (All-contains P A.ideal f c.curve.ideal n) (Classes.ideal_zero A c ms k f n)) A.ideal (All-contains_itself A.ideal);
        holds_denominator = zero_holds A.denominator c.curve.denominator (Classes.denominator_zero A c ms k);
        proper = λ h. m.proper ((exact one one_row (Classes.one_is_poly A c ms k) first).0 h);
        maximal = inverse;
      }
        where
          inverse : (f : List Term) → P f → (Holds f → ⊥) → InIdeal A.prime A.variables (f ∷ qs) one
          inverse f hf out =
              let p = A.prime in
              let n = A.variables in
              let x = (Classes.laws A c ms k).exist f hf in
              let w = m.inverses x.0 x.1.fits (λ h. out ((exact f x.0 hf x.1).1 h)) in
              let v = value A ms 1 w.0 in
              let hv = Classes.val_poly A c ms k w.0 in
              let fv = mul p f v in
              let hfv : P fv = poly_mul p n f v pos hf hv in
              let h1 = Classes.one_is_poly A c ms k in
              let near : Holds (sub p fv one) =
              difference fv one (times a x.0 w.0) one_row hfv h1 (product_digits f v x.0 w.0 hf hv x.1 (Classes.own A c ms k w.0 w.1)) first w.2 in
              let inside : InIdeal p n (f ∷ qs) fv = subst (InIdeal p n (f ∷ qs)) (mul_comm p v f) (in_mul p n (f ∷ qs) v f pos hv (in_head p n f qs high hf)) in
              subst (InIdeal p n (f ∷ qs)) (less_difference p fv one pos hfv.canonical h1.canonical)
              (in_sub p n (f ∷ qs) fv (sub p fv one) pos (poly_sub p n fv one pos hfv h1) inside (in_more p n f qs (sub p fv one) near))

      -- the dimension modulo the ideal is the number of columns of a matrix with the space as its kernel
      module _ (is : IsPoint A qs) (m : ℕ) (matrix : List (List ℕ)) (j : IsProjection a q m matrix) where
        dim : (N : ℕ) × HasDim A.prime A.variables qs N
        dim = degrees_law A c qs is

        unfoldable digits : (gs : List (List ℕ)) × AllZip (AreDigits A ms 1) dim.1.basis gs
        digits = Classes.listed A c ms k dim.1.basis dim.1.spans.polys

        combination_digits : (cs : List ℕ) → D (number_combination A.prime cs dim.1.basis) (combination (rows A.prime (length ms * 1)) cs digits.0)
        combination_digits cs = Classes.combination_digits A c ms k dim.1.basis digits.0 digits.1 dim.1.spans.polys cs

        numbers : (cs : List ℕ) → P (number_combination A.prime cs dim.1.basis)
        numbers cs = Classes.numbers A c ms k cs dim.1.basis dim.1.spans.polys

        long : length digits.0 ≡ dim.0
        long = Classes.as_long A c ms k dim.1.basis digits.0 digits.1 ∙ dim.1.as_many

        spans : (x : List ℕ) → InSpan (rows A.prime (length ms * 1)) (q.basis ++ digits.0) x
        spans x =
            let V = rows A.prime (length ms * 1) in
            let K = residues A.prime (positive_of_prime A.prime c.curve.prime) in
            let gs = digits.0 in
            let y : List ℕ = V.◌·◌ 1 x in
            let f = value A ms 1 y in
            let hf = Classes.val_poly A c ms k y in
            let s = dim.1.spans.each f hf in
            let v : List ℕ = combination V s.residues gs in
            let d = Classes.sub_digits A c ms k f (number_combination A.prime s.residues dim.1.basis) y v hf (numbers s.residues)
            (Classes.own A c ms k y (Classes.normal_fits A c ms k x)) (combination_digits s.residues) in
            let low : InSpan V q.basis (V.◌⊞◌ y (V.opposite v)) =
            inward (V.◌⊞◌ y (V.opposite v)) ((exact (sub A.prime f (number_combination A.prime s.residues dim.1.basis)) (V.◌⊞◌ y (V.opposite v))
            (poly_sub A.prime A.variables f (number_combination A.prime s.residues dim.1.basis) pos hf (numbers s.residues)) d).0 s.close) in
            let whole = Modules.span_submodule K RM (q.basis ++ gs) in
            let high : InSpan V gs v = (s.residues, s.as_many ∙ dim.1.as_many ∙ sym long, RM.rfl v) in
            whole.resp (V.◌⊞◌ (V.◌⊞◌ y (V.opposite v)) v) x (RM.trans {x = V.◌⊞◌ (V.◌⊞◌ y (V.opposite v)) v} {y = y} {z = x} (Modules.sub_undo K RM y v) (RM.one_scale x))
            (whole.add (V.◌⊞◌ y (V.opposite v)) v (Modules.span_left K RM q.basis gs (V.◌⊞◌ y (V.opposite v)) low) (Modules.span_right K RM q.basis gs v high))

        apart : (cs : List ℕ) → length cs ≡ length digits.0 → InSpan (rows A.prime (length ms * 1)) q.basis (combination (rows A.prime (length ms * 1)) cs digits.0)
            → All (λ e. e % A.prime ≡ 0 % A.prime) cs
        apart cs l h =
            let p = A.prime in
            let V = rows A.prime (length ms * 1) in
            let K = residues A.prime (positive_of_prime A.prime c.curve.prime) in
            let gs = digits.0 in
            let es : List ℕ = map (λ e. e % p) cs in
            let zs : List ℕ = map (λ (e : ℕ). 0) cs in
            let small : All (λ e. e < p) es = All-map (λ e. e < p) (λ e. e % p) cs (λ j d m. mod-lt (get_or cs j d) pos) in
            let none : All (λ e. e < p) zs = All-map (λ e. e < p) (λ (e : ℕ). 0) cs (λ j d m. pos) in
            let first : Holds (number_combination p es dim.1.basis) = (exact (number_combination p es dim.1.basis) (combination V es gs) (numbers es) (combination_digits es)).1
            (outward (combination V es gs) (span.resp (combination V cs gs) (combination V es gs)
            (RM.symm {x = combination V es gs} {y = combination V cs gs} (Modules.combination-map K RM (λ e. e % p) (λ e. mod-mod e p) cs gs)) h)) in
            let second : Holds (number_combination p zs dim.1.basis) = (exact (number_combination p zs dim.1.basis) (combination V zs gs) (numbers zs) (combination_digits zs)).1
            (outward (combination V zs gs) (span.resp V.origin (combination V zs gs)
            (RM.symm {x = combination V zs gs} {y = V.origin} (Modules.combination-zeros K RM zs gs (All-map (λ e. e % p ≡ 0 % p) (λ (e : ℕ). 0) cs (λ j d m. refl)))) span.none)) in
            let same : es ≡ zs = unique_coordinates_law p A.variables c.curve.prime qs is.reduced.polys dim.0 dim.1 es zs small none
            (length-map cs (λ e. e % p) ∙ l ∙ long) (length-map cs (λ (e : ℕ). 0) ∙ l ∙ long)
            (in_sub p A.variables qs (number_combination p es dim.1.basis) (number_combination p zs dim.1.basis) pos (numbers zs) first second) in
            zeros_of p cs same

        pub degree : HasDim A.prime A.variables qs m
        degree = subst (HasDim A.prime A.variables qs) (sym long
            ∙ as_many A.prime c.curve.prime (length ms * 1) m q.basis matrix j.count j.dimension (λ v. (λ z. inward v ((j.kernel v).0 z), λ h. (j.kernel v).1 (outward v h)))
            digits.0 spans apart) dim.1
