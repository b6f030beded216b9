-- Degrees of corners and of values of rows.
use Rattle.std.proofs.Common.{◌≡◌, ℕ, zero, suc, ◌+◌, ◌*◌, ◌<◌, ◌≤◌, List, [], ◌∷◌, map, length, get_or, All, refl, sym, ap, ◌∙◌, subst, arith}
use Rattle.std.proofs.lemmas.List.{length-map, get_or-map}
use Rattle.std.proofs.lemmas.List.Elements.{All-nil, All-cons, All-head, All-tail, All-append}
use Rattle.monomials.specs.Mono.{Monomial, unit, times, variable, total_degree}
use Rattle.monomials.proofs.Factors.{divides_law}
use Rattle.polys.specs.declared.term.Term.{Term}
use Rattle.polys.specs.Terms.{IsAffine, IsPoly, degree_of, mul, multiple}
use Rattle.polys.specs.Ideal.{number_combination}
use Rattle.polys.specs.Curve.{data_of}
use Rattle.polys.proofs.Degrees.{degree_of-mul, degree_of-add, degree_le, each_degree}
use Rattle.polys.proofs.Each.{every_multiple}
use Rattle.standard_monomials.specs.Standard.{IsStandard, AreSomeStandard, polynomial_of}
use Rattle.standard_monomials.proofs.Counting.{count_law}
use Rattle.standard_monomials.proofs.Powers.{length_power}
use Rattle.standard_monomials.proofs.Search.{Lowered, lowered, found_law}
use Rattle.digit_laws.specs.Digits.{spread, places, value}
use Rattle.digit_space.specs.Model.{DigitData, IsDigitSpace, corner}
use Rattle.digit_space.proofs.Spaced.{finite, dimension, few}
use Rattle.digit_space.proofs.Found.{standard, corner_there}

-- standard monomials of the degrees 0 to D, from the greatest one
record IsChain (n : ℕ) (ds : List (List Term)) (D : ℕ) (cs : List Monomial) : Type 0 where
  long : length cs ≡ D + 1
  each : All (IsStandard n ds) cs
  degrees : (i : ℕ) (d : Monomial) → i < length cs → total_degree (get_or cs i d).exponents + i ≡ D

module _ (n : ℕ) (ds : List (List Term)) where
  -- a standard monomial by one of its variables
  below : (D : ℕ) (m : Monomial) → total_degree m.exponents ≡ suc D → IsStandard n ds m → (w : Monomial) × (total_degree w.exponents ≡ D) × IsStandard n ds w
  below D m e s =
      let r : Lowered 7 n m.exponents = lowered 7 n m.exponents s.affine.seven s.affine.first (omega arith) in
      let w : Monomial = record { exponents = r.rest; component = 0 } in
      let affine : IsAffine n w = record { seven = r.as_many; first = r.first; plain = refl } in
      let whole : times w (variable r.place) ≡ m = λ i. record { exponents = r.whole i; component = sym s.affine.plain i } in (
        w,
        (let x = r.lower in omega arith),
        found_law.divisor n ds w m affine ((divides_law w m (r.as_many ∙ sym s.affine.seven)).1 (variable r.place, r.as_many ∙ sym (length_power 7 r.place 1), refl, sym whole)) s,
      )

  longer : (D : ℕ) (m : Monomial) → total_degree m.exponents ≡ suc D → IsStandard n ds m → (cs : List Monomial) → IsChain n ds D cs → IsChain n ds (suc D) (m ∷ cs)
  longer D m e s cs k = record {
    long = (let w = k.long in omega arith);
    each = All-cons (IsStandard n ds) m cs s k.each;
    degrees = degrees;
  }
    where
      degrees : (i : ℕ) (d : Monomial) → i < length (m ∷ cs) → total_degree (get_or (m ∷ cs) i d).exponents + i ≡ suc D
      degrees zero d l = (let v : total_degree m.exponents + 0 ≡ suc D = omega arith in v)
      degrees (suc i) d l = let q = k.degrees i d (omega arith) in omega arith

  chain : (D : ℕ) (m : Monomial) → total_degree m.exponents ≡ D → IsStandard n ds m → (cs : List Monomial) × IsChain n ds D cs
  chain zero m e s = (
    m ∷ [],
    record {
      long = refl;
      each = All-cons (IsStandard n ds) m [] s (All-nil (IsStandard n ds));
      degrees = degrees;
    },
  )
    where
      degrees : (i : ℕ) (d : Monomial) → i < 1 → total_degree (get_or (m ∷ []) i d).exponents + i ≡ 0
      degrees zero d l = (let w : total_degree m.exponents + 0 ≡ 0 = omega arith in w)
      degrees (suc i) d l = absurd (omega arith)
  chain (suc D) m e s = let w = below D m e s in let rest = chain D w.0 w.1 w.2 in (m ∷ rest.0, longer D m e s rest.0 rest.1)

  chain_some : (D : ℕ) (cs : List Monomial) → IsChain n ds D cs → AreSomeStandard n ds cs
  chain_some D cs k = record {
    distinct = λ i j d a b e.
        let x = k.degrees i d (omega arith) in
        let y = k.degrees j d b in
        let same : total_degree (get_or cs i d).exponents ≡ total_degree (get_or cs j d).exponents = ap (λ z. total_degree z.exponents) e in
        omega arith;
    each = k.each;
  }

module _ (g : DigitData) (s : IsDigitSpace g) where
  -- a corner has fewer factors than there are corners
  pub corner_low : (i : ℕ) → i < length g.basis → total_degree (corner g i).exponents ≤ 255
  corner_low i l =
      let A = data_of g.curve in
      let c = finite g s in
      let k = chain g.curve.variables s.corners.basis (total_degree (corner g i).exponents) (corner g i) refl (standard g s (corner g i) (corner_there g s i l)) in
      let most = count_law.some A.prime A.variables (A.denominator ∷ A.ideal) s.corners.basis k.0 (length g.basis) s.prime
      (All-cons (IsPoly A.prime A.variables) A.denominator A.ideal c.curve.denominator c.curve.ideal) s.corners.standard (chain_some g.curve.variables s.corners.basis (total_degree (corner g i).exponents) k.0 k.1) (dimension g s) in
      let f = few g s in
      let long = k.1.long in
      omega arith

  low_multiple : (b e : ℕ) (u : List Term) → degree_of u ≤ b → degree_of (multiple g.curve.prime e u) ≤ b
  low_multiple b e u h = let r = degree_le (degree_of u) (multiple g.curve.prime e u) (every_multiple (λ m. total_degree m.exponents ≤ degree_of u) g.curve.prime e u (each_degree u)) in omega arith

  low_sum : (b : ℕ) (cs : List ℕ) (us : List (List Term)) → All (λ u. degree_of u ≤ b) us → degree_of (number_combination g.curve.prime cs us) ≤ b
  low_sum b [] us h = omega arith
  low_sum b (e ∷ cs) [] h = omega arith
  low_sum b (e ∷ cs) (u ∷ us) h =
      let a = low_multiple b e u (All-head (λ z. degree_of z ≤ b) u us h) in
      let r = low_sum b cs us (All-tail (λ z. degree_of z ≤ b) u us h) in
      let q = degree_of-add g.curve.prime (multiple g.curve.prime e u) (number_combination g.curve.prime cs us) in
      omega arith

  low_corners : All (λ u. degree_of u ≤ 255) (map polynomial_of g.basis)
  low_corners = λ i d l.
      let e = length-map g.basis polynomial_of in
      let h = corner_low i (omega arith) in
      subst (λ z. degree_of z ≤ 255) (sym (get_or-map polynomial_of g.basis i unit d (omega arith))) (omega arith)

  low_times : (b : ℕ) (us : List (List Term)) → All (λ u. degree_of u ≤ b) us → All (λ u. degree_of u ≤ b + 119) (map (mul g.curve.prime g.curve.denominator.terms) us)
  low_times b [] h = All-nil (λ u. degree_of u ≤ b + 119)
  low_times b (u ∷ us) h =
      let a = All-head (λ z. degree_of z ≤ b) u us h in
      let q = degree_of-mul g.curve.prime g.curve.denominator.terms u in
      let d = s.fit.low in
      All-cons (λ z. degree_of z ≤ b + 119) (mul g.curve.prime g.curve.denominator.terms u) (map (mul g.curve.prime g.curve.denominator.terms) us) (omega arith)
      (low_times b us (All-tail (λ z. degree_of z ≤ b) u us h))

  weaker : (a b : ℕ) (us : List (List Term)) → a ≤ b → All (λ u. degree_of u ≤ a) us → All (λ u. degree_of u ≤ b) us
  weaker a b us l h = λ i d j. (let q = h i d j in omega arith)

  low_places : (D : ℕ) → All (λ u. degree_of u ≤ 255 + 119 * D) (places (data_of g.curve) g.basis D)
  unfolding spread
  low_places zero = All-nil (λ u. degree_of u ≤ 255 + 119 * 0)
  low_places (suc D) =
      let us = places (data_of g.curve) g.basis D in
      All-append (λ u. degree_of u ≤ 255 + 119 * suc D) (map polynomial_of g.basis) (map (mul g.curve.prime g.curve.denominator.terms) us)
      (weaker 255 (255 + 119 * suc D) (map polynomial_of g.basis) (omega arith) low_corners)
      (weaker (255 + 119 * D + 119) (255 + 119 * suc D) (map (mul g.curve.prime g.curve.denominator.terms) us) (omega arith) (low_times (255 + 119 * D) us (low_places D)))

  -- the value of a row has no high degree
  pub value_low : (D : ℕ) (row : List ℕ) → degree_of (value (data_of g.curve) g.basis D row) ≤ 255 + 119 * D
  value_low D row = low_sum (255 + 119 * D) row (places (data_of g.curve) g.basis D) (low_places D)
