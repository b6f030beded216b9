-- The candidates are polynomials of low degree.
use Rattle.std.proofs.Common.{◌≡◌, ℕ, ◌+◌, ◌-◌, ◌*◌, ◌<◌, ◌≤◌, min, zero, suc, List, [], ◌∷◌, Bool, true, false, ◌==◌, cond, map, set, get_or, replicate, refl, sym, ap, ◌∙◌, subst, arith}
use Rattle.std.proofs.lemmas.Bool.{eqb-false}
use Rattle.std.proofs.Math.ListN.{length-set}
use Rattle.std.specs.List.{All, flat_map}
use Rattle.std.proofs.lemmas.List.Elements.{All-nil, All-cons}
use Rattle.monomials.specs.Mono.{Monomial, total_degree, unit, variable}
use Rattle.monomials.proofs.Order.{times_one}
use Rattle.polys.specs.declared.term.Term.{Term}
use Rattle.polys.specs.Curve.{IsOver}
use Rattle.polys.specs.Poly.{Polynomial, IsPlain, derivative_of, term_multiple_of, sum_of}
use Rattle.polys.specs.Terms.{EachMono, OnlyFirst, IsAffine, IsPoly, degree_of, derived, derivative, add, mul, multiple, scaled, products, normal, one}
use Rattle.polys.proofs.Affine.{poly_normal, poly_one, poly_add, poly_sub, poly_mul, poly_multiple, affine_unit}
use Rattle.polys.proofs.Degrees.{AtMost, each_degree, degree_le, degree_of-mul, degree_of-add}
use Rattle.polys.proofs.Derivatives.{derived_list, derived_is, stays, lowered, has_variable}
use Rattle.polys.proofs.Each.{every_more, every_normal, every_multiple}
use Rattle.polys.proofs.Leads.{Seven}
use Rattle.jacobian_pick.specs.Candidates.{over_pairs, over_others, partials, minor, row_minors, jacobian, number_sums, variable_sums}
use Rattle.jacobian_pick.specs.Lists.{IsUpTo}
use Rattle.jacobian_pick.proofs.Members.{all_flat, all_pairs, all_others, all_range}

-- a polynomial of degree at most D
pub record IsLow (p n D : ℕ) (f : List Term) : Type 0 where
  pub poly : IsPoly p n f
  pub low : degree_of f ≤ D

-- ---- derivatives

only_set : (n : ℕ) (xs : List ℕ) (v : ℕ) → OnlyFirst n xs → OnlyFirst n (set xs v (get_or xs v 0 - 1))
only_set n [] v h = h
only_set zero (x ∷ xs) zero h = let z = h.0 in (omega arith, h.1)
only_set zero (x ∷ xs) (suc v) h = (h.0, only_set zero xs v h.1)
only_set (suc n) (x ∷ xs) zero h = h
only_set (suc n) (x ∷ xs) (suc v) h = only_set n xs v h

affine_derived : (n v : ℕ) (f : List Term) → EachMono (IsAffine n) f → EachMono (IsAffine n) (map (derived v) f)
affine_derived n v [] h = tt
affine_derived n v (t ∷ f) h = (
  record {
    seven = length-set t.mono.exponents v (get_or t.mono.exponents v 0 - 1) ∙ h.0.seven;
    first = only_set n t.mono.exponents v h.0.first;
    plain = h.0.plain;
  },
  affine_derived n v f h.1,
)

affine_derivative : (p n v : ℕ) (f : List Term) → EachMono (IsAffine n) f → EachMono (IsAffine n) (derivative p v f)
affine_derivative p n v f h = every_normal (IsAffine n) p (map (derived v) f) (affine_derived n v f h)

pub poly_derivative : (p n v : ℕ) (f : List Term) → 0 < p → IsPoly p n f → IsPoly p n (derivative p v f)
poly_derivative p n v f pos h = poly_normal p n (map (derived v) f) pos (affine_derived n v f h.affine)

degree-lowered : (a : List ℕ) (v : ℕ) → 0 < get_or a v 0 → total_degree (set a v (get_or a v 0 - 1)) + 1 ≡ total_degree a
degree-lowered [] v h = absurd (omega arith)
degree-lowered (x ∷ a) zero h = omega arith
degree-lowered (x ∷ a) (suc v) h = let ih = degree-lowered a v h in omega arith

low_derived : (p v D : ℕ) (f : List Term) → EachMono (AtMost (D + 1)) f → EachMono (AtMost D) (derived_list p v f)
low_derived p v D [] h = tt
low_derived p v D (t ∷ f) h = go (stays p v t == 0) refl (low_derived p v D f h.1)
  where
    go : (b : Bool) → (stays p v t == 0) ≡ b → EachMono (AtMost D) (derived_list p v f)
        → EachMono (AtMost D) (cond b (derived_list p v f) (record { coeff = stays p v t; mono = lowered v t.mono } ∷ derived_list p v f))
    go true q ih = ih
    go false q ih =
        let e = degree-lowered t.mono.exponents v (has_variable p t.coeff (get_or t.mono.exponents v 0) (eqb-false (stays p v t) 0 q)) in
        let l = h.0 in
        (omega arith, ih)

low_derivative : (p n v D : ℕ) (f : List Term) → 0 < p → v < 7 → IsPoly p n f → degree_of f ≤ D + 1 → degree_of (derivative p v f) ≤ D
low_derivative p n v D f pos h a l =
    subst (λ w. degree_of w ≤ D) (derived_is p v f pos h a.canonical (every_more (IsAffine n) Seven f (λ m x. x.seven) a.affine))
    (degree_le D (derived_list p v f) (low_derived p v D f (every_more (AtMost (degree_of f)) (AtMost (D + 1)) f (λ m x. omega arith) (each_degree f))))

pub derivative_low : (p n v : ℕ) (f : List Term) → 0 < p → v < 7 → IsLow p n 60 f → IsLow p n 59 (derivative p v f)
derivative_low p n v f pos h a = record { poly = poly_derivative p n v f pos a.poly; low = low_derivative p n v 59 f pos h a.poly a.low }

-- ---- what a product owes

pub plain_derivative : (p n v : ℕ) (f d : Polynomial) → IsUpTo p n 60 f → d ≡ derivative_of f v → EachMono IsPlain d.terms
plain_derivative p n v f d h e =
    subst (λ (x : Polynomial). EachMono IsPlain x.terms) (sym e)
    (every_more (IsAffine n) IsPlain (derivative f.prime v f.terms) (λ m x. x.plain) (affine_derivative f.prime n v f.terms h.over.poly.affine))

pub derivative_degree : (p n v : ℕ) (f d : Polynomial) → v < 7 → IsUpTo p n 60 f → d ≡ derivative_of f v → degree_of d.terms ≤ 59
derivative_degree p n v f d h a e =
    subst (λ (x : Polynomial). degree_of x.terms ≤ 59) (sym e)
    (subst (λ (q : ℕ). degree_of (derivative q v f.terms) ≤ 59) (sym a.over.prime) (go f.terms a.over.poly a.low))
  where
    go : (f : List Term) → IsPoly p n f → degree_of f ≤ 60 → degree_of (derivative p v f) ≤ 59
    go [] k l = omega arith
    go (t ∷ f) k l = let c = k.canonical in low_derivative p n v 59 (t ∷ f) (omega arith) h k l

-- ---- the first list

minor_low : (p n k l : ℕ) (f g : List Term) → 0 < p → k < 7 → l < 7 → IsLow p n 60 f → IsLow p n 60 g → IsLow p n 118 (minor p k l f g)
minor_low p n k l f g pos hk hl a b =
    let fk = derivative_low p n k f pos hk a in
    let fl = derivative_low p n l f pos hl a in
    let gk = derivative_low p n k g pos hk b in
    let gl = derivative_low p n l g pos hl b in
    record {
      poly = poly_sub p n (mul p (derivative p k f) (derivative p l g)) (mul p (derivative p l f) (derivative p k g)) pos
          (poly_mul p n (derivative p k f) (derivative p l g) pos fk.poly gl.poly) (poly_mul p n (derivative p l f) (derivative p k g) pos fl.poly gk.poly);
      low = let s = degree_of-mul p (derivative p k f) (derivative p l g) in
          let c = degree_of-mul p (derivative p l f) (derivative p k g) in
          let d = degree_of-add p (mul p (derivative p k f) (derivative p l g)) (multiple p (p - 1) (mul p (derivative p l f) (derivative p k g))) in
          let m = degree_of-multiple p (p - 1) (mul p (derivative p l f) (derivative p k g)) in
          let fk' = fk.low in let fl' = fl.low in let gk' = gk.low in let gl' = gl.low in
          omega arith;
    }
  where
    degree_of-multiple : (p c : ℕ) (f : List Term) → degree_of (multiple p c f) ≤ degree_of f
    degree_of-multiple p c f = degree_le (degree_of f) (multiple p c f) (every_multiple (AtMost (degree_of f)) p c f (each_degree f))

pub multiple_low : (p n c D : ℕ) (f : List Term) → 0 < p → IsLow p n D f → IsLow p n D (multiple p c f)
multiple_low p n c D f pos a = record {
  poly = poly_multiple p n c f pos a.poly;
  low = degree_le D (multiple p c f) (every_multiple (AtMost D) p c f (every_more (AtMost (degree_of f)) (AtMost D) f (λ m x. let l = a.low in omega arith) (each_degree f)));
}

weaker : (p n C D : ℕ) (f : List Term) → C ≤ D → IsLow p n C f → IsLow p n D f
weaker p n C D f h a = record { poly = a.poly; low = let l = a.low in omega arith }

module _ (p n : ℕ) (two : 1 < p) where
  pos : 0 < p
  pos = omega arith

  partials_low : (f : List Term) → IsLow p n 60 f → All (IsLow p n 118) (partials p f)
  partials_low f a =
      All-cons (IsLow p n 118) (derivative p 0 f) (derivative p 1 f ∷ []) (weaker p n 59 118 (derivative p 0 f) (omega arith) (derivative_low p n 0 f pos (omega arith) a))
      (All-cons (IsLow p n 118) (derivative p 1 f) [] (weaker p n 59 118 (derivative p 1 f) (omega arith) (derivative_low p n 1 f pos (omega arith) a)) (All-nil (IsLow p n 118)))

  minors_low : (f g : List Term) → IsLow p n 60 f → IsLow p n 60 g → All (IsLow p n 118) (row_minors p f g)
  minors_low f g a b =
      All-cons (IsLow p n 118) (minor p 0 1 f g) (minor p 0 2 f g ∷ minor p 1 2 f g ∷ []) (minor_low p n 0 1 f g pos (omega arith) (omega arith) a b)
      (All-cons (IsLow p n 118) (minor p 0 2 f g) (minor p 1 2 f g ∷ []) (minor_low p n 0 2 f g pos (omega arith) (omega arith) a b)
      (All-cons (IsLow p n 118) (minor p 1 2 f g) [] (minor_low p n 1 2 f g pos (omega arith) (omega arith) a b) (All-nil (IsLow p n 118))))

  pub jacobian_low : (gs : List (List Term)) → All (IsLow p n 60) gs → All (IsLow p n 118) (jacobian p n gs)
  jacobian_low gs a = go (n == 1) (n == 2) (n == 3)
    where
      go : (b c d : Bool) → All (IsLow p n 118) (cond b (one ∷ []) (cond c (flat_map (partials p) gs) (cond d (over_pairs (row_minors p) gs) [])))
      go true c d = All-cons (IsLow p n 118) one [] (record { poly = poly_one p n two; low = omega arith }) (All-nil (IsLow p n 118))
      go false true d = all_flat (IsLow p n 60) (IsLow p n 118) (partials p) partials_low gs a
      go false false true = all_pairs (IsLow p n 60) (IsLow p n 118) (row_minors p) minors_low gs a
      go false false false = All-nil (IsLow p n 118)

  -- ---- sums

  sum_low : (f g : List Term) → IsLow p n 118 f → IsLow p n 119 g → IsLow p n 119 (add p f g)
  sum_low f g a b = record {
    poly = poly_add p n f g pos a.poly b.poly;
    low = let s = degree_of-add p f g in let k = a.low in let l = b.low in omega arith;
  }

  pub number_sums_low : (fs : List (List Term)) → All (IsLow p n 118) fs → All (IsLow p n 119) (over_pairs (number_sums p) fs)
  number_sums_low fs a =
      all_pairs (IsLow p n 118) (IsLow p n 119) (number_sums p)
      (λ f g x y. all_range (IsLow p n 119) (λ c. add p f (multiple p c g)) 1 (min (p - 1) 7)
      (λ c h. sum_low f (multiple p c g) x (weaker p n 118 119 (multiple p c g) (omega arith) (multiple_low p n c 118 g pos y))))
      fs a

  zeros : (k : ℕ) → total_degree (replicate k 0) ≡ 0
  zeros zero = refl
  zeros (suc k) = let z = zeros k in omega arith

  one_exponent : (k v : ℕ) → total_degree (set (replicate k 0) v 1) ≤ 1
  one_exponent zero v = omega arith
  one_exponent (suc k) zero = let z = zeros k in omega arith
  one_exponent (suc k) (suc v) = let z = one_exponent k v in omega arith

  pub variable_degree : (v : ℕ) → total_degree (variable v).exponents ≤ 1
  variable_degree v = one_exponent 7 v

  only_put : (n : ℕ) (xs : List ℕ) (v x : ℕ) → v < n → OnlyFirst n xs → OnlyFirst n (set xs v x)
  only_put n [] v x h a = a
  only_put zero (y ∷ xs) v x h a = absurd (omega arith)
  only_put (suc n) (y ∷ xs) zero x h a = a
  only_put (suc n) (y ∷ xs) (suc v) x h a = only_put n xs v x (omega arith) a

  variable_poly : (v : ℕ) → v < n → IsPoly p n (record { coeff = 1; mono = variable v } ∷ [])
  variable_poly v h = record {
    canonical = (omega arith, two, tt, tt);
    affine = (record { seven = length-set (replicate 7 0) v 1; first = only_put n (replicate 7 0) v 1 h (affine_unit n).first; plain = refl }, tt);
  }

  pub variable_sums_low : (fs : List (List Term)) → All (IsLow p n 118) fs → All (IsLow p n 119) (over_others (variable_sums p n) [] fs)
  variable_sums_low fs a =
      all_others (IsLow p n 118) (IsLow p n 119) (variable_sums p n)
      (λ f g x y. all_range (IsLow p n 119) (λ v. add p f (mul p g (record { coeff = 1; mono = variable v } ∷ []))) 0 n
      (λ v h. sum_low f (mul p g (record { coeff = 1; mono = variable v } ∷ [])) x (times_low v g (omega arith) y)))
      [] fs (All-nil (IsLow p n 118)) a
    where
      times_low : (v : ℕ) (g : List Term) → v < n → IsLow p n 118 g → IsLow p n 119 (mul p g (record { coeff = 1; mono = variable v } ∷ []))
      times_low v g h y = record {
        poly = poly_mul p n g (record { coeff = 1; mono = variable v } ∷ []) pos y.poly (variable_poly v h);
        low = let d = degree_of-mul p g (record { coeff = 1; mono = variable v } ∷ []) in let k = y.low in let e = variable_degree v in omega arith;
      }

-- ---- the multiple by a number is the product with it

products_by : (n c : ℕ) (g : List Term) → EachMono (IsAffine n) g → products g (record { coeff = c; mono = unit } ∷ []) ≡ scaled c g
products_by n c [] h = refl
products_by n c (u ∷ g) h =
    let e : u.coeff * c ≡ c * u.coeff = omega arith in
    λ i. record { coeff = e i; mono = times_one u.mono h.0.seven i } ∷ products_by n c g h.1 i

pub mul_by : (p n c : ℕ) (g : List Term) → EachMono (IsAffine n) g → mul p g (record { coeff = c; mono = unit } ∷ []) ≡ multiple p c g
mul_by p n c g h = ap (normal p) (products_by n c g h)

-- the sum of f and a multiple of g by a number
pub number_sum : (p n c : ℕ) (m : Monomial) (f g product sum : Polynomial) → IsOver p n f → IsOver p n g → m ≡ unit → product ≡ term_multiple_of g (record { coeff = c; mono = m })
    → sum ≡ sum_of f product → sum ≡ record { prime = p; terms = add p f.terms (multiple p c g.terms) }
number_sum p n c m f g product sum a b u e s =
    s ∙ (λ i. record { prime = a.prime i; terms = add (a.prime i) f.terms (terms i) })
  where
    terms : product.terms ≡ multiple p c g.terms
    terms = ap (λ (x : Polynomial). x.terms) e ∙ (λ i. mul (b.prime i) g.terms (record { coeff = c; mono = u i } ∷ [])) ∙ mul_by p n c g.terms b.poly.affine
