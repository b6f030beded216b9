-- xy over d on the cusp is local at the origin: y takes x y to x y^2 = x^4 modulo I, and x takes it to x^2 y.
use Rattle.std.proofs.Common.{◌≡◌, ◌⊎◌, inl, inr, List, [], ◌∷◌, refl, subst, arith}
use Rattle.std.specs.List.{Contains}
use Rattle.std.proofs.lemmas.List.Elements.{All-nil, All-cons, All-head}
use Rattle.polys.specs.declared.term.Term.{Term}
use Rattle.polys.specs.Terms.{IsPoly, product}
use Rattle.polys.proofs.Affine.{poly_none}
use Rattle.ideal_laws.proofs.Unique.{contains_cases, contains_none}
use Rattle.curve_model.specs.Fraction.{over}
use Rattle.curve_model.specs.Local.{AreMembers, TakesIntoA}
use Rattle.curve_model.specs.Examples.{term_of, cusp, origin}
use Rattle.curve_model.specs.Examples.{ProductIsLocal}
use Rattle.curve_model.proofs.Cusp.{poly_of_term, product_is_integral}

-- x^2 y = y x^2 + 0 (x^3 - y^2)
taken_x : TakesIntoA cusp (product 7 ((term_of 1 1 0 ∷ []) ∷ [])) (over (term_of 1 1 1 ∷ []) 1)
taken_x = record {
  factors = (term_of 1 0 1 ∷ []) ∷ [] ∷ [];
  polys = All-cons (IsPoly 7 2) (term_of 1 0 1 ∷ []) ([] ∷ []) (poly_of_term 1 0 1 (omega arith) (omega arith)) (All-cons (IsPoly 7 2) [] [] (poly_none 7 2) (All-nil (IsPoly 7 2)));
  as_many = refl;
  combined = refl;
}

-- x y^2 = x^2 x^2 - x (x^3 - y^2)
taken_y : TakesIntoA cusp (product 7 ((term_of 1 0 1 ∷ []) ∷ [])) (over (term_of 1 1 1 ∷ []) 1)
taken_y = record {
  factors = (term_of 1 2 0 ∷ []) ∷ (term_of 6 1 0 ∷ []) ∷ [];
  polys = All-cons (IsPoly 7 2) (term_of 1 2 0 ∷ []) ((term_of 6 1 0 ∷ []) ∷ []) (poly_of_term 1 2 0 (omega arith) (omega arith)) (All-cons (IsPoly 7 2) (term_of 6 1 0 ∷ []) [] (poly_of_term 6 1 0 (omega arith) (omega arith)) (All-nil (IsPoly 7 2)));
  as_many = refl;
  combined = refl;
}

one_taken : (q : List Term) → Contains origin q → TakesIntoA cusp (product 7 (q ∷ [])) (over (term_of 1 1 1 ∷ []) 1)
one_taken q c = go (contains_cases (term_of 1 0 1 ∷ []) q ((term_of 1 1 0 ∷ []) ∷ []) c)
  where
    rest : ((term_of 1 1 0 ∷ []) ≡ q) ⊎ Contains [] q → TakesIntoA cusp (product 7 (q ∷ [])) (over (term_of 1 1 1 ∷ []) 1)
    rest (inl e) = subst (λ w. TakesIntoA cusp (product 7 (w ∷ [])) (over (term_of 1 1 1 ∷ []) 1)) e taken_x
    rest (inr d) = absurd (contains_none q d)

    go : ((term_of 1 0 1 ∷ []) ≡ q) ⊎ Contains ((term_of 1 1 0 ∷ []) ∷ []) q → TakesIntoA cusp (product 7 (q ∷ [])) (over (term_of 1 1 1 ∷ []) 1)
    go (inl e) = subst (λ w. TakesIntoA cusp (product 7 (w ∷ [])) (over (term_of 1 1 1 ∷ []) 1)) e taken_y
    go (inr d) = rest (contains_cases (term_of 1 1 0 ∷ []) q [] d)

taken : (l : List (List Term)) → AreMembers 1 origin l → TakesIntoA cusp (product 7 l) (over (term_of 1 1 1 ∷ []) 1)
taken [] h = let e = h.as_many in absurd (omega arith)
taken (q ∷ []) h = one_taken q (All-head (Contains origin) q [] h.members)
taken (q ∷ r ∷ l) h = let e = h.as_many in absurd (omega arith)

pub product_is_local : ProductIsLocal
product_is_local = record { integral = product_is_integral; m = 1; takes = taken }
