-- Lists of polynomials as lists of members of the ring.
use Rattle.std.proofs.Common.{◌≡◌, ℕ, List, [], ◌∷◌, map, length, refl, sym, ap, ◌∙◌}
use Rattle.std.specs.List.{All}
use Rattle.std.proofs.lemmas.List.{length-map}
use Rattle.std.proofs.lemmas.List.Elements.{All-nil, All-cons, All-head, All-tail}
use Rattle.polys.specs.declared.term.Term.{Term}
use Rattle.polys.specs.Terms.{IsPoly}
use Rattle.polys.specs.Ring.{Member}

-- the polynomials of a list of members
abbrev pub terms_of : {p n : ℕ} → List (Member p n) → List (List Term)
terms_of gs = map (λ g. g.terms) gs

-- a list of polynomials as members
unfoldable pub lift : (p n : ℕ) (fs : List (List Term)) → All (IsPoly p n) fs → List (Member p n)
lift p n [] a = []
lift p n (f ∷ fs) a = record { terms = f; is_poly = All-head (IsPoly p n) f fs a } ∷ lift p n fs (All-tail (IsPoly p n) f fs a)

pub terms-lift : (p n : ℕ) (fs : List (List Term)) (a : All (IsPoly p n) fs) → terms_of (lift p n fs a) ≡ fs
unfolding lift
terms-lift p n [] a = refl
terms-lift p n (f ∷ fs) a = ap (λ l. f ∷ l) (terms-lift p n fs (All-tail (IsPoly p n) f fs a))

pub length-lift : (p n : ℕ) (fs : List (List Term)) (a : All (IsPoly p n) fs) → length (lift p n fs a) ≡ length fs
length-lift p n fs a = sym (length-map (lift p n fs a) (λ g. g.terms)) ∙ ap length (terms-lift p n fs a)

pub polys_of : (p n : ℕ) (gs : List (Member p n)) → All (IsPoly p n) (terms_of gs)
polys_of p n [] = All-nil (IsPoly p n)
polys_of p n (g ∷ gs) = All-cons (IsPoly p n) g.terms (terms_of gs) g.is_poly (polys_of p n gs)
