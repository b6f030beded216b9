-- That a list is a polynomial can be shown in one way only, so members with one list are equal.
use Rattle.std.proofs.Common.{◌≡◌, ℕ, zero, suc, ◌<◌, List, [], ◌∷◌, length, get_or, ap, arith}
use Rattle.std.specs.List.{Contains}
use Rattle.std.specs.Ordering.{Ordering-set}
use native.Mathlib.Nat.{ℕ_set}
use native.Mathlib.Bridge.{le_prop}
use mathlib.Core.HLevel.{is_prop→PathP}
use Rattle.monomials.specs.Mono.{Monomial}
use Rattle.polys.specs.declared.term.Term.{Term}
use Rattle.polys.specs.Terms.{IsPoly, IsCanonical, Under, EachMono, OnlyFirst, IsAffine}
use Rattle.polys.specs.Ring.{Member}
use Rattle.ideal_laws.proofs.Members.{terms_of}

under_prop : (m : Monomial) (f : List Term) → IsProp (Under m f)
under_prop m [] = hlevel
under_prop m (u ∷ f) = hlevel Ordering-set

canonical_prop : (p : ℕ) (f : List Term) → IsProp (IsCanonical p f)
canonical_prop p [] = hlevel
canonical_prop p (t ∷ f) = hlevel (le_prop, under_prop t.mono f, canonical_prop p f)

first_prop : (n : ℕ) (a : List ℕ) → IsProp (OnlyFirst n a)
first_prop n [] = hlevel
first_prop zero (x ∷ a) = hlevel (ℕ_set, first_prop zero a)
first_prop (suc n) (x ∷ a) = first_prop n a

affine_prop : (n : ℕ) (m : Monomial) → IsProp (IsAffine n m)
affine_prop n m = hlevel (ℕ_set, first_prop n m.exponents)

each_prop : (n : ℕ) (f : List Term) → IsProp (EachMono (IsAffine n) f)
each_prop n [] = hlevel
each_prop n (t ∷ f) = hlevel (affine_prop n t.mono, each_prop n f)

poly_prop : (p n : ℕ) (f : List Term) → IsProp (IsPoly p n f)
poly_prop p n f = hlevel (canonical_prop p f, each_prop n f)

pub same_member : {p n : ℕ} (f g : Member p n) → f.terms ≡ g.terms → f ≡ g
same_member {p = p} {n = n} f g e = λ i. record { terms = e i; is_poly = is_prop→PathP (λ j. IsPoly p n (e j)) (λ j. poly_prop p n (e j)) f.is_poly g.is_poly i }

-- a member of a list of members, by its polynomial
pub contains_terms : {p n : ℕ} (gs : List (Member p n)) (f : Member p n) → Contains gs f → Contains (terms_of gs) f.terms
contains_terms [] f c = absurd (let l : c.0 < 0 = c.1 in omega arith)
contains_terms (g ∷ gs) f c = go (contains_terms gs f) c.0 c.1 c.2
  where
    go : (Contains gs f → Contains (terms_of gs) f.terms) → (k : ℕ) → k < length (g ∷ gs) → get_or (g ∷ gs) k f ≡ f → Contains (terms_of (g ∷ gs)) f.terms
    go r zero l e = (0, omega arith, ap (λ x. x.terms) e)
    go r (suc k) l e = let h = r (k, omega arith, e) in (suc h.0, (let q : h.0 < length (terms_of gs) = h.1 in omega arith), h.2)

pub contains_member : {p n : ℕ} (gs : List (Member p n)) (f : Member p n) → Contains (terms_of gs) f.terms → Contains gs f
contains_member [] f c = absurd (let l : c.0 < 0 = c.1 in omega arith)
contains_member (g ∷ gs) f c = go (contains_member gs f) c.0 c.1 c.2
  where
    go : (Contains (terms_of gs) f.terms → Contains gs f) → (k : ℕ) → k < length (terms_of (g ∷ gs)) → get_or (terms_of (g ∷ gs)) k f.terms ≡ f.terms → Contains (g ∷ gs) f
    go r zero l e = (0, omega arith, same_member g f e)
    go r (suc k) l e = let h = r (k, omega arith, e) in (suc h.0, (let q : h.0 < length gs = h.1 in omega arith), h.2)
