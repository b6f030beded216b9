-- Lists of vectors and their lists of terms.
use Rattle.std.proofs.Common.{◌≡◌, ℕ, ◌<◌, List, [], ◌++◌, length, get_or, sym, ap, ◌∙◌, subst, arith}
use Rattle.std.specs.List.{All, Contains}
use Rattle.std.proofs.Math.ListN.{get_or-append}
use Rattle.std.proofs.lemmas.List.{get_or-map, length-map, map-append}
use Rattle.std.proofs.lemmas.List.Elements.{All-map, Contains-get_or, Contains-append_left}
use Rattle.polys.specs.declared.term.Term.{Term}
use Rattle.polys.specs.Poly.{Polynomial, IsVector, terms_of}
use Rattle.module_division.specs.Division.{IsDivisor}
use Rattle.module_division.specs.Vectors.{member}

pub member_is : (fs : List Polynomial) (i : ℕ) (f : Polynomial) → i < length fs → f ≡ get_or fs i f → member (terms_of fs) i ≡ f.terms
member_is fs i f h e = get_or-map (λ (g : Polynomial). g.terms) fs i f [] h ∙ ap (λ (g : Polynomial). g.terms) (sym e)

pub count_lists : (fs : List Polynomial) → length (terms_of fs) ≡ length fs
count_lists fs = length-map fs (λ (g : Polynomial). g.terms)

pub member_in : (bs : List (List Term)) (i : ℕ) → i < length bs → Contains bs (member bs i)
member_in bs i h = Contains-get_or bs i [] h

-- what holds of the members holds of the polynomials
pub place_of : (P : List Term → Type 0) (fs : List Polynomial) → All P (terms_of fs) → (k : ℕ) (d : Polynomial) → k < length fs → P (get_or fs k d).terms
place_of P fs all k d l = subst P (get_or-map (λ (f : Polynomial). f.terms) fs k d d.terms l) (all k d.terms (let e = count_lists fs in omega arith))

pub divisor_vectors : (p : ℕ) (fs : List Polynomial) → All (IsDivisor p) fs → All (IsVector p) (terms_of fs)
divisor_vectors p fs h = All-map (IsVector p) (λ (f : Polynomial). f.terms) fs (λ k d i. (h k d i).vector)

-- ---- lists that grow

pub member_left : (bs more : List (List Term)) (i : ℕ) → i < length bs → member (bs ++ more) i ≡ member bs i
member_left bs more i h = get_or-append bs more [] i h

pub lists_append : (fs more : List Polynomial) → terms_of (fs ++ more) ≡ terms_of fs ++ terms_of more
lists_append fs more = map-append (λ (f : Polynomial). f.terms) fs more

pub contains_more : (fs gs more : List Polynomial) → gs ≡ fs ++ more → (b : List Term) → Contains (terms_of fs) b → Contains (terms_of gs) b
contains_more fs gs more e b c =
    subst (λ l. Contains l b) (sym (ap terms_of e ∙ lists_append fs more)) (Contains-append_left (terms_of fs) (terms_of more) b c)
