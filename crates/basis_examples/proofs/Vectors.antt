-- Homogeneous vectors in six variables.
use Rattle.std.proofs.Common.{◌≡◌, ℕ, ◌≤◌, zero, suc, List, [], ◌∷◌, length, take, subst, arith}
use Rattle.std.proofs.lemmas.List.{take_all}
use Rattle.monomials.specs.Mono.{IsMono}
use Rattle.polys.specs.declared.term.Term.{Term}
use Rattle.polys.specs.Poly.{IsVector}
use Rattle.polys.specs.Terms.{EachMono, OnlyFirst}
use Rattle.polys.proofs.Each.{every_more}
use Rattle.graded_modules.specs.Vector.{IsGraded, IsGenerator, degree_at}

only_any : (n : ℕ) (a : List ℕ) → length a ≤ n → OnlyFirst n a
only_any n [] h = tt
only_any zero (x ∷ a) h = absurd (omega arith)
only_any (suc n) (x ∷ a) h = only_any n a (omega arith)

six_of : (a : List ℕ) → length (take 6 a) ≤ 6
six_of a = go 6 a
  where
    go : (k : ℕ) (a : List ℕ) → length (take k a) ≤ k
    go zero a = omega arith
    go (suc k) [] = omega arith
    go (suc k) (x ∷ a) = let ih = go k a in omega arith

-- a vector whose first i terms have one degree, and no more, is homogeneous
pub six_generator : (p shift e i : ℕ) (f : List Term) → IsVector p f → length f ≤ i → EachMono (λ m. degree_at shift m ≡ e) (take i f) → IsGenerator p 6 shift f
six_generator p shift e i f v l h = record {
  vector = record { canonical = v.canonical; graded = every_more IsMono (IsGraded 6) f (λ m k. record { seven = k.seven; first = only_any 6 (take 6 m.exponents) (six_of m.exponents); two = k.one_of_two }) v.monos };
  homogeneous = (e, subst (EachMono (λ m. degree_at shift m ≡ e)) (take_all i f l) h);
}
