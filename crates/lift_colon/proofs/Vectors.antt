-- What the calls on the module of a denominator owe.
use Rattle.std.proofs.Common.{◌≡◌, ℕ, ◌≤◌, List, [], ◌∷◌, refl, sym, subst, arith}
use Rattle.std.specs.List.{All}
use Rattle.std.proofs.lemmas.List.Elements.{All-nil, All-cons, All-head, All-tail}
use Rattle.monomials.specs.Mono.{IsMono}
use Rattle.prime_field.specs.Primes.{IsPrime}
use Rattle.polys.specs.declared.term.Term.{Term}
use Rattle.polys.specs.Curve.{IsOver}
use Rattle.polys.specs.Poly.{Polynomial, IsVector, terms_of}
use Rattle.polys.specs.Terms.{IsPoly, degree_of}
use Rattle.polys.proofs.Degrees.{AtMost, degree_le}
use Rattle.polys.proofs.Each.{every_more, every_append}
use Rattle.graded_modules.specs.Vector.{IsGenerator}
use Rattle.homogenising.specs.Homogenised.{homogenised}
use Rattle.homogenising.proofs.Terms.{lifted_vector}
use Rattle.denominator_module.specs.Laws.{AreGiven}
use Rattle.denominator_module.specs.Module.{with_unit, module_of}
use Rattle.denominator_module.proofs.Pairs.{second_mono, unit_vector, module_generators}
use Rattle.module_basis.specs.Gens.{IsHomogeneousOver}

pub low_degree : (p : ℕ) (f : List Term) → IsVector p f → degree_of f ≤ 60000
low_degree p f v = degree_le 60000 f (every_more IsMono (AtMost 60000) f (λ m x. x.bounded) v.monos)

module _ (p n : ℕ) (six : n ≤ 6) (prime : IsPrime p) where
  pub polys : (fs : List Polynomial) → All (IsOver p n) fs → All (IsPoly p n) (terms_of fs)
  polys [] a = All-nil (IsPoly p n)
  polys (f ∷ fs) a = All-cons (IsPoly p n) f.terms (terms_of fs) (All-head (IsOver p n) f fs a).poly (polys fs (All-tail (IsOver p n) f fs a))

  pub given : (d : Polynomial) (ideal : List Polynomial) → IsOver p n d → All (IsOver p n) ideal → AreGiven p n d.terms (terms_of ideal)
  given d ideal h a = record { prime = prime; six = six; denominator = h.poly; generators = polys ideal a }

  -- ---- the vector (d, 1)

  pub unit_is_vector : (d : List Term) → IsPoly p n d → degree_of d ≤ 60000 → IsVector p (with_unit d)
  unit_is_vector d h l =
      record {
        canonical = (unit_vector p n d [] (record { prime = prime; six = six; denominator = h; generators = All-nil (IsPoly p n) })).canonical;
        monos = every_append IsMono (homogenised d) (record { coeff = 1; mono = second_mono } ∷ []) (lifted_vector p n (degree_of d) d six h (omega arith) l).monos
            (record { seven = refl; bounded = (omega arith); one_of_two = (omega arith) }, tt);
      }

  -- ---- the generators

  over_of : (shift : ℕ) (vs : List Polynomial) (fs : List (List Term)) → terms_of vs ≡ fs → All (λ f. f.prime ≡ p) vs → All (IsGenerator p n shift) fs
      → All (IsHomogeneousOver p n shift) vs
  over_of shift [] fs e a g = All-nil (IsHomogeneousOver p n shift)
  over_of shift (v ∷ vs) [] e a g = absurd (cc)
  over_of shift (v ∷ vs) (f ∷ fs) e a g =
      let head : v.terms ≡ f = cc in
      let rest : terms_of vs ≡ fs = cc in
      All-cons (IsHomogeneousOver p n shift) v vs
      (record { prime = All-head (λ f. f.prime ≡ p) v vs a; vector = subst (IsGenerator p n shift) (sym head) (All-head (IsGenerator p n shift) f fs g) })
      (over_of shift vs fs rest (All-tail (λ f. f.prime ≡ p) v vs a) (All-tail (IsGenerator p n shift) f fs g))

  primes_of : (shift : ℕ) (vs : List Polynomial) → All (IsHomogeneousOver p n shift) vs → All (λ f. f.prime ≡ p) vs
  primes_of shift [] a = All-nil (λ f. f.prime ≡ p)
  primes_of shift (v ∷ vs) a =
      All-cons (λ (f : Polynomial). f.prime ≡ p) v vs (All-head (IsHomogeneousOver p n shift) v vs a).prime (primes_of shift vs (All-tail (IsHomogeneousOver p n shift) v vs a))

  pub module_over : (d : Polynomial) (ideal : List Polynomial) (u : Polynomial) (vs : List Polynomial) → IsOver p n d → All (IsOver p n) ideal → u.prime ≡ p
      → All (IsHomogeneousOver p n 0) vs → terms_of (u ∷ vs) ≡ module_of d.terms (terms_of ideal) → All (IsHomogeneousOver p n (degree_of d.terms)) (u ∷ vs)
  module_over d ideal u vs h a b c e =
      over_of (degree_of d.terms) (u ∷ vs) (module_of d.terms (terms_of ideal)) e (All-cons (λ (f : Polynomial). f.prime ≡ p) u vs b (primes_of 0 vs c))
      (module_generators p n d.terms (terms_of ideal) (given d ideal h a))

-- the same over equal rings
pub all_at : (p q n m s t : ℕ) (vs : List Polynomial) → p ≡ q → n ≡ m → s ≡ t → All (IsHomogeneousOver p n s) vs → All (IsHomogeneousOver q m t) vs
all_at p q n m s t vs e f g a =
    subst (λ x. All (IsHomogeneousOver q m x) vs) g (subst (λ x. All (IsHomogeneousOver q x s) vs) f (subst (λ x. All (IsHomogeneousOver x n s) vs) e a))
