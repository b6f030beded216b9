-- S-vectors, and sums of multiples whose leads lie below a monomial (Greuel and Pfister, section on standard bases of
-- modules).
use Rattle.std.specs.Prelude.{◌≡◌, ℕ, ◌-◌, ◌<◌, List, [], ◌∷◌, All, Contains}
use Rattle.std.specs.declared.cmp.Ordering.TheVariants.{Less}
use Rattle.monomials.specs.Mono.{Monomial, pointwise, times, common_multiple, cmp_dp}
use Rattle.polys.specs.declared.term.Term.{Term}
use Rattle.polys.specs.Terms.{add, sub, mul}
use Rattle.polys.specs.Poly.{IsPlain}
use Rattle.graded_modules.specs.Vector.{IsGraded, degree_at, lead_mono}

-- what a lacks of its multiple b
abbrev pub cofactor : Monomial → Monomial → Monomial
cofactor a b = record { exponents = pointwise (λ x y. y - x) a.exponents b.exponents; component = 0 }

-- the multiple of a vector by a monomial
abbrev pub monomial_multiple : ℕ → List Term → Monomial → List Term
monomial_multiple p f w = mul p f (record { coeff = 1; mono = w } ∷ [])

-- the multiple of f up to the monomial m, which its lead divides
abbrev pub raised : ℕ → List Term → Monomial → List Term
raised p f m = monomial_multiple p f (cofactor (lead_mono f) m)

-- the least common multiple of two leads
abbrev pub lead_lcm : List Term → List Term → Monomial
lead_lcm f g = common_multiple (lead_mono f) (lead_mono g)

-- the S-vector of two monic vectors with leads of one component
abbrev pub s_vector : ℕ → List Term → List Term → List Term
s_vector p f g = sub p (raised p f (lead_lcm f g)) (raised p g (lead_lcm f g))

-- a vector and a term by which it is multiplied
pub record Multiple : Type 0 where
  pub vector : List Term
  pub term : Term

-- the sum of multiples
abbrev pub total : ℕ → List Multiple → List Term
total p [] = []
total p (s ∷ ss) = add p (mul p s.vector (s.term ∷ [])) (total p ss)

-- the product of the vector's lead with the term's monomial
abbrev pub top : Multiple → Monomial
top s = times (lead_mono s.vector) s.term.mono

-- a multiple of a member of bs by a term, with a lead below m and of m's degree
pub record IsBelow (p n shift : ℕ) (bs : List (List Term)) (m : Monomial) (s : Multiple) : Type 0 where
  pub member : Contains bs s.vector
  pub residue : s.term.coeff < p
  pub graded : IsGraded n s.term.mono
  pub plain : IsPlain s.term.mono
  pub below : cmp_dp (top s) m ≡ Less
  pub degree : degree_at shift (top s) ≡ degree_at shift m

-- f is a sum of such multiples
pub record IsSumBelow (p n shift : ℕ) (bs : List (List Term)) (m : Monomial) (f : List Term) : Type 0 where
  pub multiples : List Multiple
  pub each : All (IsBelow p n shift bs m) multiples
  pub sum : f ≡ total p multiples

-- the S-vector of f and g is a sum of multiples below the least common multiple of their leads
abbrev pub IsSettled : ℕ → ℕ → ℕ → List (List Term) → List Term → List Term → Type 0
IsSettled p n shift bs f g = IsSumBelow p n shift bs (lead_lcm f g) (s_vector p f g)
