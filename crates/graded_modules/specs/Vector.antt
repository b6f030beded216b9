-- Vectors of two components over F_p[x_1, .., x_n, h], graded by the degree and by a shift of the second component
-- (Greuel and Pfister, sections on graded rings and modules and on homogenisation).
use Rattle.std.specs.Prelude.{◌≡◌, ℕ, ◌+◌, ◌*◌, ◌≤◌, List, [], ◌∷◌, length, take}
use Rattle.monomials.specs.Mono.{Monomial, total_degree, unit}
use Rattle.polys.specs.declared.term.Term.{Term}
use Rattle.polys.specs.Terms.{IsCanonical, EachMono, OnlyFirst}
use Rattle.polys.specs.Poly.{IsPlain}

-- a monomial in the first n of the six variables and the homogenising one, of component 0 or 1
pub record IsGraded (n : ℕ) (m : Monomial) : Type 0 where
  pub seven : length m.exponents ≡ 7
  pub first : OnlyFirst n (take 6 m.exponents)
  pub two : m.component ≤ 1

-- a vector modulo p with such monomials
pub record IsGradedVector (p n : ℕ) (f : List Term) : Type 0 where
  pub canonical : IsCanonical p f
  pub graded : EachMono (IsGraded n) f

-- a polynomial modulo p in the first n variables and the homogenising one
pub record IsFactor (p n : ℕ) (f : List Term) : Type 0 where
  pub vector : IsGradedVector p n f
  pub plain : EachMono IsPlain f

-- the degree of a monomial; the second unit vector has the degree shift
abbrev pub degree_at : ℕ → Monomial → ℕ
degree_at shift m = total_degree m.exponents + m.component * shift

-- every term has the degree e
abbrev pub IsOfDegree : ℕ → ℕ → List Term → Type 0
IsOfDegree shift e f = EachMono (λ m. degree_at shift m ≡ e) f

-- every term has one and the same degree
abbrev pub IsHomogeneous : ℕ → List Term → Type 0
IsHomogeneous shift f = (e : ℕ) × IsOfDegree shift e f

-- no term has a degree above e
abbrev pub IsUpTo : ℕ → ℕ → List Term → Type 0
IsUpTo shift e f = EachMono (λ m. degree_at shift m ≤ e) f

-- the monomial of the lead; 1 stands for that of 0, which has none: so over a list with a member 0 each monomial of
-- component 0 is a lead multiple, and laws of leads ask for monic members
abbrev pub lead_mono : List Term → Monomial
lead_mono [] = unit
lead_mono (t ∷ f) = t.mono

-- a homogeneous vector, as the generators of a graded module are
pub record IsGenerator (p n shift : ℕ) (f : List Term) : Type 0 where
  pub vector : IsGradedVector p n f
  pub homogeneous : IsHomogeneous shift f
