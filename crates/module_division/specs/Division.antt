-- Division of a vector by monic ones (Greuel and Pfister, section on normal forms).
use Rattle.std.specs.Prelude.{◌≡◌, ℕ, ◌<◌, ◌≤◌, ◌*◌, ◌%◌, List, [], ◌∷◌, map, Contains}
use Rattle.monomials.specs.Mono.{IsMono, times, total_degree}
use Rattle.polys.specs.declared.term.Term.{Term}
use Rattle.polys.specs.Terms.{EachMono, IsMonic, add, mul}
use Rattle.polys.specs.Poly.{Polynomial, IsVector, IsPlain}
use Rattle.graded_modules.specs.Vector.{lead_mono}
use Rattle.graded_modules.specs.SVector.{Multiple, top}

-- a monic vector none of whose monomials has more degree than the lead, with unit vectors not counted
pub record IsDivisor (p : ℕ) (f : Polynomial) : Type 0 where
  pub prime : f.prime ≡ p
  pub vector : IsVector p f.terms
  pub monic : IsMonic f.terms
  pub tight : EachMono (λ m. total_degree m.exponents ≤ total_degree (lead_mono f.terms).exponents) f.terms

-- the multiple of a member of bs has a monomial of u at its top
pub record IsStep (bs : List (List Term)) (p : ℕ) (u : List Term) (s : Multiple) : Type 0 where
  pub member : Contains bs s.vector
  pub not_zero : 0 < s.term.coeff
  pub residue : s.term.coeff < p
  pub mono : IsMono s.term.mono
  pub plain : IsPlain s.term.mono
  pub there : Contains (map (λ t. t.mono) u) (top s)

-- v with multiples added one after another, the first one of the list last
abbrev pub after : ℕ → List Term → List Multiple → List Term
after p v [] = v
after p v (s ∷ ss) = add p (after p v ss) (mul p s.vector (s.term ∷ []))

-- each is a step at its time
abbrev pub AreSteps : List (List Term) → ℕ → List Term → List Multiple → Type 0
AreSteps bs p v [] = Unit {0}
AreSteps bs p v (s ∷ ss) = IsStep bs p (after p v ss) s × AreSteps bs p v ss

-- r is left of v after some such steps
pub record Reduces (p : ℕ) (bs : List (List Term)) (v r : List Term) : Type 0 where
  pub steps : List Multiple
  pub each : AreSteps bs p v steps
  pub left : r ≡ after p v steps

-- the product of two terms modulo p
abbrev pub term_product : ℕ → Term → Term → Term
term_product p t u = record { coeff = (u.coeff * t.coeff) % p; mono = times u.mono t.mono }
