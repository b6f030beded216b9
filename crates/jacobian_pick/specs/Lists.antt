-- Polynomials and problems of the program.
use Rattle.std.specs.Prelude.{ℕ, ◌≤◌, List, length, map, All}
use Rattle.polys.specs.declared.term.Term.{Term}
use Rattle.polys.specs.Curve.{IsOver}
use Rattle.polys.specs.Ideal.{InIdeal}
use Rattle.polys.specs.Poly.{Polynomial, terms_of}
use Rattle.polys.specs.Reduced.{IsReducedBasis}
use Rattle.polys.specs.Terms.{degree_of}
use Rattle.problem.specs.declared.problem.Problem.{Problem}

-- the polynomials with these lists of terms
abbrev pub polynomials : ℕ → List (List Term) → List Polynomial
polynomials p fs = map (λ f. record { prime = p; terms = f }) fs

-- a polynomial of the program over this prime, in these variables and of degree at most D
pub record IsUpTo (p n D : ℕ) (f : Polynomial) : Type 0 where
  pub over : IsOver p n f
  pub low : degree_of f.terms ≤ D

-- the reduced basis of the ideal of the problem's generators
pub record IsBasisOf (problem : Problem) (basis : List Polynomial) : Type 0 where
  pub over : All (IsOver problem.prime (length problem.letters)) basis
  pub reduced : IsReducedBasis problem.prime (length problem.letters) (InIdeal problem.prime (length problem.letters) (terms_of problem.generators)) (terms_of basis)
