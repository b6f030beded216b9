-- The bytes that are read as a polynomial.
use Rattle.std.specs.Prelude.{ℕ, ◌≡◌, ◌≤◌, List, length}
use Rattle.monomials.specs.declared.mono.TheConstants.{MAX_DEGREE}
use Rattle.prime_field.specs.Primes.{IsCharacteristic}
use Rattle.monomials.specs.Mono.{Monomial, total_degree}
use Rattle.polys.specs.declared.term.Term.{Term}
use Rattle.polys.specs.Terms.{EachMono, IsPoly}
use Rattle.problem.specs.Letters.{AreLetters}
use Rattle.poly_text.specs.PolyText.{poly_text}

-- a monomial of the greatest degree that the program has, or of a smaller one
abbrev pub IsWithinDegree : Monomial → Type 0
IsWithinDegree m = total_degree m.exponents ≤ MAX_DEGREE

-- the bytes are the text of the polynomial f over these letters, which has no monomial of a degree above 60,000
pub record IsPolyText (p : ℕ) (letters bytes : List ℕ) (f : List Term) : Type 0 where
  pub poly : IsPoly p (length letters) f
  pub low : EachMono IsWithinDegree f
  pub text : bytes ≡ poly_text p letters f

-- no bytes are the text of two polynomials
abbrev pub TextsTellPolynomials : Type 0
TextsTellPolynomials =
    (p : ℕ) (letters bytes : List ℕ) (f g : List Term) → IsCharacteristic p → AreLetters letters
    → IsPolyText p letters bytes f → IsPolyText p letters bytes g → f ≡ g
