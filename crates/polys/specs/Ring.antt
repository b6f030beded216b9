-- The polynomials in n variables modulo p, as a commutative ring.
use Rattle.std.specs.Prelude.{◌≡◌, ℕ, ◌-◌, ◌<◌, List, []}
use Rattle.comm_ring.specs.Ring.{Ops, IsCommRing}
use Rattle.polys.specs.declared.term.Term.{Term}
use Rattle.polys.specs.Terms.{IsPoly, add, sub, mul, multiple, one, power}

-- the operations give polynomials in n variables
pub record AreClosed (p n : ℕ) : Type 0 where
  pub none : IsPoly p n []
  pub one : IsPoly p n one
  pub sum : (f g : List Term) → IsPoly p n f → IsPoly p n g → IsPoly p n (add p f g)
  pub difference : (f g : List Term) → IsPoly p n f → IsPoly p n g → IsPoly p n (sub p f g)
  pub multiple : (c : ℕ) (f : List Term) → IsPoly p n f → IsPoly p n (multiple p c f)
  pub product : (f g : List Term) → IsPoly p n f → IsPoly p n g → IsPoly p n (mul p f g)
  pub power : (f : List Term) (k : ℕ) → IsPoly p n f → IsPoly p n (power p f k)

-- a list of terms with the fact that it is a polynomial in n variables
pub record Member (p n : ℕ) : Type 0 where
  pub terms : List Term
  pub is_poly : IsPoly p n terms

-- the operations on polynomials in n variables, which are equal where their lists are
abbrev pub polynomial_ops : (p n : ℕ) → AreClosed p n → Ops
polynomial_ops p n closed = record {
  carrier = Member p n;
  ◌≈◌ = λ f g. f.terms ≡ g.terms;
  ◌⊕◌ = λ f g. record { terms = add p f.terms g.terms; is_poly = closed.sum f.terms g.terms f.is_poly g.is_poly };
  ◌⊗◌ = λ f g. record { terms = mul p f.terms g.terms; is_poly = closed.product f.terms g.terms f.is_poly g.is_poly };
  neg = λ f. record { terms = multiple p (p - 1) f.terms; is_poly = closed.multiple (p - 1) f.terms f.is_poly };
  𝟘 = record { terms = []; is_poly = closed.none };
  𝟙 = record { terms = one; is_poly = closed.one };
}

-- modulo each number above 1 the polynomials in n variables are closed
abbrev pub PolynomialsAreClosed : Type 0
PolynomialsAreClosed = (p n : ℕ) → 1 < p → AreClosed p n

-- and they are a commutative ring
abbrev pub PolynomialsAreARing : Type 0
PolynomialsAreARing = (p n : ℕ) → 1 < p → (closed : AreClosed p n) → IsCommRing (polynomial_ops p n closed)
