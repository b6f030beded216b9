-- The monomials in play: the corners, the border around them, and those further outside.
use Rattle.std.specs.Prelude.{◌≡◌, ◌↔◌, ◌⊎◌, Bool, true, false, ℕ, ◌+◌, ◌*◌, ◌<◌, ◌≤◌, List, [], ◌∷◌, length, slice_index_or, All, Contains}
use Rattle.monomials.specs.declared.mono.TheConstants.{MAX_DEGREE}
use Rattle.monomials.specs.Mono.{Monomial, unit, times, total_degree, variable}
use Rattle.polys.specs.declared.term.Term.{Term}
use Rattle.polys.specs.Terms.{EachMono, IsAffine}
use Rattle.standard_monomials.specs.Standard.{IsRising}

-- what holds of corners in n variables: they rise, and a divisor of one is one
pub record AreClosed (n : ℕ) (corners : List Monomial) : Type 0 where
  pub rising : IsRising corners
  pub affine : All (IsAffine n) corners
  pub few : length corners ≤ 256
  pub closed : (m : Monomial) (v : ℕ) → IsAffine n m → v < n → Contains corners (times m (variable v)) → Contains corners m

-- no monomial has the highest degree
abbrev pub AreLow : List Monomial → Type 0
AreLow ms = All (λ m. total_degree m.exponents < MAX_DEGREE) ms

-- the list gained m, unless it is a corner
pub record GainsOutside (corners : List Monomial) (m : Monomial) (old new : List Monomial) : Type 0 where
  pub rising : IsRising new
  pub few : length new ≤ length old + 1
  pub members : (w : Monomial) → Contains new w ↔ (Contains old w ⊎ ((m ≡ w) × (Contains corners w → ⊥)))

-- w is the product of the variable v and one of the first k corners, and is no corner
pub record IsOutsideProduct (v k : ℕ) (corners : List Monomial) (w : Monomial) : Type 0 where
  pub place : ℕ
  pub among : place < k
  pub product : times (slice_index_or corners place unit) (variable v) ≡ w
  pub outside : Contains corners w → ⊥

-- the list gained these products
pub record GainsProducts (v k : ℕ) (corners old new : List Monomial) : Type 0 where
  pub rising : IsRising new
  pub few : length new ≤ length old + k
  pub members : (w : Monomial) → Contains new w ↔ (Contains old w ⊎ IsOutsideProduct v k corners w)

-- the products of one of the first k variables and a corner that are no corners, in rising order
pub record IsBorder (k : ℕ) (corners border : List Monomial) : Type 0 where
  pub rising : IsRising border
  pub few : length border ≤ k * length corners
  pub members : (w : Monomial) → Contains border w ↔ ((v : ℕ) × (v < k) × IsOutsideProduct v (length corners) corners w)

-- the list has the numbers of the variables
pub record AreVariables (n : ℕ) (order : List ℕ) : Type 0 where
  pub count : length order ≡ n
  pub exact : (v : ℕ) → Contains order v ↔ (v < n)

-- w is the quotient of m by one of n variables
pub record IsQuotient (n : ℕ) (m w : Monomial) : Type 0 where
  pub factor : ℕ
  pub among : factor < n
  pub product : times w (variable factor) ≡ m
  pub affine : IsAffine n w
  pub lower : total_degree w.exponents + 1 ≡ total_degree m.exponents

-- w is the product of a variable and a monomial of one of the lists
pub record HasParent (n : ℕ) (border outer : List Monomial) (w : Monomial) : Type 0 where
  pub rest : Monomial
  pub factor : ℕ
  pub among : factor < n
  pub product : times rest (variable factor) ≡ w
  pub seven : length rest.exponents ≡ 7
  pub outside : Contains border rest ⊎ Contains outer rest

-- monomials outside the corners, each the product of a variable and another one or one of the border
pub record IsOuter (n : ℕ) (border outer : List Monomial) : Type 0 where
  pub rising : IsRising outer
  pub affine : All (IsAffine n) outer
  pub parents : (w : Monomial) → Contains outer w → HasParent n border outer w

-- each list rises
pub record AreRising (inner border outer : List Monomial) : Type 0 where
  pub corners : IsRising inner
  pub around : IsRising border
  pub further : IsRising outer

-- the monomial is in one of the lists
abbrev pub IsInPlay : (corners border outer : List Monomial) → Monomial → Type 0
IsInPlay corners border outer m = Contains corners m ⊎ (Contains border m ⊎ Contains outer m)

-- each monomial of the polynomial is
abbrev pub IsCovered : (corners border outer : List Monomial) → List Term → Type 0
IsCovered corners border outer f = EachMono (IsInPlay corners border outer) f

-- the polynomial has this monomial as its lead
abbrev pub HasLead : List Term → Monomial → Type 0
HasLead [] m = ⊥
HasLead (t ∷ f) m = t.mono ≡ m

-- what stands outside the corners and may be used: the border alone, or the border and the outer monomials
abbrev pub seen : Bool → List Monomial → List Monomial
seen true outer = []
seen false outer = outer

-- the border, or the outer monomials
abbrev pub chosen : Bool → (border outer : List Monomial) → List Monomial
chosen true border outer = border
chosen false border outer = outer

-- m is the product of the variable v and a monomial of the lists
pub record HasQuotientIn (v : ℕ) (border outer : List Monomial) (m : Monomial) : Type 0 where
  pub rest : Monomial
  pub product : times rest (variable v) ≡ m
  pub seven : length rest.exponents ≡ 7
  pub outside : Contains border rest ⊎ Contains outer rest
