-- The digits of the program: a curve, its corners and a depth, and how products by a variable are kept.
use Rattle.std.specs.Prelude.{◌≡◌, ℕ, ◌+◌, ◌-◌, ◌*◌, ◌<◌, ◌≤◌, List, [], ◌++◌, length, replicate, slice_index_or, take, All, Option, None, Some}
use Rattle.prime_field.specs.Primes.{IsPrime}
use Rattle.monomials.specs.Mono.{Monomial, unit, times, variable}
use Rattle.polys.specs.declared.term.Term.{Term}
use Rattle.polys.specs.declared.curve.Curve.{Curve}
use Rattle.polys.specs.Terms.{mul}
use Rattle.polys.specs.Curve.{Fit, data_of}
use Rattle.row_space.specs.Echelon.{IsRow}
use Rattle.row_space.specs.Subspace.{Subspace}
use Rattle.standard_monomials.specs.Standard.{polynomial_of}
use Rattle.digit_laws.specs.Digits.{AreCornersOf, value, AreDigits, HasDigitsIn, IsIdealSpace}
use Rattle.digit_space.specs.declared.products.OuterRow.{OuterRow}
use Rattle.digit_space.specs.declared.products.Product.{Product}
use Rattle.digit_space.specs.declared.products.Product.TheVariants.{Corner, Border}

-- what callers see: digits are fixed by the curve, its corners and the depth
pub record DigitData : Type 0 where
  pub curve : Curve
  pub basis : List Monomial
  pub depth : ℕ

-- the entries of a row
abbrev pub width : DigitData → ℕ
width g = length g.basis * g.depth

-- residues, as many as a row of digits has
abbrev pub IsDigitRow : DigitData → List ℕ → Type 0
IsDigitRow g row = IsRow g.curve.prime (width g) row

-- the polynomial with the digits of a row
abbrev pub value_of : DigitData → List ℕ → List Term
value_of g row = value (data_of g.curve) g.basis g.depth row

-- the row has the digits of f
abbrev pub IsDigitsOf : DigitData → List Term → List ℕ → Type 0
IsDigitsOf g f row = AreDigits (data_of g.curve) g.basis g.depth f row

-- the variable v times f
abbrev pub times_variable : DigitData → ℕ → List Term → List Term
times_variable g v f = mul g.curve.prime (polynomial_of (variable v)) f

-- d times f
abbrev pub times_denominator : DigitData → List Term → List Term
times_denominator g f = mul g.curve.prime g.curve.denominator.terms f

-- the corner with this number
abbrev pub corner : DigitData → ℕ → Monomial
corner g i = slice_index_or g.basis i unit

-- the curve is fit, the depth is at most 200, and the basis is the corners of the curve
pub record IsDigitSpace (g : DigitData) : Type 0 where
  pub prime : IsPrime g.curve.prime
  pub fit : Fit g.curve
  pub corners : AreCornersOf (data_of g.curve) g.basis
  pub shallow : g.depth ≤ 200

-- the first block is 0
abbrev pub HasZeroBlock : DigitData → List ℕ → Type 0
HasZeroBlock g row = All (λ e. e ≡ 0) (take (length g.basis) row)

-- ---- products of a variable and a corner

-- row v * N + i has the digits of variable v times corner i
pub record HasTables (g : DigitData) (tables : List (List ℕ)) : Type 0 where
  pub count : length tables ≡ g.curve.variables * length g.basis
  pub rows : (v i : ℕ) → v < g.curve.variables → i < length g.basis
      → IsDigitsOf g (times_variable g v (polynomial_of (corner g i))) (slice_index_or tables (v * length g.basis + i) [])

-- with zeros behind it, as many as it lacks, the row has the digits of f
pub record AreFirstDigits (g : DigitData) (f : List Term) (row : List ℕ) : Type 0 where
  pub short : length row ≤ width g
  pub digits : IsDigitsOf g f (row ++ replicate (width g - length row) 0)

-- variable v times corner i is the corner with this number, or has the digits of this one of the border rows
abbrev pub IsProduct : DigitData → List (List ℕ) → ℕ → ℕ → Product → Type 0
IsProduct g border v i (Corner j) = (j < length g.basis) × (times (corner g i) (variable v) ≡ corner g j)
IsProduct g border v i (Border r) = (r < length border) × AreFirstDigits g (times_variable g v (polynomial_of (corner g i))) (slice_index_or border r [])

-- number v * N + i is the product of variable v and corner i
pub record HasProducts (g : DigitData) (border : List (List ℕ)) (products : List Product) : Type 0 where
  pub count : length products ≡ g.curve.variables * length g.basis
  pub each : (v i : ℕ) → v < g.curve.variables → i < length g.basis → IsProduct g border v i (slice_index_or products (v * length g.basis + i) (Corner 0))

-- the product with this number where products are listed, and the border row with this number where they are not
abbrev pub kept_at : Option (List Product) → ℕ → Product
kept_at None place = Border place
kept_at (Some products) place = slice_index_or products place (Corner 0)

-- how many products there are
abbrev pub kept_count : List (List ℕ) → Option (List Product) → ℕ
kept_count border None = length border
kept_count border (Some products) = length products

-- number v * N + i is the product of variable v and corner i, listed or not
pub record AreKept (g : DigitData) (border : List (List ℕ)) (products : Option (List Product)) : Type 0 where
  pub count : kept_count border products ≡ g.curve.variables * length g.basis
  pub each : (v i : ℕ) → v < g.curve.variables → i < length g.basis → IsProduct g border v i (kept_at products (v * length g.basis + i))

-- each row has the digits of its monomial at a depth that is smaller by 1
abbrev pub HasOuterRows : DigitData → List OuterRow → Type 0
HasOuterRows g rows = All (λ r. AreDigits (data_of g.curve) g.basis (g.depth - 1) (polynomial_of r.monomial) r.digits) rows

-- ---- spaces of rows

-- an ideal of the polynomials modulo I and d^T, as a space of rows
abbrev pub IsIdealIn : DigitData → Subspace → Type 0
IsIdealIn g space = IsIdealSpace (data_of g.curve) g.basis g.depth space

-- the digits of f are in the space
abbrev pub IsDigitIn : DigitData → Subspace → List Term → Type 0
IsDigitIn g space f = HasDigitsIn (data_of g.curve) g.basis g.depth space f
