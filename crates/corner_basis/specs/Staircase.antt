-- The monomials that are tried: those that are no leads of an ideal, and its least leads.
use Rattle.std.specs.Prelude.{◌≡◌, ◌↔◌, ◌⊎◌, ℕ, ◌+◌, ◌-◌, ◌*◌, ◌<◌, ◌≤◌, List, [], ◌∷◌, ◌++◌, map, length, slice_index_or, Contains}
use Rattle.std.specs.declared.cmp.Ordering.TheVariants.{Less}
use Rattle.monomials.specs.Mono.{Monomial, Divides, cmp_dp, times, total_degree, unit, variable}
use Rattle.polys.specs.declared.term.Term.{Term}
use Rattle.polys.specs.Terms.{EachMono, IsAffine, IsPoly, sub}
use Rattle.polys.specs.Ideal.{number_combination}
use Rattle.polys.specs.Curve.{CurveData}
use Rattle.row_space.specs.Subspace.{Subspace, DifferIn, FitsIn, IsIn, IsZeroAtPivots}
use Rattle.standard_monomials.specs.Standard.{AreMinimal, IsRising, polynomial_of}
use Rattle.digit_laws.specs.Digits.{HasDigitsIn, IsOfDigits}

-- some monomial of the list divides m
abbrev pub HasDivisor : List Monomial → Monomial → Type 0
HasDivisor ls m = (l : Monomial) × Contains ls l × Divides l m

-- the monomial is in one of the lists
abbrev pub IsAmong : List Monomial → List Monomial → Monomial → Type 0
IsAmong ss ls m = Contains ss m ⊎ Contains ls m

-- f is, up to a member of the ideal of the space, a polynomial whose monomials are as P says
pub record IsClassOf (A : CurveData) (ms : List Monomial) (t : ℕ) (space : Subspace) (P : Monomial → Type 0) (f : List Term) : Type 0 where
  pub sum : List Term
  pub poly : IsPoly A.prime A.variables sum
  pub monos : EachMono P sum
  pub close : HasDigitsIn A ms t space (sub A.prime f sum)

-- l is, up to a member of the ideal of the space, a sum of smaller monomials of the list
abbrev pub IsReducible : CurveData → List Monomial → ℕ → Subspace → List Monomial → Monomial → Type 0
IsReducible A ms t space ss l = IsClassOf A ms t space (λ w. Contains ss w × (cmp_dp w l ≡ Less)) (polynomial_of l)

-- ss are monomials of which no sum of multiples is in the ideal of the space but 0, and that span a larger space with it; ls
-- are leads of the ideal of which none divides another one
pub record IsStaircase (A : CurveData) (ms : List Monomial) (t : ℕ) (space span : Subspace) (ss ls : List Monomial) : Type 0 where
  pub affine : (m : Monomial) → IsAmong ss ls m → IsAffine A.variables m
  pub rising : IsRising ss
  pub minimal : AreMinimal ls
  pub outside : (s : Monomial) → Contains ss s → HasDivisor ls s → ⊥
  pub low : (s : Monomial) → Contains ss s → total_degree s.exponents < length ss
  pub reach : (l : Monomial) → Contains ls l → total_degree l.exponents ≤ length ss
  pub free : (h : List Term) → IsPoly A.prime A.variables h → EachMono (Contains ss) h → HasDigitsIn A ms t space h → h ≡ []
  pub reducible : (l : Monomial) → Contains ls l → IsReducible A ms t space ss l
  pub of_digits : IsOfDigits A ms t span
  pub few : length ss ≤ length span.basis
  pub within : length span.basis ≤ length ms * t
  pub spans : (f : List Term) → IsPoly A.prime A.variables f → HasDigitsIn A ms t span f ↔ IsClassOf A ms t space (Contains ss) f

-- m is in the one list, or a multiple of a member of the other
abbrev pub IsPassed : List Monomial → List Monomial → Monomial → Type 0
IsPassed ss ls m = Contains ss m ⊎ HasDivisor ls m

-- the first monomials of the queue, so many of them, are tried, and all multiples of ss by a variable are in the queue
pub record IsSearch (n next : ℕ) (queue ss ls : List Monomial) : Type 0 where
  pub rising : IsRising queue
  pub affine : (m : Monomial) → Contains queue m → IsAffine n m
  pub low : (m : Monomial) → Contains queue m → total_degree m.exponents ≤ length ss
  pub passed : (i : ℕ) → i < next → i < length queue → IsPassed ss ls (slice_index_or queue i unit)
  pub only : (m : Monomial) → IsAmong ss ls m → (i : ℕ) × (i < next) × (i < length queue) × (slice_index_or queue i unit ≡ m)
  pub first : Contains queue unit
  pub closed : (m : Monomial) (v : ℕ) → Contains ss m → v < n → Contains queue (times m (variable v))

-- an upper bound of the steps that are left: each that adds to the space adds at most six monomials
abbrev pub steps_left : (room dimension next : ℕ) → List Monomial → ℕ
steps_left room dimension next queue = 7 * (room - dimension) + (length queue - next)

-- ---- members of the ideal by relations between the monomials

-- the rows of numbers for which the sum of these multiples of the leads, and then of the other monomials, is in the ideal
pub record AreRelations (A : CurveData) (ms : List Monomial) (t : ℕ) (space : Subspace) (ss ls : List Monomial) (relations : Subspace) : Type 0 where
  pub prime : relations.prime ≡ A.prime
  pub width : relations.width ≡ length ls + length ss
  pub members : (v : List ℕ) → length v ≡ length ls + length ss
      → IsIn relations v ↔ HasDigitsIn A ms t space (number_combination A.prime v (map polynomial_of (ls ++ ss)))

-- each row that differs from the given one by a relation, and is 0 at the pivots, is this one
abbrev pub IsNormalRow : Subspace → List ℕ → List ℕ → Type 0
IsNormalRow relations row normal = (other : List ℕ) → FitsIn relations other → DifferIn relations row other → IsZeroAtPivots relations other → other ≡ normal

-- a monic member of the ideal with the lead l, whose other monomials are in ss
pub record IsTailed (A : CurveData) (ms : List Monomial) (t : ℕ) (space : Subspace) (ss : List Monomial) (l : Monomial) (f : List Term) : Type 0 where
  pub rest : List Term
  pub whole : f ≡ record { coeff = 1; mono = l } ∷ rest
  pub poly : IsPoly A.prime A.variables f
  pub monos : EachMono (Contains ss) rest
  pub member : HasDigitsIn A ms t space f

-- such members, one for each lead
pub record AreTailed (A : CurveData) (ms : List Monomial) (t : ℕ) (space : Subspace) (ss ls : List Monomial) (fs : List (List Term)) : Type 0 where
  pub count : length fs ≡ length ls
  pub each : (i : ℕ) → i < length ls → IsTailed A ms t space ss (slice_index_or ls i unit) (slice_index_or fs i [])
