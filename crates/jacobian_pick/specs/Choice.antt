-- The choice of a denominator, and what keeps a problem from having one (Böhm, Decker, Laplagne, Pfister, Steenpass and
-- Steidel, Parallel Algorithms for Normalization).
use Rattle.std.specs.Bool.{⊤}
use Rattle.std.specs.Prelude.{◌≡◌, ◌⊎◌, ℕ, ◌<◌, ◌≤◌, List, ◌∷◌, ◌++◌, length, All, Option, None, Some}
use Rattle.polys.specs.declared.curve.TheConstants.{LARGEST_DIMENSION, MAX_DENOMINATOR_DEGREE}
use Rattle.polys.specs.declared.curve.Curve.{Curve}
use Rattle.polys.specs.declared.term.Term.{Term}
use Rattle.polys.specs.Curve.{HasDimModulo, HasRegular}
use Rattle.polys.specs.Ideal.{InIdeal, HasInfiniteDim}
use Rattle.polys.specs.Reduced.{IsReducedBasis}
use Rattle.polys.specs.Terms.{IsMonicOf, one, degree_of}
use Rattle.graded_modules.specs.Deep.{IsDeep}
use Rattle.homogenising.specs.Homogenised.{all_homogenised}
use Rattle.denominator_module.specs.Module.{IsDeepDenominator}
use Rattle.polys.specs.Poly.{terms_of}
use Rattle.lift_colon.specs.Lifted.{LiftedData, IsLifted}
use Rattle.problem.specs.Problem.{ProblemData, curve_of}
use Rattle.jacobian_pick.specs.Candidates.{AreFirst, jacobian_of, number_sums_of, variable_sums_of}
use Rattle.jacobian_pick.specs.declared.choosing.PickStop.{PickStop}
use Rattle.jacobian_pick.specs.declared.choosing.PickStop.TheVariants.{Deep, Unit, DenominatorDeep, ZeroDivisor, Infinite, Wide, NoDenominator, Memory}

-- ---- the ideal

-- the homogenised generators are deep under the cap
abbrev pub HasDeepIdeal : ProblemData → ℕ → Type 0
HasDeepIdeal problem cap = IsDeep problem.prime (length problem.letters) 0 (all_homogenised problem.generators) cap

-- 1 is in the ideal
abbrev pub HasUnitIdeal : ProblemData → Type 0
HasUnitIdeal problem = InIdeal problem.prime (length problem.letters) problem.generators one

-- neither
pub record HasProperIdeal (problem : ProblemData) (cap : ℕ) : Type 0 where
  pub not_deep : HasDeepIdeal problem cap → ⊥
  pub not_unit : HasUnitIdeal problem → ⊥

-- ---- one denominator

-- the module of d is deep under the cap
abbrev pub HasDeepModule : ProblemData → ℕ → List Term → Type 0
HasDeepModule problem cap d = IsDeepDenominator problem.prime (length problem.letters) d problem.generators cap

-- it is not, and d is no regular element
pub record IsZeroDivisor (problem : ProblemData) (cap : ℕ) (d : List Term) : Type 0 where
  pub not_deep : HasDeepModule problem cap d → ⊥
  pub not_regular : HasRegular (curve_of problem d) → ⊥

-- the module of d is not deep, and d is regular
pub record IsAllowed (problem : ProblemData) (cap : ℕ) (d : List Term) : Type 0 where
  pub not_deep : HasDeepModule problem cap d → ⊥
  pub regular : HasRegular (curve_of problem d)

-- the dimension modulo I + (d) is infinite
abbrev pub IsInfinite : ProblemData → List Term → Type 0
IsInfinite problem d = HasInfiniteDim problem.prime (length problem.letters) (d ∷ problem.generators)

-- it is finite and above 256
abbrev pub IsWide : ProblemData → List Term → Type 0
IsWide problem d = (N : ℕ) × (256 < N) × HasDimModulo (curve_of problem d) N

-- the module of d is not deep, d is regular, and the dimension modulo I + (d) is at most 256. For xy modulo 5: x and y
-- are zero divisors, and x + y is good
pub record IsGood (problem : ProblemData) (cap : ℕ) (d : List Term) : Type 0 where
  pub allowed : IsAllowed problem cap d
  pub narrow : (N : ℕ) × (N ≤ LARGEST_DIMENSION) × HasDimModulo (curve_of problem d) N

-- ---- the choice

-- f is no candidate that is good: it is in the ideal, or its monic multiple is not good
abbrev pub IsPassedOver : ProblemData → ℕ → List Term → Type 0
IsPassedOver problem cap f =
    InIdeal problem.prime (length problem.letters) problem.generators f
    ⊎ ((InIdeal problem.prime (length problem.letters) problem.generators f → ⊥) × (m : List Term) × IsMonicOf problem.prime f m × (IsGood problem cap m → ⊥))

-- f is a candidate that is good: it is outside the ideal, and d is its monic multiple and good
pub record IsGoodMultiple (problem : ProblemData) (cap : ℕ) (f d : List Term) : Type 0 where
  pub outside : InIdeal problem.prime (length problem.letters) problem.generators f → ⊥
  pub monic : IsMonicOf problem.prime f d
  pub good : IsGood problem cap d

-- d is the good multiple of a member of the list, and all before it are passed over
pub record IsFirstGood (problem : ProblemData) (cap : ℕ) (fs : List (List Term)) (d : List Term) : Type 0 where
  pub before : List (List Term)
  pub member : List Term
  pub after : List (List Term)
  pub place : fs ≡ before ++ member ∷ after
  pub passed : All (IsPassedOver problem cap) before
  pub multiple : IsGoodMultiple problem cap member d

-- the sums of what is kept of the Jacobian matrix, by numbers and then by variables
abbrev pub sums_of : ProblemData → List (List Term) → List (List Term)
sums_of problem first = number_sums_of problem first ++ variable_sums_of problem first

-- the Jacobian matrix gives no good candidate, and d is the first good one of the sums
pub record IsFirstGoodSum (problem : ProblemData) (cap : ℕ) (d : List Term) : Type 0 where
  pub first : List (List Term)
  pub are_first : AreFirst problem first
  pub passed : All (IsPassedOver problem cap) (jacobian_of problem)
  pub sum : IsFirstGood problem cap (sums_of problem first) d

-- a denominator is handed in, and its monic multiple is d
abbrev pub IsHandedIn : ProblemData → List Term → Type 0
IsHandedIn problem d = (f : List Term) × (problem.denominator ≡ Some f) × IsMonicOf problem.prime f d

-- the monic multiple of the denominator that is handed in, or else the first good candidate
abbrev pub IsChosenBy : ProblemData → ℕ → Option (List Term) → List Term → Type 0
IsChosenBy problem cap (Some f) d = IsMonicOf problem.prime f d × IsGood problem cap d
IsChosenBy problem cap None d = IsFirstGood problem cap (jacobian_of problem) d ⊎ IsFirstGoodSum problem cap d

abbrev pub IsChosen : ProblemData → ℕ → List Term → Type 0
IsChosen problem cap d = IsChosenBy problem cap problem.denominator d

-- no denominator is handed in, and no candidate is good
pub record HasNoDenominator (problem : ProblemData) (cap : ℕ) : Type 0 where
  pub none : problem.denominator ≡ None
  pub first : List (List Term)
  pub are_first : AreFirst problem first
  pub passed : All (IsPassedOver problem cap) (jacobian_of problem)
  pub sums_passed : All (IsPassedOver problem cap) (sums_of problem first)

-- ---- the answers

-- why d is no good denominator: each reason comes only where none before it does
abbrev pub IsReason : ProblemData → ℕ → List Term → PickStop → Type 0
IsReason problem cap d DenominatorDeep = HasDeepModule problem cap d
IsReason problem cap d ZeroDivisor = IsZeroDivisor problem cap d
IsReason problem cap d Infinite = IsAllowed problem cap d × IsInfinite problem d
IsReason problem cap d Wide = IsAllowed problem cap d × IsWide problem d
IsReason problem cap d Memory = ⊤
IsReason problem cap d Deep = ⊥
IsReason problem cap d Unit = ⊥
IsReason problem cap d NoDenominator = ⊥

-- the ideal is proper, and the denominator that is handed in is no good for this reason
abbrev pub HasBadDenominator : ProblemData → ℕ → PickStop → Type 0
HasBadDenominator problem cap stop = HasProperIdeal problem cap × ((d : List Term) × IsHandedIn problem d × IsReason problem cap d stop)

-- why a problem has no denominator: each cause comes only where none before it does, and want of memory is free
abbrev pub IsCause : ProblemData → ℕ → PickStop → Type 0
IsCause problem cap Deep = HasDeepIdeal problem cap
IsCause problem cap Unit = (HasDeepIdeal problem cap → ⊥) × HasUnitIdeal problem
IsCause problem cap DenominatorDeep = HasBadDenominator problem cap DenominatorDeep
IsCause problem cap ZeroDivisor = HasBadDenominator problem cap ZeroDivisor
IsCause problem cap Infinite = HasBadDenominator problem cap Infinite
IsCause problem cap Wide = HasBadDenominator problem cap Wide
IsCause problem cap NoDenominator = HasProperIdeal problem cap × HasNoDenominator problem cap
IsCause problem cap Memory = ⊤

-- the bases of the problem's ideal and of a denominator
pub record IsLiftedOf (problem : ProblemData) (l : LiftedData) : Type 0 where
  pub prime : l.prime ≡ problem.prime
  pub variables : l.variables ≡ length problem.letters
  pub ideal : IsReducedBasis problem.prime (length problem.letters) (InIdeal problem.prime (length problem.letters) problem.generators) (terms_of l.ideal)

-- the curve of the ideal with fractions over the denominator
abbrev pub curve_of_lifted : LiftedData → Curve
curve_of_lifted l = record { prime = l.prime; variables = l.variables; ideal = l.ideal; denominator = l.denominator }

-- with a denominator that meets a condition
pub record IsFound (problem : ProblemData) (condition : List Term → Type 0) (l : LiftedData) : Type 0 where
  pub lifted : IsLiftedOf problem l
  pub known : IsLifted l
  pub low : degree_of l.denominator.terms ≤ MAX_DENOMINATOR_DEGREE
  pub meets : condition l.denominator.terms

-- for the good multiple of f
abbrev pub IsFoundMultiple : ProblemData → ℕ → List Term → LiftedData → Type 0
IsFoundMultiple problem cap f l = IsFound problem (IsGoodMultiple problem cap f) l

-- for the first good one of the list
abbrev pub IsFoundFirst : ProblemData → ℕ → List (List Term) → LiftedData → Type 0
IsFoundFirst problem cap fs l = IsFound problem (IsFirstGood problem cap fs) l

-- for the chosen denominator
pub record IsPicked (problem : ProblemData) (cap : ℕ) (l : LiftedData) : Type 0 where
  pub lifted : IsLiftedOf problem l
  pub known : IsLifted l
  pub low : degree_of l.denominator.terms ≤ MAX_DENOMINATOR_DEGREE
  pub good : IsGood problem cap l.denominator.terms
  pub chosen : IsChosen problem cap l.denominator.terms
