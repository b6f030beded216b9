-- Ideals of finite dimension have corners and reduced bases (Greuel and Pfister, section on standard bases).
use Rattle.std.specs.Prelude.{ℕ, ◌≤◌, List, All}
use Rattle.monomials.specs.Mono.{Monomial}
use Rattle.prime_field.specs.Primes.{IsPrime}
use Rattle.polys.specs.declared.term.Term.{Term}
use Rattle.polys.specs.Terms.{IsPoly}
use Rattle.polys.specs.Ideal.{InIdeal, HasDim}
use Rattle.polys.specs.Reduced.{IsLead, IsReducedBasis}
use Rattle.standard_monomials.specs.Standard.{IsStandardBasis, AreCorners}

-- each ideal that has a standard basis has a reduced one
abbrev pub StandardBasesAreReduced : Type 0
StandardBasesAreReduced =
    (p n : ℕ) (gs ds : List (List Term)) → IsPrime p → All (IsPoly p n) gs → IsStandardBasis p n gs ds → (qs : List (List Term)) × IsReducedBasis p n (InIdeal p n gs) qs

-- where the dimension is finite, it is decided whether a monomial is the lead of a member
abbrev pub LeadsAreDecided : Type 0
LeadsAreDecided =
    (p n : ℕ) (gs : List (List Term)) (N : ℕ) → IsPrime p → All (IsPoly p n) gs → HasDim p n gs N → (m : Monomial) → Dec (IsLead p n gs m)

-- some list has all monomials that are none
abbrev pub CornersExist : Type 0
CornersExist =
    (p n : ℕ) (gs : List (List Term)) (N : ℕ) → IsPrime p → All (IsPoly p n) gs → HasDim p n gs N → (ms : List Monomial) × AreCorners p n gs ms

-- some list is the reduced basis
abbrev pub ReducedBasesExist : Type 0
ReducedBasesExist =
    (p n : ℕ) (gs : List (List Term)) (N : ℕ) → IsPrime p → All (IsPoly p n) gs → HasDim p n gs N → (qs : List (List Term)) × IsReducedBasis p n (InIdeal p n gs) qs

-- a larger ideal has a finite dimension too, and no greater one
abbrev pub LargerIdealsAreFinite : Type 0
LargerIdealsAreFinite =
    (p n : ℕ) (gs hs : List (List Term)) (N : ℕ) → IsPrime p → All (IsPoly p n) gs → All (IsPoly p n) hs → All (InIdeal p n hs) gs → HasDim p n gs N
    → (M : ℕ) × (M ≤ N) × HasDim p n hs M
