-- What the answers of the search say of the dimension.
use Rattle.std.proofs.Common.{ℕ, ◌<◌, ◌≤◌, List, length, arith}
use Rattle.std.specs.List.{All, Contains}
use Rattle.std.proofs.lemmas.List.Elements.{All-contains}
use Rattle.prime_field.specs.Primes.{IsPrime}
use Rattle.monomials.specs.Mono.{Monomial}
use Rattle.polys.specs.declared.term.Term.{Term}
use Rattle.polys.specs.Ideal.{HasDim, HasInfiniteDim}
use Rattle.polys.specs.Reduced.{Reduced}
use Rattle.standard_monomials.specs.Standard.{IsStandardBasis, IsStandard, AreStandard, IsRising}
use Rattle.standard_monomials.specs.Finding.{HasPowerLead, HasDimUpTo, HasDimAbove}
use Rattle.standard_monomials.proofs.Bases.{reduced_law}
use Rattle.standard_monomials.proofs.Counting.{count_law}
use Rattle.standard_monomials.proofs.Finite.{finite_law}
use Rattle.standard_monomials.proofs.Infinite.{infinite_law}
use Rattle.standard_monomials.proofs.Rising.{rising_distinct}
use Rattle.standard_monomials.proofs.Search.{leads_law}
use Rattle.standard_monomials.proofs.Unique.{unique_law}

pub all_standard : (n : ℕ) (ds : List (List Term)) (ms : List Monomial) → IsRising ms → All (IsStandard n ds) ms → ((m : Monomial) → IsStandard n ds m → Contains ms m)
    → AreStandard n ds ms
all_standard n ds ms r each whole = record { distinct = rising_distinct ms r; exact = λ m. (All-contains (IsStandard n ds) ms m each, whole m) }

module _ (p n : ℕ) (ds : List (List Term)) (prime : IsPrime p) (six : n ≤ 6) (reduced : Reduced p n ds) where
  base : IsStandardBasis p n ds ds
  base = reduced_law p n ds prime reduced

  pub infinite_by : (v : ℕ) → v < n → (HasPowerLead ds v → ⊥) → HasInfiniteDim p n ds
  infinite_by v l h = infinite_law p n ds ds v prime six reduced.polys base l (λ e k. h ((leads_law p n ds v six reduced.polys l).0 (e, k)))

  pub above_by : ((v : ℕ) → v < n → HasPowerLead ds v) → (ms : List Monomial) (limit : ℕ) → IsRising ms → All (IsStandard n ds) ms → limit < length ms → HasDimAbove p n ds limit
  above_by pure ms limit r each l =
      finite_law.above p n ds ds ms limit prime reduced.polys base (λ v h. (leads_law p n ds v six reduced.polys h).1 (pure v h))
      (record { distinct = rising_distinct ms r; each = each }) l

  pub dimension_by : (ms : List Monomial) → AreStandard n ds ms → HasDim p n ds (length ms)
  dimension_by ms s = count_law.all p n ds ds ms prime reduced.polys base s

module _ (p n : ℕ) (ds : List (List Term)) (limit : ℕ) where
  pub not_above : HasDimUpTo p n ds limit → HasDimAbove p n ds limit → ⊥
  not_above a b = let e = unique_law.one p n ds a.0 b.0 a.2 b.2 in absurd (let x = a.1 in let y = b.1 in omega arith)

  pub not_up_to : HasInfiniteDim p n ds → HasDimUpTo p n ds limit → ⊥
  not_up_to i a = unique_law.not_both p n ds a.0 a.2 i

  pub not_finite : HasInfiniteDim p n ds → HasDimAbove p n ds limit → ⊥
  not_finite i a = unique_law.not_both p n ds a.0 a.2 i
