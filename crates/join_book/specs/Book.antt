-- The book of what was joined: the work that is done for the points of a curve, and the sum of what is settled of it.
use Rattle.std.specs.Prelude.{◌≡◌, ◌≢◌, ◌↔◌, ℕ, ◌-◌, ◌≤◌, List, map, take, length, reverse, All, slice_index_or}
use Rattle.std.specs.List.{AllPairs}
use Rattle.prime_field.specs.Primes.{IsPrime}
use Rattle.polys.specs.declared.curve.Curve.{Curve}
use Rattle.polys.specs.Curve.{Fit, data_of}
use Rattle.curve_model.specs.declared.point.Point.{Point}
use Rattle.curve_model.specs.Fraction.{Fraction, IsFraction}
use Rattle.curve_model.specs.Point.{IsPointOf, basis_of}
use Rattle.curve_model.specs.Laws.{SumOfParts}
use Rattle.over_laws.specs.Over.{OverData, InOver}
use Rattle.over_module.specs.Done.{DoneData, IsDone, finished_points}

-- the entries stand in the order of their joins, each beside its pair of a stratum and a seat
pub record BookData : Type 0 where
  pub curve : Curve
  pub points : List Point
  pub limit : ℕ
  pub entries : List DoneData
  pub joined : List (ℕ × ℕ)
  pub settled : ℕ
  pub sum : OverData

-- the points are points of the curve, each once
pub record ArePointsOf (c : Curve) (Ps : List Point) : Type 0 where
  pub each : All (IsPointOf (data_of c)) Ps
  pub once : AllPairs (λ P R. basis_of P ≢ basis_of R) Ps

-- what was done is work on this curve and this limit, and on the point at the place of its stratum
pub record IsWorkOf (c : Curve) (Ps : List Point) (L : ℕ) (d : DoneData) : Type 0 where
  pub curve : d.curve ≡ c
  pub limit : d.limit ≡ L
  pub some_stratum : 1 ≤ d.stratum
  pub stratum : d.stratum ≤ length Ps
  pub point : slice_index_or Ps (d.stratum - 1) d.point ≡ d.point

-- no entry is of the stratum
abbrev pub IsVacant : List DoneData → ℕ → Type 0
IsVacant entries i = All (λ d. d.stratum ≢ i) entries

-- the points with a finished module among the first entries, the newest first
abbrev pub settled_points : ℕ → List DoneData → List Point
settled_points n entries = finished_points (reverse (take n entries))

-- what every book keeps
pub record BookIs (b : BookData) : Type 0 where
  pub prime : IsPrime b.curve.prime
  pub fit : Fit b.curve
  pub points : ArePointsOf b.curve b.points
  pub some_limit : 1 ≤ b.limit
  pub low_limit : b.limit ≤ 64
  pub entries : All (IsWorkOf b.curve b.points b.limit) b.entries
  pub done : All IsDone b.entries
  pub once : AllPairs (λ d e. d.stratum ≢ e.stratum) b.entries
  pub strata : map (λ p. p.0) b.joined ≡ map (λ d. d.stratum) b.entries
  pub settled : b.settled ≤ length b.entries
  pub over : b.sum.curve ≡ b.curve
  pub sum : (f : Fraction) → IsFraction (data_of b.curve) f
      → InOver b.sum f ↔ SumOfParts (data_of b.curve) (map basis_of (settled_points b.settled b.entries)) f
