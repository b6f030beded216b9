-- Modules over another power of d.
use Rattle.std.specs.Prelude.{◌≡◌, ◌↔◌, ℕ, ◌+◌, ◌*◌, List, ◌++◌, length, drop, replicate, All}
use Rattle.comm_ring.specs.Modules.{InSpan}
use Rattle.comm_ring.specs.Rows.{rows}
use Rattle.polys.specs.Curve.{data_of}
use Rattle.curve_model.specs.Fraction.{Fraction, IsFraction}
use Rattle.row_space.specs.Echelon.{IsRow}
use Rattle.row_space.specs.Subspace.{Subspace, FitsIn, IsIn, IsReduced}
use Rattle.over_laws.specs.Over.{OverData, InOver, HasRows, HaveSameFractions}

-- so many zeros, and then the row
abbrev pub behind_zeros : ℕ → List ℕ → List ℕ
behind_zeros zeros row = replicate zeros 0 ++ row

-- the row begins with so many zeros
abbrev pub BeginsWithZeros : ℕ → List ℕ → Type 0
BeginsWithZeros zeros row = row ≡ behind_zeros zeros (drop zeros row)

-- the space of the sums of multiples of the rows
pub record IsSpannedBy (p n : ℕ) (vs : List (List ℕ)) (space : Subspace) : Type 0 where
  pub prime : space.prime ≡ p
  pub width : space.width ≡ n
  pub members : (row : List ℕ) → IsIn space row ↔ InSpan (rows p n) vs row
  pub reduced : IsReduced space

-- the rows of the high space are those of the low one behind so many zeros
pub record IsRaised (zeros : ℕ) (low high : Subspace) : Type 0 where
  pub prime : high.prime ≡ low.prime
  pub width : high.width ≡ zeros + low.width
  pub up : (row : List ℕ) → FitsIn low row → IsIn low row → IsIn high (behind_zeros zeros row)
  pub down : (row : List ℕ) → FitsIn high row → IsIn high row
      → (rest : List ℕ) × (row ≡ behind_zeros zeros rest) × IsIn low rest

-- the same fractions over d^K, by as many rows
pub record IsAtPower (o : OverData) (K : ℕ) (q : OverData) : Type 0 where
  pub curve : q.curve ≡ o.curve
  pub dimension : q.dimension ≡ o.dimension
  pub power : q.power ≡ K
  pub same : HaveSameFractions o q
  pub rank : length q.rows.basis ≡ length o.rows.basis

-- the module with other rows over another power of d
abbrev pub with_rows : OverData → ℕ → Subspace → OverData
with_rows o K S = record { curve = o.curve; dimension = o.dimension; power = K; rows = S }

-- rows over d^K that span the same fractions, a space of as many rows
pub record AreRowsAt (o : OverData) (K : ℕ) (vs : List (List ℕ)) : Type 0 where
  pub fit : All (IsRow o.rows.prime (o.dimension * K)) vs
  pub rows : (S : Subspace) → IsSpannedBy o.rows.prime (o.dimension * K) vs S → HasRows (with_rows o K S)
  pub same : (S : Subspace) → IsSpannedBy o.rows.prime (o.dimension * K) vs S → HaveSameFractions o (with_rows o K S)
  pub rank : (S : Subspace) → IsSpannedBy o.rows.prime (o.dimension * K) vs S → length S.basis ≡ length o.rows.basis

-- the fractions of q are in o
abbrev pub HoldsFractions : OverData → OverData → Type 0
HoldsFractions o q = (f : Fraction) → IsFraction (data_of o.curve) f → InOver q f → InOver o f
