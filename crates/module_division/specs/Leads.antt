-- Monomials as rows of their exponents.
use Rattle.std.specs.Prelude.{◌≡◌, ℕ, ◌<◌, List, length, slice_index, slice_index_or}
use Rattle.monomials.specs.Mono.{Monomial}
use Rattle.polys.specs.Poly.{Polynomial}
use Rattle.graded_modules.specs.Vector.{lead_mono}
use Rattle.module_division.specs.declared.leads.LeadRow.{LeadRow}

-- the exponents of m, the homogenising one last, and then its component
pub record IsRowOf (row : List ℕ) (m : Monomial) : Type 0 where
  pub exponents : (i : ℕ) → i < 7 → slice_index row i ≡ slice_index m.exponents i
  pub component : slice_index row 7 ≡ m.component

-- the rows of the leads, one for each vector
pub record AreLeadRows (rows : List LeadRow) (fs : List Polynomial) : Type 0 where
  pub as_many : length rows ≡ length fs
  pub each : (k : ℕ) (r : LeadRow) (d : Polynomial) → k < length fs → IsRowOf (slice_index_or rows k r).entries (lead_mono (slice_index_or fs k d).terms)
