-- What an insertion says.
use Rattle.std.specs.Prelude.{◌≡◌, ℕ, List}
use Rattle.row_space.specs.declared.space.Insert.{Insert}
use Rattle.row_space.specs.declared.space.Insert.TheVariants.{Inserted, Dependent}
use Rattle.row_space.specs.Subspace.{Subspace, IsIn, IsSumOfBasis, Gains}

-- a row that was not in the space is new, and one that was is a sum of multiples of the basis
abbrev pub IsInsertion : Subspace → List ℕ → Subspace → Insert → Type 0
IsInsertion old row new Inserted = ¬ (IsIn old row) × Gains old row new
IsInsertion old row new (Dependent residues) = IsSumOfBasis old residues row × (new ≡ old)
