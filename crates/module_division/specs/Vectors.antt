-- The members of a list of vectors.
use Rattle.std.specs.Prelude.{ℕ, List, [], slice_index_or}
use Rattle.polys.specs.declared.term.Term.{Term}

-- the member with this number, and 0 beyond the list
abbrev pub member : List (List Term) → ℕ → List Term
member bs i = slice_index_or bs i []
