-- Books in which work is done.
use Rattle.std.specs.Prelude.{ℕ, ◌≤◌}
use Rattle.join_book.specs.Book.{BookData, IsVacant}

-- each of so many strata has an entry
abbrev pub IsWorked : ℕ → BookData → Type 0
IsWorked strata b = (i : ℕ) → 1 ≤ i → i ≤ strata → IsVacant b.entries i → ⊥
