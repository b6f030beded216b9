-- Strata with entries.
use Rattle.std.proofs.Common.{◌≡◌, ℕ, ◌+◌, ◌<◌, ◌≤◌, List, arith, subst}
use native.Mathlib.Decide.{ℕ_discrete}
use Rattle.over_module.specs.Done.{DoneData}
use Rattle.join_book.specs.Book.{IsVacant}

-- the strata before j have entries, and now j has one
pub one_more : (j : ℕ) (before later : List DoneData) → ((i : ℕ) → 1 ≤ i → i < j → IsVacant before i → ⊥) → ((i : ℕ) → IsVacant later i → IsVacant before i)
    → (IsVacant later j → ⊥) → (i : ℕ) → 1 ≤ i → i < j + 1 → IsVacant later i → ⊥
one_more j before later old kept new i some_i below vacant = go (ℕ_discrete i j)
  where
    go : Dec (i ≡ j) → ⊥
    go (yes e) = new (subst (IsVacant later) e vacant)
    go (no ne) = old i some_i (omega arith) (kept i vacant)
