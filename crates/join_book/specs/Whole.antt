-- A book in which all work is done.
use Rattle.std.specs.Prelude.{◌≡◌, ℕ, ◌≤◌, List, length}
use Rattle.polys.specs.declared.curve.Curve.{Curve}
use Rattle.curve_model.specs.declared.point.Point.{Point}
use Rattle.join_book.specs.Book.{BookData, IsVacant}
use Rattle.join_book.specs.Answers.{IsOf}

-- the book is of this curve, these points and this limit; it has an entry for each of the points, and each entry is settled
pub record IsWhole (c : Curve) (Ps : List Point) (L : ℕ) (b : BookData) : Type 0 where
  pub same : IsOf c Ps L b
  pub each : (i : ℕ) → 1 ≤ i → i ≤ length Ps → IsVacant b.entries i → ⊥
  pub settled : b.settled ≡ length b.entries
