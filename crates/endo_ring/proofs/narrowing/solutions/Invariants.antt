use Rattle.std.proofs.Common.{◌↔◌, ℕ, ◌*◌, List, length, take, All}
use Rattle.polys.specs.Curve.{data_of}
use Rattle.row_space.specs.Echelon.{IsRow}
use Rattle.row_space.specs.Subspace.{IsIn}
use Rattle.digit_laws.specs.Digits.{IsOfDigits}
use Rattle.endo_ring.specs.Taken.{IsTaken}
use Rattle.endo_ring.proofs.narrowing.solutions.Given as goal

abbrev pub invariant-loop-i : goal.invariant-loop-i
invariant-loop-i l = record {
  of_digits : IsOfDigits (data_of l.digits.curve) l.digits.basis l.blocks l.found;
  members : (row : List ℕ) → IsRow l.digits.curve.prime (length l.digits.basis * l.blocks) row → IsIn l.found row ↔ IsIn l.ideal row
      × All (λ v. IsTaken (data_of l.digits.curve) l.digits.basis l.blocks l.ideal v.terms row) (take l.i l.generators);
}
