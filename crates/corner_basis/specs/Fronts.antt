-- Ideals of polynomials, by their first blocks of digits (Greuel and Pfister, section on standard bases).
use Rattle.std.specs.Prelude.{ℕ, List}
use Rattle.polys.specs.declared.term.Term.{Term}
use Rattle.polys.specs.Curve.{data_of}
use Rattle.row_space.specs.Subspace.{Subspace}
use Rattle.digit_laws.specs.Digits.{HasDigitsIn, IsIdealSpace}
use Rattle.digit_space.specs.Model.{DigitData}

-- an ideal of the polynomials modulo I and d^t, as a space of rows of t blocks
abbrev pub IsFrontIdeal : DigitData → ℕ → Subspace → Type 0
IsFrontIdeal g t space = IsIdealSpace (data_of g.curve) g.basis t space

-- the first t blocks of digits of f are in the space
abbrev pub IsFrontIn : DigitData → ℕ → Subspace → List Term → Type 0
IsFrontIn g t space f = HasDigitsIn (data_of g.curve) g.basis t space f
