-- The statements so far have their rows.
use Rattle.std.proofs.Common.{take}
use Rattle.std.specs.List.{AllZip}
use Rattle.named_points.specs.Deciding.{HaveDigits}
use Rattle.named_points.proofs.deciding.statement_digits.Given as goal

abbrev pub invariant-loop-polys : goal.invariant-loop-polys
invariant-loop-polys l = AllZip (HaveDigits l.digits) (take l.polys-index l.statements) l.made
