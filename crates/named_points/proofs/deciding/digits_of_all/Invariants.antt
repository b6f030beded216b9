-- The polynomials so far have their rows.
use Rattle.std.proofs.Common.{take}
use Rattle.named_points.specs.Deciding.{HaveDigits}
use Rattle.named_points.proofs.deciding.digits_of_all.Given as goal

abbrev pub invariant-loop-f : goal.invariant-loop-f
invariant-loop-f l = HaveDigits l.digits (take l.f-index l.polys) l.rows
