use Rattle.std.proofs.Common.{take}
use Rattle.std.specs.List.{All}
use Rattle.polys.specs.Poly.{terms_of}
use Rattle.jacobian_pick.specs.Choice.{IsPassedOver}
use Rattle.problem.specs.Problem.{problem_data}
use Rattle.jacobian_pick.proofs.choosing.first_good.Given as goal

abbrev pub invariant-loop-f : goal.invariant-loop-f
invariant-loop-f l = All (IsPassedOver (problem_data l.problem) l.fn.cap) (terms_of (take l.f-index l.list))
