use Rattle.std.proofs.Common.{◌-◌}
use Rattle.point_quotient.specs.Quotients.{AreFirstGenerators}
use Rattle.point_quotient.proofs.fronts.generators.Given as goal

abbrev pub invariant-loop-place : goal.invariant-loop-place
invariant-loop-place l = AreFirstGenerators l.first l.width (l.place - l.first) l.rows l.made
