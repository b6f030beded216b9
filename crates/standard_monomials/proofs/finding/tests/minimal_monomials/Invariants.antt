use Rattle.std.specs.List.{All}
use Rattle.polys.specs.Terms.{IsAffine}
use Rattle.standard_monomials.specs.Standard.{AreMinimal}
use Rattle.standard_monomials.proofs.finding.tests.minimal_monomials.Given as goal

abbrev pub invariant-loop-row : goal.invariant-loop-row
invariant-loop-row l = record {
  affine : All (IsAffine l.variables) l.ms.items;
  minimal : AreMinimal l.ms.items;
}
