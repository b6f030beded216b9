use Rattle.lane_rows.specs.Rows.{AreResidues}
use Rattle.finite_algebra.specs.Elements.{elements}
use Rattle.finite_algebra.proofs.Products.{summed}
use Rattle.finite_algebra.proofs.algebra.Algebra.product.Given as goal

abbrev pub invariant-loop-i : goal.invariant-loop-i
invariant-loop-i l = record {
  residues : AreResidues l.self.prime l.out;
  sum : (elements l.self).◌≋◌ l.out (summed l.self l.a l.b l.i);
}
