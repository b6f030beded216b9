use Rattle.std.proofs.Common.{◌∙◌, subst, arith, rules}
use Rattle.std.specs.List.{All}
use Rattle.std.proofs.lemmas.List.{take_all}
use Rattle.std.proofs.lemmas.List.Elements.{All-more}
use Rattle.module_basis.specs.Gens.{IsHomogeneousOver}
use Rattle.basis_examples.proofs.modules.gens.Goals as goal

pub loop-k-preserved : goal.loop-k-preserved
loop-k-preserved c =
    All-more (IsHomogeneousOver c.args.p 6 c.args.shift) c.as_slice-fs.result.now c.loop-k.k c.index-fs-k.result c.loop-k-test.true c.loop-k.invariant
    (subst (IsHomogeneousOver c.args.p 6 c.args.shift) c.index-fs-k.is (c.is_over.ensures (search rules)))

pub returns : goal.returns
returns c = record {
  some_variables = omega arith;
  six_variables = omega arith;
  vectors = subst (All (IsHomogeneousOver c.args.p 6 c.args.shift)) (take_all c.loop-k.k c.as_slice-fs.result.now c.loop-k-test.false ∙ c.as_slice-fs.ensures) c.loop-k.invariant;
}
