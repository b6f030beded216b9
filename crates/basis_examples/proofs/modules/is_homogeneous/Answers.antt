use Rattle.std.proofs.Common.{◌≡◌, sym, ◌∙◌, subst}
use Rattle.polys.proofs.Each.{every_more_item}
use Rattle.polys.specs.Poly.{IsVector}
use Rattle.graded_modules.specs.Vector.{IsGenerator, degree_at}
use Rattle.basis_examples.proofs.Vectors.{six_generator}
use Rattle.basis_examples.proofs.modules.is_homogeneous.Goals as goal

pub loop-t-preserved : goal.loop-t-preserved
loop-t-preserved c =
    every_more_item (λ m. degree_at c.args.shift m ≡ c.degree_at-degree.result) c.terms-terms.result.now c.loop-t.t-index c.t-item.result c.loop-t-test.true c.t-item.is c.loop-t.invariant
    (sym c.degree_at.ensures ∙ c.if-degree_at-degree.false)

pub returns : goal.returns
returns c = λ _.
    subst (IsGenerator c.args.f.now.prime 6 c.args.shift) c.terms-terms.ensures.value
    (six_generator c.args.f.now.prime c.args.shift c.degree_at-degree.result c.loop-t.t-index c.terms-terms.result.now (subst (IsVector c.args.f.now.prime) (sym c.terms-terms.ensures.value) c.terms-terms.ensures.known) c.loop-t-test.false c.loop-t.invariant)
