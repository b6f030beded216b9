use Rattle.std.proofs.Common.{◌≡◌, sym, ◌∙◌, subst}
use Rattle.std.proofs.lemmas.List.{take_all}
use Rattle.polys.specs.Poly.{IsVector}
use Rattle.polys.specs.Terms.{EachMono}
use Rattle.polys.proofs.Each.{every_more_item}
use Rattle.graded_modules.specs.Vector.{IsGraded, IsGenerator, degree_at}
use Rattle.basis_timing.proofs.is_homogeneous.Goals as goal

pub loop-t-preserved : goal.loop-t-preserved
loop-t-preserved c = record {
  same = every_more_item (λ m. degree_at c.args.shift m ≡ c.degree_at-degree.result) c.terms-terms.result.now c.loop-t.t-index c.t-item.result c.loop-t-test.true c.t-item.is c.loop-t.invariant.same
      (sym c.degree_at.ensures ∙ c.if-degree_at-degree.false);
  graded = every_more_item (IsGraded c.args.variables) c.terms-terms.result.now c.loop-t.t-index c.t-item.result c.loop-t-test.true c.t-item.is c.loop-t.invariant.graded
      (c.is_graded.ensures c.if-not-is_graded.false);
}

pub returns : goal.returns
returns c = λ _.
    let all = take_all c.loop-t.t-index c.terms-terms.result.now c.loop-t-test.false in
    subst (IsGenerator c.args.f.now.prime c.args.variables c.args.shift) c.terms-terms.ensures.value (record {
      vector = record {
        canonical = (subst (IsVector c.args.f.now.prime) (sym c.terms-terms.ensures.value) c.terms-terms.ensures.known).canonical;
        graded = subst (EachMono (IsGraded c.args.variables)) all c.loop-t.invariant.graded;
      };
      homogeneous = (c.degree_at-degree.result, subst (EachMono (λ m. degree_at c.args.shift m ≡ c.degree_at-degree.result)) all c.loop-t.invariant.same);
    })
