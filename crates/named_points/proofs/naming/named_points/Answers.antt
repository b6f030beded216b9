use Rattle.std.proofs.Common.{subst, sym}
use Rattle.std.proofs.lemmas.List.Sorted.{All-permutation}
use Rattle.polys.specs.Curve.{data_of}
use Rattle.curve_model.specs.Point.{IsPointOf}
use Rattle.named_points.specs.Naming.{AreNamed}
use Rattle.named_points.specs.Ordering.{HaveDistinctTexts, IsListedInOrder}
use Rattle.named_points.proofs.naming.named_points.Goals as goal

pub texts_tell_points-requires-clause-named : goal.texts_tell_points-requires-clause-named
texts_tell_points-requires-clause-named c = subst (AreNamed c.args.problem.now (data_of c.args.digits.now.curve)) (sym c.as_slice.ensures) c.in_ok-points.ensures

pub ordered-requires : goal.ordered-requires
ordered-requires c = record {
  distinct = subst (HaveDistinctTexts c.args.problem.now.letters) c.as_slice.ensures c.texts_tell_points.ensures.distinct;
}

pub returns : goal.returns
returns c =
    let A = data_of c.args.digits.now.curve in
    record {
      each = All-permutation (IsPointOf A) c.in_ok-points.points c.in_ok-sorted.sorted c.in_ok-sorted.ensures.same c.in_ok-points.ensures.each;
      named = subst (IsListedInOrder c.args.problem.now A) c.as_slice.ensures c.texts_tell_points.ensures.listed c.in_ok-sorted.sorted c.in_ok-sorted.ensures.same c.in_ok-sorted.ensures.rising;
    }
