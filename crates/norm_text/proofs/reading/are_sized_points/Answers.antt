use Rattle.std.proofs.Common.{refl, subst}
use Rattle.std.specs.List.{All}
use Rattle.std.proofs.lemmas.List.{take_all}
use Rattle.std.proofs.lemmas.List.Elements.{All-more}
use Rattle.norm_text.specs.declared.answer.PointLine.{PointLine}
use Rattle.norm_text.specs.Ranges.{IsSizedPoint}
use Rattle.norm_text.specs.Shown.{point_of}
use Rattle.norm_text.proofs.reading.are_sized_points.Goals as goal

abbrev IsSized : PointLine → Type 0
IsSized line = IsSizedPoint (point_of line)

pub loop-line-preserved : goal.loop-line-preserved
loop-line-preserved c =
    All-more IsSized c.args.points.now c.loop-line.line-index c.line-item.result c.loop-line-test.true c.loop-line.invariant
    (subst IsSized c.line-item.is (c.is_sized_point.ensures.0 c.if-not-is_sized_point.false))

pub returns : goal.returns
returns c = (λ _. subst (All IsSized) (take_all c.loop-line.line-index c.args.points.now c.loop-line-test.false) c.loop-line.invariant, λ _. refl)
