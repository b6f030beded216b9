use Rattle.std.proofs.Common.{◌++◌, map, sym, ◌∙◌}
use Rattle.std.specs.List.{flat_map}
use Rattle.std.specs.Prelude.{All}
use Rattle.std.proofs.lemmas.List.{length-map}
use Rattle.norm_text.specs.declared.answer.PointLine.{PointLine}
use Rattle.norm_text.specs.Answer.{point_line}
use Rattle.norm_text.specs.Reading.{IsReadable}
use Rattle.norm_text.specs.ReadingSteps.{IsPointInRange, point_body}
use Rattle.norm_text.specs.Shown.{point_of}
use Rattle.norm_text.proofs.Leaves.{advance, finish}
use Rattle.norm_text.proofs.NextItems.{point_next, point_end}
use Rattle.norm_text.proofs.Told.{failed, one_more}
use Rattle.norm_text.proofs.reading.read_points.Goals as goal

pub returns-in_err-read_point-clause-exact : goal.returns-in_err-read_point-clause-exact
returns-in_err-read_point-clause-exact c ground Ps rest h few other text =
    let n = point_next c.args.prime c.args.letters.now ground Ps (map point_of c.loop-alloc.points) c.loop-alloc.rest.now c.field.result.0.now c.field.result.1.now rest
    (c.has_point.ensures.0 c.loop-alloc-test.true).1 other (c.loop-alloc.invariant.exact ground Ps rest h few other text) c.field.ensures.field c.field.ensures.behind in
    failed c.from_residual.result c.in_err-read_point.field-0.0 _ c.from_residual.ensures (c.in_err-read_point.ensures.exact ground n.first n.fits n.here)

pub loop-alloc-preserved : goal.loop-alloc-preserved
loop-alloc-preserved c =
    let p = c.args.prime in
    let letters = c.args.letters.now in
    let line = c.in_ok-read_point.field-0 in
    record {
      known = one_more (λ (u : PointLine). All (IsReadable p letters) u.point.basis) c.loop-alloc.points c.push.new.self line c.in_ok-push.ensures.ok c.loop-alloc.invariant.known
          c.in_ok-read_point.ensures.known;
      exact = λ ground Ps rest h few other text.
          let n = point_next p letters ground Ps (map point_of c.loop-alloc.points) c.loop-alloc.rest.now c.field.result.0.now c.field.result.1.now rest
          (c.has_point.ensures.0 c.loop-alloc-test.true).1 other (c.loop-alloc.invariant.exact ground Ps rest h few other text) c.field.ensures.field c.field.ensures.behind in
          advance point_of (λ left. flat_map (point_line p letters) left ++ rest) (point_body p letters) (IsPointInRange p letters) Ps c.loop-alloc.points c.push.new.self line
          c.field.result.0.now c.field.result.1.now n (c.in_ok-read_point.ensures.exact ground n.first n.fits n.here) c.in_ok-push.ensures.ok;
    }

pub returns-clause-exact : goal.returns-clause-exact
returns-clause-exact c ground Ps rest h few other text =
    let p = c.args.prime in
    let letters = c.args.letters.now in
    let l = c.loop-alloc.invariant.exact ground Ps rest h few other text in
    finish (λ left. flat_map (point_line p letters) left ++ rest) (IsPointInRange p letters) Ps (map point_of c.loop-alloc.points) c.loop-alloc.rest.now l
    (point_end p letters ground Ps (map point_of c.loop-alloc.points) c.loop-alloc.rest.now rest c.len.result c.has_point.result c.loop-alloc-test.false c.has_point.ensures.1
    (c.len.ensures ∙ sym (length-map c.loop-alloc.points point_of)) few l)
