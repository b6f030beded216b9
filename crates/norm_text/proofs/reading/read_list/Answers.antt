use Rattle.std.proofs.Common.{◌≡◌, drop, refl, ap, ◌∙◌}
use Rattle.polys.specs.Poly.{terms_of}
use Rattle.poly_text.specs.PolyText.{poly_text, list_text}
use Rattle.norm_text.specs.Cutting.{behind}
use Rattle.norm_text.specs.Ranges.{IsPrintable}
use Rattle.norm_text.specs.Reading.{IsReadable}
use Rattle.norm_text.proofs.Leaves.{advance, finish}
use Rattle.norm_text.proofs.NextItems.{list_next, list_end}
use Rattle.norm_text.proofs.Told.{failed, one_more}
use Rattle.norm_text.proofs.reading.read_list.Goals as goal

pub returns-in_err-read_polynomial-clause-exact : goal.returns-in_err-read_polynomial-clause-exact
returns-in_err-read_polynomial-clause-exact c ground fs h text =
    let l = c.loop-rest.invariant.exact ground fs h text in
    let n = list_next c.args.prime c.args.letters.now ground fs (terms_of c.loop-rest.polys) c.loop-rest.rest.now c.cut.result.0.now (drop 1 (behind 44 c.loop-rest.rest.now)) c.is_empty.result
    c.loop-rest-test.true c.is_empty.ensures l c.cut.ensures.before refl in
    failed c.from_residual.result c.in_err-read_polynomial.field-0.0 (λ polys. terms_of polys ≡ fs) c.from_residual.ensures (c.in_err-read_polynomial.ensures.exact n.first n.fits n.here)

pub loop-rest-preserved : goal.loop-rest-preserved
loop-rest-preserved c =
    let p = c.args.prime in
    let letters = c.args.letters.now in
    let poly = c.in_ok-read_polynomial.field-0 in
    record {
      known = one_more (IsReadable p letters) c.loop-rest.polys c.push.new.self poly c.in_ok-push.ensures.ok c.loop-rest.invariant.known c.in_ok-read_polynomial.ensures.known;
      exact = λ ground fs h text.
          let n = list_next p letters ground fs (terms_of c.loop-rest.polys) c.loop-rest.rest.now c.cut.result.0.now c.after-rest.result.now c.is_empty.result
          c.loop-rest-test.true c.is_empty.ensures (c.loop-rest.invariant.exact ground fs h text) c.cut.ensures.before (c.after-rest.ensures.value ∙ ap (drop 1) c.cut.ensures.behind) in
          advance (λ f. f.terms) (list_text p letters) (poly_text p letters) (IsPrintable p letters) fs c.loop-rest.polys c.push.new.self poly c.cut.result.0.now c.after-rest.result.now n
          (c.in_ok-read_polynomial.ensures.exact n.first n.fits n.here) c.in_ok-push.ensures.ok;
    }

pub returns-clause-exact : goal.returns-clause-exact
returns-clause-exact c ground fs h text =
    let l = c.loop-rest.invariant.exact ground fs h text in
    (finish (list_text c.args.prime c.args.letters.now) (IsPrintable c.args.prime c.args.letters.now) fs (terms_of c.loop-rest.polys) c.loop-rest.rest.now l
    (list_end c.args.prime c.args.letters.now ground fs (terms_of c.loop-rest.polys) c.loop-rest.rest.now c.is_empty.result c.loop-rest-test.false c.is_empty.ensures l)).0
