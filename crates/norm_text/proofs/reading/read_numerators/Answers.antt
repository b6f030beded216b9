use Rattle.std.proofs.Common.{◌≡◌, ◌++◌, sym, ◌∙◌}
use Rattle.std.specs.List.{flat_map}
use Rattle.polys.specs.Poly.{terms_of}
use Rattle.poly_text.specs.PolyText.{poly_text}
use Rattle.norm_text.specs.Answer.{numerator_line}
use Rattle.norm_text.specs.Ranges.{IsPrintable}
use Rattle.norm_text.specs.Reading.{IsReadable}
use Rattle.norm_text.proofs.Leaves.{advance, finish}
use Rattle.norm_text.proofs.NextItems.{numerator_next, numerator_end}
use Rattle.norm_text.proofs.Told.{failed, one_more}
use Rattle.norm_text.proofs.reading.read_numerators.Goals as goal

pub returns-in_err-read_polynomial-clause-exact : goal.returns-in_err-read_polynomial-clause-exact
returns-in_err-read_polynomial-clause-exact c ground fs rest h other text =
    let n = numerator_next c.args.prime c.args.letters.now ground fs (terms_of c.loop-rest.polys) c.loop-rest.rest.now c.field.result.0.now c.field.result.1.now rest
    (sym c.begins.ensures ∙ c.loop-rest-test.true) other (c.loop-rest.invariant.exact ground fs rest h other text) c.field.ensures.field c.field.ensures.behind in
    failed c.from_residual.result c.in_err-read_polynomial.field-0.0 (λ polys. terms_of polys ≡ fs) c.from_residual.ensures (c.in_err-read_polynomial.ensures.exact n.first n.fits n.here)

pub loop-rest-preserved : goal.loop-rest-preserved
loop-rest-preserved c =
    let p = c.args.prime in
    let letters = c.args.letters.now in
    let poly = c.in_ok-read_polynomial.field-0 in
    record {
      known = one_more (IsReadable p letters) c.loop-rest.polys c.push.new.self poly c.in_ok-push.ensures.ok c.loop-rest.invariant.known c.in_ok-read_polynomial.ensures.known;
      exact = λ ground fs rest h other text.
          let n = numerator_next p letters ground fs (terms_of c.loop-rest.polys) c.loop-rest.rest.now c.field.result.0.now c.field.result.1.now rest
          (sym c.begins.ensures ∙ c.loop-rest-test.true) other (c.loop-rest.invariant.exact ground fs rest h other text) c.field.ensures.field c.field.ensures.behind in
          advance (λ f. f.terms) (λ left. flat_map (numerator_line p letters) left ++ rest) (poly_text p letters) (IsPrintable p letters) fs c.loop-rest.polys c.push.new.self poly
          c.field.result.0.now c.field.result.1.now n (c.in_ok-read_polynomial.ensures.exact n.first n.fits n.here) c.in_ok-push.ensures.ok;
    }

pub returns-clause-exact : goal.returns-clause-exact
returns-clause-exact c ground fs rest h other text =
    let p = c.args.prime in
    let letters = c.args.letters.now in
    let l = c.loop-rest.invariant.exact ground fs rest h other text in
    (finish (λ left. flat_map (numerator_line p letters) left ++ rest) (IsPrintable p letters) fs (terms_of c.loop-rest.polys) c.loop-rest.rest.now l
    (numerator_end p letters ground fs (terms_of c.loop-rest.polys) c.loop-rest.rest.now rest (sym c.begins.ensures ∙ c.loop-rest-test.false) l)).0
