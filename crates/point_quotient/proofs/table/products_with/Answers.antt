use Rattle.std.proofs.Common.{◌≡◌, [], get_or, sym, ◌∙◌, subst}
use Rattle.std.proofs.lemmas.List.{get_or_default}
use Rattle.polys.specs.Terms.{mul}
use Rattle.digit_space.specs.Model.{value_of}
use Rattle.point_quotient.specs.Complements.{IsInWhole}
use Rattle.point_quotient.specs.Quotients.{IsDividedProduct, AreProductCoordinates}
use Rattle.point_quotient.proofs.Tables.{with_more}
use Rattle.point_quotient.proofs.table.products_with.Goals as goal
use Rattle.point_quotient.proofs.table.products_with.Goals.{After-as_slice-row}

row_is : (c : After-as_slice-row) → c.as_slice-row.result.now ≡ get_or c.args.rows.now c.loop-j.j []
row_is c = c.as_slice-row.ensures ∙ c.index-rows-j.is ∙ get_or_default c.args.rows.now c.loop-j.j c.index-rows-j.result [] c.loop-j-test.true

pub product_coordinates-requires-clause-inside : goal.product_coordinates-requires-clause-inside
product_coordinates-requires-clause-inside c = λ made x.
    let g = c.args.digits.now in
    let is = row_is (goal.at.product_coordinates-requires-clause-inside c).After-as_slice-row in
    subst (λ r. IsInWhole c.args.products.now r made) (sym c.loop-j.invariant.same)
    (c.requires.inside c.loop-j.j c.loop-j-test.true made
    (subst (λ r. IsDividedProduct g c.args.power (mul g.curve.prime (value_of g c.args.factor.now) (value_of g r)) made) is x))

pub loop-j-preserved : goal.loop-j-preserved
loop-j-preserved c =
    let g = c.args.digits.now in
    let products = c.args.products.now in
    let u = value_of g c.args.factor.now in
    let is = row_is (goal.at.loop-j-preserved c).After-as_slice-row in
    let found = c.in_ok-found.found in
    let row : AreProductCoordinates g c.args.power products c.args.rest.now u (value_of g (get_or c.args.rows.now c.loop-j.j [])) found =
    subst (λ r. AreProductCoordinates g c.args.power products r u (value_of g (get_or c.args.rows.now c.loop-j.j [])) found) c.loop-j.invariant.same
    (subst (λ r. AreProductCoordinates g c.args.power products c.loop-j.rest u (value_of g r) found) is c.in_ok-found.ensures.row) in
    record {
      same = c.product_coordinates.ensures.kept ∙ c.loop-j.invariant.same;
      found = with_more g c.args.power products c.args.rest.now c.args.rows.now u c.loop-j.made c.push.new.self c.loop-j.j found c.loop-j.invariant.found c.in_ok-push.ensures.ok row;
    }
