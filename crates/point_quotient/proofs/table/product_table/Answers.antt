use Rattle.std.proofs.Common.{◌≡◌, [], length, get_or, sym, ◌∙◌, subst}
use Rattle.std.proofs.lemmas.List.{get_or_default}
use Rattle.polys.specs.Terms.{mul}
use Rattle.digit_space.specs.Model.{value_of}
use Rattle.point_quotient.specs.Complements.{IsInWhole}
use Rattle.point_quotient.specs.Quotients.{IsDividedProduct, AreProductsWith}
use Rattle.point_quotient.proofs.Tables.{table_more}
use Rattle.point_quotient.proofs.table.product_table.Goals as goal
use Rattle.point_quotient.proofs.table.product_table.Goals.{After-as_slice-factor}

factor_is : (c : After-as_slice-factor) → c.as_slice-factor.result.now ≡ get_or c.args.rows.now c.loop-i.i []
factor_is c = c.as_slice-factor.ensures ∙ c.index-rows-i.is ∙ get_or_default c.args.rows.now c.loop-i.i c.index-rows-i.result [] c.loop-i-test.true

pub products_with-requires-clause-inside : goal.products_with-requires-clause-inside
products_with-requires-clause-inside c = λ j l made x.
    let g = c.args.digits.now in
    let is = factor_is (goal.at.products_with-requires-clause-inside c).After-as_slice-factor in
    subst (λ r. IsInWhole c.args.products.now r made) (sym c.loop-i.invariant.same)
    (c.requires.inside c.loop-i.i j c.loop-i-test.true l made
    (subst (λ r. IsDividedProduct g c.args.power (mul g.curve.prime (value_of g r) (value_of g (get_or c.args.rows.now j []))) made) is x))

pub loop-i-preserved : goal.loop-i-preserved
loop-i-preserved c =
    let g = c.args.digits.now in
    let products = c.args.products.now in
    let rows = c.args.rows.now in
    let is = factor_is (goal.at.loop-i-preserved c).After-as_slice-factor in
    let made = c.in_ok-made.made in
    let with : AreProductsWith g c.args.power products c.args.rest.now (value_of g (get_or rows c.loop-i.i [])) (length rows) rows made =
    subst (λ r. AreProductsWith g c.args.power products r (value_of g (get_or rows c.loop-i.i [])) (length rows) rows made) c.loop-i.invariant.same
    (subst (λ r. AreProductsWith g c.args.power products c.loop-i.rest (value_of g r) (length rows) rows made) is c.in_ok-made.ensures.rows) in
    record {
      same = c.products_with.ensures.kept ∙ c.loop-i.invariant.same;
      found = table_more g c.args.power products c.args.rest.now rows c.loop-i.table made c.append.new.self c.loop-i.i c.loop-i.invariant.found with c.in_ok-append.ensures.ok;
    }
