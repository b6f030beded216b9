use Rattle.std.proofs.Common.{◌≡◌, ℕ, List, length, sym, subst, ◌∙◌, arith}
use Rattle.row_space.proofs.Written.{written_whole}
use Rattle.polys.specs.declared.term.Term.{Term}
use Rattle.polys.specs.Terms.{mul}
use Rattle.digit_space.specs.Model.{IsDigitSpace, IsDigitsOf, value_of}
use Rattle.digit_space.proofs.Spaced.{few}
use Rattle.digit_space.proofs.RowProducts.{multiples_in_order}
use Rattle.digit_space.proofs.digits.Digits.product_by.Goals as goal

pub add_products-requires-clause-small : goal.add_products-requires-clause-small
add_products-requires-clause-small c =
    let g = c.args.self.now in
    let s = subst IsDigitSpace c.self.view_is c.self.invariant.0 in
    let f = few g s in
    omega arith

pub returns : goal.returns
returns c = λ q hq m.
    let g = c.args.self.now in
    let s = subst IsDigitSpace c.self.view_is c.self.invariant.0 in
    let a = c.args.a.now in
    let out = c.add_products.new.out in
    let d = c.add_products.ensures q hq (multiples_in_order g s q a c.args.multiples.now m) in
    let whole : c.of_vec.result ≡ out = c.of_vec.ensures ∙ written_whole c.in_ok-made.made.len out c.in_ok-made.made.items (omega (arith, c.as_mut_slice.ensures.len, c.add_products.auto.out)) in
    subst (IsDigitsOf g (mul g.curve.prime q (value_of g a))) (sym whole) d
