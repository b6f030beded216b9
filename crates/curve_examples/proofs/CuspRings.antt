-- On the cusp A itself can be enlarged at the origin, since x y over d is local there and not in A.
use Rattle.std.proofs.Common.{[], ◌∷◌, arith}
use Rattle.std.proofs.lemmas.List.Elements.{All-nil, All-cons}
use Rattle.polys.specs.Terms.{IsPoly, one}
use Rattle.polys.proofs.Affine.{poly_one}
use Rattle.curve_model.specs.Fraction.{over}
use Rattle.curve_model.specs.Examples.{term_of, cusp, origin, CuspIsNotFull}
use Rattle.curve_model.proofs.Cusp.{poly_of_term}
use Rattle.curve_model.proofs.CuspLocal.{product_is_local}
use Rattle.curve_model.proofs.CuspWeights.{product_is_not_whole}
use Rattle.curve_model.proofs.OriginPoint.{origin_is_point}
use Rattle.curve_laws.proofs.EnlargingLaws.{full_law}
use Rattle.chain_laws.proofs.ChainLaws.{whole, starts_law}
use Rattle.curve_examples.proofs.CuspDimension.{cusp_is_finite}

product_poly : IsPoly 7 2 (term_of 1 1 1 ∷ [])
product_poly = poly_of_term 1 1 1 (omega arith) (omega arith)

pub cusp_is_not_full : CuspIsNotFull
cusp_is_not_full full =
    let one_list = All-cons (IsPoly 7 2) one [] (poly_one 7 2 (omega arith)) (All-nil (IsPoly 7 2)) in
    let e = full_law cusp cusp_is_finite origin origin_is_point 0 (one ∷ []) one_list (starts_law cusp cusp_is_finite origin origin_is_point) full (over (term_of 1 1 1 ∷ []) 1) product_poly in
    product_is_not_whole ((whole cusp cusp_is_finite (over (term_of 1 1 1 ∷ []) 1) product_poly).1 (e.1 product_is_local))
