use Rattle.std.proofs.Common.{◌*◌, suc, map, take, length}
use Rattle.polys.specs.Curve.{data_of}
use Rattle.curve_model.specs.Point.{basis_of}
use Rattle.digit_space.specs.Model.{value_of}
use Rattle.point_quotient.proofs.Numerators.{here, rows_here, ring_here, point_here, point_holds}
use Rattle.point_quotient.proofs.QuotientParts.{products_here, quotient_there, quotient_rows_here}
use Rattle.point_quotient.proofs.quotient.quotient_algebra.Goals as goal

pub quotient_by-requires-clause-products : goal.quotient_by-requires-clause-products
quotient_by-requires-clause-products c = (basis_of c.args.point.now, point_holds (data_of c.args.over.now.curve) c.args.point.now c.requires.point, c.in_ok-products.ensures)

pub returns : goal.returns
returns c =
    let g = c.args.digits.now in
    let o = c.args.over.now in
    let s = c.basis-basis.ensures.known in
    let e = c.requires.curve in
    let P = basis_of c.args.point.now in
    let W = c.in_ok-products.products in
    let made = c.in_ok-made.made in
    let us = map (value_of g) made.1 in
    let list = map (take (length g.basis * suc o.power)) made.1 in
    quotient_there g s o e P made.0 us
    (c.rows_give_quotients.ensures.algebra (here g s o.dimension o.power o.rows) (rows_here g s o e c.rows-known.ensures.known) (ring_here g s o e c.requires.ring) g.basis s.corners P
    (point_holds (data_of g.curve) c.args.point.now (point_here g s o e c.args.point.now c.requires.point)) W (products_here g s o e P W c.in_ok-products.ensures) made.0 us list
    (quotient_rows_here g s o e W made.0 us list c.in_ok-made.ensures.rows)).1
