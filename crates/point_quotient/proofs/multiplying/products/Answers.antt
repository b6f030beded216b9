use Rattle.std.proofs.Common.{◌≡◌, ◌+◌, ◌-◌, ◌*◌, ◌++◌, ◌≤◌, suc, map, length, replicate, All, sym, ap, ap₂, ◌∙◌, subst, arith}
use Rattle.polys.specs.Curve.{data_of}
use Rattle.curve_model.specs.Point.{basis_of}
use Rattle.digit_space.specs.Model.{IsDigitRow, value_of}
use Rattle.quotient_laws.specs.ProductRows.{IsProductSpace}
use Rattle.point_quotient.proofs.Numerators as Numerators
use Rattle.point_quotient.proofs.multiplying.products.Goals as goal
use Rattle.point_quotient.proofs.multiplying.products.Goals.{In_ok-rows}

listed : (c : In_ok-rows) → c.in_ok-rows.rows ≡ map (λ row. row ++ replicate (length c.args.digits.now.basis * c.args.digits.now.depth - length row) 0) c.in_ok-numerators.numerators.basis
listed c = c.in_ok-rows.ensures ∙ ap₂ (λ w rows. map (λ row. row ++ replicate (w - length row) 0) rows) (c.entries-width.ensures.value ∙ ap (λ k. length c.args.digits.now.basis * k) c.depth.ensures) c.rows.ensures.basis

pub product_space-requires-clause-rows : goal.product_space-requires-clause-rows
product_space-requires-clause-rows c =
    let g = c.args.digits.now in
    let o = c.args.over.now in
    let s = c.entries-width.ensures.known in
    let e = c.requires.curve in
    let h = Numerators.rows_here g s o e c.rows-known.ensures.known in
    let deep : suc o.power ≤ g.depth = let q = c.requires.depth in omega arith in
    subst (All (IsDigitRow g)) (sym c.as_slice.ensures)
    (Numerators.digit_rows g s o.dimension o.power o.rows h c.in_ok-numerators.numerators c.in_ok-numerators.ensures deep c.in_ok-rows.rows
    (listed (goal.at.product_space-requires-clause-rows c).In_ok-rows))

pub returns : goal.returns
returns c =
    let g = c.args.digits.now in
    let o = c.args.over.now in
    let s = c.entries-width.ensures.known in
    let e = c.requires.curve in
    let h = Numerators.rows_here g s o e c.rows-known.ensures.known in
    let deep : suc o.power ≤ g.depth = let q = c.requires.depth in omega arith in
    let point = c.args.point.now in
    let P = basis_of point in
    let A = data_of g.curve in
    let rows = c.in_ok-rows.rows in
    let vs = map (value_of g) rows in
    let space = c.in_ok-space.space in
    let listing = listed (goal.at.returns c).In_ok-rows in
    let holds = Numerators.point_holds A point (Numerators.point_here g s o e point c.requires.point) in
    let depth : c.power.result + 1 ≡ suc o.power = let q = c.power.ensures in omega arith in
    let spans : IsProductSpace A g.basis (suc o.power) P vs space =
    subst (λ t. IsProductSpace A g.basis t P vs space) depth
    (subst (λ fs. IsProductSpace A g.basis (c.power.result + 1) (map (λ f. f.terms) fs) vs space) c.as_slice-factors.ensures
    (subst (λ l. IsProductSpace A g.basis (c.power.result + 1) (map (λ f. f.terms) c.as_slice-factors.result.now) (map (value_of g) l) space) c.as_slice.ensures c.in_ok-space.ensures)) in
    Numerators.products_there g s o e P space
    (c.products_are_spaces.ensures.modules (Numerators.here g s o.dimension o.power o.rows) h (Numerators.ring_here g s o e c.requires.ring) g.basis s.corners P holds vs c.in_ok-numerators.numerators.basis
    (Numerators.member_rows g s o.dimension o.power o.rows h c.in_ok-numerators.numerators c.in_ok-numerators.ensures deep rows listing) space spans)
