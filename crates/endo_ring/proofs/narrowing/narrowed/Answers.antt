use Rattle.std.proofs.Common.{◌↔◌, ◌*◌, length, sym, subst}
use Rattle.polys.specs.Curve.{data_of}
use Rattle.row_space.specs.Subspace.{IsIn}
use Rattle.endo_ring.specs.Taken.{AreProducts, IsTakenSum}
use Rattle.over_module.proofs.Facts.{finite}
use Rattle.endo_ring.proofs.Generators.{narrowed_members, products_fit}
use Rattle.endo_ring.proofs.narrowing.narrowed.Goals as goal

pub taken_sums-requires-clause-images : goal.taken_sums-requires-clause-images
taken_sums-requires-clause-images c =
    let g = c.args.digits.now in
    let s = c.entries-width.ensures.known in
    let h = subst (AreProducts (data_of g.curve) g.basis c.args.blocks c.args.generator.now.terms c.rows-rows.result.now) (sym c.as_slice.ensures) c.in_ok-images.ensures in
    products_fit (data_of g.curve) (finite g s) g.basis s.corners c.args.blocks c.args.generator.now.terms c.rows-rows.result.now c.as_slice.result.now c.args.target.now c.requires.target h

pub returns-clause-members : goal.returns-clause-members
returns-clause-members c =
    let g = c.args.digits.now in
    let s = c.entries-width.ensures.known in
    let q = c.args.generator.now.terms in
    let h = subst (AreProducts (data_of g.curve) g.basis c.args.blocks c.args.generator.now.terms c.rows-rows.result.now) (sym c.as_slice.ensures) c.in_ok-images.ensures in
    let b = c.rows-rows.ensures.basis in
    narrowed_members (data_of g.curve) (finite g s) g.basis s.corners c.args.blocks q c.requires.generator.poly c.args.present.now c.args.target.now c.in_ok-found.found c.as_slice.result.now
    c.requires.present c.requires.target c.rows-rows.ensures.reduced.1.rows (subst (λ r. AreProducts (data_of g.curve) g.basis c.args.blocks c.args.generator.now.terms r c.as_slice.result.now) b h)
    (λ row. subst (λ r. IsIn c.in_ok-found.found row ↔ IsTakenSum c.args.target.now c.as_slice.result.now (length g.basis * c.args.blocks) r row) b
    (subst (λ w. IsIn c.in_ok-found.found row ↔ IsTakenSum c.args.target.now c.as_slice.result.now w c.rows-rows.result.now row) c.entries-width.ensures.value (c.in_ok-found.ensures.members row)))
