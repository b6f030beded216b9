use Rattle.std.proofs.Common.{◌≡◌, ◌≤◌, ◌∙◌, ℕ, List, length, map, arith, ap, ap₂, subst, sym}
use Rattle.row_space.specs.Echelon.{entries_at}
use Rattle.finite_algebra.specs.Elements.{FiniteAlgebra}
use Rattle.finite_algebra.specs.Projections.{AreFree, IsIdealOf, IsProjection}
use Rattle.finite_algebra.proofs.QuotientHolds.{algebra, is_projection}
use Rattle.finite_algebra.proofs.algebra.Algebra.projection.Goals as goal

pub returns : goal.returns
returns c =
    let s = c.self.inside in
    let K = c.in_ok-units.units in
    let P = c.in_ok-places.places in
    let A = algebra s.prime s.dimension s.one s.products.items in
    let two : 2 ≤ s.prime = omega (arith, c.get-p.ensures.range, c.get-p.ensures.value) in
    let ideal = subst (λ v. IsIdealOf v c.args.ideal.now) (sym c.self.view_is) c.requires in
    let free = subst (λ (r : List (List ℕ)). AreFree r (length r) P) c.as_slice.ensures c.in_ok-places.ensures in
    let matrix_is : c.in_ok-matrix.matrix ≡ map (entries_at P) K = c.in_ok-matrix.ensures ∙ ap₂ (λ ps us. map (entries_at ps) us) c.as_slice-2.ensures c.as_slice-3.ensures in
    λ m e. subst (λ v. IsProjection v c.args.ideal.now m c.in_ok-matrix.matrix) c.self.view_is (subst (IsProjection A c.args.ideal.now m) (sym matrix_is)
    (is_projection A two c.self.invariant c.args.ideal.now ideal c.in_ok-units.ensures.reduced K c.in_ok-units.ensures.long c.in_ok-units.ensures.classes P free m
    (e ∙ sym (ap (λ (v : FiniteAlgebra). v.dimension) c.self.view_is))))
