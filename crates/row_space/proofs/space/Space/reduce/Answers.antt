use Rattle.std.proofs.Common.{◌≡◌, ◌<◌, List, ℕ, length, arith, refl, subst, sym}
use Rattle.row_space.specs.Subspace.{DifferIn, FitsIn, IsZeroAtPivots}
use Rattle.row_space.proofs.Spaces.{rest_same, same_class, only}
use Rattle.row_space.proofs.space.Space.reduce.Goals as goal

pub returns-clause-same_class : goal.returns-clause-same_class
returns-clause-same_class c =
    let s = c.self.inside in
    let fit = subst (λ v. FitsIn v c.args.row.now) (sym c.self.view_is) c.requires in
    let positive : 0 < s.prime = omega (arith, c.reduce_by.ensures.range) in
    let left = rest_same s.prime (length c.args.row.now) s.width c.as_slice.result.now s.rows.items c.as_slice-2.result.now s.pivots.items c.args.row.now c.args.row.now c.reduce_by.new.row c.reduce_by.new.row
    fit.0 c.as_slice.ensures.value c.as_slice-2.ensures.value refl refl c.reduce_by.ensures.rest in
    subst (λ v. DifferIn v c.args.row.now c.reduce_by.new.row) c.self.view_is
    (same_class s.prime s.width s.rows.items s.pivots.items positive c.self.invariant c.args.row.now c.reduce_by.new.row (omega (arith, c.reduce_by.auto.row, fit.0), c.reduce_by.ensures.residues) left)

pub returns-clause-only : goal.returns-clause-only
returns-clause-only c =
    let s = c.self.inside in
    let fit = subst (λ v. FitsIn v c.args.row.now) (sym c.self.view_is) c.requires in
    let positive : 0 < s.prime = omega (arith, c.reduce_by.ensures.range) in
    let left = rest_same s.prime (length c.args.row.now) s.width c.as_slice.result.now s.rows.items c.as_slice-2.result.now s.pivots.items c.args.row.now c.args.row.now c.reduce_by.new.row c.reduce_by.new.row
    fit.0 c.as_slice.ensures.value c.as_slice-2.ensures.value refl refl c.reduce_by.ensures.rest in
    subst (λ v. (other : List ℕ) → FitsIn v other → DifferIn v c.args.row.now other → IsZeroAtPivots v other → other ≡ c.reduce_by.new.row) c.self.view_is
    (only s.prime s.width s.rows.items s.pivots.items positive c.self.invariant c.args.row.now c.reduce_by.new.row (omega (arith, c.reduce_by.auto.row, fit.0), c.reduce_by.ensures.residues) left (omega (arith, c.reduce_by.ensures.range)))
