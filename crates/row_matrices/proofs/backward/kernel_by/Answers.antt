use Rattle.std.proofs.Common.{◌<◌, ◌≤◌, ℕ, List, length, All, arith, ap, sym, subst}
use Rattle.row_space.specs.Echelon.{IsRow}
use Rattle.row_space.specs.Subspace.{Subspace}
use Rattle.row_matrices.specs.Inverses.{AreUnitsAt}
use Rattle.row_matrices.proofs.KernelLaws.{kernel_members, units_fit}
use Rattle.row_matrices.proofs.backward.kernel_by.Goals as goal

pub rests-requires-clause-units : goal.rests-requires-clause-units
rests-requires-clause-units c =
    let two : 2 ≤ c.args.prime = omega (arith, c.get-p.ensures.range, c.get-p.ensures.value) in
    let us = c.args.rows.now in
    subst (λ (rs : List (List ℕ)). All (IsRow c.args.prime (length us)) rs) (sym c.as_slice.ensures) (units_fit c.args.prime (length us) c.args.places.now c.in_ok-units.units two c.in_ok-units.ensures)

pub returns-clause-members : goal.returns-clause-members
returns-clause-members c =
    let positive : 0 < c.args.prime = omega (arith, c.get-p.ensures.range, c.get-p.ensures.value) in
    let us = c.args.rows.now in
    let units = subst (λ (rs : List (List ℕ)). AreUnitsAt (length c.args.rows.now) c.args.places.now rs) (sym c.as_slice.ensures) c.in_ok-units.ensures in
    kernel_members c.args.prime positive c.args.columns us c.args.places.now c.args.chosen.now c.args.inverse.now c.as_slice.result.now c.in_ok-made.made c.requires.places c.requires.chosen c.requires.inverse units c.in_ok-made.ensures
    c.new-space.result c.add_rows.new.self c.as_slice-2.result.now (ap (λ (s : Subspace). s.prime) c.new-space.ensures) (ap (λ (s : Subspace). s.width) c.new-space.ensures) (ap (λ (s : Subspace). s.basis) c.new-space.ensures)
    c.as_slice-2.ensures c.in_ok-add_rows.ensures
