use Rattle.std.proofs.Common.{◌≡◌, ◌∙◌, ◌<◌, ◌≤◌, ℕ, List, length, arith, ap, sym, subst}
use Rattle.lane_rows.specs.Rows.{AreResidues}
use Rattle.row_space.specs.Echelon.{IsRow}
use Rattle.finite_algebra.proofs.Classes.{unit_fits}
use Rattle.finite_algebra.proofs.Summing.{combination_fits}
use Rattle.finite_algebra.proofs.Units.{length-unit_row}
use Rattle.row_space.specs.Subspace.{product}
use Rattle.finite_algebra.specs.Elements.{unit_row}
use Rattle.row_matrices.specs.Rows.{IsLess}
use Rattle.row_matrices.proofs.backward.rest_of.Goals as goal

pub image-requires-2-clause-count : goal.image-requires-2-clause-count
image-requires-2-clause-count c =
    let positive : 0 < c.args.prime = omega (arith, c.get-p.ensures.range, c.get-p.ensures.value) in
    sym (ap length (c.as_slice.ensures ∙ c.in_ok-coordinates.ensures) ∙ ((combination_fits c.args.prime (length c.args.units.now) positive c.args.row.now c.args.inverse.now).0))

pub image-requires-2-clause-v : goal.image-requires-2-clause-v
image-requires-2-clause-v c =
    let positive : 0 < c.args.prime = omega (arith, c.get-p.ensures.range, c.get-p.ensures.value) in
    subst (λ (r : List ℕ). AreResidues c.args.prime r) (sym (c.as_slice.ensures ∙ c.in_ok-coordinates.ensures)) (combination_fits c.args.prime (length c.args.units.now) positive c.args.row.now c.args.inverse.now).1

pub less_multiple-requires-clause-row : goal.less_multiple-requires-clause-row
less_multiple-requires-clause-row c =
    let two : 2 ≤ c.args.prime = omega (arith, c.get-p.ensures.range, c.get-p.ensures.value) in
    subst (λ (r : List ℕ). AreResidues c.args.prime r) (sym (c.as_slice-2.ensures.value ∙ c.in_ok-unit.ensures)) (unit_fits c.args.prime c.args.n c.args.i two).1

pub less_multiple-requires-clause-other : goal.less_multiple-requires-clause-other
less_multiple-requires-clause-other c =
    let positive : 0 < c.args.prime = omega (arith, c.get-p.ensures.range, c.get-p.ensures.value) in
    let long : length c.as_slice-2.result.now ≡ c.args.n = ap length (c.as_slice-2.ensures.value ∙ c.in_ok-unit.ensures) ∙ length-unit_row c.args.n c.args.i in
    subst (λ (w : ℕ). IsRow c.args.prime w c.as_slice-3.result.now) (sym long) (subst (λ (r : List ℕ). IsRow c.args.prime c.args.n r) (sym (c.as_slice-3.ensures ∙ c.in_ok-part.ensures)) (combination_fits c.args.prime c.args.n positive c.as_slice.result.now c.args.units.now))

pub returns : goal.returns
returns c =
    let p = c.args.prime in
    let n = c.args.n in
    let made = c.in_ok-made.made in
    let unit_is = c.as_slice-2.ensures.value ∙ c.in_ok-unit.ensures in
    let part_is = c.as_slice-3.ensures ∙ c.in_ok-part.ensures ∙ ap (λ (r : List ℕ). product c.args.prime c.args.n r c.args.units.now) (c.as_slice.ensures ∙ c.in_ok-coordinates.ensures) in
    let long = ap length unit_is ∙ length-unit_row n c.args.i in
    let plain = subst (λ (w : ℕ). IsLess p w c.as_slice-2.result.now 1 c.as_slice-3.result.now made) long c.in_ok-made.ensures in
    let at_unit = subst (λ (r : List ℕ). IsLess p n r 1 c.as_slice-3.result.now made) unit_is plain in
    subst (λ (r : List ℕ). IsLess p n (unit_row n c.args.i) 1 r made) part_is at_unit
