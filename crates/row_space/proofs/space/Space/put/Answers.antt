use Rattle.std.proofs.Common.{◌≡◌, ◌<◌, ◌∷◌, [], ℕ, length, get_or, arith, refl, subst, sym, ap, ◌∙◌}
use Rattle.row_space.specs.Subspace.{FitsIn, Joins}
use Rattle.row_space.specs.Sums.{Covers}
use Rattle.row_space.proofs.Spaces.{space, rest_same, joins_none, joins_some}
use Rattle.row_space.proofs.Written.{written_whole}
use Rattle.row_space.proofs.space.Space.put.Goals as goal

pub returns-in-None : goal.returns-in-None
returns-in-None c =
    let s = c.self.inside in
    let fit = subst (λ v. FitsIn v c.args.row.items) (sym c.self.view_is) c.requires in
    let positive : 0 < s.prime = omega (arith, c.reduce_by.ensures.range) in
    let row_is = c.as_mut_slice.ensures.value in
    let wide = ap length row_is ∙ fit.0 in
    let left = rest_same s.prime (length c.as_mut_slice.result.now) s.width c.as_slice.result.now s.rows.items c.as_slice-2.result.now s.pivots.items c.as_mut_slice.result.now c.args.row.items c.reduce_by.new.row c.reduce_by.new.row
    wide c.as_slice.ensures.value c.as_slice-2.ensures.value row_is refl c.reduce_by.ensures.rest in
    let rest_is = c.as_slice-3.ensures.value ∙ written_whole c.args.row.len c.reduce_by.new.row c.args.row.items (omega (arith, c.as_mut_slice.ensures.len, c.reduce_by.auto.row)) in
    let none = λ (k : ℕ) (h : k < s.width). ap (λ r. get_or r k 0) (sym rest_is) ∙ c.in-None.ensures k 0 (omega (arith, ap length rest_is, wide, c.reduce_by.auto.row)) in
    subst (λ v. Joins v (c.args.row.items ∷ []) v) c.self.view_is
    (joins_none s.prime s.width s.rows.items s.pivots.items positive c.self.invariant c.args.row.items c.reduce_by.new.row (omega (arith, wide, c.reduce_by.auto.row), c.reduce_by.ensures.residues) left none)

pub returns-in_ok-add_row-in-Some : goal.returns-in_ok-add_row-in-Some
returns-in_ok-add_row-in-Some c =
    let s = c.self.inside in
    let fit = subst (λ v. FitsIn v c.args.row.items) (sym c.self.view_is) c.requires in
    let positive : 0 < s.prime = omega (arith, c.reduce_by.ensures.range) in
    let row_is = c.as_mut_slice.ensures.value in
    let wide = ap length row_is ∙ fit.0 in
    let left = rest_same s.prime (length c.as_mut_slice.result.now) s.width c.as_slice.result.now s.rows.items c.as_slice-2.result.now s.pivots.items c.as_mut_slice.result.now c.args.row.items c.reduce_by.new.row c.reduce_by.new.row
    wide c.as_slice.ensures.value c.as_slice-2.ensures.value row_is refl c.reduce_by.ensures.rest in
    let written = written_whole c.args.row.len c.reduce_by.new.row c.args.row.items (omega (arith, c.as_mut_slice.ensures.len, c.reduce_by.auto.row)) in
    let rest_wide : length c.reduce_by.new.row ≡ s.width = omega (arith, wide, c.reduce_by.auto.row) in
    let us = s.rows.items in
    let vs = c.add_row.new.rows.items in
    let covers = subst (λ w. Covers s.prime w vs (c.reduce_by.new.row ∷ us)) rest_wide (subst (λ r. Covers s.prime (length r) vs (r ∷ us)) written c.in_ok-add_row-in-Some.ensures.covers) in
    let covered = subst (λ w. Covers s.prime w (c.reduce_by.new.row ∷ us) vs) rest_wide (subst (λ r. Covers s.prime (length r) (r ∷ us) vs) written c.in_ok-add_row-in-Some.ensures.covered) in
    subst (λ v. Joins v (c.args.row.items ∷ []) (space s.prime s.width vs)) c.self.view_is
    (joins_some s.prime s.width us s.pivots.items positive c.self.invariant c.args.row.items c.reduce_by.new.row (rest_wide, c.reduce_by.ensures.residues) left vs covers covered)
