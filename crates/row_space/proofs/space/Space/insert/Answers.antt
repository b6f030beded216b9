use Rattle.std.proofs.Common.{◌≡◌, ◌<◌, ◌∷◌, ℕ, length, get_or, arith, refl, subst, sym, ap, ◌∙◌}
use Rattle.row_space.specs.Echelon.{entries_at}
use Rattle.row_space.specs.Subspace.{IsIn, FitsIn, IsSumOfBasis, Gains}
use Rattle.row_space.specs.Sums.{Covers}
use Rattle.row_space.proofs.Spaces.{space, rest_same, sum_of_basis, zero_of_in, gains}
use Rattle.row_space.proofs.Written.{written_whole}
use Rattle.row_space.proofs.space.Space.insert.Goals as goal

pub returns-in_ok-residues-in-None-clause-ok : goal.returns-in_ok-residues-in-None-clause-ok
returns-in_ok-residues-in-None-clause-ok c =
    let s = c.self.inside in
    let row_is = c.as_mut_slice.ensures.value ∙ c.in_ok-rest.ensures in
    let fit = subst (λ v. FitsIn v c.args.row.now) (sym c.self.view_is) c.requires in
    let positive : 0 < s.prime = omega (arith, c.reduce_by.ensures.range) in
    let wide = ap length row_is ∙ fit.0 in
    let left = rest_same s.prime (length c.as_mut_slice.result.now) s.width c.as_slice.result.now s.rows.items c.as_slice-2.result.now s.pivots.items c.as_mut_slice.result.now c.args.row.now c.reduce_by.new.row c.reduce_by.new.row
    wide c.as_slice.ensures.value c.as_slice-2.ensures.value row_is refl c.reduce_by.ensures.rest in
    let rest_is = c.as_slice-3.ensures.value ∙ written_whole c.in_ok-rest.rest.len c.reduce_by.new.row c.in_ok-rest.rest.items (omega (arith, c.as_mut_slice.ensures.len, c.reduce_by.auto.row)) in
    let none = λ (k : ℕ) (h : k < s.width). ap (λ r. get_or r k 0) (sym rest_is) ∙ c.in-None.ensures k 0 (omega (arith, ap length rest_is, wide, c.reduce_by.auto.row)) in
    let residues_are = c.in_ok-residues-in-None.ensures ∙ ap (λ q. entries_at q c.args.row.now) c.as_slice-in-None.ensures.value in (
      subst (λ v. IsSumOfBasis v c.in_ok-residues-in-None.residues c.args.row.now) c.self.view_is
          (subst (λ r. IsSumOfBasis (space s.prime s.width s.rows.items) r c.args.row.now) (sym residues_are)
          (sum_of_basis s.prime s.width s.rows.items s.pivots.items positive c.self.invariant c.args.row.now c.reduce_by.new.row (omega (arith, wide, c.reduce_by.auto.row), c.reduce_by.ensures.residues) left fit none)),
      refl,
    )

pub returns-in_ok-add_row-in-Some-clause-ok : goal.returns-in_ok-add_row-in-Some-clause-ok
returns-in_ok-add_row-in-Some-clause-ok c =
    let s = c.self.inside in
    let row_is = c.as_mut_slice.ensures.value ∙ c.in_ok-rest.ensures in
    let fit = subst (λ v. FitsIn v c.args.row.now) (sym c.self.view_is) c.requires in
    let positive : 0 < s.prime = omega (arith, c.reduce_by.ensures.range) in
    let wide = ap length row_is ∙ fit.0 in
    let left = rest_same s.prime (length c.as_mut_slice.result.now) s.width c.as_slice.result.now s.rows.items c.as_slice-2.result.now s.pivots.items c.as_mut_slice.result.now c.args.row.now c.reduce_by.new.row c.reduce_by.new.row
    wide c.as_slice.ensures.value c.as_slice-2.ensures.value row_is refl c.reduce_by.ensures.rest in
    let written = written_whole c.in_ok-rest.rest.len c.reduce_by.new.row c.in_ok-rest.rest.items (omega (arith, c.as_mut_slice.ensures.len, c.reduce_by.auto.row)) in
    let rest_is = c.as_slice-3.ensures.value ∙ written in
    let rest_wide : length c.reduce_by.new.row ≡ s.width = omega (arith, wide, c.reduce_by.auto.row) in
    let pivot_inside : c.in-Some.pivot < s.width = omega (arith, c.in-Some.ensures.within, ap length rest_is) in
    let us = s.rows.items in
    let vs = c.add_row.new.rows.items in
    let covers = subst (λ w. Covers s.prime w vs (c.reduce_by.new.row ∷ us)) rest_wide (subst (λ r. Covers s.prime (length r) vs (r ∷ us)) written c.in_ok-add_row-in-Some.ensures.covers) in
    let covered = subst (λ w. Covers s.prime w (c.reduce_by.new.row ∷ us) vs) rest_wide (subst (λ r. Covers s.prime (length r) (r ∷ us) vs) written c.in_ok-add_row-in-Some.ensures.covered) in (
      λ h. c.in-Some.ensures.nonzero (ap (λ r. get_or r c.in-Some.pivot 0) rest_is
          ∙ zero_of_in s.prime s.width us s.pivots.items positive c.self.invariant c.args.row.now c.reduce_by.new.row (rest_wide, c.reduce_by.ensures.residues) left (subst (λ v. IsIn v c.args.row.now) (sym c.self.view_is) h) c.in-Some.pivot pivot_inside),
      subst (λ v. Gains v c.args.row.now (space s.prime s.width vs)) c.self.view_is
          (gains s.prime s.width us s.pivots.items positive c.self.invariant c.args.row.now c.reduce_by.new.row (rest_wide, c.reduce_by.ensures.residues) left vs c.in_ok-add_row-in-Some.ensures.more covers covered),
    )
