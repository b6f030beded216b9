use Rattle.std.proofs.Common.{◌<◌, ℕ, length, get_or, arith, refl, subst, sym, ap, ◌∙◌}
use Rattle.std.proofs.lemmas.Bool.{false≢true}
use Rattle.row_space.specs.Subspace.{IsIn, FitsIn}
use Rattle.row_space.proofs.Spaces.{rest_same, in_of_zero, zero_of_in}
use Rattle.row_space.proofs.Written.{written_whole}
use Rattle.row_space.proofs.space.Space.contains.Goals as goal

pub returns-in-None : goal.returns-in-None
returns-in-None c =
    let s = c.self.inside in
    let row_is = c.as_mut_slice.ensures.value ∙ c.in_ok-rest.ensures in
    let fit = subst (λ v. FitsIn v c.args.row.now) (sym c.self.view_is) c.requires in
    let wide = ap length row_is ∙ fit.0 in
    let positive : 0 < s.prime = omega (arith, c.reduce_by.ensures.range) in
    let left = rest_same s.prime (length c.as_mut_slice.result.now) s.width c.as_slice.result.now s.rows.items c.as_slice-2.result.now s.pivots.items c.as_mut_slice.result.now c.args.row.now c.reduce_by.new.row c.reduce_by.new.row
    wide c.as_slice.ensures.value c.as_slice-2.ensures.value row_is refl c.reduce_by.ensures.rest in
    let rest_is = c.as_slice-3.ensures.value ∙ written_whole c.in_ok-rest.rest.len c.reduce_by.new.row c.in_ok-rest.rest.items (omega (arith, c.as_mut_slice.ensures.len, c.reduce_by.auto.row)) in
    let none = λ (k : ℕ) (h : k < s.width). ap (λ r. get_or r k 0) (sym rest_is) ∙ c.in-None.ensures k 0 (omega (arith, ap length rest_is, wide, c.reduce_by.auto.row)) in (
      λ t. subst (λ v. IsIn v c.args.row.now) c.self.view_is
          (in_of_zero s.prime s.width s.rows.items s.pivots.items positive c.self.invariant c.args.row.now c.reduce_by.new.row (omega (arith, wide, c.reduce_by.auto.row), c.reduce_by.ensures.residues) left none),
      λ h. refl,
    )

pub returns : goal.returns
returns c =
    let s = c.self.inside in
    let row_is = c.as_mut_slice.ensures.value ∙ c.in_ok-rest.ensures in
    let fit = subst (λ v. FitsIn v c.args.row.now) (sym c.self.view_is) c.requires in
    let wide = ap length row_is ∙ fit.0 in
    let positive : 0 < s.prime = omega (arith, c.reduce_by.ensures.range) in
    let left = rest_same s.prime (length c.as_mut_slice.result.now) s.width c.as_slice.result.now s.rows.items c.as_slice-2.result.now s.pivots.items c.as_mut_slice.result.now c.args.row.now c.reduce_by.new.row c.reduce_by.new.row
    wide c.as_slice.ensures.value c.as_slice-2.ensures.value row_is refl c.reduce_by.ensures.rest in
    let rest_is = c.as_slice-3.ensures.value ∙ written_whole c.in_ok-rest.rest.len c.reduce_by.new.row c.in_ok-rest.rest.items (omega (arith, c.as_mut_slice.ensures.len, c.reduce_by.auto.row)) in
    let pivot_inside : c.in-Some.field-0 < s.width = omega (arith, c.in-Some.ensures.within, ap length rest_is, wide, c.reduce_by.auto.row) in (
      λ t. absurd (false≢true t),
      λ h. absurd (c.in-Some.ensures.nonzero (ap (λ r. get_or r c.in-Some.field-0 0) rest_is
          ∙ zero_of_in s.prime s.width s.rows.items s.pivots.items positive c.self.invariant c.args.row.now c.reduce_by.new.row (omega (arith, wide, c.reduce_by.auto.row), c.reduce_by.ensures.residues) left (subst (λ v. IsIn v c.args.row.now) (sym c.self.view_is) h) c.in-Some.field-0 pivot_inside)),
    )
