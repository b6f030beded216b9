use Rattle.std.proofs.Common.{◌≡◌, ◌<◌, map, length, All, sym, ap, subst, ◌∙◌, arith}
use Rattle.row_space.specs.Echelon.{IsRow}
use Rattle.row_space.specs.Subspace.{product}
use Rattle.over_module.specs.Raising.{IsSpannedBy}
use Rattle.endo_ring.proofs.Sums.{products_fit, taken_members}
use Rattle.endo_ring.proofs.spaces.taken_sums.Goals as goal
use Rattle.endo_ring.proofs.spaces.taken_sums.Goals.{After-as_slice}

made : (c : After-as_slice) → c.as_slice.result.now ≡ map (λ v. product c.prime-prime.result c.args.width v c.args.rows.now) c.in_ok-coefficients.coefficients.basis
made c = c.as_slice.ensures ∙ c.in_ok-sums.ensures ∙ ap (map (λ v. product c.prime-prime.result c.args.width v c.args.rows.now)) c.rows.ensures.basis

pub images_of-requires-clause-vs : goal.images_of-requires-clause-vs
images_of-requires-clause-vs c =
    let q = c.in_ok-coefficients.coefficients in
    subst (All (IsRow c.prime-prime.result (length c.args.rows.now))) (sym c.rows.ensures.basis)
    (subst (λ n. All (IsRow c.prime-prime.result n) q.basis) (c.in_ok-coefficients.ensures.shape.1 ∙ c.requires.count)
    (subst (λ p. All (IsRow p q.width) q.basis) (c.in_ok-coefficients.ensures.shape.0 ∙ sym c.prime-prime.ensures) c.rows.ensures.reduced.1.rows))

pub spanned-requires : goal.spanned-requires
spanned-requires c =
    let positive : 0 < c.prime-prime.result = omega (arith, c.get-modulus.ensures.range, c.get-modulus.ensures.value) in
    subst (All (IsRow c.prime-prime.result c.args.width)) (sym (made (goal.at.spanned-requires c).After-as_slice))
    (products_fit c.prime-prime.result c.args.width positive c.args.rows.now c.in_ok-coefficients.coefficients.basis)

pub returns-clause-members : goal.returns-clause-members
returns-clause-members c =
    let space = c.args.space.now in
    let q = c.in_ok-coefficients.coefficients in
    let found = c.in_ok-found.found in
    let positive : 0 < c.args.space.now.prime = omega (arith, c.get-modulus.ensures.range, c.get-modulus.ensures.value, c.prime-prime.ensures) in
    taken_members space q found c.args.images.now c.args.rows.now c.args.width positive c.requires.count
    c.in_ok-coefficients.ensures.shape.0 c.in_ok-coefficients.ensures.shape.1 c.rows.ensures.reduced c.in_ok-coefficients.ensures.members
    (subst (λ p. IsSpannedBy p c.args.width (map (λ v. product p c.args.width v c.args.rows.now) q.basis) found) c.prime-prime.ensures
    (subst (λ us. IsSpannedBy c.prime-prime.result c.args.width us found) (made (goal.at.returns-clause-members c).After-as_slice) c.in_ok-found.ensures))
