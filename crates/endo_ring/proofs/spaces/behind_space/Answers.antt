use Rattle.std.proofs.Common.{◌≡◌, ◌<◌, map, ap, sym, subst, ◌∙◌, arith, All}
use Rattle.row_space.specs.Echelon.{IsRow}
use Rattle.over_module.specs.Raising.{behind_zeros, IsSpannedBy}
use Rattle.over_module.proofs.ZeroRows.{all_longer, raised_space, spanned_basis}
use Rattle.endo_ring.proofs.spaces.behind_space.Goals as goal
use Rattle.endo_ring.proofs.spaces.behind_space.Goals.{After-as_slice}

made : (c : After-as_slice) → c.as_slice.result.now ≡ map (behind_zeros c.args.zeros) c.args.space.now.basis
made c = c.as_slice.ensures ∙ c.in_ok-rows.ensures ∙ ap (map (behind_zeros c.args.zeros)) c.rows.ensures.basis

pub spanned-requires : goal.spanned-requires
spanned-requires c =
    let space = c.args.space.now in
    let positive : 0 < c.args.space.now.prime = omega (arith, c.get-modulus.ensures.range, c.get-modulus.ensures.value, c.prime-prime.ensures) in
    subst (λ p. All (IsRow p c.args.width) c.as_slice.result.now) (sym c.prime-prime.ensures) (subst (All (IsRow space.prime c.args.width)) (sym (made (goal.at.spanned-requires c).After-as_slice))
    (all_longer space.prime c.args.zeros space.width c.args.width space.basis positive c.requires c.rows.ensures.reduced.1.rows))

pub returns : goal.returns
returns c =
    let space = c.args.space.now in
    let found = c.in_ok-found.found in
    raised_space space.prime c.args.zeros space.width c.args.width space.basis space found c.requires (spanned_basis space c.rows.ensures.reduced)
    (subst (λ p. IsSpannedBy p c.args.width (map (behind_zeros c.args.zeros) space.basis) found) c.prime-prime.ensures
    (subst (λ us. IsSpannedBy c.prime-prime.result c.args.width us found) (made (goal.at.returns c).After-as_slice) c.in_ok-found.ensures))
