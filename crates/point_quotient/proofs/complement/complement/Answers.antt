use Rattle.std.proofs.Common.{◌≡◌, ℕ, ◌≤◌, List, [], get_or, All, sym, ◌∙◌, subst, arith}
use Rattle.std.proofs.lemmas.List.Elements.{All-from_get_or}
use Rattle.row_space.specs.Echelon.{IsRow}
use Rattle.row_space.specs.Subspace.{Subspace}
use Rattle.point_quotient.specs.Complements.{AreRests}
use Rattle.over_module.specs.Raising.{IsSpannedBy}
use Rattle.point_quotient.proofs.RestSpaces.{rests_complement}
use Rattle.point_quotient.proofs.complement.complement.Goals as goal
use Rattle.point_quotient.proofs.complement.complement.Goals.{After-as_slice}

rests_fit : (part : Subspace) (p w : ℕ) (list made : List (List ℕ)) → part.prime ≡ p → part.width ≡ w → AreRests part list made → All (IsRow p w) made
rests_fit part p w list made prime width r = All-from_get_or (IsRow p w) made []
    (λ i l. subst (λ z. IsRow z w (get_or made i [])) prime (subst (λ z. IsRow part.prime z (get_or made i [])) width (r.each i (omega (arith, r.count))).fits))

rests_are : (c : After-as_slice) → AreRests c.args.part.now c.args.whole.now.basis c.in_ok-rows.rows
rests_are c = subst (λ list. AreRests c.args.part.now list c.in_ok-rows.rows) c.rows.ensures.basis c.in_ok-rows.ensures

pub spanned-requires : goal.spanned-requires
spanned-requires c =
    let w = (goal.at.spanned-requires c).After-as_slice in
    subst (All (IsRow c.prime-prime.result c.args.width)) (sym c.as_slice.ensures)
    (rests_fit c.args.part.now c.prime-prime.result c.args.width c.args.whole.now.basis c.in_ok-rows.rows (c.requires.prime ∙ sym c.prime-prime.ensures) (c.requires.width ∙ sym c.requires.entries) (rests_are w))

pub returns : goal.returns
returns c =
    let w = (goal.at.returns c).After-as_slice in
    let whole = c.args.whole.now in
    let s : IsSpannedBy whole.prime whole.width c.in_ok-rows.rows c.in_ok-made.made =
    subst (λ z. IsSpannedBy whole.prime z c.in_ok-rows.rows c.in_ok-made.made) c.requires.entries
    (subst (λ z. IsSpannedBy z c.args.width c.in_ok-rows.rows c.in_ok-made.made) c.prime-prime.ensures
    (subst (λ z. IsSpannedBy c.prime-prime.result c.args.width z c.in_ok-made.made) c.as_slice.ensures c.in_ok-made.ensures)) in
    let two : 2 ≤ whole.prime = subst (λ z. 2 ≤ z) (c.get-modulus.ensures.value ∙ c.prime-prime.ensures) c.get-modulus.ensures.range.0 in
    rests_complement c.args.part.now whole c.in_ok-made.made two c.requires.prime c.requires.width c.rows-part.ensures.reduced c.requires.inside c.in_ok-rows.rows (rests_are w) s
