-- On the two axes x is not regular: x y is in the ideal, and y is not.
use Rattle.std.proofs.Common.{◌≡◌, ℕ, ◌+◌, suc, [], ◌∷◌, refl, arith}
use Rattle.std.proofs.lemmas.List.Elements.{All-nil, All-cons}
use Rattle.polys.specs.Ideal.{InIdeal}
use Rattle.polys.proofs.Weights.{weigh}
use Rattle.ideal_laws.proofs.Ideals.{in_head}
use Rattle.curve_model.specs.Examples.{term_of, axes, AxesAreNotRegular}
use Rattle.curve_model.proofs.Cusp.{poly_of_term}
use Rattle.curve_model.proofs.Origin.{is_zero}
use Rattle.curve_model.proofs.Tests.{on, Passes, test_member}

-- 1 at y and the other powers of y, and 0 elsewhere
on_axis : ℕ → ℕ → ℕ
on_axis i j = is_zero i

passes : Passes (on on_axis) (term_of 1 1 1 ∷ [])
unfolding weigh is_zero on_axis
passes i j = let e : i + 1 ≡ suc i = omega arith in rw e refl

y_outside : InIdeal 7 2 axes.ideal (term_of 1 0 1 ∷ []) → ⊥
unfolding weigh is_zero on_axis
y_outside i =
    let z : 1 ≡ 0 = test_member (on on_axis) axes.ideal (term_of 1 0 1 ∷ []) (All-cons (Passes (on on_axis)) (term_of 1 1 1 ∷ []) [] passes (All-nil (Passes (on on_axis)))) i in
    absurd (omega (arith, z))

pub axes_are_not_regular : AxesAreNotRegular
axes_are_not_regular regular =
    y_outside (regular (term_of 1 0 1 ∷ []) (poly_of_term 1 0 1 (omega arith) (omega arith))
    (in_head 7 2 (term_of 1 1 1 ∷ []) [] (omega arith) (poly_of_term 1 1 1 (omega arith) (omega arith))))
