use Rattle.std.proofs.Common.{◌≡◌, ℕ, zero, suc, ◌+◌, ◌*◌, ◌≤◌, length, take, refl, sym, ap, ap₂, ◌∙◌, subst, arith}
use Rattle.polys.specs.Terms.{one, mul}
use Rattle.polys.specs.Curve.{CurveData, data_of}
use Rattle.curve_model.specs.Fraction.{denominator_power}
use Rattle.chain_laws.proofs.ChainLaws.{one_poly}
use Rattle.digit_laws.specs.Digits.{AreDigits}
use Rattle.over_module.specs.Raising.{behind_zeros}
use Rattle.over_module.proofs.DepthRows.{raise, raise_digits}
use Rattle.over_module.proofs.Facts.{finite, front_digits}
use Rattle.point_quotient.proofs.quotient.power_row.Goals as goal

raise_one : (A : CurveData) (k : ℕ) → raise A k one ≡ denominator_power A k
unfolding raise
raise_one A zero = refl
raise_one A (suc k) = ap (mul A.prime A.denominator) (raise_one A k)

pub returns : goal.returns
returns c =
    let g = c.args.digits.now in
    let A = data_of g.curve in
    let s = c.entries-zeros.ensures.known in
    let k = c.args.power in
    let N = length g.basis in
    let some : 1 ≤ g.depth = let q = c.requires in omega arith in
    let front = take (N * 1) c.in_ok-one.one in
    let d : AreDigits A g.basis 1 one front = front_digits g s 1 some one (one_poly A (finite g s)) c.in_ok-one.one c.in_ok-one.ensures in
    let e : AreDigits A g.basis (suc k) (raise A k one) (behind_zeros (N * k) front) =
    raise_digits A (finite g s) g.basis s.corners k 1 (suc k) (N * k) one front (one_poly A (finite g s)) (let q : suc k ≡ k + 1 = omega arith in q) refl d in
    subst (AreDigits A g.basis (suc k) (denominator_power A k)) (sym (c.in_ok-row.ensures ∙ ap₂ behind_zeros c.entries-zeros.ensures.value (ap₂ take c.entries-corners.ensures.value c.as_slice.ensures))) (subst (λ f. AreDigits A g.basis (suc k) f (behind_zeros (N * k) front)) (raise_one A k) e)
