use Rattle.std.proofs.Common.{◌≡◌, ◌+◌, ◌%◌, ◌<◌, ◌≤◌, length, get_or, ap, sym, subst, ◌∙◌, arith}
use Rattle.std.proofs.Math.Nat.{le-mul_of_pos_right}
use Rattle.monomials.specs.Mono.{unit}
use Rattle.lane_rows.specs.Rows.{plus_multiple}
use Rattle.standard_monomials.specs.Standard.{polynomial_of}
use Rattle.digit_space.specs.Model.{IsDigitSpace, IsDigitsOf, corner, width}
use Rattle.digit_space.proofs.MonomialRows.{some_corner}
use Rattle.digit_space.proofs.TermRows.{corner_term, row_term}
use Rattle.digit_space.proofs.digits.Digits.add_term.Goals as goal

pub returns-in-Some : goal.returns-in-Some
returns-in-Some c = λ f hf ho.
    let g = c.args.self.now in
    let s = subst IsDigitSpace c.self.view_is c.self.invariant.0 in
    let eb = c.as_slice.ensures ∙ ap (λ z. z.basis) c.self.view_is in
    let ep : c.deref.result.now.prime ≡ g.curve.prime = ap (λ z. z.prime) (c.deref.ensures ∙ ap (λ z. z.curve) c.self.view_is) in
    let j = c.in-Some.j in
    let lj : j < length g.basis = subst (λ b. j < length b) eb c.in-Some.ensures.some.0 in
    let same : corner g j ≡ c.args.t.mono = ap (λ b. get_or b j unit) (sym eb) ∙ c.in-Some.ensures.some.1 in
    let wide : length g.basis ≤ width g = le-mul_of_pos_right (length g.basis) (some_corner g s c.requires.some).1 in
    let lo = c.requires.out.0 in
    corner_term g s c.args.t f c.args.out.now j c.add.result c.requires.term hf ho c.requires.some lj same
    (c.add.ensures.sum ∙ ap (λ p. (get_or c.args.out.now j 0 + c.args.t.coeff) % p) ep) (omega arith)

pub returns-in_ok-row-in-None : goal.returns-in_ok-row-in-None
returns-in_ok-row-in-None c = λ f hf ho.
    let g = c.args.self.now in
    let s = subst IsDigitSpace c.self.view_is c.self.invariant.0 in
    let ep : c.get.result ≡ g.curve.prime = c.get.ensures.value ∙ ap (λ z. z.prime) (c.deref.ensures ∙ ap (λ z. z.curve) c.self.view_is) in
    let row = c.as_slice-in-None.result.now in
    row_term g s c.args.t f c.args.out.now row c.axpy.new.into c.requires.term hf ho
    (subst (IsDigitsOf g (polynomial_of c.args.t.mono)) (sym c.as_slice-in-None.ensures) c.in_ok-row-in-None.ensures)
    (c.axpy.ensures.sum ∙ ap (λ p. plus_multiple p c.args.t.coeff c.args.out.now row) ep)
