use Rattle.std.proofs.Common.{◌≡◌, ◌+◌, ◌*◌, ◌≤◌, length, ap, sym, subst, ◌∙◌, arith}
use Rattle.digit_space.specs.Model.{IsDigitSpace}
use Rattle.digit_space.proofs.Spaced.{products_small}
use Rattle.digit_space.proofs.digits.Digits.border_count.Goals as goal

-- src/digits.rt:200:21
pub overflow_mul-first : goal.overflow_mul-first
overflow_mul-first c =
    let g = c.args.self.now in
    let s = subst IsDigitSpace c.self.view_is c.self.invariant.0 in
    let en : c.len.result ≡ length g.basis = c.len.ensures ∙ ap (λ z. length z.basis) c.self.view_is in
    let h : c.args.v * c.len.result + length g.basis ≤ 1536 = subst (λ n. c.args.v * n + length g.basis ≤ 1536) (sym en) (products_small g s c.args.v c.requires) in
    omega arith

-- src/digits.rt:203:68
pub overflow_add-first : goal.overflow_add-first
overflow_add-first c =
    let g = c.args.self.now in
    let s = subst IsDigitSpace c.self.view_is c.self.invariant.0 in
    let en : c.len.result ≡ length g.basis = c.len.ensures ∙ ap (λ z. length z.basis) c.self.view_is in
    let h : c.args.v * c.len.result + length g.basis ≤ 1536 = subst (λ n. c.args.v * n + length g.basis ≤ 1536) (sym en) (products_small g s c.args.v c.requires) in
    let w = c.loop-i-test.true in
    let q : c.len-i-end.result ≡ length g.basis = c.len-i-end.ensures ∙ ap (λ z. length z.basis) c.self.view_is in
    omega arith

-- src/digits.rt:203:41
pub product_at-requires-clause-small : goal.product_at-requires-clause-small
product_at-requires-clause-small c =
    let g = c.args.self.now in
    let s = subst IsDigitSpace c.self.view_is c.self.invariant.0 in
    let en : c.len.result ≡ length g.basis = c.len.ensures ∙ ap (λ z. length z.basis) c.self.view_is in
    let h : c.args.v * c.len.result + length g.basis ≤ 1536 = subst (λ n. c.args.v * n + length g.basis ≤ 1536) (sym en) (products_small g s c.args.v c.requires) in
    let w = c.loop-i-test.true in
    let q : c.len-i-end.result ≡ length g.basis = c.len-i-end.ensures ∙ ap (λ z. length z.basis) c.self.view_is in
    omega arith
