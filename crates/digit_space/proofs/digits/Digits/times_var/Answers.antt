use Rattle.std.proofs.Common.{◌≡◌, ◌+◌, ◌*◌, ◌≤◌, length, ap, sym, subst, ◌∙◌, arith}
use Rattle.standard_monomials.specs.Standard.{polynomial_of}
use Rattle.monomials.specs.Mono.{variable}
use Rattle.digit_space.specs.Model.{IsDigitSpace, AreKept, kept_at}
use Rattle.digit_space.specs.Adding.{IsWithin, HasMultiples, rows_from}
use Rattle.digit_space.proofs.Spaced.{products_small}
use Rattle.digit_space.proofs.KeptRows.{kept_rows, kept_within, variable_poly}
use Rattle.digit_space.proofs.digits.Digits.times_var.Goals as goal

-- src/digits.rt:171:21
pub overflow_mul-first : goal.overflow_mul-first
overflow_mul-first c =
    let g = c.args.self.now in
    let s = subst IsDigitSpace c.self.view_is c.self.invariant.0 in
    let en : c.len.result ≡ length g.basis = c.len.ensures ∙ ap (λ z. length z.basis) c.self.view_is in
    let h : c.args.v * c.len.result + length g.basis ≤ 1536 = subst (λ n. c.args.v * n + length g.basis ≤ 1536) (sym en) (products_small g s c.args.v c.requires.v) in
    omega arith

-- src/digits.rt:173:9
pub add_products-requires-clause-small : goal.add_products-requires-clause-small
add_products-requires-clause-small c =
    let g = c.args.self.now in
    let s = subst IsDigitSpace c.self.view_is c.self.invariant.0 in
    let en : c.len.result ≡ length g.basis = c.len.ensures ∙ ap (λ z. length z.basis) c.self.view_is in
    subst (λ n. c.args.v * n + length g.basis ≤ 1536) (sym en) (products_small g s c.args.v c.requires.v)

-- src/digits.rt:173:9
pub add_products-requires-clause-within : goal.add_products-requires-clause-within
add_products-requires-clause-within c =
    let g = c.args.self.now in
    let s = subst IsDigitSpace c.self.view_is c.self.invariant.0 in
    let en : c.len.result ≡ length g.basis = c.len.ensures ∙ ap (λ z. length z.basis) c.self.view_is in
    let kept = subst (λ z. AreKept z c.self.inside.border.items c.self.inside.products) c.self.view_is c.self.invariant.1 in
    λ i l. subst (λ b. IsWithin g.curve.prime (length g.basis) b (kept_at c.self.inside.products (c.args.v * c.len.result + i))) (sym c.as_slice-border.ensures.value)
    (subst (λ n. IsWithin g.curve.prime (length g.basis) c.self.inside.border.items (kept_at c.self.inside.products (c.args.v * n + i))) (sym en)
    (kept_within g s c.self.inside.border.items c.self.inside.products kept c.args.v c.requires.v i l))

-- src/digits.rt:164:5
pub returns : goal.returns
returns c =
    let g = c.args.self.now in
    let s = subst IsDigitSpace c.self.view_is c.self.invariant.0 in
    let en : c.len.result ≡ length g.basis = c.len.ensures ∙ ap (λ z. length z.basis) c.self.view_is in
    let kept = subst (λ z. AreKept z c.self.inside.border.items c.self.inside.products) c.self.view_is c.self.invariant.1 in
    let q = polynomial_of (variable c.args.v) in
    let row = c.args.row.now in
    c.add_products.ensures q (variable_poly g s c.args.v c.requires.v)
    (subst (λ b. HasMultiples g q row (rows_from b c.self.inside.products (c.args.v * c.len.result))) (sym c.as_slice-border.ensures.value)
    (subst (λ n. HasMultiples g q row (rows_from c.self.inside.border.items c.self.inside.products (c.args.v * n))) (sym en)
    (kept_rows g s c.self.inside.border.items c.self.inside.products kept c.args.v c.requires.v row)))
