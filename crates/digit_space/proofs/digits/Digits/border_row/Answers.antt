use Rattle.std.proofs.Common.{◌+◌, ◌*◌, ◌<◌, length, ap, ◌∙◌, subst, sym, arith}
use Rattle.digit_space.specs.Model.{IsDigitSpace}
use Rattle.digit_space.proofs.Spaced.{place_small}
use Rattle.digit_space.proofs.digits.Digits.border_row.Goals as goal

-- src/digits.rt:143:21
pub overflow_mul-place : goal.overflow_mul-place
overflow_mul-place c =
    let l = c.len.ensures ∙ ap (λ z. length z.basis) c.self.view_is in
    let s = subst IsDigitSpace c.self.view_is c.self.invariant.0 in
    let h : c.args.v * c.len.result + c.args.i < 1536 = subst (λ n. c.args.v * n + c.args.i < 1536) (sym l) (place_small c.args.self.now s c.args.v c.args.i c.requires.v c.requires.i) in
    omega arith

pub overflow_add-place : goal.overflow_add-place
overflow_add-place c =
    let l = c.len.ensures ∙ ap (λ z. length z.basis) c.self.view_is in
    let s = subst IsDigitSpace c.self.view_is c.self.invariant.0 in
    let h : c.args.v * c.len.result + c.args.i < 1536 = subst (λ n. c.args.v * n + c.args.i < 1536) (sym l) (place_small c.args.self.now s c.args.v c.args.i c.requires.v c.requires.i) in
    omega arith

pub product_at-requires-clause-small : goal.product_at-requires-clause-small
product_at-requires-clause-small c =
    let l = c.len.ensures ∙ ap (λ z. length z.basis) c.self.view_is in
    let s = subst IsDigitSpace c.self.view_is c.self.invariant.0 in
    let h : c.args.v * c.len.result + c.args.i < 1536 = subst (λ n. c.args.v * n + c.args.i < 1536) (sym l) (place_small c.args.self.now s c.args.v c.args.i c.requires.v c.requires.i) in
    omega arith
