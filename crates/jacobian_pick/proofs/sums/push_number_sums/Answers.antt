use Rattle.std.proofs.Common.{◌≡◌, ◌+◌, ◌∙◌, arith}
use Rattle.polys.specs.Terms.{add, multiple}
use Rattle.jacobian_pick.proofs.Lows.{number_sum}
use Rattle.jacobian_pick.proofs.Members.{more_sums}
use Rattle.jacobian_pick.proofs.sums.push_number_sums.Goals as goal

pub loop-c-preserved : goal.loop-c-preserved
loop-c-preserved c =
    let next : c.loop-c.c + 1 ≡ 1 + c.loop-c.c = omega arith in
    more_sums c.args.prime 1 c.loop-c.c (λ k. add c.args.prime c.args.f.now.terms (multiple c.args.prime k c.args.g.now.terms)) c.args.into.now c.loop-c.into c.push.new.self c.in_ok-add.field-0
    c.loop-c.invariant c.in_ok-push.ensures.ok
    (number_sum c.args.prime c.args.variables (c.loop-c.c + 1) c.one.result c.args.f.now c.args.g.now c.in_ok-mul_term.field-0 c.in_ok-add.field-0 c.requires.f.over c.requires.g.over
    c.one.ensures.value c.in_ok-mul_term.ensures c.in_ok-add.ensures
    ∙ (λ i. record { prime = c.args.prime; terms = add c.args.prime c.args.f.now.terms (multiple c.args.prime (next i) c.args.g.now.terms) }))
