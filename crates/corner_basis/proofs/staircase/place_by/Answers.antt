use Rattle.std.proofs.Common.{rules, ap, ◌∙◌, sym, get_or}
use Rattle.std.proofs.lemmas.Fn.{always_returns_same}
use Rattle.monomials.specs.Mono.{cmp_dp, times, unit, variable}
use Rattle.monomials.proofs.Order.{same_dp}
use Rattle.corner_basis.proofs.staircase.place_by.Goals as goal

pub returns-in-Ok : goal.returns-in-Ok
returns-in-Ok c =
    let m = c.quotient-factor.result in
    let h = c.in-Ok.ensures.position (λ y. cmp_dp y m) (always_returns_same _ _ _ (λ a r f' k. search rules)) in
    (c.in-Ok.ensures.bound, ap (λ z. times z (variable c.args.v)) (same_dp (get_or c.args.standard.now c.in-Ok.i unit) m (h unit)) ∙ ap (times m) (sym c.var.ensures.value) ∙ c.quotient-factor.ensures.value)
