use Rattle.std.proofs.Common.{rules, sym, get_or}
use Rattle.std.proofs.lemmas.Fn.{always_returns_same}
use Rattle.monomials.specs.Mono.{cmp_dp, unit}
use Rattle.monomials.proofs.Order.{same_dp}
use Rattle.standard_monomials.proofs.Rising.{searchable}
use Rattle.digit_plan.proofs.Playing.{not_there}
use Rattle.digit_plan.proofs.planning.find.Goals as goal

pub returns-in-Ok-clause-some : goal.returns-in-Ok-clause-some
returns-in-Ok-clause-some c =
    let m = c.args.m.now in
    let h = c.in-Ok.ensures.position (λ y. cmp_dp y m) (always_returns_same _ _ _ (λ a r f' k. search rules)) in
    (c.in-Ok.ensures.bound, sym (same_dp (get_or c.args.list.now c.in-Ok.i unit) m (h unit)))

pub returns-in-Err-clause-none : goal.returns-in-Err-clause-none
returns-in-Err-clause-none c =
    let ms = c.args.list.now in
    let m = c.args.m.now in
    let order = c.in-Err.ensures.position (λ y. cmp_dp y m) (always_returns_same _ _ _ (λ a r f' k. search rules)) in
    not_there ms m c.in-Err.field-0 (order (searchable ms m c.requires))
