use Rattle.std.proofs.Common.{rules, slice_index_or}
use Rattle.std.proofs.lemmas.Fn.{always_returns_same}
use Rattle.monomials.specs.Mono.{cmp_dp, unit}
use Rattle.monomials.proofs.Order.{same_dp}
use Rattle.standard_monomials.proofs.Rising.{searchable}
use Rattle.digit_space.proofs.Found.{not_there}
use Rattle.digit_space.proofs.dividing.position.Goals as goal

-- src/dividing.rt:9:1
pub returns-in-Ok-clause-some : goal.returns-in-Ok-clause-some
returns-in-Ok-clause-some c =
    let m = c.args.m.now in
    let h = c.in-Ok.ensures.position (λ y. cmp_dp y m) (always_returns_same _ _ _ (λ a r f' k. search rules)) in
    (c.in-Ok.ensures.bound, same_dp (slice_index_or c.args.basis.now c.in-Ok.i unit) m (h unit))

-- src/dividing.rt:9:1
pub returns-in-Err-clause-none : goal.returns-in-Err-clause-none
returns-in-Err-clause-none c = λ e there.
    let m = c.args.m.now in
    let order = c.in-Err.ensures.position (λ y. cmp_dp y m) (always_returns_same _ _ _ (λ a r f' k. search rules)) in
    not_there c.args.basis.now c.in-Err.field-0 m (order (searchable c.args.basis.now m c.requires)) there
