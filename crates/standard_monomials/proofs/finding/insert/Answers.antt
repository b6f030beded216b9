use Rattle.std.proofs.Common.{rules, sym, subst}
use Rattle.std.proofs.lemmas.Fn.{always_returns_same}
use Rattle.std.specs.List.{insert}
use Rattle.monomials.specs.Mono.{cmp_dp}
use Rattle.standard_monomials.specs.Standard.{IsRising}
use Rattle.standard_monomials.specs.Finding.{GainsMonomial}
use Rattle.standard_monomials.proofs.Rising.{searchable, gains_insert, gains_none}
use Rattle.standard_monomials.proofs.finding.insert.Goals as goal

pub returns-in_ok-insert-clause-gains : goal.returns-in_ok-insert-clause-gains
returns-in_ok-insert-clause-gains c =
    let found = c.as_slice.result.now in
    let m = c.args.m in
    let i = c.in-Err.place in
    let rising = subst IsRising (sym c.as_slice.ensures.value) c.requires in
    let order = c.in-Err.ensures.position (λ y. cmp_dp y m) (always_returns_same _ _ _ (λ a r f' k. search rules)) in
    let g = gains_insert found i m c.in-Err.ensures.bound (order (searchable found m rising)) rising in
    subst (GainsMonomial m c.args.found.now.items) (sym c.in_ok-insert.ensures.items) (subst (λ ms. GainsMonomial m ms (insert ms i m)) c.as_slice.ensures.value g)

pub returns-in_default-clause-gains : goal.returns-in_default-clause-gains
returns-in_default-clause-gains c =
    let found = c.as_slice.result.now in
    let m = c.args.m in
    let h = c.in_default.ensures.position (λ y. cmp_dp y m) (always_returns_same _ _ _ (λ a r f' k. search rules)) in
    subst (λ ms. GainsMonomial m ms ms) c.as_slice.ensures.value
    (gains_none found c.in_default.field-0 m c.in_default.ensures.bound h (subst IsRising (sym c.as_slice.ensures.value) c.requires))
