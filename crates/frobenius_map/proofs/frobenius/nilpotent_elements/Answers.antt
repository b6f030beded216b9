use Rattle.std.proofs.Common.{◌≤◌, ◌<◌, ◌-◌, ◌∙◌, suc, length, ap, subst, arith}
use Rattle.prime_field.specs.Primes.{IsPrime}
use Rattle.comm_ring.specs.Modules.{DimensionOf}
use Rattle.row_space.specs.Subspace.{Subspace, IsIn, all_rows}
use Rattle.frobenius_map.proofs.Stages.{first_stage, within_next, no_gain, at_most, stable_radical}
use Rattle.frobenius_map.proofs.frobenius.nilpotent_elements.Goals as goal

pub one_back-requires-clause-stage : goal.one_back-requires-clause-stage
one_back-requires-clause-stage c =
    let S = c.args.a.now in
    let prime = subst IsPrime (c.get-p.ensures.value ∙ c.prime.ensures) c.get-p.ensures.prime in
    (0, first_stage S prime c.one-one.ensures.laws c.new-found.result (ap (λ (s : Subspace). s.prime) c.new-found.ensures ∙ c.prime-2.ensures) (ap (λ (s : Subspace). s.width) c.new-found.ensures ∙ c.dimension.ensures) (ap (λ (s : Subspace). s.basis) c.new-found.ensures))

pub loop-next-init : goal.loop-next-init
loop-next-init c =
    let S = c.args.a.now in
    let prime = subst IsPrime (c.get-p.ensures.value ∙ c.prime.ensures) c.get-p.ensures.prime in
    let first = first_stage S prime c.one-one.ensures.laws c.new-found.result (ap (λ (s : Subspace). s.prime) c.new-found.ensures ∙ c.prime-2.ensures) (ap (λ (s : Subspace). s.width) c.new-found.ensures ∙ c.dimension.ensures) (ap (λ (s : Subspace). s.basis) c.new-found.ensures) in
    (0, first, c.in_ok-next.ensures 0 first)

pub loop-next-preserved : goal.loop-next-preserved
loop-next-preserved c = let w = c.loop-next.invariant in (suc w.0, w.2, c.in_ok-more.ensures (suc w.0) w.2)

pub loop-next-smaller : goal.loop-next-smaller
loop-next-smaller c =
    let S = c.args.a.now in
    let prime = subst IsPrime (c.get-p.ensures.value ∙ c.prime.ensures) c.get-p.ensures.prime in
    let w = c.loop-next.invariant in
    let t = c.loop-next.next in
    let d = subst (DimensionOf (all_rows t) (IsIn t)) c.dimension-in-loop-next-2.ensures.rows c.dimension-in-loop-next-2.ensures.dimension in
    let few : length c.loop-next.next.basis ≤ S.dimension = at_most S prime c.one-one.ensures.laws t w.2.prime w.2.width d in
    let more : length c.loop-next.found.basis < length c.loop-next.next.basis = omega (arith, c.loop-next-test.true, c.dimension-in-loop-next.ensures.rows, c.dimension-in-loop-next-2.ensures.rows) in
    let goal_is : S.dimension - length c.loop-next.next.basis < S.dimension - length c.loop-next.found.basis = omega arith in
    goal_is

pub returns : goal.returns
returns c =
    let S = c.args.a.now in
    let prime = subst IsPrime (c.get-p.ensures.value ∙ c.prime.ensures) c.get-p.ensures.prime in
    let laws = c.one-one.ensures.laws in
    let w = c.loop-next.invariant in
    let s = c.loop-next.found in
    let t = c.loop-next.next in
    let d = subst (DimensionOf (all_rows s) (IsIn s)) c.dimension-in-loop-next.ensures.rows c.dimension-in-loop-next.ensures.dimension in
    let few : length c.loop-next.next.basis ≤ length c.loop-next.found.basis = omega (arith, c.loop-next-test.false, c.dimension-in-loop-next.ensures.rows, c.dimension-in-loop-next-2.ensures.rows) in
    stable_radical S prime laws w.0 s t w.1 w.2 (no_gain S prime laws s t w.1.prime w.1.width w.2.prime w.2.width (within_next S prime laws w.0 s t w.1 w.2) d few)
