use Rattle.std.proofs.Common.{◌∙◌, List, ℕ, All, length, subst, sym, ap, arith}
use Rattle.std.proofs.lemmas.List.Elements.{All-nil, All-push}
use Rattle.prime_field.specs.Primes.{IsPrime}
use Rattle.comm_ring.specs.Ring.{pow}
use Rattle.row_space.specs.Subspace.{Subspace}
use Rattle.finite_algebra.specs.Elements.{IsElement, elements, ring_of, times}
use Rattle.frobenius_split.proofs.Relations.{first_power, next_power, powers_pushed}
use Rattle.frobenius_split.proofs.Spans.{insertion_shape}
use Rattle.frobenius_split.proofs.polynomials.powers_at.Goals as goal

pub loop-exponent-init : goal.loop-exponent-init
loop-exponent-init c =
    let A = c.args.a.now in
    let prime = subst IsPrime (c.get-p.ensures.value ∙ c.prime.ensures) c.get-p.ensures.prime in
    let power_is = c.of_vec-power.ensures ∙ c.in_ok-copy_of.ensures in
    record {
      prime = ap (λ (s : Subspace). s.prime) c.new-seen.ensures ∙ c.prime-2.ensures;
      width = ap (λ (s : Subspace). s.width) c.new-seen.ensures ∙ c.dimension.ensures;
      element = subst (IsElement A) (sym power_is) c.requires.e;
      rows = subst (All (IsElement A)) (sym c.new-rows.ensures) (All-nil (IsElement A));
      power = subst (λ n. (elements A).◌≋◌ c.of_vec-power.result (times A (pow (ring_of A) c.args.u.now n) c.args.e.now)) (sym (ap length c.new-rows.ensures))
          (first_power A prime c.one-one.ensures.laws c.args.u.now c.args.e.now c.of_vec-power.result power_is);
      powers = λ i l. absurd (omega (arith, ap length c.new-rows.ensures, l));
    }

pub returns-in-Dependent-clause-rows : goal.returns-in-Dependent-clause-rows
returns-in-Dependent-clause-rows c = subst (All (IsElement c.args.a.now)) (sym c.in_ok-push.ensures.ok) (All-push (IsElement c.args.a.now) c.loop-exponent.rows c.loop-exponent.power c.loop-exponent.invariant.rows c.loop-exponent.invariant.element)

pub returns-in-Dependent-clause-powers : goal.returns-in-Dependent-clause-powers
returns-in-Dependent-clause-powers c =
    let prime = subst IsPrime (c.get-p.ensures.value ∙ c.prime.ensures) c.get-p.ensures.prime in
    powers_pushed c.args.a.now prime c.one-one.ensures.laws c.args.u.now c.args.e.now c.loop-exponent.rows c.push.new.self c.loop-exponent.power c.in_ok-push.ensures.ok c.loop-exponent.invariant.power c.loop-exponent.invariant.powers

pub loop-exponent-preserved : goal.loop-exponent-preserved
loop-exponent-preserved c =
    let A = c.args.a.now in
    let prime = subst IsPrime (c.get-p.ensures.value ∙ c.prime.ensures) c.get-p.ensures.prime in
    let made = subst (λ (r : List ℕ). (elements A).◌≋◌ c.in_ok-next.next (times A c.args.u.now r)) c.as_slice-in-loop-exponent.ensures c.in_ok-next.ensures.product in
    let shape = insertion_shape c.in_ok-said.said c.loop-exponent.seen c.insert.new.self c.as_slice.result.now c.in_ok-said.ensures.ok in
    record {
      prime = shape.0 ∙ c.loop-exponent.invariant.prime;
      width = shape.1 ∙ c.loop-exponent.invariant.width;
      element = c.in_ok-next.ensures.element;
      rows = subst (All (IsElement A)) (sym c.in_ok-push.ensures.ok) (All-push (IsElement A) c.loop-exponent.rows c.loop-exponent.power c.loop-exponent.invariant.rows c.loop-exponent.invariant.element);
      power = next_power A prime c.one-one.ensures.laws c.args.u.now c.args.e.now c.loop-exponent.rows c.push.new.self c.loop-exponent.power c.in_ok-next.next c.in_ok-push.ensures.ok made c.loop-exponent.invariant.power;
      powers = powers_pushed A prime c.one-one.ensures.laws c.args.u.now c.args.e.now c.loop-exponent.rows c.push.new.self c.loop-exponent.power c.in_ok-push.ensures.ok c.loop-exponent.invariant.power c.loop-exponent.invariant.powers;
    }

pub returns-clause-rows : goal.returns-clause-rows
returns-clause-rows c = subst (All (IsElement c.args.a.now)) (sym c.in_ok-push-2.ensures.ok) (All-push (IsElement c.args.a.now) c.loop-exponent.rows c.loop-exponent.power c.loop-exponent.invariant.rows c.loop-exponent.invariant.element)

pub returns-clause-powers : goal.returns-clause-powers
returns-clause-powers c =
    let prime = subst IsPrime (c.get-p.ensures.value ∙ c.prime.ensures) c.get-p.ensures.prime in
    powers_pushed c.args.a.now prime c.one-one.ensures.laws c.args.u.now c.args.e.now c.loop-exponent.rows c.push-2.new.self c.loop-exponent.power c.in_ok-push-2.ensures.ok c.loop-exponent.invariant.power c.loop-exponent.invariant.powers
