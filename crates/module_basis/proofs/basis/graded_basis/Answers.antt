use Rattle.std.proofs.Common.{sym, subst, arith}
use Rattle.std.specs.List.{All}
use Rattle.prime_field.specs.Primes.{IsPrime}
use Rattle.graded_modules.specs.Deep.{HasHighVector}
use Rattle.polys.specs.Poly.{terms_of}
use Rattle.module_division.specs.Division.{IsDivisor}
use Rattle.module_division.specs.Reduction.{IsInterreduced}
use Rattle.module_basis.proofs.Whole.{answered, IsAnswer, last_divisors}
use Rattle.module_basis.proofs.basis.graded_basis.Goals as goal
use Rattle.module_basis.proofs.basis.graded_basis.Goals.{In_ok-vectors}

pub interreduced_vectors-requires : goal.interreduced_vectors-requires
interreduced_vectors-requires c =
    let small = c.requires.cap.1 in
    subst (All (IsDivisor c.args.gens.now.prime)) (sym c.deref.ensures.value)
    (last_divisors c.args.gens.now c.loop-e.e c.args.cap c.loop-e.growing small c.loop-e.invariant.ready c.loop-e.invariant.low)

-- what is left at the end is the answer
answer : (c : In_ok-vectors) → IsAnswer c.args.gens.now c.args.cap c.in_ok-vectors.vectors.items
answer c =
    let gens = c.args.gens.now in
    let small = c.requires.cap.1 in
    let qs = c.in_ok-vectors.vectors.items in
    let g = c.loop-e.growing in
    let t = c.loop-e-test.false in
    let end = c.loop-e.auto in
    let prime = subst IsPrime c.get-prime.ensures.value c.get-prime.ensures.prime in
    let high : HasHighVector gens.shift (terms_of gens.vectors) c.args.cap → ⊥ =
    λ h.
    let yes = c.has_high_vector.ensures.1 (subst (λ vs. HasHighVector gens.shift (terms_of vs) c.args.cap) (sym c.as_slice.ensures) h) in
    let nay = c.if-has_high_vector.false in
    absurd (cc) in
    answered gens c.requires.gens prime c.args.cap c.loop-e.e small g c.loop-e.invariant.ready (omega arith) c.loop-e.invariant.cap high c.loop-e.invariant.low qs
    (subst (λ xs. IsInterreduced gens.prime (terms_of xs) qs) c.deref.ensures.value c.in_ok-vectors.ensures)

pub invariant_of-result : goal.invariant_of-result
invariant_of-result c = (answer (goal.at.invariant_of-result c).In_ok-vectors).basis

pub returns-clause-reduced : goal.returns-clause-reduced
returns-clause-reduced c = (answer (goal.at.returns-clause-reduced c).In_ok-vectors).basis

pub returns-clause-one_module : goal.returns-clause-one_module
returns-clause-one_module c = (answer (goal.at.returns-clause-one_module c).In_ok-vectors).one_module

pub returns-clause-not_deep : goal.returns-clause-not_deep
returns-clause-not_deep c = (answer (goal.at.returns-clause-not_deep c).In_ok-vectors).not_deep

pub returns-clause-low : goal.returns-clause-low
returns-clause-low c = (answer (goal.at.returns-clause-low c).In_ok-vectors).low
