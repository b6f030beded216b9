use Rattle.std.proofs.Common.{◌∙◌, List, ℕ, All, subst, sym}
use Rattle.prime_field.specs.Primes.{IsPrime}
use Rattle.comm_ring.specs.Modules.{InSpan}
use Rattle.finite_algebra.specs.Elements.{elements}
use Rattle.frobenius_split.specs.Idempotents.{IsNumberAt}
use Rattle.frobenius_split.proofs.SplitLaws.{number_in_span}
use Rattle.frobenius_split.proofs.idempotents.split_outside.Goals as goal

pub returns-then-inside-clause-numbers : goal.returns-then-inside-clause-numbers
returns-then-inside-clause-numbers c =
    let A = c.args.a.now in
    let prime = subst IsPrime (c.get-p.ensures.value ∙ c.prime.ensures) c.get-p.ensures.prime in
    let laws = c.one-one.ensures.laws in
    number_in_span A prime laws c.args.es c.requires.es c.args.u.now (c.requires.members c.args.u.now (c.in_ok-inside.ensures.0 c.if-inside.true))

pub returns-clause-keeps : goal.returns-clause-keeps
returns-clause-keeps c = λ v h. c.in_ok-parts.ensures.keeps v (subst (All (IsNumberAt c.args.a.now v)) (sym c.as_slice.ensures) h)

pub returns-clause-members : goal.returns-clause-members
returns-clause-members c = λ f h. subst (λ (us : List (List ℕ)). InSpan (elements c.args.a.now) us f) c.as_slice-2.ensures (c.in_ok-whole.ensures.members f h)
