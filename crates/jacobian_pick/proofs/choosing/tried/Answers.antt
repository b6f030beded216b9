use Rattle.std.proofs.Common.{◌∙◌, subst}
use Rattle.std.specs.Bool.{IsTrue}
use Rattle.prime_field.specs.Primes.{IsPrime}
use Rattle.jacobian_pick.proofs.Choices.{deep_module, no_deep_module, basis_as, regular, dimension, infinite}
use Rattle.jacobian_pick.proofs.choosing.tried.Goals as goal

pub returns-in-Err-Deep-clause-reason : goal.returns-in-Err-Deep-clause-reason
returns-in-Err-Deep-clause-reason c =
    deep_module c.args.problem.now c.args.cap c.args.d.now c.variables_of.result c.as_slice-generators.result.now c.variables_of.ensures.value c.as_slice-generators.ensures
    (c.in-Err-Deep.ensures.deep c.in-Err-Deep.field-0-is)

pub returns-then-not-branch-clause-reason : goal.returns-then-not-branch-clause-reason
returns-then-not-branch-clause-reason c =
    let known = c.in-Ok.ensures.«data» in
    let r = regular c.args.problem.now (subst IsPrime c.get-prime.ensures.value c.get-prime.ensures.prime) c.requires.ready c.args.d.now c.in-Ok.lifted c.requires.denominator known.0 (known.1 ∙ c.variables_of.ensures.value) known.2
    (basis_as c.args.problem.now c.args.basis.now c.in-Ok.lifted.ideal c.requires.basis (known.3 ∙ c.in_ok-copied.ensures))
    in
    record {
      not_deep = no_deep_module c.args.problem.now c.args.cap c.args.d.now c.variables_of.result c.as_slice-generators.result.now c.variables_of.ensures.value c.as_slice-generators.ensures c.in-Ok.ensures.not_deep;
      not_regular = λ x. (let t : IsTrue c.in_ok-is_regular.field-0 = c.in_ok-is_regular.ensures.1 (r.1 x) in cc);
    }

pub returns-in-Finite-clause-good : goal.returns-in-Finite-clause-good
returns-in-Finite-clause-good c =
    let known = c.in-Ok.ensures.«data» in
    let prime = subst IsPrime c.get-prime.ensures.value c.get-prime.ensures.prime in
    let basis = basis_as c.args.problem.now c.args.basis.now c.in-Ok.lifted.ideal c.requires.basis (known.3 ∙ c.in_ok-copied.ensures) in
    let r = regular c.args.problem.now prime c.requires.ready c.args.d.now c.in-Ok.lifted c.requires.denominator known.0 (known.1 ∙ c.variables_of.ensures.value) known.2 basis in
    let yes : IsTrue c.in_ok-is_regular.field-0 = cc in
    let f = (c.small_dimension.ensures.finite c.in-Finite.field-0).0 c.in-Finite.is in
    record {
      allowed = record {
        not_deep = no_deep_module c.args.problem.now c.args.cap c.args.d.now c.variables_of.result c.as_slice-generators.result.now c.variables_of.ensures.value c.as_slice-generators.ensures c.in-Ok.ensures.not_deep;
        regular = r.0 (c.in_ok-is_regular.ensures.0 yes);
      };
      narrow = (
        c.in-Finite.field-0,
        f.0,
        dimension c.args.problem.now prime c.requires.ready c.args.d.now c.in-Ok.lifted c.requires.denominator known.0 (known.1 ∙ c.variables_of.ensures.value) known.2 basis c.in-Finite.field-0 f.1,
      );
    }

pub returns-in-Wide-clause-reason : goal.returns-in-Wide-clause-reason
returns-in-Wide-clause-reason c =
    let known = c.in-Ok.ensures.«data» in
    let prime = subst IsPrime c.get-prime.ensures.value c.get-prime.ensures.prime in
    let basis = basis_as c.args.problem.now c.args.basis.now c.in-Ok.lifted.ideal c.requires.basis (known.3 ∙ c.in_ok-copied.ensures) in
    let r = regular c.args.problem.now prime c.requires.ready c.args.d.now c.in-Ok.lifted c.requires.denominator known.0 (known.1 ∙ c.variables_of.ensures.value) known.2 basis in
    let yes : IsTrue c.in_ok-is_regular.field-0 = cc in
    let w = c.small_dimension.ensures.wide.0 c.in-Wide.is in (
      record {
        not_deep = no_deep_module c.args.problem.now c.args.cap c.args.d.now c.variables_of.result c.as_slice-generators.result.now c.variables_of.ensures.value c.as_slice-generators.ensures c.in-Ok.ensures.not_deep;
        regular = r.0 (c.in_ok-is_regular.ensures.0 yes);
      },
      (w.0, w.1, dimension c.args.problem.now prime c.requires.ready c.args.d.now c.in-Ok.lifted c.requires.denominator known.0 (known.1 ∙ c.variables_of.ensures.value) known.2 basis w.0 w.2),
    )

pub returns-in-Infinite-clause-reason : goal.returns-in-Infinite-clause-reason
returns-in-Infinite-clause-reason c =
    let known = c.in-Ok.ensures.«data» in
    let prime = subst IsPrime c.get-prime.ensures.value c.get-prime.ensures.prime in
    let basis = basis_as c.args.problem.now c.args.basis.now c.in-Ok.lifted.ideal c.requires.basis (known.3 ∙ c.in_ok-copied.ensures) in
    let r = regular c.args.problem.now prime c.requires.ready c.args.d.now c.in-Ok.lifted c.requires.denominator known.0 (known.1 ∙ c.variables_of.ensures.value) known.2 basis in
    let yes : IsTrue c.in_ok-is_regular.field-0 = cc in (
      record {
        not_deep = no_deep_module c.args.problem.now c.args.cap c.args.d.now c.variables_of.result c.as_slice-generators.result.now c.variables_of.ensures.value c.as_slice-generators.ensures c.in-Ok.ensures.not_deep;
        regular = r.0 (c.in_ok-is_regular.ensures.0 yes);
      },
      infinite c.args.problem.now prime c.requires.ready c.args.d.now c.in-Ok.lifted c.requires.denominator known.0 (known.1 ∙ c.variables_of.ensures.value) known.2 basis (c.small_dimension.ensures.infinite.0 c.in-Infinite.is),
    )
