use Rattle.std.proofs.Common.{◌≡◌, ◌≤◌, drop, true}
use Rattle.monomials.specs.Mono.{IsMono, total_degree}
use Rattle.problem_form.specs.Words.{are_run_bytes}
use Rattle.singular_text.specs.Values.{run_after, run_monomial}
use Rattle.singular_text.proofs.values.run_monomial.Given as goal

abbrev pub invariant-loop-i : goal.invariant-loop-i
invariant-loop-i l = record {
  same : run_after l.letters l.mono (drop l.i l.word) ≡ run_monomial l.letters l.word;
  known : IsMono l.mono;
  small : total_degree l.mono.exponents ≤ 60;
  bytes : are_run_bytes l.letters (drop l.i l.word) ≡ true;
}
