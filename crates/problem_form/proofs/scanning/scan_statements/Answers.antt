use Rattle.std.proofs.Common.{◌∙◌, sym, arith}
use Rattle.problem_form.proofs.Scans.{scan_on, scan_off, scan_end}
use Rattle.problem_form.proofs.scanning.scan_statements.Goals as goal

pub returns-in_err-scan : goal.returns-in_err-scan
returns-in_err-scan c =
    c.from_residual.ensures ∙ sym (scan_off _ c.loop-token.scan _ _ _ c.in-Some.ensures.0 (sym c.step.ensures.exact ∙ c.in_err-scan.was)) ∙ c.loop-token.invariant.same

pub loop-token-preserved : goal.loop-token-preserved
loop-token-preserved c = record {
  same = sym (scan_on _ c.loop-token.scan _ _ _ _ c.in-Some.ensures.0 (sym c.step.ensures.exact ∙ c.in_ok-scan.was)) ∙ c.loop-token.invariant.same;
  depth = omega (arith, c.in-Some.ensures.1, c.in_ok-scan.ensures.grows.depth);
  expressions = omega (arith, c.in-Some.ensures.1, c.in_ok-scan.ensures.grows.expressions);
  statements = omega (arith, c.in-Some.ensures.1, c.in_ok-scan.ensures.grows.statements);
}

pub returns : goal.returns
returns c = sym (scan_end _ c.loop-token.scan _ c.in_default.ensures) ∙ c.loop-token.invariant.same
