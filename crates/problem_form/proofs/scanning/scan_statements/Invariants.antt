use Rattle.std.proofs.Common.{◌≡◌, ◌≤◌, ◌+◌, length}
use Rattle.problem_form.specs.Tokens.{tokens}
use Rattle.problem_form.specs.Scanning.{scan, first_scan}
use Rattle.problem_form.proofs.scanning.scan_statements.Given as goal

abbrev pub invariant-loop-token : goal.invariant-loop-token
invariant-loop-token l = record {
  same : scan l.letters l.scan (tokens l.rest) ≡ scan l.letters first_scan (tokens l.text);
  depth : l.scan.depth + length l.rest ≤ length l.text;
  expressions : l.scan.expressions + length l.rest ≤ length l.text;
  statements : l.scan.statements + length l.rest ≤ length l.text;
}

abbrev pub decreases-loop-token : goal.decreases-loop-token
decreases-loop-token l = length l.rest
