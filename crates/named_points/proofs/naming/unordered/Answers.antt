use Rattle.std.proofs.Common.{subst, sym}
use Rattle.std.specs.List.{All, AllZip}
use Rattle.digit_space.specs.Model.{IsDigitRow}
use Rattle.named_points.specs.Deciding.{AreChosen, HaveDigits}
use Rattle.named_points.proofs.Named.{are_named}
use Rattle.named_points.proofs.Values.{all_digit_rows}
use Rattle.named_points.proofs.naming.unordered.Goals as goal

pub chosen-requires-clause-rows : goal.chosen-requires-clause-rows
chosen-requires-clause-rows c =
    let g = c.args.digits.now in
    subst (All (All (IsDigitRow g))) (sym c.as_slice-2.ensures)
    (all_digit_rows g c.args.problem.now.at c.in_ok-statements.statements (subst (λ at. AllZip (HaveDigits g) at c.in_ok-statements.statements) c.as_slice.ensures c.in_ok-statements.ensures))

pub returns : goal.returns
returns c =
    let g = c.args.digits.now in
    let found = c.in_ok-found.found in
    let made = c.in_ok-statements.statements in
    let points = c.in_ok-points.points in
    are_named c.args.problem.now g found made points (record {
      fit = c.requires.fit;
      prime = c.requires.prime;
      variables = c.requires.variables;
      each = c.in_ok-found.ensures.each;
      exact = c.in_ok-found.ensures.exact;
      values = c.in_ok-found.ensures.values;
      digits = subst (λ at. AllZip (HaveDigits g) at made) c.as_slice.ensures c.in_ok-statements.ensures;
      chosen = subst (λ statements. AreChosen g statements found points) c.as_slice-2.ensures c.in_ok-points.ensures;
    })
