use Rattle.std.proofs.Common.{◌+◌, subst, sym, take}
use Rattle.std.specs.List.{AllZip}
use Rattle.named_points.specs.Deciding.{HaveDigits}
use Rattle.named_points.proofs.Values.{zip_more}
use Rattle.named_points.proofs.deciding.statement_digits.Goals as goal

pub loop-polys-preserved : goal.loop-polys-preserved
loop-polys-preserved c =
    let g = c.args.digits.now in
    subst (AllZip (HaveDigits g) (take (c.loop-polys.polys-index + 1) c.args.statements.now)) (sym c.in_ok-push.ensures.ok)
    (zip_more (HaveDigits g) c.args.statements.now c.loop-polys.made c.loop-polys.polys-index c.polys-item.result c.in_ok-rows.rows c.loop-polys-test.true c.polys-item.is c.loop-polys.invariant
    (subst (λ polys. HaveDigits g polys c.in_ok-rows.rows) c.as_slice.ensures c.in_ok-rows.ensures))
