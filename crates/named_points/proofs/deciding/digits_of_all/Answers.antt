use Rattle.std.proofs.Common.{◌+◌, subst, sym, take}
use Rattle.named_points.specs.Deciding.{HasDigits, HaveDigits}
use Rattle.named_points.proofs.Values.{zip_more}
use Rattle.named_points.proofs.deciding.digits_of_all.Goals as goal

pub loop-f-preserved : goal.loop-f-preserved
loop-f-preserved c =
    let g = c.args.digits.now in
    subst (HaveDigits g (take (c.loop-f.f-index + 1) c.args.polys.now)) (sym c.in_ok-push.ensures.ok)
    (zip_more (HasDigits g) c.args.polys.now c.loop-f.rows c.loop-f.f-index c.f-item.result c.in_ok-row.row c.loop-f-test.true c.f-item.is c.loop-f.invariant c.in_ok-row.ensures)
