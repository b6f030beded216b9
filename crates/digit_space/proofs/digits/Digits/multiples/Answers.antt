use Rattle.std.proofs.Common.{◌+◌, ◌∷◌, [], length, ap, subst, ◌∙◌, length-append}
use Rattle.digit_space.specs.Model.{IsDigitSpace}
use Rattle.digit_space.proofs.RowProducts.{more_rows}
use Rattle.digit_space.proofs.digits.Digits.multiples.Goals as goal

pub loop-i-preserved : goal.loop-i-preserved
loop-i-preserved c =
    let g = c.args.self.now in
    let s = subst IsDigitSpace c.self.view_is c.self.invariant.0 in
    let made = c.in_ok-made.made in
    record {
      count = ap length c.in_ok-push.ensures.ok ∙ length-append c.loop-i.rows (made ∷ []) ∙ ap (λ n. n + 1) c.loop-i.invariant.count;
      rows = more_rows g s c.args.row.now made c.loop-i.rows c.push.new.self c.loop-i.i c.loop-i.invariant.count c.in_ok-push.ensures.ok c.loop-i.invariant.rows c.in_ok-made.ensures;
    }
