use Rattle.std.proofs.Common.{subst, sym}
use Rattle.std.specs.List.{All, Any}
use Rattle.std.proofs.lemmas.List.{take_all}
use Rattle.named_points.specs.Deciding.{IsZeroAt}
use Rattle.named_points.proofs.Values.{none_more}
use Rattle.named_points.proofs.deciding.some_are_zero_at.Goals as goal

pub loop-rows-preserved : goal.loop-rows-preserved
loop-rows-preserved c =
    let Zero = IsZeroAt c.args.digits.now c.args.local.now in
    none_more (All Zero) c.args.statements.now c.loop-rows.rows-index c.rows-item.result c.loop-rows-test.true c.rows-item.is c.loop-rows.invariant
    (λ h. let t = c.in_ok-zero.ensures.1 (subst (All Zero) (sym c.as_slice.ensures) h) in absurd (cc))

pub returns : goal.returns
returns c = (
  λ t. absurd (cc),
  λ w. absurd (c.loop-rows.invariant (subst (Any (All (IsZeroAt c.args.digits.now c.args.local.now))) (sym (take_all c.loop-rows.rows-index c.args.statements.now c.loop-rows-test.false)) w)),
)
