use Rattle.std.proofs.Common.{◌≡◌, true, ◌∙◌, refl, subst, rules}
use Rattle.std.specs.List.{All}
use Rattle.std.proofs.lemmas.List.{take_all}
use Rattle.std.proofs.lemmas.List.Elements.{All-more}
use Rattle.named_points.specs.Deciding.{IsZeroAt}
use Rattle.named_points.proofs.deciding.are_zero_at.Goals as goal

pub loop-row-preserved : goal.loop-row-preserved
loop-row-preserved c =
    let Zero = IsZeroAt c.args.digits.now c.args.local.now in
    let zero : c.in_ok-zero.zero ≡ true = search rules in
    All-more Zero c.args.rows.now c.loop-row.row-index c.row-item.result c.loop-row-test.true c.loop-row.invariant
    (subst Zero (c.as_slice.ensures ∙ c.row-item.is) (c.in_ok-zero.ensures.0 zero))

pub returns : goal.returns
returns c = (
  λ t. subst (All (IsZeroAt c.args.digits.now c.args.local.now)) (take_all c.loop-row.row-index c.args.rows.now c.loop-row-test.false) c.loop-row.invariant,
  λ h. refl,
)
