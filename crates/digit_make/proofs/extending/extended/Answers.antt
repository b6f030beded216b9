use Rattle.std.proofs.Common.{◌≡◌, ◌-◌, ◌≤◌, length, sym, ap, ◌∙◌, subst, arith}
use Rattle.std.proofs.lemmas.Result.{IfOk-weaker}
use Rattle.std.specs.List.{All}
use Rattle.polys.specs.declared.curve.Curve.{Curve}
use Rattle.polys.specs.Terms.{IsAffine}
use Rattle.digit_space.specs.Model.{DigitData}
use Rattle.digit_make.specs.Making.{HasFirstBlocks}
use Rattle.digit_make.proofs.Deeper.{first_blocks, rows_of}
use Rattle.digit_make.proofs.Growth.{blocks_within}
use Rattle.digit_make.proofs.extending.extended.Goals as goal

pub returns-then-len-eq0-clause-blocks : goal.returns-then-len-eq0-clause-blocks
returns-then-len-eq0-clause-blocks c =
    let g = c.args.digits.now in
    IfOk-weaker c.no_digits.result (λ (new : DigitData). new ≡ record { curve = c.curve.result.now.value; basis = c.in_ok-corners.corners; depth = c.args.t }) (HasFirstBlocks g)
    (λ new e. first_blocks g new c.basis.ensures.known (subst (λ z. g.depth ≤ z) (sym (ap (λ (z : DigitData). z.depth) e)) c.requires.deeper)
    (ap (λ (z : DigitData). z.curve) e ∙ c.curve.ensures) (ap (λ (z : DigitData). z.basis) e ∙ c.in_ok-corners.ensures ∙ c.basis.ensures.value))
    c.no_digits.ensures

pub digits_from-requires-clause-rows : goal.digits_from-requires-clause-rows
digits_from-requires-clause-rows c =
    let g = c.args.digits.now in
    let plan = c.in_ok-plan.plan in
    record {
      border = rows_of g plan c.as_slice.result.now plan.border c.in_ok-border_rows.field-0 (c.in_ok-plan.ensures.curve ∙ c.curve-2.ensures) (c.in_ok-plan.ensures.corners ∙ c.in_ok-corners.ensures ∙ c.basis.ensures.value)
          c.as_slice.ensures c.in_ok-border_rows.ensures.known;
      outer = rows_of g plan c.as_slice-2.result.now plan.outer c.in_ok-outer_rows.field-0 (c.in_ok-plan.ensures.curve ∙ c.curve-2.ensures) (c.in_ok-plan.ensures.corners ∙ c.in_ok-corners.ensures ∙ c.basis.ensures.value)
          c.as_slice-2.ensures c.in_ok-outer_rows.ensures.known;
    }

pub digits_from-requires-clause-border : goal.digits_from-requires-clause-border
digits_from-requires-clause-border c =
    let g = c.args.digits.now in
    blocks_within (length c.in_ok-plan.plan.corners) (length g.basis) g.depth c.args.t c.in_ok-border_rows.field-0 (ap length (c.in_ok-plan.ensures.corners ∙ c.in_ok-corners.ensures ∙ c.basis.ensures.value))
    c.requires.deeper c.in_ok-border_rows.ensures.blocks

pub digits_from-requires-clause-outer : goal.digits_from-requires-clause-outer
digits_from-requires-clause-outer c =
    let g = c.args.digits.now in
    let shallow : c.args.digits.now.depth - 1 ≤ c.args.t - 1 = (let d = c.requires.deeper in omega arith) in
    blocks_within (length c.in_ok-plan.plan.corners) (length g.basis) (g.depth - 1) (c.args.t - 1) c.in_ok-outer_rows.field-0
    (ap length (c.in_ok-plan.ensures.corners ∙ c.in_ok-corners.ensures ∙ c.basis.ensures.value)) shallow c.in_ok-outer_rows.ensures.blocks

pub returns-clause-blocks : goal.returns-clause-blocks
returns-clause-blocks c =
    let g = c.args.digits.now in
    let plan = c.in_ok-plan.plan in
    IfOk-weaker c.digits_from.result (λ (new : DigitData). new ≡ record { curve = plan.curve.value; basis = plan.corners; depth = c.args.t }) (HasFirstBlocks g)
    (λ new e. first_blocks g new c.basis.ensures.known (subst (λ z. g.depth ≤ z) (sym (ap (λ (z : DigitData). z.depth) e)) c.requires.deeper)
    (ap (λ (z : DigitData). z.curve) e ∙ c.in_ok-plan.ensures.curve ∙ c.curve-2.ensures)
    (ap (λ (z : DigitData). z.basis) e ∙ c.in_ok-plan.ensures.corners ∙ c.in_ok-corners.ensures ∙ c.basis.ensures.value))
    c.digits_from.ensures

pub border_rows-requires : goal.border_rows-requires
border_rows-requires c =
    let plan = c.in_ok-plan.plan in
    subst (All (IsAffine c.args.digits.now.curve.variables)) (sym c.as_slice.ensures)
    (subst (λ (z : Curve). All (IsAffine z.variables) plan.border) (c.in_ok-plan.ensures.curve ∙ c.curve-2.ensures) c.in_ok-plan.ensures.plan.border)

pub outer_rows-requires : goal.outer_rows-requires
outer_rows-requires c =
    let plan = c.in_ok-plan.plan in
    subst (All (IsAffine c.args.digits.now.curve.variables)) (sym c.as_slice-2.ensures)
    (subst (λ (z : Curve). All (IsAffine z.variables) plan.outer) (c.in_ok-plan.ensures.curve ∙ c.curve-2.ensures) c.in_ok-plan.ensures.plan.outer)
