use Rattle.std.proofs.Common.{◌≡◌, ◌<◌, [], length, get_or, ◌∙◌, subst}
use Rattle.std.proofs.lemmas.List.{get_or_default}
use Rattle.point_quotient.specs.Complements.{IsRestModulo}
use Rattle.point_quotient.proofs.RestSpaces.{rests_more}
use Rattle.point_quotient.proofs.complement.rests.Goals as goal

pub loop-row-preserved : goal.loop-row-preserved
loop-row-preserved c =
    let rows = c.args.rows.now in
    let i = c.loop-row.row-index in
    let l : i < length rows = c.loop-row-test.true in
    let item : c.as_slice.result.now ≡ get_or rows i [] = c.as_slice.ensures ∙ c.row-item.is ∙ get_or_default rows i c.row-item.result [] l in
    rests_more c.args.part.now rows c.loop-row.made c.push.new.self i c.in_ok-rest_of.field-0 c.loop-row.invariant c.in_ok-push.ensures.ok
    (subst (λ r. IsRestModulo c.args.part.now r c.in_ok-rest_of.field-0) item c.in_ok-rest_of.ensures.rest)
