use Rattle.std.proofs.Common.{◌++◌, [], set, ap, ◌∙◌}
use Rattle.std.proofs.lemmas.List.{set-set, get_or_default}
use Rattle.digit_make.proofs.growing.lengthen.Goals as goal

pub returns : goal.returns
returns c =
    set-set c.args.rows.now c.args.j c.replace-row.new.dest c.in_ok-rows.field-0
    ∙ ap (set c.args.rows.now c.args.j)
    (c.in_ok-rows.ensures ∙ ap (λ z. z ++ c.args.block.now) (c.replace-row.ensures.value ∙ get_or_default c.args.rows.now c.args.j c.index-rows-j.result [] c.requires))
