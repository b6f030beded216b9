use Rattle.std.proofs.Common.{◌≡◌, ◌++◌, [], set, get_or, length, ap, ◌∙◌, arith}
use Rattle.std.proofs.lemmas.List.{with_items_is}
use Rattle.digit_make.proofs.growing.with_longer.Goals as goal

pub returns : goal.returns
returns c =
    let long : length c.lengthen.new.rows ≡ c.into_vec-rows.result.len = omega (arith, c.lengthen.auto.rows, c.as_mut_slice.ensures.len) in
    c.of_vec.ensures
    ∙ with_items_is c.into_vec-rows.result c.lengthen.new.rows long
    ∙ c.in_ok-lengthen.ensures
    ∙ ap (λ z. set z c.args.j (get_or z c.args.j [] ++ c.args.block.now)) (c.as_mut_slice.ensures.value ∙ c.into_vec-rows.ensures)
