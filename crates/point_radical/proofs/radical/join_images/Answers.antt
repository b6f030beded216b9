use Rattle.std.proofs.Common.{◌<◌, All, sym, ◌∙◌, subst}
use Rattle.row_space.specs.Echelon.{IsRow}
use Rattle.prime_field.proofs.Table.{positive_of_prime}
use Rattle.point_radical.proofs.RadicalRows.{images_fit}
use Rattle.point_radical.proofs.radical.join_images.Goals as goal

pub add_rows-requires : goal.add_rows-requires
add_rows-requires c =
    let p = c.args.prime in
    let W = c.args.width in
    let fit = images_fit p W (subst (λ q. 0 < q) c.get-known.ensures.value (positive_of_prime c.get-known.result c.get-known.ensures.prime)) c.args.rows.now c.args.elements.now in
    subst (λ q. All (IsRow q c.args.space.now.width) c.as_slice.result.now) (sym c.requires.prime) (subst (λ w. All (IsRow p w) c.as_slice.result.now) (sym c.requires.width)
    (subst (All (IsRow p W)) (sym (c.as_slice.ensures ∙ c.in_ok-made.ensures)) fit))
