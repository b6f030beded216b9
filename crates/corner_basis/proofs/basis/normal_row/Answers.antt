use Rattle.std.proofs.Common.{◌≡◌, ◌-◌, replicate, set, sym, ap, subst, ◌∙◌, arith}
use Rattle.row_space.specs.Subspace.{DifferIn}
use Rattle.row_space.proofs.Written.{written_whole}
use Rattle.corner_basis.proofs.basis.normal_row.Goals as goal

pub returns-clause-only : goal.returns-clause-only
returns-clause-only c = λ other fit d z.
    let row_is : c.as_mut_slice.result.now ≡ set (replicate c.args.length 0) c.args.place (c.args.relations.now.prime - 1) =
    c.as_mut_slice.ensures.value ∙ c.in_ok-row.ensures ∙ ap (λ p. set (replicate c.args.length 0) c.args.place (p - 1)) c.prime.ensures in
    c.reduce.ensures.only other fit (subst (λ r. DifferIn c.args.relations.now r other) (sym row_is) d) z
    ∙ sym (c.of_vec.ensures ∙ written_whole c.in_ok-row.row.len c.reduce.new.row c.in_ok-row.row.items (omega (arith, c.as_mut_slice.ensures.len, c.reduce.auto.row)))
