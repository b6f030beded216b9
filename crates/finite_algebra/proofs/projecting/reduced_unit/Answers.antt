use Rattle.std.proofs.Common.{ℕ, List, replicate, set, arith, ap, sym, subst, ◌∙◌}
use Rattle.row_space.specs.Subspace.{DifferIn}
use Rattle.finite_algebra.specs.Projections.{IsClass}
use Rattle.finite_algebra.proofs.projecting.reduced_unit.Goals as goal
use Rattle.row_space.proofs.Written.{written_whole}

pub returns : goal.returns
returns c =
    let space = c.args.ideal.now in
    let k = c.args.k in
    let row = c.reduce.new.row in
    let unit_is = c.as_mut_slice.ensures.value ∙ ap (λ r. set r k 1) c.in_ok-row.ensures ∙ ap (λ w. set (replicate w 0) k 1) (sym c.requires.width) in
    let row_is = c.of_vec.ensures ∙ written_whole c.in_ok-row.row.len row (set c.in_ok-row.row.items k 1) (omega (arith, c.as_mut_slice.ensures.len, c.reduce.auto.row)) in
    subst (λ (r : List ℕ). IsClass space k r) (sym row_is) (record {
      fits = c.reduce.ensures.fits;
      same_class = subst (λ u. DifferIn space u row) unit_is c.reduce.ensures.same_class;
      zero = c.reduce.ensures.zero;
      only = λ other h d z. c.reduce.ensures.only other h (subst (λ u. DifferIn space u other) (sym unit_is) d) z;
    })
