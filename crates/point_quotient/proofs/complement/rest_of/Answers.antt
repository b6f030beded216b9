use Rattle.std.proofs.Common.{◌≡◌, length, take, drop, ◌++◌, sym, ap, ◌∙◌, subst}
use Rattle.row_space.specs.Subspace.{DifferIn}
use Rattle.row_space.proofs.Written.{written_whole}
use Rattle.point_quotient.specs.Complements.{IsRestModulo}
use Rattle.point_quotient.proofs.complement.rest_of.Goals as goal
use Rattle.point_quotient.proofs.complement.rest_of.Goals.{After-reduce}

-- the slice was the row, and it is written whole
was : (c : After-reduce) → c.as_mut_slice.result.now ≡ c.args.row.now
was c = c.as_mut_slice.ensures.value ∙ c.in_ok-rest.ensures

whole : (c : After-reduce) → take (length c.in_ok-rest.rest) (c.reduce.new.row ++ drop (length c.reduce.new.row) c.in_ok-rest.rest) ≡ c.reduce.new.row
whole c = written_whole (length c.in_ok-rest.rest) c.reduce.new.row c.in_ok-rest.rest (ap length c.in_ok-rest.ensures ∙ c.requires.0 ∙ sym c.reduce.ensures.fits.0)

pub returns-clause-rest : goal.returns-clause-rest
returns-clause-rest c =
    let w = (goal.at.returns-clause-rest c).After-reduce in
    subst (IsRestModulo c.args.part.now c.args.row.now) (sym (whole w)) (record {
      fits = c.reduce.ensures.fits;
      same = subst (λ r. DifferIn c.args.part.now r c.reduce.new.row) (was w) c.reduce.ensures.same_class;
      zero = c.reduce.ensures.zero;
    })

pub returns-clause-only : goal.returns-clause-only
returns-clause-only c =
    let w = (goal.at.returns-clause-only c).After-reduce in
    λ other h. c.reduce.ensures.only other h.fits (subst (λ r. DifferIn c.args.part.now r other) (sym (was w)) h.same) h.zero ∙ sym (whole w)
