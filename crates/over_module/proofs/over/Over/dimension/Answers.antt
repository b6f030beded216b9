use Rattle.std.proofs.Common.{sym, subst}
use Rattle.polys.specs.Curve.{data_of}
use Rattle.over_laws.specs.Over.{InOver, HasBasis}
use Rattle.over_laws.proofs.Rows.{rows_law}
use Rattle.over_module.proofs.over.Over.dimension.Goals as goal

pub returns-clause-basis : goal.returns-clause-basis
returns-clause-basis c =
    let o = c.self.inside in
    let n = c.dimension.ensures.rows in
    subst (λ z. HasBasis (data_of z.curve) (InOver z) c.dimension.result) c.self.view_is
    (subst (HasBasis (data_of o.curve.value) (InOver (record { curve = o.curve.value; dimension = o.dimension; power = o.power; rows = o.rows }))) (sym n)
    (rows_law (record { curve = o.curve.value; dimension = o.dimension; power = o.power; rows = o.rows }) c.self.invariant).basis)
