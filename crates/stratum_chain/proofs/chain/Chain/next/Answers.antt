use Rattle.std.proofs.Common.{◌+◌, subst}
use Rattle.polys.specs.Curve.{data_of}
use Rattle.curve_model.specs.Point.{basis_of}
use Rattle.over_laws.specs.Over.{InRows}
use Rattle.over_laws.specs.Chain.{IsEnlarged}
use Rattle.stratum_chain.proofs.Enlarging.{ring_of, kept}
use Rattle.stratum_chain.proofs.chain.Chain.next.Goals as goal

pub point_radical-requires-clause-ring : goal.point_radical-requires-clause-ring
point_radical-requires-clause-ring c = ring_of c.self.inside.over c.rows-rows.ensures.known (basis_of c.self.inside.point) c.self.invariant.0.local

pub returns-clause-enlarged : goal.returns-clause-enlarged
returns-clause-enlarged c =
    let o = c.self.inside.over in
    subst (λ z. IsEnlarged z.over (basis_of z.point) c.in_ok-made.made) c.self.view_is (record {
      curve = c.in_ok-made.ensures.curve;
      exact = kept o c.in_ok-made.made c.rows-rows.ensures.known (basis_of c.self.inside.point) (InRows (data_of o.curve) o.power (o.power + 1) c.in_ok-radical.radical)
          c.in_ok-radical.ensures.exact c.in_ok-made.ensures.exact;
    })
