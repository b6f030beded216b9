use Rattle.std.proofs.Common.{rules, ◌≡◌, sym, subst}
use Rattle.polys.specs.Curve.{data_of}
use Rattle.curve_model.specs.Delta.{IsDeltaAbove}
use Rattle.curve_model.specs.Point.{basis_of}
use Rattle.over_module.specs.Done.{IsDone}
use Rattle.over_module.specs.declared.done.Verdict.TheVariants.{TooLarge}
use Rattle.stratum_chain.proofs.Enlarging.{above_of}
use Rattle.stratum_chain.proofs.chain.Chain.too_large.Goals as goal

pub too_large-requires : goal.too_large-requires
too_large-requires c =
    let chain = c.self.invariant.0 in
    let s = c.self.inside in
    let copy : c.in_ok-point.point ≡ c.self.inside.point = search rules in
    let curve : c.in_ok-curve.curve.value ≡ c.self.inside.over.curve = search rules in
    let above = subst (λ z. IsDeltaAbove (data_of z.over.curve) (basis_of z.point) z.limit) (sym c.self.view_is) c.requires in
    subst (λ C. IsDone (record { curve = C; point = c.in_ok-point.point; stratum = s.stratum; limit = s.limit; verdict = TooLarge })) (sym curve)
    (subst (λ P. IsDone (record { curve = s.over.curve; point = P; stratum = s.stratum; limit = s.limit; verdict = TooLarge })) (sym copy)
    (above_of s.over s.point s.stratum s.limit c.rows-rows.ensures.known chain.point chain.some_limit chain.low_limit above))
