use Rattle.std.proofs.Common.{◌-◌, ◌*◌, map, ap, ap₂, ◌∙◌, subst, sym}
use Rattle.row_space.specs.Subspace.{IsReduced}
use Rattle.over_module.specs.Raising.{behind_zeros, AreRowsAt}
use Rattle.over_module.proofs.Moved.{raised_at}
use Rattle.over_module.proofs.over.Over.raised.Goals as goal

pub at_power-requires : goal.at_power-requires
at_power-requires c =
    let o = c.args.self.now in
    let zeros = ap₂ (λ a b. a * (c.args.power - b)) c.corners.ensures c.power.ensures in
    let basis = c.rows-2.ensures.basis ∙ ap (λ s. s.basis) c.rows.ensures.value in
    let made = c.as_slice.ensures ∙ c.in_ok-rows.ensures ∙ ap₂ (λ z us. map (behind_zeros z) us) zeros basis in
    subst (AreRowsAt o c.args.power) (sym made) (raised_at o c.rows.ensures.known (subst IsReduced c.rows.ensures.value c.rows-2.ensures.reduced) c.args.power c.requires)
