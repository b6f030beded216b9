use Rattle.std.proofs.Common.{◌-◌, ◌*◌, map, drop, ap, ap₂, ◌∙◌, subst, sym}
use Rattle.row_space.specs.Subspace.{IsReduced}
use Rattle.over_module.specs.Raising.{AreRowsAt, IsAtPower}
use Rattle.over_module.proofs.Moved.{lowered_at}
use Rattle.over_module.proofs.over.Over.lowered.Goals as goal

pub at_power-requires : goal.at_power-requires
at_power-requires c =
    let o = c.args.self.now in
    let basis = c.rows-2.ensures.basis ∙ ap (λ s. s.basis) c.rows.ensures.value in
    let made = c.as_slice.ensures ∙ c.in_ok-rows.ensures ∙ ap₂ (λ n us. map (drop (n * c.args.blocks)) us) c.corners.ensures basis in
    subst (λ k. AreRowsAt o (k - c.args.blocks) c.as_slice.result.now) (sym c.power.ensures)
    (subst (AreRowsAt o (o.power - c.args.blocks)) (sym made)
    (lowered_at o c.rows.ensures.known (subst IsReduced c.rows.ensures.value c.rows-2.ensures.reduced) c.args.blocks c.requires.power c.requires.zeros))

pub returns : goal.returns
returns c = subst (λ k. IsAtPower c.args.self.now (k - c.args.blocks) c.in_ok-made.made) c.power.ensures c.in_ok-made.ensures
