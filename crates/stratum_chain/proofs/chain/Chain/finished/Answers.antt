use Rattle.std.proofs.Common.{rules, ◌≡◌, sym, subst}
use Rattle.over_module.specs.Done.{HoldsLocal, IsDone}
use Rattle.over_module.specs.declared.done.Verdict.TheVariants.{Finished}
use Rattle.stratum_chain.proofs.Enlarging.{done_of}
use Rattle.stratum_chain.proofs.chain.Chain.finished.Goals as goal

pub finished-requires : goal.finished-requires
finished-requires c =
    let chain = c.self.invariant.0 in
    let s = c.self.inside in
    let o = c.in_ok-over.over in
    let copy : c.in_ok-point.point ≡ c.self.inside.point = search rules in
    let holds = subst (λ z. HoldsLocal z.over.curve z.point z.limit z.over) (sym c.self.view_is) c.requires in
    subst (λ P. IsDone (record { curve = o.curve; point = P; stratum = s.stratum; limit = s.limit; verdict = Finished o })) (sym copy)
    (done_of s.over o s.point s.stratum s.limit c.rows-rows.ensures.known chain.point chain.some_limit chain.low_limit holds c.in_ok-over.ensures.curve c.in_ok-over.ensures.same c.in_ok-over.ensures.dimension)
