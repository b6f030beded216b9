use Rattle.std.proofs.Common.{◌↔◌, All, IsTrue, ap, ◌∙◌, subst}
use Rattle.row_space.specs.Subspace.{IsIn}
use Rattle.over_module.proofs.Compared.{holds_is}
use Rattle.over_module.proofs.over.Over.holds.Goals as goal

pub returns : goal.returns
returns c =
    let o = c.args.self.now in
    let q = c.args.other.now in
    let both = holds_is o q c.rows-space.ensures.known c.rows-rows.ensures.known c.requires.curve c.requires.power in
    let found : IsTrue c.in_ok-found.found ↔ All (IsIn o.rows) q.rows.basis =
    subst (λ us. IsTrue c.in_ok-found.found ↔ All (IsIn o.rows) us) (c.rows.ensures.basis ∙ ap (λ s. s.basis) c.rows-rows.ensures.value)
    (subst (λ s. IsTrue c.in_ok-found.found ↔ All (IsIn s) c.rows.result.now) c.rows-space.ensures.value c.in_ok-found.ensures) in
    ((λ t. both.0 (found.0 t)), λ r. found.1 (both.1 r))
