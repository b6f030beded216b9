use Rattle.std.proofs.Common.{sym, subst}
use Rattle.std.specs.List.{All}
use Rattle.std.proofs.lemmas.List.Elements.{All-push}
use Rattle.graded_modules.specs.Vector.{IsGenerator}
use Rattle.module_basis.specs.Gens.{IsHomogeneousOver}
use Rattle.basis_timing.proofs.gather.Goals as goal

pub returns : goal.returns
returns c =
    let P = IsHomogeneousOver c.args.p c.args.variables c.args.shift in
    subst (All P) (sym c.in_ok-push.ensures.ok)
    (All-push P c.args.all.now c.args.f c.requires.all
    (record { prime = c.requires.prime; vector = subst (λ q. IsGenerator q c.args.variables c.args.shift c.args.f.terms) c.requires.prime (c.is_homogeneous.ensures c.if-not-is_homogeneous.false) }))
