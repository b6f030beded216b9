use Rattle.std.proofs.Common.{◌≡◌}
use Rattle.std.proofs.lemmas.Result.{IfOk-weaker}
use Rattle.polys.specs.Terms.{IsMonicOf, multiple}
use Rattle.polys.proofs.Leads.{monic_by_inverse}
use Rattle.polys.proofs.terms.monic.Goals as goal

pub returns-in-Some-clause-value : goal.returns-in-Some-clause-value
returns-in-Some-clause-value c =
    let p = c.args.p in
    let a = c.args.a.now in
    let i = c.inv.result in
    let h = c.in-Some.ensures in
    IfOk-weaker c.multiple.result (λ v. v.items ≡ multiple p i a) (λ v. IsMonicOf p a v.items)
    (λ v e. monic_by_inverse p i a v.items c.in-Some.t.now h.value c.inv.ensures.inverse c.inv.ensures.residue c.requires.canonical e) c.multiple.ensures.value
