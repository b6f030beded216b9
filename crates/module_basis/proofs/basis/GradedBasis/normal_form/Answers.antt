use Rattle.std.proofs.Common.{ℕ, subst}
use Rattle.std.specs.Prelude.{IfOk}
use Rattle.polys.specs.Poly.{Polynomial}
use Rattle.graded_modules.specs.Vector.{IsOfDegree}
use Rattle.module_basis.proofs.basis.GradedBasis.normal_form.Goals as goal

pub returns-clause-degree : goal.returns-clause-degree
returns-clause-degree c =
    subst
    (λ (f : Polynomial). IfOk c.normal_form_of.result (λ r. (e : ℕ) → IsOfDegree c.args.self.now.shift e f.terms → IsOfDegree c.args.self.now.shift e r.terms))
    c.in_ok-clone_poly.ensures c.normal_form_of.ensures.degree
