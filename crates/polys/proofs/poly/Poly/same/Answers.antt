use Rattle.std.proofs.Common.{◌≡◌, List, Bool, sym, ap, ◌∙◌, rules, eqb-true}
use Rattle.std.specs.Prelude.{IsTrue}
use Rattle.std.specs.Bool.{Decides}
use Rattle.std.proofs.lemmas.Slice.Eq.{slice_eq-Decides}
use Rattle.polys.specs.declared.term.Term.{Term}
use Rattle.polys.specs.Poly.{Polynomial}
use Rattle.polys.specs.contracts.term.TermPartialEq.TheImpl.{eq-value}
use Rattle.polys.proofs.poly.Poly.same.Goals as goal

decides : (a b : Term) → Decides (eq-value.it a b) (a ≡ b)
decides a b = search rules

agree : (f g : Polynomial) (a b : List Term) (r : Bool) → f.prime ≡ g.prime → a ≡ f.terms → b ≡ g.terms → Decides r (a ≡ b)
    → (IsTrue r → f ≡ g) × (f ≡ g → IsTrue r)
agree f g a b r e ea eb d = (
  λ h. let t = sym ea ∙ d.0 h ∙ eb in λ i. record { prime = e i; terms = t i },
  λ h. d.1 (ea ∙ ap (λ q. q.terms) h ∙ sym eb),
)

pub returns-then-eq : goal.returns-then-eq
returns-then-eq c =
    let d = slice_eq-Decides decides c.as_slice.result.now c.as_slice-then-eq.result.now c.eq-then-eq.result c.eq-then-eq.ensures in
    let p = eqb-true c.self.inside.prime c.other.inside.prime (sym c.if-eq.ensures) in
    agree c.args.self.now c.args.other.now c.as_slice.result.now c.as_slice-then-eq.result.now c.eq-then-eq.result
    (sym (ap (λ q. q.prime) c.self.view_is) ∙ p ∙ ap (λ q. q.prime) c.other.view_is) (c.as_slice.ensures.value ∙ ap (λ q. q.terms) c.self.view_is)
    (c.as_slice-then-eq.ensures.value ∙ ap (λ q. q.terms) c.other.view_is) d
