use Rattle.std.proofs.Common.{◌≡◌, ℕ, List, sym, ap, subst}
use Rattle.prime_field.specs.Primes.{IsPrime}
use Rattle.polys.specs.declared.term.Term.{Term}
use Rattle.polys.specs.Poly.{Polynomial, terms_of}
use Rattle.polys.specs.Terms.{EachMono}
use Rattle.graded_modules.specs.Vector.{IsGradedVector, IsOfDegree}
use Rattle.graded_modules.specs.Module.{IsLeadMultiple}
use Rattle.graded_modules.specs.Bases.{IsNormalForm}
use Rattle.module_basis.specs.declared.gens.Gens.{Gens}
use Rattle.module_division.specs.Division.{Reduces}
use Rattle.module_basis.proofs.Whole.{normal_at}
use Rattle.module_basis.proofs.basis.GradedBasis.normal_form_of.Goals as goal

pub returns-clause-normal : goal.returns-clause-normal
returns-clause-normal c =
    let b : Gens = record { prime = c.self.inside.prime; variables = c.self.inside.variables; shift = c.self.inside.shift; vectors = c.self.inside.vectors.items } in
    let e : c.args.self.now ≡ b = sym c.self.view_is in
    let rest = c.in_ok-rest.rest.items in
    let v = c.args.v.terms in
    let from : c.into_terms-terms.result.items ≡ v = c.into_terms-terms.ensures.value in
    let out : c.of_terms.result.terms ≡ rest = ap (λ (f : Polynomial). f.terms) c.of_terms.ensures in
    let x = normal_at c.args.self.now b e c.self.invariant (subst IsPrime c.get-prime.ensures.value c.get-prime.ensures.prime) v rest c.requires.vector
    (subst (λ xs. Reduces b.prime (terms_of xs) v rest) c.deref.ensures.value (subst (λ y. Reduces b.prime (terms_of c.deref.result.now) y rest) from c.in_ok-rest.ensures.reduces))
    c.in_ok-rest.ensures.known (subst (λ xs. EachMono (λ m. IsLeadMultiple (terms_of xs) m → ⊥) rest) c.deref.ensures.value c.in_ok-rest.ensures.outside) in
    subst (IsNormalForm c.args.self.now.prime c.args.self.now.variables (terms_of c.args.self.now.vectors) v) (sym out) x.0

pub returns-clause-graded : goal.returns-clause-graded
returns-clause-graded c =
    let b : Gens = record { prime = c.self.inside.prime; variables = c.self.inside.variables; shift = c.self.inside.shift; vectors = c.self.inside.vectors.items } in
    let e : c.args.self.now ≡ b = sym c.self.view_is in
    let rest = c.in_ok-rest.rest.items in
    let v = c.args.v.terms in
    let from : c.into_terms-terms.result.items ≡ v = c.into_terms-terms.ensures.value in
    let out : c.of_terms.result.terms ≡ rest = ap (λ (f : Polynomial). f.terms) c.of_terms.ensures in
    let x = normal_at c.args.self.now b e c.self.invariant (subst IsPrime c.get-prime.ensures.value c.get-prime.ensures.prime) v rest c.requires.vector
    (subst (λ xs. Reduces b.prime (terms_of xs) v rest) c.deref.ensures.value (subst (λ y. Reduces b.prime (terms_of c.deref.result.now) y rest) from c.in_ok-rest.ensures.reduces))
    c.in_ok-rest.ensures.known (subst (λ xs. EachMono (λ m. IsLeadMultiple (terms_of xs) m → ⊥) rest) c.deref.ensures.value c.in_ok-rest.ensures.outside) in
    subst (IsGradedVector c.args.self.now.prime c.args.self.now.variables) (sym out) x.1

pub returns-clause-degree : goal.returns-clause-degree
returns-clause-degree c =
    let b : Gens = record { prime = c.self.inside.prime; variables = c.self.inside.variables; shift = c.self.inside.shift; vectors = c.self.inside.vectors.items } in
    let e : c.args.self.now ≡ b = sym c.self.view_is in
    let rest = c.in_ok-rest.rest.items in
    let v = c.args.v.terms in
    let from : c.into_terms-terms.result.items ≡ v = c.into_terms-terms.ensures.value in
    let out : c.of_terms.result.terms ≡ rest = ap (λ (f : Polynomial). f.terms) c.of_terms.ensures in
    let x = normal_at c.args.self.now b e c.self.invariant (subst IsPrime c.get-prime.ensures.value c.get-prime.ensures.prime) v rest c.requires.vector
    (subst (λ xs. Reduces b.prime (terms_of xs) v rest) c.deref.ensures.value (subst (λ y. Reduces b.prime (terms_of c.deref.result.now) y rest) from c.in_ok-rest.ensures.reduces))
    c.in_ok-rest.ensures.known (subst (λ xs. EachMono (λ m. IsLeadMultiple (terms_of xs) m → ⊥) rest) c.deref.ensures.value c.in_ok-rest.ensures.outside) in
    subst (λ (r : List Term). (e : ℕ) → IsOfDegree c.args.self.now.shift e v → IsOfDegree c.args.self.now.shift e r) (sym out) x.2
