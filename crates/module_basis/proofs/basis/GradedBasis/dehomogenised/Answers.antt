use Rattle.std.proofs.Common.{◌≡◌, List, map, sym, ap, ◌∙◌, subst}
use Rattle.std.specs.List.{All}
use Rattle.prime_field.specs.Primes.{IsPrime}
use Rattle.polys.specs.Curve.{IsOver}
use Rattle.polys.specs.Poly.{Polynomial, IsPlain, IsVector, terms_of}
use Rattle.polys.specs.Terms.{EachMono}
use Rattle.polys.specs.declared.term.Term.{Term}
use Rattle.graded_modules.specs.Bases.{SpanOneModule}
use Rattle.homogenising.specs.Homogenised.{all_dehomogenised}
use Rattle.homogenising.specs.Laws.{IsHomogeneousPoly}
use Rattle.module_division.proofs.IdealBases.{IsIdealBasis}
use Rattle.module_basis.specs.declared.gens.Gens.{Gens}
use Rattle.module_division.specs.Division.{IsDivisor}
use Rattle.module_division.specs.Reduction.{IsInterreduced}
use Rattle.module_basis.specs.Basis.{lowered_of, IsLoweredBasis, HasLoweredLeads}
use Rattle.module_basis.proofs.Ideals.{homogeneous, lowered_divisors, lowered_basis, self_spans}
use Rattle.module_basis.proofs.basis.GradedBasis.dehomogenised.Goals as goal
use Rattle.module_basis.proofs.basis.GradedBasis.dehomogenised.Goals.{In_ok-reduced}

pub all_lowered-requires-clause-homogeneous : goal.all_lowered-requires-clause-homogeneous
all_lowered-requires-clause-homogeneous c =
    let b : Gens = record { prime = c.self.inside.prime; variables = c.self.inside.variables; shift = c.self.inside.shift; vectors = c.self.inside.vectors.items } in
    let prime = subst IsPrime c.get-prime.ensures.value c.get-prime.ensures.prime in
    let plain : All (EachMono IsPlain) (terms_of b.vectors) = subst (λ x. All (EachMono IsPlain) (terms_of x.vectors)) (sym c.self.view_is) c.requires.plain in
    subst (λ xs. All (IsHomogeneousPoly b.prime b.variables) (terms_of xs)) (sym c.deref.ensures.value) (homogeneous b c.self.invariant plain)

pub interreduced_vectors-requires : goal.interreduced_vectors-requires
interreduced_vectors-requires c =
    let b : Gens = record { prime = c.self.inside.prime; variables = c.self.inside.variables; shift = c.self.inside.shift; vectors = c.self.inside.vectors.items } in
    let prime = subst IsPrime c.get-prime.ensures.value c.get-prime.ensures.prime in
    let plain : All (EachMono IsPlain) (terms_of b.vectors) = subst (λ x. All (EachMono IsPlain) (terms_of x.vectors)) (sym c.self.view_is) c.requires.plain in
    let same : c.in_ok-affine.affine.items ≡ map (lowered_of b.prime) b.vectors = c.in_ok-affine.ensures.value ∙ ap (map (lowered_of b.prime)) c.deref.ensures.value in
    let known : All (λ (f : Polynomial). IsVector b.prime f.terms) (map (lowered_of b.prime) b.vectors) = subst (All (λ (f : Polynomial). IsVector b.prime f.terms)) same c.in_ok-affine.ensures.known in
    let laws = c.leads_lose_the_variable.ensures in
    let stay = c.leads_stay_leads.ensures in
    let law = c.ideals_have_bases_by_leads.ensures in
    subst (All (IsDivisor b.prime)) (sym (c.deref-2.ensures.value ∙ same)) (lowered_divisors laws stay law b c.self.invariant prime plain known)

-- the basis as contracts see it
abbrev seen : In_ok-reduced → Gens
seen c = record { prime = c.self.inside.prime; variables = c.self.inside.variables; shift = c.self.inside.shift; vectors = c.self.inside.vectors.items }

plain : (c : In_ok-reduced) → All (EachMono IsPlain) (terms_of (seen c).vectors)
plain c = subst (λ x. All (EachMono IsPlain) (terms_of x.vectors)) (sym c.self.view_is) c.requires.plain

-- what is left at the end is the basis of the ideal
answer : (c : In_ok-reduced) (gs : List (List Term)) → All (IsHomogeneousPoly c.self.inside.prime c.self.inside.variables) gs
    → SpanOneModule c.self.inside.prime c.self.inside.variables gs (terms_of (seen c).vectors)
    → IsIdealBasis c.self.inside.prime c.self.inside.variables (all_dehomogenised c.self.inside.prime gs) c.in_ok-reduced.reduced.items
answer c gs all one =
    let b = seen c in
    let ds = c.in_ok-reduced.reduced.items in
    let same : c.in_ok-affine.affine.items ≡ map (lowered_of b.prime) b.vectors = c.in_ok-affine.ensures.value ∙ ap (map (lowered_of b.prime)) c.deref.ensures.value in
    let known : All (λ (f : Polynomial). IsVector b.prime f.terms) (map (lowered_of b.prime) b.vectors) = subst (All (λ (f : Polynomial). IsVector b.prime f.terms)) same c.in_ok-affine.ensures.known in
    let r : IsInterreduced b.prime (terms_of (map (lowered_of b.prime) b.vectors)) ds =
    subst (λ xs. IsInterreduced b.prime (terms_of xs) ds) (c.deref-2.ensures.value ∙ same) c.in_ok-reduced.ensures in
    lowered_basis c.leads_lose_the_variable.ensures c.leads_stay_leads.ensures c.ideals_have_bases_by_leads.ensures b c.self.invariant
    (subst IsPrime c.get-prime.ensures.value c.get-prime.ensures.prime) (plain c) known ds r gs all one

pub returns-clause-over : goal.returns-clause-over
returns-clause-over c =
    let at = (goal.at.returns-clause-over c).In_ok-reduced in
    let b = seen at in
    subst (λ x. All (IsOver x.prime x.variables) c.of_vec.result) c.self.view_is
    (subst (All (IsOver b.prime b.variables)) (sym c.of_vec.ensures) (answer at (terms_of b.vectors) (homogeneous b c.self.invariant (plain at)) (self_spans b)).over)

pub returns-clause-basis : goal.returns-clause-basis
returns-clause-basis c =
    let at = (goal.at.returns-clause-basis c).In_ok-reduced in
    subst (λ x. IsLoweredBasis x (terms_of c.of_vec.result)) c.self.view_is
    (subst (λ xs. IsLoweredBasis (seen at) (terms_of xs)) (sym c.of_vec.ensures) (λ gs all one. (answer at gs all one).basis))

pub returns-clause-leads : goal.returns-clause-leads
returns-clause-leads c =
    let at = (goal.at.returns-clause-leads c).In_ok-reduced in
    subst (λ x. HasLoweredLeads x (terms_of c.of_vec.result)) c.self.view_is
    (subst (λ xs. HasLoweredLeads (seen at) (terms_of xs)) (sym c.of_vec.ensures) (λ gs all one. (answer at gs all one).leads))
