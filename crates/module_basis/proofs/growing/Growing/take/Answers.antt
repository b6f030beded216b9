use Rattle.std.proofs.Common.{◌≡◌, ◌≢◌, List, [], length, sym, ap, ◌∙◌, subst, arith, eqb-true}
use Rattle.std.specs.Vec.{vec_len}
use Rattle.std.proofs.lemmas.Bool.{eqb-false}
use Rattle.prime_field.specs.Primes.{IsPrime}
use Rattle.polys.specs.declared.term.Term.{Term}
use Rattle.polys.specs.Poly.{Polynomial, terms_of}
use Rattle.polys.specs.Terms.{EachMono, IsMonicOf}
use Rattle.polys.proofs.Products.{none_from_length}
use Rattle.graded_modules.specs.Module.{IsLeadMultiple, InModule}
use Rattle.module_division.specs.Division.{Reduces}
use Rattle.module_basis.specs.Growing.{IsBelowAll}
use Rattle.module_basis.proofs.Growth.{divisors}
use Rattle.module_basis.proofs.Adding.{nothing_gained, keeps_all, adds_rest, AddsRest}
use Rattle.module_basis.proofs.growing.Growing.take.Goals as goal
use Rattle.module_basis.proofs.growing.Growing.take.Goals.{In_ok-rest, In_ok-b}

some : (r : List Term) → (length r ≡ 0 → ⊥) → r ≢ []
some r h e = h (ap length e)

pub remainder-requires-clause-divisors : goal.remainder-requires-clause-divisors
remainder-requires-clause-divisors c =
    let h = c.requires.degree in
    let k = c.get-cap.ensures.within in
    let cap = c.get-cap.ensures.value in
    rw c.deref.ensures.value (divisors c.args.gens.now c.args.e c.args.self.now (omega arith) c.requires.growing)

pub returns-then-is_empty-clause-gains : goal.returns-then-is_empty-clause-gains
returns-then-is_empty-clause-gains c = nothing_gained c.args.gens.now c.args.e c.args.self.now

-- where nothing is left
kept : (c : In_ok-rest) → length c.in_ok-rest.rest.items ≡ 0
    → InModule c.args.gens.now.prime c.args.gens.now.variables (terms_of c.args.self.now.basis.items) c.args.v.items
    × IsBelowAll c.args.gens.now c.args.e (terms_of c.args.self.now.basis.items) c.args.v.items
kept c none =
    let h = c.requires.degree in
    let k = c.get-cap.ensures.within in
    let cap = c.get-cap.ensures.value in
    let rest = c.in_ok-rest.rest.items in
    keeps_all c.args.gens.now c.args.e (omega arith) (subst IsPrime c.get-prime.ensures.value c.get-prime.ensures.prime) c.args.self.now c.requires.growing c.args.v.items rest c.requires.vector
    (subst (λ xs. Reduces c.args.gens.now.prime (terms_of xs) c.args.v.items rest) c.deref.ensures.value c.in_ok-rest.ensures.reduces) c.in_ok-rest.ensures.known
    (none_from_length rest none)

-- where something is, made monic
added : (c : In_ok-b) → AddsRest c.args.gens.now c.args.e c.args.self.now c.args.v.items c.in_ok-b.b
added c =
    let h = c.requires.degree in
    let k = c.get-cap.ensures.within in
    let cap = c.get-cap.ensures.value in
    let rest = c.in_ok-rest.rest.items in
    let z = eqb-false (vec_len c.in_ok-rest.rest) 0 (sym c.if-is_empty.ensures) in
    adds_rest c.args.gens.now c.args.e (omega arith) (subst IsPrime c.get-prime.ensures.value c.get-prime.ensures.prime) c.args.self.now c.requires.growing c.args.v.items rest c.requires.vector
    (subst (λ xs. Reduces c.args.gens.now.prime (terms_of xs) c.args.v.items rest) c.deref.ensures.value c.in_ok-rest.ensures.reduces) c.in_ok-rest.ensures.known
    (subst (λ xs. EachMono (λ m. IsLeadMultiple (terms_of xs) m → ⊥) rest) c.deref.ensures.value c.in_ok-rest.ensures.outside)
    c.in_ok-b.b (c.in_ok-b.ensures.prime ∙ ap (λ (f : Polynomial). f.prime) c.of_terms.ensures) (some rest (λ q. z (omega arith)))
    (subst (λ (f : Polynomial). IsMonicOf f.prime f.terms c.in_ok-b.b.terms) c.of_terms.ensures c.in_ok-b.ensures.monic)

pub returns-then-is_empty-clause-member : goal.returns-then-is_empty-clause-member
returns-then-is_empty-clause-member c =
    let z = eqb-true (vec_len c.in_ok-rest.rest) 0 (sym c.if-is_empty.ensures) in
    (kept (goal.at.returns-then-is_empty-clause-member c).In_ok-rest (omega arith)).0

pub returns-then-is_empty-clause-below : goal.returns-then-is_empty-clause-below
returns-then-is_empty-clause-below c =
    let z = eqb-true (vec_len c.in_ok-rest.rest) 0 (sym c.if-is_empty.ensures) in
    (kept (goal.at.returns-then-is_empty-clause-below c).In_ok-rest (omega arith)).1

pub add-requires-clause-fresh : goal.add-requires-clause-fresh
add-requires-clause-fresh c = (added (goal.at.add-requires-clause-fresh c).In_ok-b).fresh

pub returns-clause-member : goal.returns-clause-member
returns-clause-member c = (added (goal.at.returns-clause-member c).In_ok-b).member c.add.new.self.basis.items c.in_ok-add.ensures.vectors

pub returns-clause-below : goal.returns-clause-below
returns-clause-below c = (added (goal.at.returns-clause-below c).In_ok-b).below c.add.new.self.basis.items c.in_ok-add.ensures.vectors
