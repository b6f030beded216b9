use Rattle.std.proofs.Common.{ℕ, ◌+◌, refl, sym, ap, ◌∙◌, subst}
use Rattle.graded_modules.specs.Vector.{IsGenerator}
use Rattle.homogenising.specs.Homogenised.{homogenised_to}
use Rattle.denominator_module.specs.Module.{quotient_of}
use Rattle.lift_colon.specs.Lifted.{LiftedData, IsLifted, HasModule}
use Rattle.lift_colon.proofs.Lifting.{generator_at, none, pair_at, lift}
use Rattle.lift_colon.proofs.lifted.Lifted.lift.Goals as goal

pub normal_form_of-requires-clause-vector : goal.normal_form_of-requires-clause-vector
normal_form_of-requires-clause-vector c =
    let g = c.args.g.now.terms in
    let k = subst (λ x. IsLifted x × HasModule x c.self.inside.graded) c.self.view_is (c.self.invariant.0, c.self.invariant.1) in
    generator_at c.args.self.now c.self.inside.graded k.0 k.1 g c.requires.poly c.in_ok-high.high.terms (c.in_ok-high.ensures.terms ∙ ap (λ x. homogenised_to (x + 1000) g) c.degree.ensures)

pub returns-then-not-has_no_first_part-clause-none : goal.returns-then-not-has_no_first_part-clause-none
returns-then-not-has_no_first_part-clause-none c =
    let g = c.args.g.now.terms in
    let k = subst (λ x. IsLifted x × HasModule x c.self.inside.graded) c.self.view_is (c.self.invariant.0, c.self.invariant.1) in
    let e = c.in_ok-high.ensures.terms ∙ ap (λ x. homogenised_to (x + 1000) g) c.degree.ensures in
    let q =
    none c.args.self.now c.self.inside.graded k.0 k.1 g c.requires.poly c.in_ok-high.high.terms c.in_ok-rest.rest.terms e c.in_ok-rest.ensures.graded c.in_ok-rest.ensures.degree c.in_ok-rest.ensures.normal
    in (λ z x. (let w = c.if-not-has_no_first_part.ensures.1 (q.1 x) in absurd (cc)), λ z. refl)

pub quotient_of-requires-clause-homogeneous : goal.quotient_of-requires-clause-homogeneous
quotient_of-requires-clause-homogeneous c =
    let g = c.args.g.now.terms in
    let k = subst (λ x. IsLifted x × HasModule x c.self.inside.graded) c.self.view_is (c.self.invariant.0, c.self.invariant.1) in
    let e = c.in_ok-high.ensures.terms ∙ ap (λ x. homogenised_to (x + 1000) g) c.degree.ensures in
    subst (λ n. (shift : ℕ) × IsGenerator c.in_ok-rest.rest.prime n shift c.in_ok-rest.rest.terms) (sym (ap (λ (l : LiftedData). l.variables) c.self.view_is))
    (pair_at c.args.self.now c.self.inside.graded k.0 k.1 g c.requires.poly c.in_ok-high.high.terms c.in_ok-rest.rest.terms e c.in_ok-rest.ensures.graded c.in_ok-rest.ensures.degree c.in_ok-rest.ensures.normal
    c.in_ok-rest.rest.prime (c.in_ok-rest.ensures.prime ∙ k.1.prime))

pub returns-clause-some : goal.returns-clause-some
returns-clause-some c =
    let g = c.args.g.now.terms in
    let k = subst (λ x. IsLifted x × HasModule x c.self.inside.graded) c.self.view_is (c.self.invariant.0, c.self.invariant.1) in
    let e = c.in_ok-high.ensures.terms ∙ ap (λ x. homogenised_to (x + 1000) g) c.degree.ensures in
    let z = c.if-not-has_no_first_part.ensures.0 refl in
    let s = c.in_ok-rest.ensures.prime ∙ k.1.prime in (
      c.in_ok-quotient_of.ensures.prime ∙ s,
      lift c.args.self.now c.self.inside.graded k.0 k.1 g c.requires.poly c.in_ok-high.high.terms c.in_ok-rest.rest.terms e c.in_ok-rest.ensures.graded c.in_ok-rest.ensures.degree c.in_ok-rest.ensures.normal
          c.in_ok-quotient_of.field-0.terms z (c.in_ok-quotient_of.ensures.terms ∙ (λ i. quotient_of (s i) c.in_ok-rest.rest.terms)),
    )

pub returns-clause-none : goal.returns-clause-none
returns-clause-none c =
    let g = c.args.g.now.terms in
    let k = subst (λ x. IsLifted x × HasModule x c.self.inside.graded) c.self.view_is (c.self.invariant.0, c.self.invariant.1) in
    let e = c.in_ok-high.ensures.terms ∙ ap (λ x. homogenised_to (x + 1000) g) c.degree.ensures in
    let z = c.if-not-has_no_first_part.ensures.0 refl in
    let q =
    none c.args.self.now c.self.inside.graded k.0 k.1 g c.requires.poly c.in_ok-high.high.terms c.in_ok-rest.rest.terms e c.in_ok-rest.ensures.graded c.in_ok-rest.ensures.degree c.in_ok-rest.ensures.normal
    in (λ w x. absurd (cc), λ h. absurd (h (q.0 z)))
