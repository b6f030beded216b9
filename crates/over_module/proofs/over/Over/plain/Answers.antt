use Rattle.std.proofs.Common.{◌≡◌, ◌↔◌, ap, ◌∙◌, subst, sym, refl}
use Rattle.prime_field.specs.Primes.{IsPrime}
use Rattle.polys.specs.Curve.{data_of}
use Rattle.curve_model.specs.Fraction.{Fraction, IsFraction, InA}
use Rattle.row_space.specs.Subspace.{Subspace}
use Rattle.row_space.proofs.Gathering.{empty_is}
use Rattle.over_laws.specs.Over.{OverData, InOver, HasRows}
use Rattle.over_module.proofs.WholeRing.{plain_rows, plain_fractions, none}
use Rattle.over_module.proofs.over.Over.plain.Goals as goal
use Rattle.over_module.proofs.over.Over.plain.Goals.{After-new-rows}

prime : (c : After-new-rows) → IsPrime c.args.curve.value.prime
prime c = subst IsPrime (c.get-p.ensures.value ∙ ap (λ C. C.prime) c.deref.ensures) c.get-p.ensures.prime

empty : (c : After-new-rows) → c.new-rows.result ≡ none c.args.curve.value c.args.n (prime c) c.requires.fit c.requires.dimension
empty c = c.new-rows.ensures ∙ empty_is c.deref.result.now.prime c.args.curve.value.prime 0 0 (ap (λ C. C.prime) c.deref.ensures) refl

pub of_rows-requires : goal.of_rows-requires
of_rows-requires c =
    let w = (goal.at.of_rows-requires c).After-new-rows in
    subst (λ s. HasRows (record { curve = c.args.curve.value; dimension = c.args.n; power = 0; rows = s })) (sym (empty w))
    (plain_rows c.args.curve.value c.args.n (prime w) c.requires.fit c.requires.dimension)

pub returns-clause-fractions : goal.returns-clause-fractions
returns-clause-fractions c =
    let w = (goal.at.returns-clause-fractions c).After-new-rows in
    let by_rows : Subspace → OverData = λ s. record { curve = c.args.curve.value; dimension = c.args.n; power = 0; rows = s } in
    subst (λ o. (f : Fraction) → IsFraction (data_of c.args.curve.value) f → InOver o f ↔ InA (data_of c.args.curve.value) f) (sym (c.of_rows.ensures ∙ ap by_rows (empty w)))
    (plain_fractions c.args.curve.value c.args.n (prime w) c.requires.fit c.requires.dimension)
