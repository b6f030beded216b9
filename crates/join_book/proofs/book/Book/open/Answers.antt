use Rattle.std.proofs.Common.{rules, ◌≡◌, ◌↔◌, ℕ, List, [], sym, subst}
use Rattle.prime_field.specs.Primes.{IsPrime}
use Rattle.polys.specs.Curve.{data_of}
use Rattle.curve_model.specs.Fraction.{Fraction, IsFraction, InA}
use Rattle.over_laws.specs.Over.{InOver}
use Rattle.over_module.specs.Done.{DoneData}
use Rattle.join_book.specs.Book.{BookData, BookIs}
use Rattle.join_book.proofs.Books.{opened}
use Rattle.join_book.proofs.book.Book.open.Goals as goal

pub invariant_of-result : goal.invariant_of-result
invariant_of-result c =
    let prime : IsPrime c.args.curve.value.prime = search rules in
    let over : c.plain-sum.result.curve ≡ c.args.curve.value = search rules in
    let entries : c.in_ok-entries.entries.items ≡ [] = search rules in
    let joined : c.in_ok-joined.joined.items ≡ [] = search rules in
    let same : c.in_ok-try_clone.field-0.value ≡ c.args.curve.value = search rules in
    let with : List DoneData → List (ℕ × ℕ) → BookData = λ es js. record { curve = c.args.curve.value; points = c.args.points; limit = c.args.limit; entries = es; joined = js; settled = 0; sum = c.plain-sum.result } in (
      subst (λ es. BookIs (with es c.in_ok-joined.joined.items)) (sym entries) (subst (λ js. BookIs (with [] js)) (sym joined)
          (opened c.args.curve.value c.args.points c.args.limit c.plain-sum.result prime c.requires.fit c.requires.points c.requires.limit.0 c.requires.limit.1 over
          (subst (λ C. (f : Fraction) → IsFraction (data_of C) f → InOver c.plain-sum.result f ↔ InA (data_of C) f) same c.plain-sum.ensures.fractions))),
      (search rules, search rules),
    )
