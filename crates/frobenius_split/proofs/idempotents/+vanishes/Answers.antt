use Rattle.std.proofs.Common.{◌≡◌, ◌<◌, ◌-◌, length, get_or, take, arith, subst, sym}
use Rattle.std.proofs.Math.ListN.{length-take}
use Rattle.std.proofs.lemmas.List.Elements.{All-take}
use Rattle.prime_field.specs.Primes.{IsPrime}
use Rattle.std.proofs.Common.{◌∙◌}
use Rattle.finite_algebra.specs.Elements.{IsElement, elements, times}
use Rattle.frobenius_split.specs.Parts.{less_number}
use Rattle.frobenius_split.proofs.SplitLaws.{lowered_back, lowered_none, with_last}
use Rattle.frobenius_split.proofs.idempotents.+vanishes.Goals as goal

pub returns-then-roots-eq0 : goal.returns-then-roots-eq0
returns-then-roots-eq0 t c = λ yes.
    let A = c.args.a.now in
    let prime = subst IsPrime (c.get-p.ensures.value ∙ c.prime.ensures) c.get-p.ensures.prime in
    let none : length c.args.roots.now ≡ 0 = omega (arith, c.if-roots-eq0.true) in
    lowered_none A prime c.one-one.ensures.laws c.args.u.now c.args.roots.now c.args.w.now none c.requires.w (c.is_zero-yes.ensures yes)

pub vanishes-requires : goal.vanishes-requires
vanishes-requires t c =
    let A = c.args.a.now in
    let roots = c.args.roots.now in
    let some : 0 < length c.args.roots.now = omega (arith, c.if-roots-eq0.false) in (
      omega (arith, length-take (length c.args.roots.now - 1) c.args.roots.now),
      (
        c.requires.table,
        (
          subst (IsElement A) (sym c.as_slice.ensures) c.in_ok-next.ensures.element,
          All-take (λ x. x < A.prime) (length roots - 1) roots c.requires.residues,
        ),
      ),
    )

pub returns : goal.returns
returns t c = λ yes.
    let A = c.args.a.now in
    let prime = subst IsPrime (c.get-p.ensures.value ∙ c.prime.ensures) c.get-p.ensures.prime in
    let roots = c.args.roots.now in
    let some : 0 < length c.args.roots.now = omega (arith, c.if-roots-eq0.false) in
    lowered_back A prime c.one-one.ensures.laws c.args.u.now roots (take (length roots - 1) roots) (get_or roots (length roots - 1) 0) c.args.w.now c.as_slice.result.now (with_last roots some)
    (subst (λ r. (elements A).◌≋◌ r (times A (less_number A c.args.u.now (get_or roots (length roots - 1) 0)) c.args.w.now)) (sym c.as_slice.ensures) c.in_ok-next.ensures.product) (c.in_ok-yes.ensures yes)
