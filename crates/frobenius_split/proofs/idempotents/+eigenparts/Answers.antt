use Rattle.std.proofs.Common.{◌∙◌, ◌<◌, ◌-◌, ◌++◌, ◌∷◌, [], ℕ, List, All, length, get_or, take, arith, subst, sym, ⊎_elim}
use Rattle.std.proofs.Math.ListN.{length-take}
use Rattle.std.proofs.lemmas.List.Elements.{All-push, All-take}
use Rattle.prime_field.specs.Primes.{IsPrime}
use Rattle.finite_algebra.specs.Elements.{IsElement, elements, times}
use Rattle.frobenius_split.specs.Parts.{less_number}
use Rattle.frobenius_split.specs.Idempotents.{AreDivided, AreEigenparts}
use Rattle.frobenius_split.proofs.SplitLaws.{below_last, lowered_next, made_one, rest_one, take_rising, with_last, with_rest, without_rest}
use Rattle.frobenius_split.proofs.idempotents.+eigenparts.Goals as goal

pub eigenparts-requires : goal.eigenparts-requires
eigenparts-requires t c =
    let A = c.args.a.now in
    let prime = subst IsPrime (c.get-p.ensures.value ∙ c.prime.ensures) c.get-p.ensures.prime in
    let laws = c.one-one.ensures.laws in
    let roots = c.args.roots.now in
    let some : 0 < length c.args.roots.now = omega (arith, c.if-roots-eq0.false) in
    let last : ℕ = length roots - 1 in (
      omega (arith, length-take (length c.args.roots.now - 1) c.args.roots.now),
      (
        c.requires.table,
        (
          subst (IsElement A) (sym c.as_slice.ensures) c.in_ok-next.ensures.element,
          (
            All-take (λ x. x < A.prime) (length roots - 1) roots c.requires.residues,
            (
              take_rising (length roots - 1) roots c.requires.rising,
              lowered_next A prime laws c.args.u.now roots (take (length roots - 1) roots) (get_or roots (length roots - 1) 0) c.args.w.now c.as_slice.result.now (with_last roots some)
                  (subst (λ r. (elements A).◌≋◌ r (times A (less_number A c.args.u.now (get_or roots (length roots - 1) 0)) c.args.w.now)) (sym c.as_slice.ensures) c.in_ok-next.ensures.product) c.requires.lowered,
            ),
          ),
        ),
      ),
    )

pub divided-requires-clause-values : goal.divided-requires-clause-values
divided-requires-clause-values t c =
    let roots = c.args.roots.now in
    let some : 0 < length c.args.roots.now = omega (arith, c.if-roots-eq0.false) in
    subst (All (λ x. x < get_or roots (length roots - 1) 0)) (sym c.as_slice-2.ensures) (c.in_ok-values.ensures.below (get_or roots (length roots - 1) 0) (below_last roots c.requires.rising some))

pub returns-clause-parts : goal.returns-clause-parts
returns-clause-parts t c =
    let A = c.args.a.now in
    let prime = subst IsPrime (c.get-p.ensures.value ∙ c.prime.ensures) c.get-p.ensures.prime in
    let laws = c.one-one.ensures.laws in
    let roots = c.args.roots.now in
    let some : 0 < length c.args.roots.now = omega (arith, c.if-roots-eq0.false) in
    let x : ℕ = get_or roots (length roots - 1) 0 in
    let small : get_or c.args.roots.now (length c.args.roots.now - 1) 0 < c.args.a.now.prime = c.requires.residues (length roots - 1) 0 (omega arith) in
    let lower = subst (λ r. (elements A).◌≋◌ r (times A (less_number A c.args.u.now (get_or roots (length roots - 1) 0)) c.args.w.now)) (sym c.as_slice.ensures) c.in_ok-next.ensures.product in
    let vs = c.in_ok-values.values in
    let ps = c.in_ok-values.parts in
    let D = subst (λ qs. AreDivided A vs qs (get_or roots (length roots - 1) 0) c.args.w.now (length qs) c.in_ok-made.made c.in_ok-made.rest) c.as_slice-3.ensures
    (subst (λ us. AreDivided A us c.as_slice-3.result.now (get_or roots (length roots - 1) 0) c.args.w.now (length c.as_slice-3.result.now) c.in_ok-made.made c.in_ok-made.rest) c.as_slice-2.ensures c.in_ok-made.ensures) in
    ⊎_elim
    (λ h. subst (λ us. AreEigenparts A c.args.u.now c.args.w.now us c.in_ok-found.found.1) (sym h.0) (subst (AreEigenparts A c.args.u.now c.args.w.now (vs ++ get_or roots (length roots - 1) 0 ∷ [])) (sym h.1)
    (with_rest A prime laws c.args.u.now c.args.w.now c.as_slice.result.now (get_or roots (length roots - 1) 0) small lower vs ps c.in_ok-values.ensures.parts c.in_ok-made.made c.in_ok-made.rest D
    (c.in_ok-values.ensures.below (get_or roots (length roots - 1) 0) (below_last roots c.requires.rising some)) h.2)))
    (λ h. subst (λ us. AreEigenparts A c.args.u.now c.args.w.now us c.in_ok-found.found.1) (sym h.0) (subst (AreEigenparts A c.args.u.now c.args.w.now vs) (sym h.1)
    (without_rest A prime laws c.args.u.now c.args.w.now c.as_slice.result.now (get_or roots (length roots - 1) 0) small lower vs ps c.in_ok-values.ensures.parts c.in_ok-made.made c.in_ok-made.rest D h.2)))
    c.in_ok-found.ensures

pub returns-clause-below : goal.returns-clause-below
returns-clause-below t c = λ b below.
    let roots = c.args.roots.now in
    let some : 0 < length c.args.roots.now = omega (arith, c.if-roots-eq0.false) in
    let vs = c.in_ok-values.values in
    let low = c.in_ok-values.ensures.below b (All-take (λ x. x < b) (length roots - 1) roots below) in
    ⊎_elim
    (λ h. subst (All (λ x. x < b)) (sym h.0) (All-push (λ x. x < b) vs (get_or roots (length roots - 1) 0) low (below (length roots - 1) 0 (omega (arith, some)))))
    (λ h. subst (All (λ x. x < b)) (sym h.0) low)
    c.in_ok-found.ensures

pub returns-clause-inside : goal.returns-clause-inside
returns-clause-inside t c = λ e one.
    let A = c.args.a.now in
    let prime = subst IsPrime (c.get-p.ensures.value ∙ c.prime.ensures) c.get-p.ensures.prime in
    let laws = c.one-one.ensures.laws in
    let roots = c.args.roots.now in
    let small : get_or c.args.roots.now (length c.args.roots.now - 1) 0 < c.args.a.now.prime = c.requires.residues (length roots - 1) 0 (let some : 0 < length c.args.roots.now = omega (arith, c.if-roots-eq0.false) in omega arith) in
    let lower = subst (λ r. (elements A).◌≋◌ r (times A (less_number A c.args.u.now (get_or roots (length roots - 1) 0)) c.args.w.now)) (sym c.as_slice.ensures) c.in_ok-next.ensures.product in
    let vs = c.in_ok-values.values in
    let ps = c.in_ok-values.parts in
    let D = subst (λ qs. AreDivided A vs qs (get_or roots (length roots - 1) 0) c.args.w.now (length qs) c.in_ok-made.made c.in_ok-made.rest) c.as_slice-3.ensures
    (subst (λ us. AreDivided A us c.as_slice-3.result.now (get_or roots (length roots - 1) 0) c.args.w.now (length c.as_slice-3.result.now) c.in_ok-made.made c.in_ok-made.rest) c.as_slice-2.ensures c.in_ok-made.ensures) in
    let P = λ (f : List ℕ). (elements A).◌≋◌ (times A e f) f in
    let made = made_one A prime laws c.args.u.now c.args.w.now c.as_slice.result.now (get_or roots (length roots - 1) 0) small lower vs ps c.in_ok-values.ensures.parts c.in_ok-made.made c.in_ok-made.rest D e one (c.in_ok-values.ensures.inside e) in
    let rest = rest_one A prime laws c.args.u.now c.args.w.now c.as_slice.result.now (get_or roots (length roots - 1) 0) small lower vs ps c.in_ok-values.ensures.parts c.in_ok-made.made c.in_ok-made.rest D e one (c.in_ok-values.ensures.inside e) in
    ⊎_elim
    (λ h. subst (All P) (sym h.1) (All-push P c.in_ok-made.made c.in_ok-made.rest made rest))
    (λ h. subst (All P) (sym h.1) made)
    c.in_ok-found.ensures
