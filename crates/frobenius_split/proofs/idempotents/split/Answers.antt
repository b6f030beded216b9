use Rattle.std.proofs.Common.{◌≡◌, ◌∙◌, ◌+◌, ◌++◌, [], ℕ, suc, List, All, get_or, drop, arith, subst, sym}
use Rattle.std.proofs.Math.Seq.{drop-cons}
use Rattle.std.proofs.lemmas.List.{append_assoc, get_or_default}
use Rattle.std.proofs.lemmas.List.Elements.{All-append}
use Rattle.prime_field.specs.Primes.{IsPrime}
use Rattle.finite_algebra.specs.Elements.{elements, times}
use Rattle.frobenius_split.specs.Idempotents.{AreIdempotents, AreIdempotentsIn, IsNumberAt}
use Rattle.frobenius_split.proofs.IdempotentLaws.{number_at_parts, own_square, replaced}
use Rattle.frobenius_split.proofs.idempotents.split.Goals as goal

pub pieces-requires-clause-square : goal.pieces-requires-clause-square
pieces-requires-clause-square c =
    let A = c.args.a.now in
    let prime = subst IsPrime (c.get-p.ensures.value ∙ c.prime.ensures) c.get-p.ensures.prime in
    let laws = c.one-one.ensures.laws in
    let row_is = c.as_slice-in-loop-i.ensures ∙ c.index-es-i.is ∙ get_or_default c.args.es.now c.loop-i.i c.index-es-i.result [] c.loop-i-test.true in
    subst (λ (r : List ℕ). (elements A).◌≋◌ (times A r r) r) (sym row_is) (own_square A prime laws A.one c.args.es.now c.requires.es c.loop-i.i c.loop-i-test.true)

pub loop-i-preserved : goal.loop-i-preserved
loop-i-preserved c =
    let A = c.args.a.now in
    let prime = subst IsPrime (c.get-p.ensures.value ∙ c.prime.ensures) c.get-p.ensures.prime in
    let laws = c.one-one.ensures.laws in
    let es = c.args.es.now in
    let i = c.loop-i.i in
    let found = c.loop-i.found in
    let parts = c.in_ok-parts.parts in
    let w = c.loop-i.invariant in
    let row_is = c.as_slice-in-loop-i.ensures ∙ c.index-es-i.is ∙ get_or_default c.args.es.now c.loop-i.i c.index-es-i.result [] c.loop-i-test.true in
    let split = subst (λ (e : List ℕ). AreIdempotentsIn A e parts) row_is c.in_ok-parts.ensures.parts in
    let before = subst (λ xs. AreIdempotents A (found ++ xs)) (drop-cons es i [] c.loop-i-test.true) w.whole in
    let next : suc c.loop-i.i ≡ c.loop-i.i + 1 = omega arith in
    record {
      whole = subst (λ fs. AreIdempotents A (fs ++ drop (i + 1) es)) (sym c.in_ok-found.ensures) (subst (λ k. AreIdempotents A ((found ++ parts) ++ drop k es)) next
          (subst (AreIdempotents A) (sym (append_assoc found parts (drop (suc i) es))) (replaced A prime laws (get_or es i []) (drop (suc i) es) parts split found before)));
      numbers = subst (All (IsNumberAt A c.args.u.now)) (sym c.in_ok-found.ensures) (All-append (IsNumberAt A c.args.u.now) found parts w.numbers c.in_ok-parts.ensures.numbers);
      keeps = λ v h. subst (All (IsNumberAt A v)) (sym c.in_ok-found.ensures) (All-append (IsNumberAt A v) found parts (w.keeps v h) (number_at_parts A prime laws (get_or es i []) [] parts split v (h i [] c.loop-i-test.true)));
    }
