use Rattle.std.proofs.Common.{◌≡◌, ◌∙◌, ◌≤◌, ◌+◌, ◌-◌, ◌*◌, ◌%◌, [], length, get_or, arith, ap, subst, sym}
use Rattle.std.proofs.lemmas.List.{get_or_default}
use Rattle.prime_field.specs.Primes.{IsPrime}
use Rattle.frobenius_split.specs.Idempotents.{AreDivided}
use Rattle.frobenius_split.proofs.SplitLaws.{divided_more, less_moved, scaled_moved}
use Rattle.frobenius_split.proofs.idempotents.divided.Goals as goal

pub loop-j-preserved : goal.loop-j-preserved
loop-j-preserved c =
    let A = c.args.a.now in
    let prime = subst IsPrime (c.get-p.ensures.value ∙ c.prime.ensures) c.get-p.ensures.prime in
    let laws = c.one-one.ensures.laws in
    let values = c.args.values.now in
    let parts = c.args.parts.now in
    let j = c.loop-j.j in
    let D = c.loop-j.invariant in
    let two : 2 ≤ A.prime = prime.0 in
    let row_is = c.as_slice.ensures ∙ c.index-parts-j.is ∙ get_or_default c.args.parts.now c.loop-j.j c.index-parts-j.result [] c.loop-j-test.true in
    let part = scaled_moved _ A.prime _ A.dimension c.inv-factor.result c.as_slice.result.now (get_or parts j []) c.in_ok-part.part c.prime-in-loop-j-3.ensures (ap length row_is ∙ (c.requires.parts j [] c.loop-j-test.true).0) row_is c.in_ok-part.ensures in
    let rest = less_moved _ A.prime _ A.dimension 1 c.as_slice-in-loop-j.result.now c.loop-j.rest c.as_slice-in-loop-j-2.result.now c.in_ok-part.part c.in_ok-rest.rest c.prime-in-loop-j-4.ensures (ap length c.as_slice-in-loop-j.ensures ∙ D.rest.0) c.as_slice-in-loop-j.ensures c.as_slice-in-loop-j-2.ensures c.in_ok-rest.ensures in
    subst (λ ms. AreDivided A values parts c.args.c c.args.w.now (j + 1) ms c.in_ok-rest.rest) (sym c.in_ok-push.ensures.ok)
    (divided_more A prime laws values parts c.args.c c.args.w.now j c.loop-j.made c.loop-j.rest D c.inv-factor.result c.sub.result c.in_ok-part.part c.in_ok-rest.rest
    (c.sub.ensures.difference ∙ ap (λ q. (get_or values j 0 + (q - c.args.c)) % q) c.prime-in-loop-j-2.ensures)
    (subst (λ q. (c.sub.result * c.inv-factor.result) % q ≡ 1) c.prime-in-loop-j.ensures c.inv-factor.ensures.inverse) two part rest)

pub returns : goal.returns
returns c =
    let e : c.loop-j.j ≡ length c.args.parts.now = omega (arith, c.loop-j-test.false, c.loop-j.auto.j-end) in
    subst (λ n. AreDivided c.args.a.now c.args.values.now c.args.parts.now c.args.c c.args.w.now n c.loop-j.made c.loop-j.rest) e c.loop-j.invariant
