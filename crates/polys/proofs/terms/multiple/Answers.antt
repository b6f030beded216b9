use Rattle.std.proofs.Common.{◌%◌, ◌*◌, arith, map, refl, sym, ap, ◌∙◌, subst}
use Rattle.std.proofs.lemmas.List.{take_all}
use Rattle.prime_field.specs.Primes.{IsPrime}
use Rattle.polys.specs.declared.term.Term.{Term}
use Rattle.polys.specs.Poly.{IsVector}
use Rattle.polys.proofs.Merge.{coeff_at}
use Rattle.polys.proofs.Products.{times_residue, multiple_by_residue, residue_vector, map_more, product_below}
use Rattle.polys.proofs.terms.multiple.Goals as goal

pub overflow_mul-c : goal.overflow_mul-c
overflow_mul-c c =
    let p = c.get-modulus.ensures.value in
    let r = c.get-modulus.ensures.range in
    let low = coeff_at c.args.p c.args.a.now c.loop-t.t-index c.t-item.result c.requires.terms.canonical c.loop-t-test.true c.t-item.is in
    let h = product_below c.args.p c.args.c c.t-item.result.coeff (omega arith) c.requires.residue low.1 in
    omega arith

pub loop-t-preserved : goal.loop-t-preserved
loop-t-preserved c =
    let p = c.get-modulus.result in
    let u = c.t-item.result in
    let x : Term = record { coeff = (c.args.c * u.coeff) % p; mono = u.mono } in
    map_more (times_residue p c.args.c) c.args.a.now c.loop-t.out.items c.push.new.self.items c.loop-t.t-index u x c.loop-t-test.true c.t-item.is c.loop-t.invariant refl
    c.in_ok-push.ensures.items

pub returns-clause-value : goal.returns-clause-value
returns-clause-value c =
    c.loop-t.invariant
    ∙ ap (map (times_residue c.get-modulus.result c.args.c)) (take_all c.loop-t.t-index c.args.a.now c.loop-t-test.false)
    ∙ ap (λ p. map (times_residue p c.args.c) c.args.a.now) c.get-modulus.ensures.value
    ∙ multiple_by_residue c.args.p c.args.c c.args.a.now (subst IsPrime c.get-modulus.ensures.value c.get-modulus.ensures.prime) c.requires.not_zero c.requires.residue c.requires.terms.canonical

pub returns-clause-known : goal.returns-clause-known
returns-clause-known c =
    subst (IsVector c.args.p)
    (sym (c.loop-t.invariant
    ∙ ap (map (times_residue c.get-modulus.result c.args.c)) (take_all c.loop-t.t-index c.args.a.now c.loop-t-test.false)
    ∙ ap (λ p. map (times_residue p c.args.c) c.args.a.now) c.get-modulus.ensures.value))
    (residue_vector c.args.p c.args.c c.args.a.now (subst IsPrime c.get-modulus.ensures.value c.get-modulus.ensures.prime) c.requires.not_zero c.requires.residue c.requires.terms)
