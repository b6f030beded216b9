use Rattle.std.proofs.Common.{◌≡◌, ◌%◌, ◌*◌, ◌∷◌, [], arith, map, sym, ap, ◌∙◌, subst}
use Rattle.std.proofs.lemmas.List.{take_all}
use Rattle.monomials.specs.Mono.{IsMono}
use Rattle.prime_field.specs.Primes.{IsPrime}
use Rattle.polys.specs.declared.term.Term.{Term}
use Rattle.polys.specs.Terms.{IsCanonical, EachMono}
use Rattle.polys.proofs.Each.{every_append}
use Rattle.polys.proofs.Merge.{coeff_at}
use Rattle.polys.proofs.Products.{times_term, product_by_term, canonical_term, map_more, product_below, degree_at, sevens}
use Rattle.polys.proofs.terms.term_multiple.Goals as goal

pub overflow_mul-u : goal.overflow_mul-u
overflow_mul-u c =
    let p = c.get-modulus.ensures.value in
    let r = c.get-modulus.ensures.range in
    let low = coeff_at c.args.p c.args.a.now c.loop-u.u-index c.u-item.result c.requires.terms.canonical c.loop-u-test.true c.u-item.is in
    let h = product_below c.args.p c.u-item.result.coeff c.args.t.coeff (omega arith) low.1 c.requires.residue in
    omega arith

pub product-requires-clause-room : goal.product-requires-clause-room
product-requires-clause-room c =
    let low = degree_at c.args.a.now c.loop-u.u-index c.u-item.result c.loop-u-test.true c.u-item.is in
    let h = c.requires.room in
    omega arith

pub loop-u-preserved : goal.loop-u-preserved
loop-u-preserved c =
    let p = c.get-modulus.result in
    let t = c.args.t in
    let u = c.u-item.result in
    let x : Term = record { coeff = (u.coeff * t.coeff) % p; mono = c.product.result } in
    let e : x ≡ times_term p t u = (λ i. record { coeff = (u.coeff * t.coeff) % p; mono = c.product.ensures.value i }) in
    record {
      so_far =
          map_more (times_term p t) c.args.a.now c.loop-u.out.items c.push.new.self.items c.loop-u.u-index u x c.loop-u-test.true c.u-item.is c.loop-u.invariant.so_far e
          c.in_ok-push.ensures.items;
      monos = subst (EachMono IsMono) (sym c.in_ok-push.ensures.items) (every_append IsMono c.loop-u.out.items (x ∷ []) c.loop-u.invariant.monos (c.product.ensures.known, tt));
    }

pub returns-clause-value : goal.returns-clause-value
returns-clause-value c =
    c.loop-u.invariant.so_far
    ∙ ap (map (times_term c.get-modulus.result c.args.t)) (take_all c.loop-u.u-index c.args.a.now c.loop-u-test.false)
    ∙ ap (λ p. map (times_term p c.args.t) c.args.a.now) c.get-modulus.ensures.value
    ∙ product_by_term c.args.p c.args.t c.args.a.now (subst IsPrime c.get-modulus.ensures.value c.get-modulus.ensures.prime) c.requires.not_zero c.requires.residue c.requires.terms.canonical
    (sevens c.args.a.now c.requires.terms.monos)

pub returns-clause-known : goal.returns-clause-known
returns-clause-known c =
    let e =
    c.loop-u.invariant.so_far
    ∙ ap (map (times_term c.get-modulus.result c.args.t)) (take_all c.loop-u.u-index c.args.a.now c.loop-u-test.false)
    ∙ ap (λ p. map (times_term p c.args.t) c.args.a.now) c.get-modulus.ensures.value in
    record {
      canonical =
          subst (IsCanonical c.args.p) (sym e)
          (canonical_term c.args.p c.args.t c.args.a.now (subst IsPrime c.get-modulus.ensures.value c.get-modulus.ensures.prime) c.requires.not_zero c.requires.residue c.requires.terms.canonical
          (sevens c.args.a.now c.requires.terms.monos));
      monos = c.loop-u.invariant.monos;
    }
