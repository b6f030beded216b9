use Rattle.std.proofs.Common.{◌≡◌, ◌*◌, ◌≤◌, [], ◌∷◌, map, arith, sym, ap, subst, ◌∙◌, mul-le-mul_right}
use Rattle.std.proofs.lemmas.List.{take_all}
use Rattle.monomials.specs.Mono.{IsMono, total_degree}
use Rattle.polys.specs.declared.term.Term.{Term}
use Rattle.polys.specs.Terms.{EachMono, IsCanonical, degree_of}
use Rattle.polys.specs.Frobenius.{frobenius}
use Rattle.polys.proofs.Each.{every_append}
use Rattle.polys.proofs.Merge.{mono_at}
use Rattle.polys.proofs.Products.{map_more, degree_at, sevens}
use Rattle.polys.proofs.Raised.{raise, canonical_raised}
use Rattle.polys.proofs.top.frobenius.Goals as goal

pub mono_power-requires-clause-known : goal.mono_power-requires-clause-known
mono_power-requires-clause-known c = mono_at IsMono c.args.f.now c.loop-t.t-index c.t-item.result c.requires.terms.monos c.loop-t-test.true c.t-item.is

pub mono_power-requires-clause-room : goal.mono_power-requires-clause-room
mono_power-requires-clause-room c =
    let d = degree_at c.args.f.now c.loop-t.t-index c.t-item.result c.loop-t-test.true c.t-item.is in
    let m : total_degree c.t-item.result.mono.exponents * c.args.p ≤ degree_of c.args.f.now * c.args.p = mul-le-mul_right c.args.p d in
    let room = c.requires.room in
    subst (λ k. total_degree c.t-item.result.mono.exponents * k ≤ 60000) (sym c.get-modulus.ensures.value) (omega (arith, m, room))

pub loop-t-preserved : goal.loop-t-preserved
loop-t-preserved c =
    let t = c.t-item.result in
    let x : Term = record { coeff = t.coeff; mono = c.mono_power.result } in
    let e : x ≡ raise c.get-modulus.result t = (λ i. record { coeff = t.coeff; mono = c.mono_power.ensures.value i }) in
    record {
      so_far =
          map_more (raise c.get-modulus.result) c.args.f.now c.loop-t.out.items c.push.new.self.items c.loop-t.t-index t x c.loop-t-test.true c.t-item.is c.loop-t.invariant.so_far e
          c.in_ok-push.ensures.items;
      monos = subst (EachMono IsMono) (sym c.in_ok-push.ensures.items) (every_append IsMono c.loop-t.out.items (x ∷ []) c.loop-t.invariant.monos (c.mono_power.ensures.known, tt));
    }

pub returns-clause-known : goal.returns-clause-known
returns-clause-known c =
    let f = c.args.f.now in
    let e =
    c.loop-t.invariant.so_far
    ∙ ap (map (raise c.get-modulus.result)) (take_all c.loop-t.t-index f c.loop-t-test.false)
    ∙ ap (λ p. frobenius p f) c.get-modulus.ensures.value in
    record {
      canonical = subst (IsCanonical c.args.p) (sym e) (canonical_raised c.args.p c.args.p f (let r = c.get-modulus.ensures.range.0 in let v = c.get-modulus.ensures.value in omega (arith, r, v)) (sevens f c.requires.terms.monos) c.requires.terms.canonical);
      monos = c.loop-t.invariant.monos;
    }
