use Rattle.std.proofs.Common.{◌≡◌, ◌+◌, ◌*◌, ◌≤◌, suc, arith, sym, ap, subst, ◌∙◌, mul-le-mul_left}
use Rattle.monomials.specs.Mono.{times, total_degree}
use Rattle.polys.specs.Frobenius.{raised}
use Rattle.polys.proofs.Raised.{raised_none, raised_more, degree_raised}
use Rattle.polys.proofs.top.mono_power.Goals as goal

pub loop-init : goal.loop-init
loop-init c = record {
  so_far = c.one-out.ensures.value ∙ sym (raised_none c.args.m.now c.requires.known.seven) ∙ ap (raised 0) (sym c.with_component-base.ensures.value);
  known = c.one-out.ensures.known;
}

pub product-out-requires-clause-room : goal.product-out-requires-clause-room
product-out-requires-clause-room c =
    let d = total_degree c.args.m.now.exponents in
    let e : total_degree c.with_component-base.result.exponents ≡ d = ap (λ m. total_degree m.exponents) c.with_component-base.ensures.value in
    let o : total_degree c.loop.out.exponents ≡ total_degree c.with_component-base.result.exponents * c.loop.counter =
    ap (λ m. total_degree m.exponents) c.loop.invariant.so_far ∙ degree_raised c.loop.counter c.with_component-base.result in
    let o' : total_degree c.loop.out.exponents ≡ d * c.loop.counter = o ∙ ap (λ x. x * c.loop.counter) e in
    let l : c.loop.counter + 1 ≤ c.args.k = omega arith in
    let m : d * (c.loop.counter + 1) ≤ d * c.args.k = mul-le-mul_left d l in
    let room = c.requires.room in
    omega (arith, e, o', m, room)

pub loop-preserved : goal.loop-preserved
loop-preserved c =
    let k = c.loop.counter in
    let b = c.with_component-base.result in
    let n : suc k ≡ k + 1 = omega arith in
    record {
      so_far =
          c.product-out.ensures.value
          ∙ ap (times b) c.loop.invariant.so_far
          ∙ subst (λ x. times x (raised k x) ≡ raised (suc k) x) (sym c.with_component-base.ensures.value) (raised_more k c.args.m.now)
          ∙ ap (λ j. raised j b) n;
      known = c.product-out.ensures.known;
    }
