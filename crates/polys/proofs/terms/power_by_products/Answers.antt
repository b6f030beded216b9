use Rattle.std.proofs.Common.{◌≡◌, ◌+◌, ◌*◌, ◌≤◌, arith, ap, ◌∙◌}
use Rattle.polys.specs.Terms.{power, degree_of, mul}
use Rattle.polys.proofs.Degrees.{degree_of-power, power_room}
use Rattle.polys.proofs.Units.{power_next}
use Rattle.polys.proofs.terms.power_by_products.Goals as goal

pub product-requires-clause-room : goal.product-requires-clause-room
product-requires-clause-room c =
    let p = c.args.p in
    let a = c.args.a.now in
    let k = c.loop.counter in
    let e : degree_of c.deref.result.now ≡ degree_of (power p a k) = ap degree_of (c.deref.ensures.value ∙ c.loop.invariant.so_far) in
    let r : degree_of a * (k + 1) ≤ 60000 = power_room (degree_of a) (k + 1) c.args.n (omega arith) c.requires.room in
    omega (arith, degree_of-power p a k)

pub loop-preserved : goal.loop-preserved
loop-preserved c =
    let p = c.args.p in
    let a = c.args.a.now in
    let k = c.loop.counter in
    record {
      so_far =
          c.in_ok-out.ensures.value
          ∙ ap (λ f. mul p f a) (c.deref.ensures.value ∙ c.loop.invariant.so_far)
          ∙ power_next p a k (k + 1) (omega arith);
      known = c.in_ok-out.ensures.known;
    }
