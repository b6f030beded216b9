use Rattle.std.proofs.Common.{◌%◌, refl, ◌+◌, ◌-◌, ◌/◌, ◌≤◌, length, take, drop, arith, sym, ap, ◌∙◌, subst}
use Rattle.std.proofs.lemmas.List.{take_rest}
use Rattle.std.proofs.Math.ListN.{length-take, length-drop}
use Rattle.polys.specs.Terms.{EachMono, mul, degree_of}
use Rattle.polys.specs.Poly.{IsVector, IsPlain}
use Rattle.polys.specs.Top.{Agrees, weight, reach}
use Rattle.polys.proofs.Each.{every_take, every_drop}
use Rattle.polys.proofs.Products.{vector_take, vector_drop, degree_of-take, degree_of-drop, mul_halves, none_from_length}
use Rattle.polys.proofs.Sums.{mul_none}
use Rattle.polys.proofs.top.+product.Goals as goal

pub returns-then-b-eq0-clause-value : goal.returns-then-b-eq0-clause-value
returns-then-b-eq0-clause-value t c g h χ v =
    ap (λ l. weight χ l % c.args.p)
    (c.new.ensures.items ∙ sym (mul_none c.args.p g) ∙ ap (mul c.args.p g) (sym (none_from_length c.args.b.now c.if-b-eq0.true)))

pub product-requires : goal.product-requires
product-requires t c =
    let b = c.args.b.now in
    let m = length b / 2 in
    let room = c.requires.room in (
      omega (arith, length-take m b),
      (c.requires.left, (vector_take c.args.p m b c.requires.right, (every_take IsPlain m b c.requires.plain, omega (arith, degree_of-take b m)))),
    )

pub product-requires-2 : goal.product-requires-2
product-requires-2 t c =
    let b = c.args.b.now in
    let m = length b / 2 in
    let e = sym (take_rest b m) in
    let room = c.requires.room in (
      omega (arith, length-take (length b - m) (drop m b), length-drop m b),
      (
        c.requires.left,
        (
          subst (IsVector c.args.p) e (vector_drop c.args.p m b c.requires.right),
          (
            subst (EachMono IsPlain) e (every_drop IsPlain m b c.requires.plain),
            subst (λ f. reach c.args.a.now + degree_of f ≤ 60000) e (omega (arith, degree_of-drop b m)),
          ),
        ),
      ),
    )

pub returns-clause-value : goal.returns-clause-value
returns-clause-value t c g h =
    let p = c.args.p in
    let b = c.args.b.now in
    let m = length b / 2 in
    let low = mul p g (take m b) in
    let high = mul p g (take (length b - m) (drop m b)) in
    let e = mul_halves p m g b low high refl (ap (mul p g) (take_rest b m)) in
    subst (λ w. Agrees p c.in_ok-top.top.cut c.in_ok-top.top.terms.items w) e
    (c.in_ok-top.ensures.value low high (c.in_ok-low.ensures.value g h) (c.in_ok-high.ensures.value g h))

pub returns-clause-reach : goal.returns-clause-reach
returns-clause-reach t c =
    let b = c.args.b.now in
    let m = length b / 2 in
    let e = ap degree_of (take_rest b m) in
    omega (arith, e, c.in_ok-top.ensures.reach, c.in_ok-low.ensures.reach, c.in_ok-high.ensures.reach, degree_of-take b m, degree_of-drop b m)
