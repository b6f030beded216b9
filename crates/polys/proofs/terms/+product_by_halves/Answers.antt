use Rattle.std.proofs.Common.{◌≡◌, ◌+◌, ◌-◌, ◌/◌, ◌≤◌, length, drop, arith, sym, ap, ◌∙◌, subst}
use Rattle.std.proofs.lemmas.List.{take_rest}
use Rattle.std.proofs.Math.ListN.{length-take, length-drop}
use Rattle.std.specs.Prelude.{IfOk}
use Rattle.polys.specs.Terms.{EachMono, mul, degree_of}
use Rattle.polys.specs.Poly.{IsVector, IsPlain}
use Rattle.polys.proofs.Each.{every_take, every_drop}
use Rattle.polys.proofs.Sums.{mul_none}
use Rattle.polys.proofs.Products.{vector_take, vector_drop, degree_of-take, degree_of-drop, mul_halves, none_from_length}
use Rattle.polys.proofs.terms.+product_by_halves.Goals as goal

pub returns-then-b-eq0-clause-value : goal.returns-then-b-eq0-clause-value
returns-then-b-eq0-clause-value t c =
    c.new.ensures.items ∙ sym (mul_none c.args.p c.args.a.now) ∙ ap (mul c.args.p c.args.a.now) (sym (none_from_length c.args.b.now c.if-b-eq0.true))

pub product_by_halves-requires : goal.product_by_halves-requires
product_by_halves-requires t c =
    let b = c.args.b.now in
    let m = length b / 2 in
    let room = c.requires.room in (
      omega (arith, length-take m b),
      (c.requires.left, (vector_take c.args.p m b c.requires.right, (every_take IsPlain m b c.requires.plain, omega (arith, degree_of-take b m)))),
    )

pub product_by_halves-requires-2 : goal.product_by_halves-requires-2
product_by_halves-requires-2 t c =
    let b = c.args.b.now in
    let m = length b / 2 in
    let e = sym (take_rest b m) in
    let room = c.requires.room in (
      omega (arith, length-take (length b - m) (drop m b), length-drop m b),
      (
        c.requires.left,
        (
          subst (IsVector c.args.p) e (vector_drop c.args.p m b c.requires.right),
          (
            subst (EachMono IsPlain) e (every_drop IsPlain m b c.requires.plain),
            subst (λ f. degree_of c.args.a.now + degree_of f ≤ 60000) e (omega (arith, degree_of-drop b m)),
          ),
        ),
      ),
    )

pub returns-clause-value : goal.returns-clause-value
returns-clause-value t c =
    let a = c.args.a.now in
    let b = c.args.b.now in
    let m = length b / 2 in
    let low = c.deref.ensures.value ∙ c.in_ok-low.ensures.value in
    let high = c.deref-2.ensures.value ∙ c.in_ok-high.ensures.value ∙ ap (mul c.args.p a) (take_rest b m) in
    subst (λ w. IfOk c.sum.result (λ v. v.items ≡ w)) (mul_halves c.args.p m a b c.deref.result.now c.deref-2.result.now low high) c.sum.ensures.value
