use Rattle.std.proofs.Common.{◌≡◌, ◌+◌, length, get_or, set, arith, sym, ap, ◌∙◌}
use Rattle.std.proofs.lemmas.List.{take_all}
use Rattle.monomials.specs.Mono.{IsMono, times, total_degree}
use Rattle.monomials.proofs.Exponents.{plus, pointwise_none, pointwise_more, get_or-pointwise_take, exponent_le, total_degree-plus, length-pointwise}
use Rattle.monomials.proofs.mono.Mono.product.Goals as goal

pub loop-i-init : goal.loop-i-init
loop-i-init c = sym (pointwise_none (λ x y. x + y) c.a.inside.exponents)

pub overflow_add-exponents : goal.overflow_add-exponents
overflow_add-exponents c =
    let a = c.a.inside.exponents in
    let b = c.b.inside.exponents in
    let i = c.loop-i.i in
    let e : get_or c.loop-i.exponents i 0 ≡ get_or a i 0 = ap (λ l. get_or l i 0) c.loop-i.invariant ∙ get_or-pointwise_take (λ x y. x + y) a b i (omega arith) in
    let da : total_degree a ≡ total_degree c.args.a.now.exponents = ap (λ m. total_degree m.exponents) c.a.view_is in
    let db : total_degree b ≡ total_degree c.args.b.now.exponents = ap (λ m. total_degree m.exponents) c.b.view_is in
    let room = c.requires.room in
    omega (arith, exponent_le a i, exponent_le b i)

pub loop-i-preserved : goal.loop-i-preserved
loop-i-preserved c =
    let a = c.a.inside.exponents in
    let b = c.b.inside.exponents in
    let i = c.loop-i.i in
    (λ k. set (c.loop-i.invariant k) i (get_or (c.loop-i.invariant k) i 0 + get_or b i 0))
    ∙ sym (pointwise_more (λ x y. x + y) a b i (omega arith) (omega arith))

whole : (c : goal.After-loop-i) → c.loop-i.exponents ≡ plus c.a.inside.exponents c.b.inside.exponents
whole c = c.loop-i.invariant ∙ ap (plus c.a.inside.exponents) (take_all c.loop-i.i c.b.inside.exponents (omega arith))

fits : (c : goal.After-loop-i) → (c.a.inside.degree + c.b.inside.degree ≡ total_degree c.loop-i.exponents) × IsMono (record { exponents = c.loop-i.exponents; component = c.a.inside.component })
fits c =
    let a = c.a.inside.exponents in
    let b = c.b.inside.exponents in
    let d : total_degree c.loop-i.exponents ≡ total_degree a + total_degree b = ap total_degree (whole c) ∙ total_degree-plus a b in
    let da : total_degree a ≡ total_degree c.args.a.now.exponents = ap (λ m. total_degree m.exponents) c.a.view_is in
    let db : total_degree b ≡ total_degree c.args.b.now.exponents = ap (λ m. total_degree m.exponents) c.b.view_is in
    let h = c.requires.room in
    (omega arith, record { seven = ap length (whole c) ∙ length-pointwise (λ x y. x + y) 7 a b c.a.told c.b.told; bounded = omega arith; one_of_two = omega arith })

pub invariant_of-result : goal.invariant_of-result
invariant_of-result c = fits c

pub returns-clause-known : goal.returns-clause-known
returns-clause-known c = (fits c).1

pub returns-clause-value : goal.returns-clause-value
returns-clause-value c =
    let b0 : c.b.inside.component ≡ c.args.b.now.component = ap (λ m. m.component) c.b.view_is in
    let z = c.requires.component in
    let n : c.a.inside.component ≡ c.a.inside.component + c.b.inside.component = omega arith in
    let value : record { exponents = c.loop-i.exponents; component = c.a.inside.component } ≡ times (record { exponents = c.a.inside.exponents; component = c.a.inside.component }) (record { exponents = c.b.inside.exponents; component = c.b.inside.component }) =
    (λ k. record { exponents = whole c k; component = n k }) in
    value ∙ (λ k. times (c.a.view_is k) (c.b.view_is k))
