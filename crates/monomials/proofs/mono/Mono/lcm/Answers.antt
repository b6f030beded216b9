use Rattle.std.proofs.Common.{◌≡◌, length, get_or, set, max, arith, sym, ap, ◌∙◌}
use Rattle.std.proofs.lemmas.List.{take_all}
use Rattle.monomials.specs.Mono.{IsMono, pointwise, common_multiple, total_degree}
use Rattle.monomials.proofs.Exponents.{pointwise_none, pointwise_more, length-pointwise}
use Rattle.monomials.proofs.mono.Mono.lcm.Goals as goal

pub loop-i-init : goal.loop-i-init
loop-i-init c = sym (pointwise_none max c.a.inside.exponents)

pub loop-i-preserved : goal.loop-i-preserved
loop-i-preserved c =
    let a = c.a.inside.exponents in
    let b = c.b.inside.exponents in
    let i = c.loop-i.i in
    ap (set c.loop-i.exponents i) c.max.ensures
    ∙ (λ k. set (c.loop-i.invariant k) i (max (get_or (c.loop-i.invariant k) i 0) (get_or b i 0)))
    ∙ sym (pointwise_more max a b i (omega arith) (omega arith))

whole : (c : goal.After-degree_of) → c.loop-i.exponents ≡ pointwise max c.a.inside.exponents c.b.inside.exponents
whole c = c.loop-i.invariant ∙ ap (pointwise max c.a.inside.exponents) (take_all c.loop-i.i c.b.inside.exponents (omega arith))

value : (c : goal.After-degree_of) → record { exponents = c.loop-i.exponents; component = c.a.inside.component } ≡ common_multiple c.args.a.now c.args.b.now
value c = (λ k. record { exponents = whole c k; component = c.a.inside.component }) ∙ (λ k. common_multiple (c.a.view_is k) (c.b.view_is k))

fits : (c : goal.After-degree_of) → (c.degree_of.result ≡ total_degree c.loop-i.exponents) × IsMono (record { exponents = c.loop-i.exponents; component = c.a.inside.component })
fits c =
    let e : total_degree c.loop-i.exponents ≡ total_degree (common_multiple c.args.a.now c.args.b.now).exponents = ap (λ m. total_degree m.exponents) (value c) in
    let h = c.requires.room in (
      c.degree_of.ensures,
      record { seven = ap length (whole c) ∙ length-pointwise max 7 c.a.inside.exponents c.b.inside.exponents c.a.told c.b.told; bounded = omega arith; one_of_two = omega arith },
    )

pub invariant_of-result : goal.invariant_of-result
invariant_of-result c = fits c

pub returns-clause-known : goal.returns-clause-known
returns-clause-known c = (fits c).1
