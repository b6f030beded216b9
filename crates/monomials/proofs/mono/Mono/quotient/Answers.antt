use Rattle.std.proofs.Common.{◌≡◌, ℕ, List, ◌+◌, ◌-◌, ◌≤◌, get_or, arith, sym, ap, ◌∙◌, subst}
use Rattle.std.proofs.lemmas.List.{take_all}
use Rattle.std.proofs.Math.ListN.{length-set}
use Rattle.monomials.specs.Mono.{Monomial, IsMono, times, total_degree}
use Rattle.monomials.proofs.Exponents.{plus, pointwise_none, get_or-pointwise_take, minus_more, total_degree-plus}
use Rattle.monomials.proofs.mono.Mono.quotient.Goals as goal

pub loop-i-init : goal.loop-i-init
loop-i-init c = record { seven = c.a.told; so_far = pointwise_none (λ x y. x + y) c.a.inside.exponents }

-- what the condition says of the fields
under : (a b : List ℕ) (v w : Monomial) → a ≡ v.exponents → b ≡ w.exponents → ((i : ℕ) → get_or w.exponents i 0 ≤ get_or v.exponents i 0) → (i : ℕ) → get_or b i 0 ≤ get_or a i 0
under a b v w p q h i = subst (λ l. get_or l i 0 ≤ get_or a i 0) (sym q) (subst (λ l. get_or w.exponents i 0 ≤ get_or l i 0) (sym p) (h i))

pub overflow_sub-exponents : goal.overflow_sub-exponents
overflow_sub-exponents c =
    let a = c.a.inside.exponents in
    let b = c.b.inside.exponents in
    let i = c.loop-i.i in
    let e : get_or c.loop-i.exponents i 0 ≡ get_or a i 0 =
    sym (get_or-pointwise_take (λ x y. x + y) c.loop-i.exponents b i (omega arith)) ∙ ap (λ l. get_or l i 0) c.loop-i.invariant.so_far in
    let low = under a b c.args.a.now c.args.b.now (ap (λ m. m.exponents) c.a.view_is) (ap (λ m. m.exponents) c.b.view_is) c.requires.exponents i in
    omega arith

pub loop-i-preserved : goal.loop-i-preserved
loop-i-preserved c =
    let a = c.a.inside.exponents in
    let b = c.b.inside.exponents in
    let i = c.loop-i.i in
    let e : get_or c.loop-i.exponents i 0 ≡ get_or a i 0 =
    sym (get_or-pointwise_take (λ x y. x + y) c.loop-i.exponents b i (omega arith)) ∙ ap (λ l. get_or l i 0) c.loop-i.invariant.so_far in
    let low = under a b c.args.a.now c.args.b.now (ap (λ m. m.exponents) c.a.view_is) (ap (λ m. m.exponents) c.b.view_is) c.requires.exponents i in
    record {
      seven = length-set c.loop-i.exponents i (get_or c.loop-i.exponents i 0 - get_or b i 0) ∙ c.loop-i.invariant.seven;
      so_far = minus_more c.loop-i.exponents b i (omega arith) (omega arith) (omega arith) ∙ c.loop-i.invariant.so_far;
    }

whole : (c : goal.After-loop-i) → plus c.loop-i.exponents c.b.inside.exponents ≡ c.a.inside.exponents
whole c = ap (plus c.loop-i.exponents) (sym (take_all c.loop-i.i c.b.inside.exponents (omega arith))) ∙ c.loop-i.invariant.so_far

degrees : (c : goal.After-loop-i) → total_degree c.loop-i.exponents + total_degree c.b.inside.exponents ≡ total_degree c.a.inside.exponents
degrees c = sym (total_degree-plus c.loop-i.exponents c.b.inside.exponents) ∙ ap total_degree (whole c)

pub overflow_sub-result-2 : goal.overflow_sub-result-2
overflow_sub-result-2 c = let d = degrees c in omega arith

fits : (c : goal.After-loop-i)
    → (c.a.inside.degree - c.b.inside.degree ≡ total_degree c.loop-i.exponents) × IsMono (record { exponents = c.loop-i.exponents; component = c.a.inside.component - c.b.inside.component })
fits c =
    let d = degrees c in
    (omega arith, record { seven = c.loop-i.invariant.seven; bounded = omega arith; one_of_two = omega arith })

pub invariant_of-result : goal.invariant_of-result
invariant_of-result c = fits c

pub returns-clause-known : goal.returns-clause-known
returns-clause-known c = (fits c).1

pub returns-clause-value : goal.returns-clause-value
returns-clause-value c =
    let ca : c.a.inside.component ≡ c.args.a.now.component = ap (λ m. m.component) c.a.view_is in
    let cb : c.b.inside.component ≡ c.args.b.now.component = ap (λ m. m.component) c.b.view_is in
    let low = c.requires.component in
    let n : (c.a.inside.component - c.b.inside.component) + c.b.inside.component ≡ c.a.inside.component = omega arith in
    let v : Monomial = record { exponents = c.loop-i.exponents; component = c.a.inside.component - c.b.inside.component } in
    ap (times v) (sym c.b.view_is) ∙ (λ k. record { exponents = whole c k; component = n k }) ∙ c.a.view_is
