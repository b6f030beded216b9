use Rattle.std.proofs.Common.{◌≡◌, ◌≢◌, ◌-◌, get_or, arith, ◌∙◌}
use Rattle.monomials.specs.Mono.{Monomial, total_degree, cmp_dp}
use Rattle.monomials.proofs.Last.{by_last, same_at, decided_at}
use Rattle.monomials.proofs.mono.Mono.cmp_dp.Goals as goal

pub returns-then-a-i : goal.returns-then-a-i
returns-then-a-i c =
    let a = c.a.inside.exponents in
    let b = c.b.inside.exponents in
    let n = c.loop-i.i in
    let s : get_or a (n - 1) 0 ≢ get_or b (n - 1) 0 = c.if-a-i.true in
    let d : total_degree a ≡ total_degree b = omega arith in
    let v : Monomial = record { exponents = a; component = c.a.inside.component } in
    let w : Monomial = record { exponents = b; component = c.b.inside.component } in
    c.cmp-then-a-i.ensures
    ∙ decided_at a b n (n - 1) (omega arith) (omega arith) (omega arith) s
    ∙ c.loop-i.invariant.so_far
    ∙ by_last v w (omega arith) d
    ∙ (λ k. cmp_dp (c.a.view_is k) (c.b.view_is k))

pub loop-i-preserved : goal.loop-i-preserved
loop-i-preserved c =
    let a = c.a.inside.exponents in
    let b = c.b.inside.exponents in
    let n = c.loop-i.i in
    let s : get_or a (n - 1) 0 ≡ get_or b (n - 1) 0 = omega arith in
    record {
      i_in = omega arith;
      so_far = same_at a b n (n - 1) (omega arith) (omega arith) (omega arith) s ∙ c.loop-i.invariant.so_far;
    }
