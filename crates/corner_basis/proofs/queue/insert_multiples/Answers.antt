use Rattle.std.proofs.Common.{◌≡◌, [], ap, subst, ◌∙◌, arith}
use Rattle.monomials.specs.Mono.{Monomial, times, variable}
use Rattle.ideal_laws.proofs.Unique.{contains_none}
use Rattle.standard_monomials.specs.Finding.{GainsMonomial}
use Rattle.standard_monomials.proofs.Steps.{more}
use Rattle.corner_basis.proofs.queue.insert_multiples.Goals as goal

pub loop-v-preserved : goal.loop-v-preserved
loop-v-preserved c =
    let m = c.args.m in
    let v = c.loop-v.v in
    let mid = c.loop-v.queue.items in
    let new = c.insert.new.found.items in
    let e : c.product.result ≡ times m (variable v) = c.product.ensures.value ∙ ap (times m) c.var.ensures.value in (
      more [] m v c.args.queue.now.items mid new c.requires.seven (omega arith) c.loop-v.invariant.0 (λ q. contains_none q.0 q.1)
          (subst (λ (x : Monomial). GainsMonomial x mid new) e c.in_ok-insert.ensures.gains),
      (let a = c.in_ok-insert.ensures.one in let b = c.loop-v.invariant.1 in omega arith),
    )
