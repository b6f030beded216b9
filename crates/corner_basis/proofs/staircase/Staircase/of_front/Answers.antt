use Rattle.std.proofs.Common.{◌≡◌, ◌++◌, [], ◌∷◌, inr, sym, ap, subst, ◌∙◌, arith}
use Rattle.monomials.specs.Mono.{unit}
use Rattle.corner_basis.specs.Staircase.{IsSearch}
use Rattle.corner_basis.proofs.Search.{search_all, search_start}
use Rattle.corner_basis.proofs.staircase.Staircase.of_front.Goals as goal

pub loop-next-init : goal.loop-next-init
loop-next-init c =
    let n = c.args.front.now.digits.now.curve.variables in
    let s = c.in_ok-found.found in
    let items : c.push.new.self.items ≡ unit ∷ [] = c.in_ok-push.ensures.items ∙ ap (λ z. z ++ c.one.result ∷ []) c.new-queue.ensures.items ∙ ap (λ z. z ∷ []) c.one.ensures.value in (
      c.in_ok-found.ensures.tried,
      subst (λ z. IsSearch n 0 z s.standard s.leads) (sym items) (subst (λ z. IsSearch n 0 (unit ∷ []) z s.leads) (sym c.in_ok-found.ensures.none.0)
          (subst (IsSearch n 0 (unit ∷ []) []) (sym c.in_ok-found.ensures.none.1) (search_start n))),
    )

pub returns-clause-whole : goal.returns-clause-whole
returns-clause-whole c =
    let s = c.loop-next.found in
    search_all c.args.front.now.digits.now.curve.variables c.loop-next.next c.loop-next.queue.items s.standard s.leads c.loop-next.invariant.1 (omega (arith, c.loop-next-test.false, c.len.ensures))
    (λ l d. c.loop-next.invariant.0.monomials.affine l (inr d))
