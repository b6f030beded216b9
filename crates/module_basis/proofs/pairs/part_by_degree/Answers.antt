use Rattle.std.proofs.Common.{◌+◌, ◌++◌, [], ◌∷◌, ◌∙◌, get_or, sym, ap, subst, arith}
use Rattle.std.proofs.lemmas.List.{get_or_default}
use Rattle.module_basis.specs.declared.pairs.Pair.{Pair}
use Rattle.module_basis.proofs.Parting.{ArePartedTo, to_due, to_later, all_parted}
use Rattle.module_basis.proofs.pairs.part_by_degree.Goals as goal
use Rattle.module_basis.proofs.pairs.part_by_degree.Goals.{then-pair-from+in_ok-push, else-pair-from+in_ok-push-2}

pub loop-k-preserved : goal.loop-k-preserved
loop-k-preserved c =
    let e = c.args.e in
    let k = c.loop-k.k in
    let ps = c.args.pairs.now in
    let z : Pair = record { first = 0; second = 0; degree = 0 } in
    let q : Pair = get_or ps k z in
    let from = c.from.ensures in
    elim c.if-pair-from.branch [
      | then-pair-from+in_ok-push w ↦ subst (λ l. ArePartedTo e (k + 1) ps l c.if-pair-from.later.items) (sym (ap (λ d. d.items) w.due-is ∙ w.in_ok-push.ensures.items))
          (subst (λ l. ArePartedTo e (k + 1) ps (c.loop-k.due.items ++ q ∷ []) l.items) (sym w.later-is)
          (to_due e k ps c.loop-k.due.items c.loop-k.later.items q (omega arith) (get_or_default ps k z q (omega arith)) (w.if-pair-from.true ∙ from) c.loop-k.invariant))
      | else-pair-from+in_ok-push-2 w ↦ subst (λ l. ArePartedTo e (k + 1) ps c.if-pair-from.due.items l) (sym (ap (λ d. d.items) w.later-is ∙ w.in_ok-push-2.ensures.items))
          (subst (λ l. ArePartedTo e (k + 1) ps l.items (c.loop-k.later.items ++ q ∷ [])) (sym w.due-is)
          (to_later e k ps c.loop-k.due.items c.loop-k.later.items q (omega arith) (get_or_default ps k z q (omega arith)) (λ h. w.if-pair-from.false (h ∙ sym from)) c.loop-k.invariant))
    ]

pub returns : goal.returns
returns c = all_parted c.args.e c.loop-k.k c.args.pairs.now c.loop-k.due.items c.loop-k.later.items (let h = c.loop-k-test.false in omega arith) c.loop-k.invariant
