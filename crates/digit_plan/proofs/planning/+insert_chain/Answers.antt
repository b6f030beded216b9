use Rattle.std.proofs.Common.{length, inl, inr, refl, sym, subst}
use Rattle.std.specs.List.{Contains}
use Rattle.digit_plan.proofs.Playing.{one_by, outer_more, unit_in}
use Rattle.digit_plan.proofs.planning.+insert_chain.Goals as goal

pub unreachable-requires : goal.unreachable-requires
unreachable-requires t c =
    let n = length c.args.order.now in
    let one = one_by n c.args.m c.requires.affine (c.in-None.ensures).none in
    c.if-is_known.ensures (inl (subst (Contains c.args.corners.now) (sym one) (unit_in n c.args.corners.now c.requires.six c.requires.corners c.requires.some)))

pub returns-clause-outer : goal.returns-clause-outer
returns-clause-outer t c =
    outer_more (length c.args.order.now) c.args.corners.now c.args.border.now c.insert_chain.new.outer.items c.insert.new.found.items c.args.m c.in-Some.w c.requires.border c.requires.affine
    c.in_ok-insert_chain-in-Some.ensures.outer c.in-Some.ensures.some c.in_ok-insert_chain-in-Some.ensures.known (λ k. c.if-is_known.ensures (inl k)) (λ k. c.if-is_known.ensures (inr (inl k)))
    c.in_ok-insert-in-Some.ensures.gains

pub returns-clause-kept : goal.returns-clause-kept
returns-clause-kept t c = λ w k. (c.in_ok-insert-in-Some.ensures.gains.members w).1 (inl (c.in_ok-insert_chain-in-Some.ensures.kept w k))

pub returns-clause-known : goal.returns-clause-known
returns-clause-known t c = inr (inr ((c.in_ok-insert-in-Some.ensures.gains.members c.args.m).1 (inr refl)))
