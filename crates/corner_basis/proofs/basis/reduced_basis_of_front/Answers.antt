use Rattle.std.proofs.Common.{◌≡◌, ◌+◌, length, sym, subst, ◌∙◌, arith}
use Rattle.corner_basis.specs.declared.front.Front.{Front}
use Rattle.corner_basis.proofs.Tried.{AreMembers, has_relations, matrix_fits, members_over, members_push, members_reduced}
use Rattle.corner_basis.proofs.basis.reduced_basis_of_front.Goals as goal

pub preimage-requires : goal.preimage-requires
preimage-requires c =
    let f : Front = record { digits = c.args.digits; blocks = c.args.t; space = c.args.space } in
    matrix_fits f (record { shallow = c.requires.t; ideal = c.requires.ideal }) c.entries-entries.ensures.known c.in_ok-found.found c.in_ok-found.ensures.tried c.as_slice.result.now (c.as_slice.ensures ∙ c.in_ok-matrix.ensures)

pub member-requires-clause-relations : goal.member-requires-clause-relations
member-requires-clause-relations c =
    let f : Front = record { digits = c.args.digits; blocks = c.args.t; space = c.args.space } in
    let r = c.in_ok-relations.ensures in
    has_relations f (record { shallow = c.requires.t; ideal = c.requires.ideal }) c.entries-entries.ensures.known c.in_ok-found.found c.in_ok-found.ensures.tried c.as_slice.result.now (c.as_slice.ensures ∙ c.in_ok-matrix.ensures)
    c.in_ok-relations.relations r.shape.0 r.shape.1 r.members

pub loop-i-preserved : goal.loop-i-preserved
loop-i-preserved c =
    let f : Front = record { digits = c.args.digits; blocks = c.args.t; space = c.args.space } in
    let q = c.in_ok-member.field-0 in
    subst (AreMembers f c.in_ok-found.found (c.loop-i.i + 1)) (sym c.in_ok-push.ensures.ok)
    (members_push f c.in_ok-found.found c.loop-i.i c.loop-i.basis q c.loop-i.invariant c.in_ok-member.ensures.prime c.in_ok-member.ensures.member)

pub returns-clause-over : goal.returns-clause-over
returns-clause-over c =
    let f : Front = record { digits = c.args.digits; blocks = c.args.t; space = c.args.space } in
    let s = c.in_ok-found.found in
    let all : c.loop-i.i ≡ length s.leads = omega (arith, c.loop-i-test.false, c.loop-i.auto.i-end, c.len-i-end.ensures) in
    members_over f (record { shallow = c.requires.t; ideal = c.requires.ideal }) c.entries-entries.ensures.known s c.in_ok-found.ensures.tried c.loop-i.basis
    (subst (λ n. AreMembers f s n c.loop-i.basis) all c.loop-i.invariant)

pub returns-clause-reduced : goal.returns-clause-reduced
returns-clause-reduced c =
    let f : Front = record { digits = c.args.digits; blocks = c.args.t; space = c.args.space } in
    let s = c.in_ok-found.found in
    let all : c.loop-i.i ≡ length s.leads = omega (arith, c.loop-i-test.false, c.loop-i.auto.i-end, c.len-i-end.ensures) in
    members_reduced f (record { shallow = c.requires.t; ideal = c.requires.ideal }) c.entries-entries.ensures.known s c.in_ok-found.ensures.tried c.rows-rows.ensures.reduced c.in_ok-found.ensures.whole c.loop-i.basis
    (subst (λ n. AreMembers f s n c.loop-i.basis) all c.loop-i.invariant)
