use Rattle.std.proofs.Common.{◌≡◌, ◌<◌, ◌∙◌, [], length, take, arith, ap, subst, sym}
use Rattle.std.proofs.lemmas.List.{get_or_default}
use Rattle.std.proofs.Math.Seq.{take-length}
use Rattle.row_space.specs.Subspace.{Subspace, Joins}
use Rattle.finite_algebra.specs.Elements.{FiniteAlgebra, IsElement}
use Rattle.finite_algebra.specs.Projections.{IsGeneratedBy}
use Rattle.finite_algebra.proofs.Generated.{fit, none_generated, one_more_generated}
use Rattle.finite_algebra.proofs.algebra.Algebra.ideal.Goals as goal

pub loop-i-init : goal.loop-i-init
loop-i-init c =
    let S = c.args.self.now in
    let positive : 0 < S.prime = omega (arith, c.get-p.ensures.range, c.get-p.ensures.value, ap (λ (v : FiniteAlgebra). v.prime) c.self.view_is) in
    none_generated S positive c.one-one.ensures.laws c.new-space.result
    (ap (λ (s : Subspace). s.prime) c.new-space.ensures ∙ ap (λ (v : FiniteAlgebra). v.prime) c.self.view_is)
    (ap (λ (s : Subspace). s.width) c.new-space.ensures ∙ ap (λ (v : FiniteAlgebra). v.dimension) c.self.view_is)
    (ap (λ (s : Subspace). s.basis) c.new-space.ensures)

pub multiplication-requires : goal.multiplication-requires
multiplication-requires c =
    let row_is = c.as_slice.ensures ∙ c.index-generators-i.is ∙ get_or_default c.args.generators.now c.loop-i.i c.index-generators-i.result [] c.loop-i-test.true in
    subst (IsElement c.args.self.now) (sym row_is) (c.requires c.loop-i.i [] c.loop-i-test.true)

pub add_rows-requires : goal.add_rows-requires
add_rows-requires c = fit c.args.self.now c.loop-i.space c.in_ok-rows.rows c.as_slice-in-loop-i.result.now c.loop-i.invariant.ideal.prime c.loop-i.invariant.ideal.width c.as_slice-in-loop-i.ensures c.in_ok-rows.ensures.rows

pub loop-i-preserved : goal.loop-i-preserved
loop-i-preserved c =
    let S = c.args.self.now in
    let positive : 0 < S.prime = omega (arith, c.get-p.ensures.range, c.get-p.ensures.value, ap (λ (v : FiniteAlgebra). v.prime) c.self.view_is) in
    let row_is = c.as_slice.ensures ∙ c.index-generators-i.is ∙ get_or_default c.args.generators.now c.loop-i.i c.index-generators-i.result [] c.loop-i-test.true in
    one_more_generated S positive c.one-one.ensures.laws c.args.generators.now c.loop-i.i c.loop-i-test.true c.as_slice.result.now row_is c.in_ok-rows.rows c.in_ok-rows.ensures
    c.loop-i.space c.add_rows.new.self c.loop-i.invariant (subst (λ vs. Joins c.loop-i.space vs c.add_rows.new.self) c.as_slice-in-loop-i.ensures c.in_ok-add_rows.ensures) c.one-one.ensures.laws.unit

pub returns : goal.returns
returns c =
    let e : c.loop-i.i ≡ length c.args.generators.now = omega arith in
    subst (λ gs. IsGeneratedBy c.args.self.now gs c.loop-i.space) (ap (λ k. take k c.args.generators.now) e ∙ take-length c.args.generators.now) c.loop-i.invariant
