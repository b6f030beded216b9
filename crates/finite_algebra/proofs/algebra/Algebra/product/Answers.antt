use Rattle.std.proofs.Common.{◌≡◌, ◌+◌, ◌-◌, ◌*◌, ◌<◌, ◌≤◌, ℕ, List, [], length, take, drop, get_or, replicate, All, arith, ap, sym, subst, ◌∙◌}
use Rattle.std.proofs.lemmas.List.Elements.{All-take, All-drop, All-replicate}
use Rattle.lane_rows.specs.Rows.{AreResidues}
use Rattle.row_space.specs.Echelon.{IsRow}
use Rattle.finite_algebra.specs.Elements.{FiniteAlgebra, elements, times}
use Rattle.finite_algebra.proofs.Products.{summed, summed-all, same, times_fits}
use Rattle.finite_algebra.proofs.Summing.{range-row, range-length, range_room, sum_start, sum_step}
use Rattle.finite_algebra.proofs.algebra.Algebra.product.Goals as goal

pub loop-i-init : goal.loop-i-init
loop-i-init c =
    let S = c.args.self.now in
    let positive : 0 < S.prime = omega (arith, c.get-p.ensures.range, c.get-p.ensures.value, ap (λ (v : FiniteAlgebra). v.prime) c.self.view_is) in
    let zeros = c.fill.ensures.after (λ y e. e) ∙ ap (λ n. replicate n 0) c.requires.out in
    record {
      residues = subst (λ (r : List ℕ). AreResidues S.prime r) (sym zeros) (All-replicate (λ x. x < S.prime) S.dimension 0 positive);
      sum = subst (λ (r : List ℕ). (elements S).◌≋◌ r (summed S c.args.a.now c.args.b.now 0)) (sym zeros) (sum_start S positive c.args.a.now c.args.b.now);
    }

pub add_multiples-requires-clause-rows : goal.add_multiples-requires-clause-rows
add_multiples-requires-clause-rows c =
    let s = c.self.inside in
    let from : ℕ = c.loop-i.i * s.dimension in
    let long : s.dimension ≡ length c.loop-i.out = omega (arith, c.loop-i.auto.out, c.requires.out, ap (λ (v : FiniteAlgebra). v.dimension) c.self.view_is) in
    let rows = subst (All (IsRow s.prime s.dimension)) (sym c.deref.ensures.value) c.self.invariant.rows in
    subst (λ w. All (IsRow s.prime w) (take (c.loop-i.i * s.dimension + s.dimension - c.loop-i.i * s.dimension) (drop (c.loop-i.i * s.dimension) c.deref.result.now))) long
    (All-take (IsRow s.prime s.dimension) (c.loop-i.i * s.dimension + s.dimension - c.loop-i.i * s.dimension) _ (All-drop (IsRow s.prime s.dimension) (c.loop-i.i * s.dimension) c.deref.result.now rows))

pub loop-i-preserved : goal.loop-i-preserved
loop-i-preserved c =
    let s = c.self.inside in
    let A : FiniteAlgebra = record { prime = s.prime; dimension = s.dimension; one = s.one; products = s.products.items } in
    let positive : 0 < s.prime = omega (arith, c.get-p.ensures.range, c.get-p.ensures.value) in
    let i = c.loop-i.i in
    let x = c.args.a.now in
    let y = c.args.b.now in
    let inside : c.loop-i.i < s.dimension = omega (arith, c.loop-i-test.true) in
    let long : length c.loop-i.out ≡ s.dimension = omega (arith, c.loop-i.auto.out, c.requires.out, ap (λ (v : FiniteAlgebra). v.dimension) c.self.view_is) in
    let room : c.loop-i.i * s.dimension + s.dimension ≤ length c.deref.result.now = omega (arith, range_room c.loop-i.i s.dimension inside, ap length c.deref.ensures.value, c.self.invariant.count) in
    record {
      residues = subst (λ (v : FiniteAlgebra). AreResidues v.prime c.add_multiples.new.out) c.self.view_is c.add_multiples.ensures.residues;
      sum = subst (λ v. (elements v).◌≋◌ c.add_multiples.new.out (summed v x y (i + 1))) c.self.view_is
          (sum_step A positive x y i c.loop-i.out c.add_multiples.new.out _ (range-length c.deref.result.now (i * s.dimension) s.dimension room)
          (λ k h. range-row c.deref.result.now (i * s.dimension) s.dimension k [] h ∙ ap (λ us. get_or us (i * s.dimension + k) []) c.deref.ensures.value)
          (subst (λ v. (elements v).◌≋◌ c.loop-i.out (summed v x y i)) (sym c.self.view_is) c.loop-i.invariant.sum)
          (λ t h. c.add_multiples.ensures.entries t (omega arith)));
    }

pub returns-clause-product : goal.returns-clause-product
returns-clause-product c =
    let S = c.args.self.now in
    let prime_is = ap (λ (v : FiniteAlgebra). v.prime) c.self.view_is in
    let wide = ap (λ (v : FiniteAlgebra). v.dimension) c.self.view_is in
    let positive : 0 < S.prime = omega (arith, c.get-p.ensures.range, c.get-p.ensures.value, prime_is) in
    let last : c.loop-i.i ≡ S.dimension = omega (arith, c.loop-i-test.false, wide) in
    same S positive c.loop-i.out (times S c.args.a.now c.args.b.now) (omega (arith, c.loop-i.auto.out, c.requires.out), c.loop-i.invariant.residues) (times_fits S positive c.args.a.now c.args.b.now)
    (subst ((elements S).◌≋◌ c.loop-i.out) (ap (summed S c.args.a.now c.args.b.now) last ∙ summed-all S positive c.args.a.now c.args.b.now) c.loop-i.invariant.sum)
