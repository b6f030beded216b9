use Rattle.std.proofs.Common.{◌≡◌, ◌↔◌, ◌<◌, ◌≤◌, ℕ, [], length, get_or, set, replicate, arith, ap, sym, subst, ◌∙◌}
use Rattle.std.proofs.Math.ListN.{length-set}
use Rattle.std.proofs.lemmas.List.{get_or_default, length-replicate}
use Rattle.std.proofs.lemmas.List.Elements.{All-set, All-replicate}
use Rattle.row_space.specs.Sums.{IsWeighted}
use Rattle.row_space.specs.Echelon.{IsRow}
use Rattle.row_space.specs.Subspace.{Subspace, IsImage}
use Rattle.row_space.proofs.Finding.{taken_found}
use Rattle.row_space.proofs.space.Space.preimage.Goals as goal

pub images-requires-clause-images : goal.images-requires-clause-images
images-requires-clause-images c = λ k d h.
    let s = c.args.self.now in
    let n = length c.args.matrix.now in
    let units_are = c.as_slice.ensures in
    let inside : k < n = omega (arith, ap length units_are, c.in_ok-units.ensures.long) in
    let row_is = ap (λ us. get_or us k d) units_are ∙ get_or_default c.in_ok-units.units k d [] (omega (arith, ap length units_are)) ∙ c.in_ok-units.ensures.rows k inside in
    let prime_is = ap (λ (v : Subspace). v.prime) c.self.view_is in
    let two : 2 ≤ s.prime = omega (arith, c.get-modulus.ensures.range, c.get-modulus.ensures.value, prime_is) in
    let wide : length (set (replicate {A = ℕ} n 0) k 1) ≡ n = length-set (replicate n 0) k 1 ∙ length-replicate n 0 in
    subst (IsRow s.prime n) (sym row_is) (wide, All-set (λ x. x < s.prime) (replicate n 0) k 1 (omega arith) (All-replicate (λ x. x < s.prime) n 0 (omega arith)))

pub returns-clause-members : goal.returns-clause-members
returns-clause-members c =
    let s = c.args.self.now in
    let t = c.in_ok-taken.taken in
    let n = length c.args.matrix.now in
    let found = subst (λ xs. (f : ℕ → ℕ) → IsWeighted s.prime n t.basis f ↔ IsImage s n c.args.matrix.now xs f) c.as_slice.ensures c.in_ok-taken.ensures.members in
    taken_found s t c.args.matrix.now c.in_ok-units.units c.in_ok-taken.ensures.shape.0 c.in_ok-taken.ensures.shape.1 c.in_ok-units.ensures.long c.in_ok-units.ensures.rows found
