use Rattle.std.proofs.Common.{◌↔◌, ℕ, ap, subst, ◌∙◌}
use Rattle.row_space.specs.Sums.{IsWeighted}
use Rattle.row_space.specs.Subspace.{Subspace, IsImage}
use Rattle.row_space.proofs.Finding.{both_found}
use Rattle.row_space.proofs.space.Space.intersect.Goals as goal

pub returns-clause-members : goal.returns-clause-members
returns-clause-members c =
    let s = c.args.self.now in
    let o = c.args.other.now in
    let t = c.in_ok-both.both in
    let wide = ap (λ (v : Subspace). v.width) c.self.view_is in
    let found = subst (λ n. (f : ℕ → ℕ) → IsWeighted s.prime n t.basis f ↔ IsImage s n c.rows.result.now c.rows-2.result.now f) wide c.in_ok-both.ensures.members in
    let left = subst (λ xs. (f : ℕ → ℕ) → IsWeighted s.prime s.width t.basis f ↔ IsImage s s.width xs c.rows-2.result.now f) c.rows.ensures.basis found in
    let right = subst (λ xs. (f : ℕ → ℕ) → IsWeighted s.prime s.width t.basis f ↔ IsImage s s.width o.basis xs f) c.rows-2.ensures.basis left in
    both_found s o t c.requires.prime c.requires.length c.in_ok-both.ensures.shape.0 (c.in_ok-both.ensures.shape.1 ∙ wide) right
