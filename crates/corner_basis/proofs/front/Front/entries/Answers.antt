use Rattle.std.proofs.Common.{◌≤◌, ◌*◌, length, sym, subst, arith, Fits, w64}
use Rattle.corner_basis.proofs.Fronts.{front_small}
use Rattle.corner_basis.proofs.front.Front.entries.Goals as goal

pub overflow_mul-result : goal.overflow_mul-result
overflow_mul-result c =
    let f = c.args.self.now in
    subst (λ b. Fits w64 (length b * f.blocks)) (sym c.basis.ensures.value) (let h = front_small f.digits.now c.basis.ensures.known f.blocks c.requires.shallow in omega arith)

pub returns-clause-small : goal.returns-clause-small
returns-clause-small c =
    let f = c.args.self.now in
    subst (λ b. length b * f.blocks ≤ 51200) (sym c.basis.ensures.value) (front_small f.digits.now c.basis.ensures.known f.blocks c.requires.shallow)
