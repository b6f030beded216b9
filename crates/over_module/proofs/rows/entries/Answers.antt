use Rattle.std.proofs.Common.{◌*◌, length, sym, subst, arith, Fits, w64}
use Rattle.over_module.proofs.Facts.{small}
use Rattle.over_module.proofs.rows.entries.Goals as goal

pub overflow_mul-result : goal.overflow_mul-result
overflow_mul-result c =
    let g = c.args.digits.now in
    subst (λ b. Fits w64 (length b * c.args.blocks)) (sym c.basis.ensures.value) (let h = small g c.basis.ensures.known c.args.blocks c.requires in omega arith)
