use Rattle.std.proofs.Common.{◌*◌, length, sym, ap, subst, ◌∙◌, arith, Fits, w64}
use Rattle.polys.specs.Curve.{data_of}
use Rattle.over_module.proofs.Facts.{finite, small}
use Rattle.ring_examples.proofs.ZeroSpace.{zero_ideal}
use Rattle.ring_examples.proofs.modules.zero_space.Goals as goal

pub overflow_mul-width : goal.overflow_mul-width
overflow_mul-width c =
    let g = c.args.digits.now in
    subst (λ b. Fits w64 (length b * c.args.blocks)) (sym c.basis.ensures.value) (let h = small g c.basis.ensures.known c.args.blocks c.requires in omega arith)

pub returns : goal.returns
returns c =
    let g = c.args.digits.now in
    let s = c.basis.ensures.known in
    zero_ideal (data_of g.curve) (finite g s) g.basis s.corners c.args.blocks c.new.result (ap (λ z. z.basis) c.new.ensures)
    (ap (λ z. z.prime) c.new.ensures ∙ ap (λ z. z.prime) (c.deref.ensures ∙ c.curve.ensures)) (ap (λ z. z.width) c.new.ensures ∙ ap (λ b. length b * c.args.blocks) c.basis.ensures.value)
