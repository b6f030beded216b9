use Rattle.std.proofs.Common.{◌≡◌, ◌+◌, ◌<◌, ◌≤◌, ◌∷◌, [], length, get_or, sym, ap, subst, ◌∙◌, arith, ⊎_elim, length-append}
use Rattle.std.proofs.lemmas.Bool.{cases_lt}
use Rattle.std.proofs.lemmas.List.{get_or_append_left, get_or_push, get_or_default}
use Rattle.polys.specs.Terms.{mul}
use Rattle.polys.specs.Curve.{data_of}
use Rattle.digit_laws.specs.Digits.{AreDigits, value}
use Rattle.endo_ring.proofs.narrowing.products.Goals as goal

pub loop-i-preserved : goal.loop-i-preserved
loop-i-preserved c =
    let g = c.args.digits.now in
    let i = c.loop-i.i in
    let image = c.in_ok-product_row.field-0 in
    let taken = c.as_slice-row.ensures ∙ c.index-rows-i.is ∙ get_or_default c.args.rows.now i c.index-rows-i.result [] c.loop-i-test.true in
    let pushed = c.in_ok-push.ensures.ok in
    record {
      long = ap length pushed ∙ omega (arith, length-append c.loop-i.made (image ∷ []), c.loop-i.invariant.long);
      each = λ j h. subst (AreDigits (data_of g.curve) g.basis (c.args.blocks + c.args.blocks) (mul g.curve.prime c.args.generator.now.terms (value (data_of g.curve) g.basis c.args.blocks (get_or c.args.rows.now j []))))
          (sym (ap (λ rs. get_or rs j []) pushed))
          (⊎_elim
          (λ (a : j < c.loop-i.i). subst (AreDigits (data_of g.curve) g.basis (c.args.blocks + c.args.blocks) (mul g.curve.prime c.args.generator.now.terms (value (data_of g.curve) g.basis c.args.blocks (get_or c.args.rows.now j []))))
          (sym (get_or_append_left c.loop-i.made (image ∷ []) [] j (omega (arith, c.loop-i.invariant.long)))) (c.loop-i.invariant.each j a))
          (λ (a : c.loop-i.i ≤ j).
          let same : c.loop-i.i ≡ j = omega arith in
          subst (AreDigits (data_of g.curve) g.basis (c.args.blocks + c.args.blocks) (mul g.curve.prime c.args.generator.now.terms (value (data_of g.curve) g.basis c.args.blocks (get_or c.args.rows.now j []))))
          (sym (get_or_push c.loop-i.made image [] j (omega (arith, c.loop-i.invariant.long))))
          (subst (λ r. AreDigits (data_of g.curve) g.basis (c.args.blocks + c.args.blocks) (mul g.curve.prime c.args.generator.now.terms (value (data_of g.curve) g.basis c.args.blocks r)) image)
          (taken ∙ ap (λ m. get_or c.args.rows.now m []) same) c.in_ok-product_row.ensures))
          (cases_lt j c.loop-i.i));
    }
