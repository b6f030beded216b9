use Rattle.std.proofs.Common.{◌++◌, [], ◌∷◌, ap, ◌∙◌, append_assoc}
use Rattle.poly_text.proofs.Fronts.{prints_behind}
use Rattle.poly_text.proofs.Texts.{power_text-more}
use Rattle.poly_text.proofs.printing.print_power.Goals as goal

pub returns : goal.returns
returns c = prints_behind _ _ _ _ (c.args.letter ∷ 94 ∷ []) _ _
    (c.in_ok-push-2.ensures.ok ∙ ap (λ t. t ++ (94 ∷ [])) c.in_ok-push.ensures.ok ∙ append_assoc c.args.out.now (c.args.letter ∷ []) (94 ∷ []))
    (power_text-more c.args.letter c.args.exponent c.if-exponent-eq1.false) c.print_number.ensures
