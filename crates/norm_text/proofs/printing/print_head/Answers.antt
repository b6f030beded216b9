use Rattle.std.proofs.Common.{◌++◌, ◌∙◌, ap}
use Rattle.std.proofs.lemmas.Result.{on_ok_weaker}
use Rattle.std.specs.Prelude.{codes, decimal}
use Rattle.poly_text.specs.PolyText.{poly_text}
use Rattle.norm_text.specs.Answer.{line}
use Rattle.norm_text.proofs.Pieces.{six}
use Rattle.norm_text.proofs.printing.print_head.Goals as goal

pub returns : goal.returns
returns c = on_ok_weaker c.print_named.result (λ last. six _ _ _ _ _ _ _ _ _ _ _ _ _ c.in_ok-print_version.ensures
    (c.in_ok-number_line.ensures ∙ ap (λ n. c.print_version.new.out ++ line (codes "characteristic ") (decimal n)) c.get.ensures.value)
    c.in_ok-letters_line.ensures
    (c.in_ok-poly_line.ensures ∙ ap (λ p. c.letters_line.new.out ++ line (codes "denominator ") (poly_text p c.args.answer.now.letters c.args.answer.now.denominator.terms)) c.requires)
    c.in_ok-number_line-2.ensures last) c.print_named.ensures
