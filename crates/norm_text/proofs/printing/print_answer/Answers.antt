use Rattle.std.proofs.Common.{◌++◌, ◌∙◌, ap}
use Rattle.std.specs.List.{flat_map}
use Rattle.norm_text.specs.Lines.{own_point_line, own_numerator_line}
use Rattle.norm_text.proofs.Pieces.{five, point_lines, numerator_lines}
use Rattle.norm_text.proofs.printing.print_answer.Goals as goal

pub returns : goal.returns
returns c =
    let a = c.args.answer.now in
    five _ _ _ _ _ _ _ _ _ _ (rw c.new-text.ensures at c.in_ok-print_head.ensures)
    (c.in_ok-print_points.ensures
    ∙ ap (λ t. c.print_head.new.out ++ t) (ap (λ points. flat_map (own_point_line a.letters) points) c.as_slice.ensures ∙ point_lines a.prime a.letters a.points c.requires.points))
    c.in_ok-number_line.ensures
    (c.in_ok-print_numerators.ensures
    ∙ ap (λ t. c.number_line.new.out ++ t) (ap (λ fs. flat_map (own_numerator_line a.letters) fs) c.as_slice-2.ensures ∙ numerator_lines a.prime a.letters a.numerators c.requires.numerators))
    c.in_ok-print_bytes.ensures
