use Rattle.std.proofs.Common.{◌≡◌, ◌≤◌, [], ◌∷◌, refl, ap, ◌∙◌, arith}
use Rattle.std.specs.Prelude.{codes, decimal, map, is_some}
use Rattle.std.specs.Str.{bytes_eq}
use Rattle.poly_text.specs.PolyText.{join, poly_text}
use Rattle.norm_text.specs.Answer.{line, first_line, named_line}
use Rattle.norm_text.specs.Cutting.{until, behind}
use Rattle.norm_text.proofs.Cuts.{free_of, line_end, decimal_piece}
use Rattle.norm_text.proofs.TextCuts.{letters_free, poly_piece, prime_small}
use Rattle.norm_text.proofs.Told.{line_read, number_read, head_parts, version_second, version_behind}
use Rattle.norm_text.proofs.reading.head_of.Goals as goal

pub returns : goal.returns
returns c a rest h text =
    let few = prime_small a.prime h.prime in
    let small : a.dimension ≤ 256 = h.sizes.dimension in
    let whole = text ∙ head_parts (first_line a.named) (line (codes "characteristic ") (decimal a.prime))
    (line (codes "variables ") (join (codes ",") (map (λ x. x ∷ []) a.letters))) (line (codes "denominator ") (poly_text a.prime a.letters a.denominator))
    (line (codes "dimension ") (decimal a.dimension)) (named_line a.named) rest in
    let behind_version = c.cut.ensures.behind ∙ ap (behind 10) whole ∙ version_behind a.named _ in
    let second : c.is_second.result ≡ is_some a.named =
    c.is_second.ensures ∙ ap (λ t. bytes_eq t (codes "locnormal 2")) (c.cut.ensures.before ∙ ap (until 10) whole) ∙ version_second a.named _
    in
    let one = line_read (codes "characteristic ") (decimal a.prime) _ c.cut.result.1.now c.field.result.0.now c.field.result.1.now
    (free_of 10 (codes "characteristic ") refl) (decimal_piece 10 line_end a.prime few).free behind_version c.field.ensures.field c.field.ensures.behind in
    let two = line_read (codes "variables ") (join (codes ",") (map (λ x. x ∷ []) a.letters)) _ c.field.result.1.now c.field-2.result.0.now c.field-2.result.1.now
    (free_of 10 (codes "variables ") refl) (letters_free 10 line_end a.prime few a.letters h.letters.each (free_of 10 (codes ",") refl) a.letters h.letters.each)
    one.1 c.field-2.ensures.field c.field-2.ensures.behind in
    let three = line_read (codes "denominator ") (poly_text a.prime a.letters a.denominator) _ c.field-2.result.1.now c.field-3.result.0.now c.field-3.result.1.now
    (free_of 10 (codes "denominator ") refl) (poly_piece 10 line_end a.prime few a.letters h.letters.each a.denominator h.denominator).free
    two.1 c.field-3.ensures.field c.field-3.ensures.behind in
    let four = line_read (codes "dimension ") (decimal a.dimension) _ c.field-3.result.1.now c.field-4.result.0.now c.field-4.result.1.now
    (free_of 10 (codes "dimension ") refl) (decimal_piece 10 line_end a.dimension (omega arith)).free three.1 c.field-4.ensures.field c.field-4.ensures.behind in
    let five = c.named_count-named.ensures a.named rest h.sizes.named second four.1 in
    record {
      characteristic = one.0;
      variables = two.0;
      denominator = three.0;
      dimension = number_read c.field-4.result.0.now a.dimension c.number.result (omega arith) four.0 c.number.ensures;
      named = five.0;
      rest = five.1;
    }
