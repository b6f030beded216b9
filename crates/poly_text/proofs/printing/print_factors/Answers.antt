use Rattle.std.proofs.Common.{◌++◌, List, ℕ, sym, ap, ◌∙◌, append_assoc, arith}
use Rattle.std.specs.Prelude.{slice_index}
use Rattle.std.proofs.lemmas.Result.{err_from_is_err_and}
use Rattle.poly_text.specs.Parts.{factor_text}
use Rattle.poly_text.proofs.Fronts.{front_behind}
use Rattle.poly_text.proofs.Texts.{factors_text-split}
use Rattle.poly_text.proofs.printing.print_factors.Goals as goal

pub returns-in_err-print_factor : goal.returns-in_err-print_factor
returns-in_err-print_factor c =
    let p = err_from_is_err_and c.from_residual.result c.from_residual.ensures.1 in
    let loop = c.loop-letter.invariant in
    rw p.1 (front_behind _ _ _ loop.done _ _ _ loop.printed
    (factors_text-split _ loop.done c.args.letters.now c.args.mono.now.exponents c.loop-letter.is_first c.loop-letter.letter-index c.loop-letter.v c.exponent-exponent.result
    loop.whole c.loop-letter-test.true c.requires.few c.requires.seven loop.place c.exponent-exponent.ensures)
    c.in_err-print_factor.ensures)

pub loop-letter-preserved : goal.loop-letter-preserved
loop-letter-preserved c =
    let loop = c.loop-letter.invariant in
    let part : List ℕ = factor_text c.loop-letter.is_first (slice_index c.args.letters.now c.loop-letter.letter-index) c.exponent-exponent.result in
    record {
      place = omega arith;
      done = loop.done ++ part;
      printed = c.in_ok-print_factor.ensures ∙ ap (λ t. t ++ part) loop.printed ∙ append_assoc c.args.out.now loop.done part;
      whole =
          rw c.stays_first-is_first.ensures
          (factors_text-split _ loop.done c.args.letters.now c.args.mono.now.exponents c.loop-letter.is_first c.loop-letter.letter-index c.loop-letter.v c.exponent-exponent.result
          loop.whole c.loop-letter-test.true c.requires.few c.requires.seven loop.place c.exponent-exponent.ensures
          ∙ sym (append_assoc loop.done part _));
    }
