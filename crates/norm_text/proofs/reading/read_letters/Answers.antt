use Rattle.std.proofs.Common.{◌≡◌, sym, ap, subst, ◌∙◌}
use Rattle.problem.specs.Letters.{AreLetters}
use Rattle.norm_text.specs.Cutting.{without}
use Rattle.norm_text.proofs.TextCuts.{letters_kept}
use Rattle.norm_text.proofs.Told.{option_read}
use Rattle.norm_text.proofs.reading.read_letters.Goals as goal

pub returns-clause-exact : goal.returns-clause-exact
returns-clause-exact c letters named text =
    let same : c.as_slice.result.now ≡ letters = c.as_slice.ensures ∙ c.in_ok-letters.ensures ∙ ap (without 44) text ∙ letters_kept letters named.each in
    option_read c.new.result c.ok_or.result (AreLetters c.as_slice.result.now) _ (λ l. l ≡ letters) c.ok_or.ensures.value c.new.ensures
    (subst AreLetters (sym same) named) (λ l h. h.0 ∙ same)
