use Rattle.std.proofs.Common.{◌≡◌, ◌∙◌, refl, ap, sym, ◌<◌, length, arith}
use Rattle.problem_form.specs.Tokens.{behind_word}
use Rattle.problem_form.proofs.Lexing.{word_at, word_shortens, mark_at, no_token}
use Rattle.problem_form.proofs.tokens.next_token.Goals as goal

pub returns-in_default : goal.returns-in_default
returns-in_default c = sym c.skip_blanks-text.ensures.same ∙ no_token _ c.in_default.ensures.cases

pub returns-then-not-is_word_byte : goal.returns-then-not-is_word_byte
returns-then-not-is_word_byte c = (
  mark_at _ _ _ c.in-Some.first.now _ c.skip_blanks-text.ensures.same c.in-Some.ensures.cases.0 c.skip_blanks-text.ensures.stops
      (sym c.is_word_byte.ensures ∙ c.if-not-is_word_byte.true) refl,
  omega (arith, c.in-Some.ensures.cases.1),
)

pub returns : goal.returns
returns c =
    let text = c.skip_blanks-text.result.now in
    let behind : c.split_at.result.1.now ≡ behind_word text = c.split_at.ensures.back ∙ c.word_length.ensures.behind in
    let shorter : length (behind_word text) < length text =
    word_shortens text _ c.in-Some.first.now c.in-Some.ensures.cases.0 (sym c.is_word_byte.ensures ∙ c.if-not-is_word_byte.false) in (
      word_at _ _ _ c.in-Some.first.now _ _ c.skip_blanks-text.ensures.same c.in-Some.ensures.cases.0 (sym c.is_word_byte.ensures ∙ c.if-not-is_word_byte.false)
          (c.split_at.ensures.front ∙ c.word_length.ensures.word) behind,
      omega (arith, ap length behind),
    )
