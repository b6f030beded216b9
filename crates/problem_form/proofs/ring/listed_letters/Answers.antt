use Rattle.std.proofs.Common.{◌∙◌, sym, ap, List, ℕ, Some}
use Rattle.problem_form.specs.Tokens.{tokens}
use Rattle.problem_form.specs.Reading.{listed_at}
use Rattle.problem_form.proofs.Listed.{listed_on, listed_ends, listed_off, by_close, by_comma, by_other}
use Rattle.problem_form.proofs.ring.listed_letters.Goals as goal

pub returns-in_default-next_token : goal.returns-in_default-next_token
returns-in_default-next_token c =
    sym c.loop-letter.invariant ∙ listed_ends c.loop-letter.letters _ _ c.in-Some.letter c.in-Some.ensures.exact c.in_default-next_token.ensures

pub returns-then-is_token : goal.returns-then-is_token
returns-then-is_token c =
    sym c.loop-letter.invariant ∙ listed_on c.loop-letter.letters _ _ _ c.in-Some.letter _ c.in-Some.ensures.exact c.in-Some-next_token.ensures.0
    ∙ by_close c.loop-letter.letters c.in-Some.letter c.in-Some-next_token.mark.now (tokens c.in-Some-next_token.after.now) (sym c.is_token.ensures ∙ c.if-is_token.true)
    ∙ ap (λ (xs : List ℕ). Some (xs, tokens c.in-Some-next_token.after.now)) (sym c.in_ok-push.ensures.ok)

pub returns-then-not-is_token : goal.returns-then-not-is_token
returns-then-not-is_token c =
    sym c.loop-letter.invariant ∙ listed_on c.loop-letter.letters _ _ _ c.in-Some.letter _ c.in-Some.ensures.exact c.in-Some-next_token.ensures.0
    ∙ by_other c.loop-letter.letters c.in-Some.letter c.in-Some-next_token.mark.now (tokens c.in-Some-next_token.after.now) (sym c.is_token.ensures ∙ c.if-is_token.false) (sym c.is_token-in-Some.ensures ∙ c.if-not-is_token.true)

pub loop-letter-preserved : goal.loop-letter-preserved
loop-letter-preserved c =
    ap (λ (xs : List ℕ). listed_at xs (tokens c.in-Some-next_token.after.now)) c.in_ok-push.ensures.ok
    ∙ sym
    (
    listed_on c.loop-letter.letters _ _ _ c.in-Some.letter _ c.in-Some.ensures.exact c.in-Some-next_token.ensures.0
    ∙ by_comma c.loop-letter.letters c.in-Some.letter c.in-Some-next_token.mark.now (tokens c.in-Some-next_token.after.now) (sym c.is_token.ensures ∙ c.if-is_token.false) (sym c.is_token-in-Some.ensures ∙ c.if-not-is_token.false)
    )
    ∙ c.loop-letter.invariant

pub returns : goal.returns
returns c = sym c.loop-letter.invariant ∙ listed_off c.loop-letter.letters _ c.in_default.ensures.exact
