use Rattle.std.proofs.Common.{◌≡◌, inl, ap, ◌∙◌, rules}
use Rattle.std.specs.Prelude.{Ok}
use Rattle.command_line.proofs.reading.read_words.Goals as goal

pub returns-in_default-clause-exact : goal.returns-in_default-clause-exact
returns-in_default-clause-exact c ask a =
    let gone = c.in_default.ensures.complete ask a in
    absurd (cc gone)

pub returns-in_default-clause-usage : goal.returns-in_default-clause-usage
returns-in_default-clause-usage c e ask a =
    let gone = c.in_default.ensures.complete ask a in
    absurd (cc gone)

pub returns-in-Some-2-clause-exact : goal.returns-in-Some-2-clause-exact
returns-in-Some-2-clause-exact c ask a =
    let found = c.in-Some.ensures.complete ask a in
    let same : c.in-Some.ask ≡ ask = cc found in
    let read : c.in-Some-2.read ≡ c.in-Some.ask = search rules in
    inl (ap Ok (read ∙ same))
