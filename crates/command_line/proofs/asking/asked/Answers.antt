use Rattle.std.proofs.Common.{map, string_bytes, arith}
use Rattle.std.proofs.lemmas.List.{length-map}
use Rattle.command_line.proofs.WordLemmas.{asks_few, asked_found, asked_within}
use Rattle.command_line.proofs.asking.asked.Goals as goal

pub returns-then-options-gt-MAX_OPTION_WORDS-clause-complete :
    goal.returns-then-options-gt-MAX_OPTION_WORDS-clause-complete
returns-then-options-gt-MAX_OPTION_WORDS-clause-complete c ask a =
    let options = c.in_ok-command.options.now in
    let few = asks_few _ c.in_ok-command.command.now (map string_bytes options) ask c.in_ok-command.ensures.words a in
    absurd (omega (arith, few, length-map options string_bytes, c.if-options-gt-MAX_OPTION_WORDS.true))

pub returns-clause-within : goal.returns-clause-within
returns-clause-within c =
    asked_within _ c.ask_of.result
    (asked_found c.ask_of.result _ c.in_ok-command.command.now _ c.in_ok-given.given c.in_ok-command.ensures.words c.in_ok-given.ensures.found c.ask_of.ensures.found)
