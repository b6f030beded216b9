use Rattle.std.proofs.Common.{◌≡◌, length, []}
use Rattle.problem_form.specs.Tokens.{tokens}
use Rattle.problem_form.specs.Reading.{listed_at}
use Rattle.problem_form.proofs.ring.listed_letters.Given as goal

abbrev pub invariant-loop-letter : goal.invariant-loop-letter
invariant-loop-letter l = listed_at l.letters (tokens l.rest) ≡ listed_at [] (tokens l.text)

abbrev pub decreases-loop-letter : goal.decreases-loop-letter
decreases-loop-letter l = length l.rest
