use Rattle.std.proofs.Common.{◌≡◌, ◌+◌, drop}
use Rattle.problem.specs.Letters.{place}
use Rattle.problem.proofs.letters.place.Given as goal

abbrev pub invariant-loop-i : goal.invariant-loop-i
invariant-loop-i l = l.i + place (drop l.i l.letters) l.letter ≡ place l.letters l.letter
