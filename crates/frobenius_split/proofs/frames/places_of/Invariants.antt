use Rattle.frobenius_split.specs.Frames.{ArePlacesOf}
use Rattle.frobenius_split.proofs.frames.places_of.Given as goal

abbrev pub invariant-loop-j : goal.invariant-loop-j
invariant-loop-j l = ArePlacesOf l.numbers l.j l.k l.places
