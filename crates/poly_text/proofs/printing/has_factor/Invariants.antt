use Rattle.std.proofs.Common.{◌≡◌, drop}
use Rattle.poly_text.specs.PolyText.{factors}
use Rattle.poly_text.specs.Parts.{is_some}
use Rattle.poly_text.proofs.printing.has_factor.Given as goal

abbrev pub invariant-loop-v : goal.invariant-loop-v
invariant-loop-v l = is_some (factors l.letters l.mono.exponents) ≡ is_some (factors (drop l.v l.letters) (drop l.v l.mono.exponents))
