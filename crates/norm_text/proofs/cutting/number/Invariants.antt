use Rattle.std.proofs.Common.{◌≡◌, min, take}
use Rattle.poly_text.specs.Digits.{number}
use Rattle.norm_text.specs.declared.cutting.TheConstants.{MOST}
use Rattle.norm_text.proofs.cutting.number.Given as goal

abbrev pub invariant-loop-digit : goal.invariant-loop-digit
invariant-loop-digit l = l.n ≡ min (number (take l.digit-index l.digits)) MOST
