use Rattle.digit_space.proofs.BlockPolys.{BlockTerms}
use Rattle.digit_space.proofs.digits.Digits.block_poly.Given as goal

abbrev pub invariant-loop-i : goal.invariant-loop-i
invariant-loop-i l = BlockTerms l.self l.block l.i l.terms.items

abbrev pub decreases-loop-i : goal.decreases-loop-i
decreases-loop-i l = l.i
