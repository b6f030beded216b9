use Rattle.digit_space.specs.Adding.{rows_from}
use Rattle.digit_space.proofs.Added.{BlocksAdded}
use Rattle.digit_space.proofs.digits.Digits.add_products.Given as goal

abbrev pub invariant-loop-from : goal.invariant-loop-from
invariant-loop-from l = BlocksAdded l.self (rows_from l.border l.products l.first) l.row l.from l.out

abbrev pub decreases-loop-from : goal.decreases-loop-from
decreases-loop-from l = l.from
