-- Ring identities with their expressions written out, for goals that do not show their terms.
use Rattle.std.proofs.Common.{List}
use lib.Dec.{T}
use Rattle.comm_ring.specs.Ring.{CommRing}
use Rattle.comm_ring.proofs.Solver.{Expression, solve, value, agree, agree_sound}
use Rattle.comm_ring.proofs.Solver.Expression.{var, null, unit, add, mul, opp}

-- the two expressions have one normal form; the last argument is `tt`
pub ring_as : (R : CommRing) (vars : List R.carrier) (e f : Expression) → T (agree e f) → R.◌≈◌ (value R vars e) (value R vars f)
ring_as R vars e f t = solve R vars e f (agree_sound e f t)

infixl 60 ◌+:◌
infixl 70 ◌*:◌
-- 0 and 1
abbrev pub c0 : Expression
c0 = null

abbrev pub c1 : Expression
c1 = unit

-- sums, products and negatives
abbrev pub ◌+:◌ : Expression → Expression → Expression
◌+:◌ e f = add e f

abbrev pub ◌*:◌ : Expression → Expression → Expression
◌*:◌ e f = mul e f

abbrev pub minus : Expression → Expression
minus e = opp e

-- the first eight variables
abbrev pub v0 : Expression
v0 = var 0

abbrev pub v1 : Expression
v1 = var 1

abbrev pub v2 : Expression
v2 = var 2

abbrev pub v3 : Expression
v3 = var 3

abbrev pub v4 : Expression
v4 = var 4

abbrev pub v5 : Expression
v5 = var 5

abbrev pub v6 : Expression
v6 = var 6

abbrev pub v7 : Expression
v7 = var 7
