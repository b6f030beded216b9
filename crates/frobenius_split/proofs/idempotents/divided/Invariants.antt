use Rattle.frobenius_split.specs.Idempotents.{AreDivided}
use Rattle.frobenius_split.proofs.idempotents.divided.Given as goal

abbrev pub invariant-loop-j : goal.invariant-loop-j
invariant-loop-j l = AreDivided l.a l.values l.parts l.c l.w l.j l.made l.rest
