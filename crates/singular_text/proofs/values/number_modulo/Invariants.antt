use Rattle.std.proofs.Common.{◌≡◌, ◌<◌, ◌%◌, drop}
use Rattle.poly_text.specs.Digits.{number, number_after}
use Rattle.singular_text.proofs.values.number_modulo.Given as goal

abbrev pub invariant-loop-digit : goal.invariant-loop-digit
invariant-loop-digit l = record {
  same : number_after l.sum (drop l.digit-index l.digits) % l.p ≡ number l.digits % l.p;
  residue : l.sum < l.p;
}
