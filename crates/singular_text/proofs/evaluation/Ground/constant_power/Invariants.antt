use Rattle.std.proofs.Common.{◌≡◌, ℕ, length, drop}
use Rattle.poly_text.specs.Digits.{number, number_after}
use Rattle.singular_text.proofs.Fits.{IsPowerOf}
use Rattle.singular_text.proofs.evaluation.Ground.constant_power.Given as goal

abbrev pub invariant-loop-digit : goal.invariant-loop-digit
invariant-loop-digit l = record {
  read : ℕ;
  same : number_after read (drop l.digit-index l.digits) ≡ number l.digits;
  power : IsPowerOf l.self.prime (length l.self.letters) l.base l.power read;
}
