use Rattle.std.proofs.Common.{◌≡◌, ℕ, List, ◌++◌, drop}
use Rattle.poly_text.specs.Parts.{factors_text}
use Rattle.poly_text.proofs.printing.print_factors.Given as goal

abbrev pub invariant-loop-letter : goal.invariant-loop-letter
invariant-loop-letter l = record {
  place : l.v ≡ l.letter-index;
  done : List ℕ;
  printed : l.out ≡ l.fn.out ++ done;
  whole : factors_text l.fn.is_first l.letters l.mono.exponents ≡ done ++ factors_text l.is_first (drop l.letter-index l.letters) (drop l.letter-index l.mono.exponents);
}
