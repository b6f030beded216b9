use Rattle.std.proofs.Common.{◌≡◌, ℕ, List, ◌++◌, drop}
use Rattle.poly_text.specs.PolyText.{poly_text}
use Rattle.poly_text.specs.Parts.{terms_text}
use Rattle.poly_text.proofs.printing.print_poly.Given as goal

abbrev pub invariant-loop-term : goal.invariant-loop-term
invariant-loop-term l = record {
  done : List ℕ;
  printed : l.out ≡ l.fn.out ++ done;
  whole : poly_text l.poly.prime l.letters l.poly.terms ≡ done ++ terms_text l.poly.prime l.names l.is_first (drop l.term-index l.terms);
}
