use Rattle.std.proofs.Common.{drop}
use Rattle.polys.specs.Terms.{IsCanonical}
use Rattle.poly_text.proofs.reading.are_canonical.Given as goal

abbrev pub invariant-loop-i : goal.invariant-loop-i
invariant-loop-i l = record {
  to : IsCanonical l.p (drop l.i l.terms) → IsCanonical l.p l.terms;
  from : IsCanonical l.p l.terms → IsCanonical l.p (drop l.i l.terms);
}
