use Rattle.std.proofs.Common.{◌≡◌, ◌++◌, drop, length}
use Rattle.poly_text.specs.TermReading.{begun, terms_in, IsPartialTerm}
use Rattle.poly_text.proofs.reading.terms_behind.Given as goal

abbrev pub invariant-loop-byte : goal.invariant-loop-byte
invariant-loop-byte l = record {
  known : IsPartialTerm (length l.letters) l.partial;
  same : l.terms.items ++ terms_in l.p l.letters l.partial (drop l.byte-index l.bytes) ≡ terms_in l.p l.letters (begun l.is_negative) l.bytes;
}
