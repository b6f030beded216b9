use Rattle.std.proofs.Common.{◌≡◌, List, length}
use Rattle.std.specs.Prelude.{All}
use Rattle.polys.specs.declared.term.Term.{Term}
use Rattle.polys.specs.Poly.{terms_of}
use Rattle.poly_text.specs.PolyText.{list_text}
use Rattle.norm_text.specs.Ranges.{IsPrintable}
use Rattle.norm_text.specs.Reading.{IsReadable}
use Rattle.norm_text.specs.ReadingSteps.{AreKnown}
use Rattle.norm_text.proofs.Leaves.{Leaves}
use Rattle.norm_text.proofs.reading.read_list.Given as goal

abbrev pub invariant-loop-rest : goal.invariant-loop-rest
invariant-loop-rest l = record {
  known : All (IsReadable l.prime l.letters) l.polys;
  exact : AreKnown l.prime l.letters → (fs : List (List Term)) → All (IsPrintable l.prime l.letters) fs → l.bytes ≡ list_text l.prime l.letters fs
      → Leaves (list_text l.prime l.letters) (IsPrintable l.prime l.letters) fs (terms_of l.polys) l.rest;
}

abbrev pub decreases-loop-rest : goal.decreases-loop-rest
decreases-loop-rest l = length l.rest
