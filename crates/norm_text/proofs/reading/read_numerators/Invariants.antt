use Rattle.std.proofs.Common.{◌≡◌, ℕ, List, ◌++◌, length, false}
use Rattle.std.specs.Prelude.{All, codes}
use Rattle.std.specs.List.{flat_map}
use Rattle.polys.specs.declared.term.Term.{Term}
use Rattle.polys.specs.Poly.{terms_of}
use Rattle.norm_text.specs.Answer.{numerator_line}
use Rattle.norm_text.specs.Cutting.{begins}
use Rattle.norm_text.specs.Ranges.{IsPrintable}
use Rattle.norm_text.specs.Reading.{IsReadable}
use Rattle.norm_text.specs.ReadingSteps.{AreKnown}
use Rattle.norm_text.proofs.Leaves.{Leaves}
use Rattle.norm_text.proofs.reading.read_numerators.Given as goal

abbrev pub invariant-loop-rest : goal.invariant-loop-rest
invariant-loop-rest l = record {
  known : All (IsReadable l.prime l.letters) l.polys;
  exact : AreKnown l.prime l.letters → (fs : List (List Term)) (behind : List ℕ) → All (IsPrintable l.prime l.letters) fs → begins (codes "numerator ") behind ≡ false
      → l.bytes ≡ flat_map (numerator_line l.prime l.letters) fs ++ behind
      → Leaves (λ left. flat_map (numerator_line l.prime l.letters) left ++ behind) (IsPrintable l.prime l.letters) fs (terms_of l.polys) l.rest;
}

abbrev pub decreases-loop-rest : goal.decreases-loop-rest
decreases-loop-rest l = length l.rest
