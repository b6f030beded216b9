use Rattle.std.proofs.Common.{◌≡◌, ◌≤◌, ℕ, List, ◌++◌, length, map, false}
use Rattle.std.specs.Prelude.{All, codes}
use Rattle.std.specs.List.{flat_map}
use Rattle.norm_text.specs.declared.limits.TheConstants.{MAX_POINTS}
use Rattle.norm_text.specs.Answer.{PointData, point_line}
use Rattle.norm_text.specs.Cutting.{begins}
use Rattle.norm_text.specs.Reading.{IsReadable}
use Rattle.norm_text.specs.ReadingSteps.{AreKnown, IsPointInRange}
use Rattle.norm_text.specs.Shown.{point_of}
use Rattle.norm_text.proofs.Leaves.{Leaves}
use Rattle.norm_text.proofs.reading.read_points.Given as goal

abbrev pub invariant-loop-alloc : goal.invariant-loop-alloc
invariant-loop-alloc l = record {
  known : All (λ line. All (IsReadable l.prime l.letters) line.point.basis) l.points;
  exact : AreKnown l.prime l.letters → (Ps : List PointData) (behind : List ℕ) → All (IsPointInRange l.prime l.letters) Ps → length Ps ≤ MAX_POINTS
      → begins (codes "point ") behind ≡ false → l.bytes ≡ flat_map (point_line l.prime l.letters) Ps ++ behind
      → Leaves (λ left. flat_map (point_line l.prime l.letters) left ++ behind) (IsPointInRange l.prime l.letters) Ps (map point_of l.points) l.rest;
}

abbrev pub decreases-loop-alloc : goal.decreases-loop-alloc
decreases-loop-alloc l = length l.rest
