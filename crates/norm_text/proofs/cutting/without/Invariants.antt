use Rattle.std.proofs.Common.{◌≡◌, ◌++◌, drop}
use Rattle.norm_text.specs.Cutting.{without}
use Rattle.norm_text.proofs.cutting.without.Given as goal

abbrev pub invariant-loop-byte : goal.invariant-loop-byte
invariant-loop-byte l = l.kept ++ without l.mark (drop l.byte-index l.bytes) ≡ without l.mark l.bytes
