use Rattle.std.proofs.Common.{◌≡◌, ◌++◌, take, drop}
use Rattle.norm_text.specs.Cutting.{until, behind}
use Rattle.norm_text.proofs.cutting.cut.Given as goal

abbrev pub invariant-loop-i : goal.invariant-loop-i
invariant-loop-i l = record {
  before : until l.mark l.bytes ≡ take l.i l.bytes ++ until l.mark (drop l.i l.bytes);
  behind : behind l.mark l.bytes ≡ behind l.mark (drop l.i l.bytes);
}
