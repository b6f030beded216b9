use Rattle.std.proofs.Common.{◌≡◌, length}
use Rattle.worker_gate.specs.Hired.{AreRooms}
use Rattle.worker_gate.proofs.crew.make_rooms.Given as goal

-- so many rooms so far
abbrev pub invariant-loop-worker : goal.invariant-loop-worker
invariant-loop-worker l = record {
  rooms : AreRooms l.size l.rooms.items;
  count : length l.rooms.items ≡ l._worker;
}
