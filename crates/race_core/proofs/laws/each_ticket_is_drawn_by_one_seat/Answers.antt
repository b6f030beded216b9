use Rattle.race_core.proofs.Reached.{drawn-once}
use Rattle.race_core.proofs.laws.each_ticket_is_drawn_by_one_seat.Goals as goal

pub returns : goal.returns
returns c = drawn-once
