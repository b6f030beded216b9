-- The state that the fields of a core stand for.
use Rattle.race_core.specs.State.{State}
use Rattle.race_core.specs.declared.parts.Parts.{Parts}

abbrev pub state_of : Parts → State
state_of p = record {
  strata = p.strata;
  seats = p.seats;
  count = p.count;
  words = p.words.items;
  drawn = p.drawn.items;
  won = p.won.items;
  spent = p.spent.items;
  joined = p.joined.items;
}
