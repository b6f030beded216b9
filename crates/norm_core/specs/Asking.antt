-- What the top call serves.
use Rattle.std.specs.Prelude.{ℕ, List}
use Rattle.command_line.specs.Asks.{AsksFor}
use Rattle.command_line.specs.declared.asking.Limits.{Limits}
use Rattle.command_line.specs.declared.asking.Ask.TheVariants.{Alone}
use Rattle.norm_core.specs.Telling.{Service}

-- the answer by one seat, under this cap and this limit
abbrev pub AsksAlone : List (List ℕ) → Service
AsksAlone words cap limit = AsksFor words (Alone (record { cap = cap; limit = limit }))
