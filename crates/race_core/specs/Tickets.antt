-- What a ticket names. Tickets are numbered from 0; there are two for each stratum.
use Rattle.std.specs.Prelude.{ℕ, ◌+◌, ◌/◌, ◌%◌}

-- the stratum that ticket t names, where there are so many strata
abbrev pub ticket_stratum : ℕ → ℕ → ℕ
ticket_stratum strata t = t % strata + 1

-- the kind of job, 0 or 1, that ticket t names
abbrev pub ticket_kind : ℕ → ℕ → ℕ
ticket_kind strata t = t / strata
