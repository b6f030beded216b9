-- Monomials raised by a variable.
use Rattle.std.specs.Prelude.{ℕ, ◌+◌, slice_set, slice_index}
use Rattle.monomials.specs.Mono.{Monomial}

-- the monomial with the exponent of the variable v raised by e
abbrev pub raised : Monomial → ℕ → ℕ → Monomial
raised m v e = record { exponents = slice_set m.exponents v (slice_index m.exponents v + e); component = m.component }
