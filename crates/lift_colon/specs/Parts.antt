-- The terms of the second parts of pairs.
use Rattle.std.specs.Prelude.{ℕ, ◌-◌, ◌*◌, ◌%◌}
use Rattle.polys.specs.declared.term.Term.{Term}
use Rattle.homogenising.specs.Homogenised.{with_hom}

-- the negative of the term modulo p, in the first component, where the homogenising variable is 1
abbrev pub opposed : ℕ → Term → Term
opposed p t = record { coeff = ((p - 1) * t.coeff) % p; mono = with_hom 0 (record { exponents = t.mono.exponents; component = 0 }) }
