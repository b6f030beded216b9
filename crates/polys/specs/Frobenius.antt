-- Powers whose exponent is the characteristic.
use Rattle.std.specs.Prelude.{◌≡◌, ℕ, ◌*◌, ◌≤◌, List, map}
use Rattle.prime_field.specs.Primes.{IsCharacteristic}
use Rattle.monomials.specs.Mono.{Monomial}
use Rattle.polys.specs.declared.term.Term.{Term}
use Rattle.polys.specs.Terms.{IsPoly, power}

-- the monomial whose exponents are k times as great
abbrev pub raised : ℕ → Monomial → Monomial
raised k m = record { exponents = map (λ e. k * e) m.exponents; component = m.component }

-- the polynomial with each variable replaced by its k-th power
abbrev pub frobenius : ℕ → List Term → List Term
frobenius k f = map (λ t. record { coeff = t.coeff; mono = raised k t.mono }) f

-- the p-th power replaces each variable by its p-th power, for each characteristic p up to 47
abbrev pub FrobeniusLaw : Type 0
FrobeniusLaw = (p n : ℕ) (f : List Term) → IsCharacteristic p → p ≤ 47 → IsPoly p n f → power p f p ≡ frobenius p f
