-- Residues modulo a prime have inverses and no zero divisors.
use Rattle.std.proofs.Common.{◌≡◌, ℕ, ◌*◌, ◌%◌, ◌<◌, sym, ap, ◌∙◌, arith}
use native.Mathlib.Nat.{zero-mod}
use Rattle.std.proofs.lemmas.Nat.{mul-mod_first}
use Rattle.prime_field.specs.Primes.{IsPrime}
use Rattle.comm_ring.proofs.Fields as Fields

-- the inverse as the right factor
pub inverse : (p : ℕ) → IsPrime p → (a : ℕ) → 0 < a → a < p → (b : ℕ) × (a * b) % p ≡ 1
inverse p prime a h l =
    let i = Fields.inverse p prime a h l in
    let turn : a * i.0 ≡ i.0 * a = omega arith in
    (i.0, ap (λ (n : ℕ). n % p) turn ∙ i.1)

pub no_zero_divisors : (p : ℕ) → IsPrime p → (a b : ℕ) → 0 < a → a < p → (a * b) % p ≡ 0 → b % p ≡ 0
no_zero_divisors p prime a b h l z =
    let i = inverse p prime a h l in
    let turn : (a * i.0) * b ≡ (a * b) * i.0 = omega arith in
    let unit : 1 * b ≡ b = omega arith in
    let nothing : 0 * i.0 ≡ 0 = omega arith in
    ap (λ (n : ℕ). n % p) (sym unit)
    ∙ ap (λ (n : ℕ). (n * b) % p) (sym i.1)
    ∙ mul-mod_first (a * i.0) b p
    ∙ ap (λ (n : ℕ). n % p) turn
    ∙ sym (mul-mod_first (a * b) i.0 p)
    ∙ ap (λ (n : ℕ). (n * i.0) % p) z
    ∙ ap (λ (n : ℕ). n % p) nothing
    ∙ zero-mod p
