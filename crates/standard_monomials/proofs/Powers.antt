-- Powers of one variable.
use Rattle.std.proofs.Common.{◌≡◌, ◌≢◌, ℕ, ◌<◌, ◌≤◌, zero, suc, List, [], ◌∷◌, length, set, get_or, replicate, refl, sym, ap, ◌∙◌, arith}
use Rattle.monomials.specs.Mono.{Monomial, Divides}
use Rattle.polys.specs.Terms.{OnlyFirst, IsAffine}
use Rattle.standard_monomials.specs.Standard.{variable_power}
use Rattle.polys.proofs.Affine.{only_zeros}

pub length_power : (k v e : ℕ) → length {A = ℕ} (set (replicate k 0) v e) ≡ k
length_power zero v e = refl
length_power (suc k) zero e = ap suc (length_zeros k)
  where
    length_zeros : (k : ℕ) → length {A = ℕ} (replicate k 0) ≡ k
    length_zeros zero = refl
    length_zeros (suc k) = ap suc (length_zeros k)
length_power (suc k) (suc v) e = ap suc (length_power k v e)

only_power : (n k v e : ℕ) → v < n → OnlyFirst n (set (replicate k 0) v e)
only_power zero k v e h = absurd (omega arith)
only_power (suc n) zero v e h = tt
only_power (suc n) (suc k) zero e h = only_zeros n k
only_power (suc n) (suc k) (suc v) e h = only_power n k v e (omega arith)

pub affine_power : (n v e : ℕ) → v < n → IsAffine n (variable_power v e)
affine_power n v e h = record { seven = length_power 7 v e; first = only_power n 7 v e h; plain = refl }

pub at_place : (k v e : ℕ) → v < k → get_or (set (replicate k 0) v e) v 0 ≡ e
at_place zero v e h = absurd (omega arith)
at_place (suc k) zero e h = refl
at_place (suc k) (suc v) e h = at_place k v e (omega arith)

-- different exponents give different powers
pub power_differ : (v d e : ℕ) → v < 7 → d < e → variable_power v e ≢ variable_power v d
power_differ v d e h l q =
    let s : e ≡ d = sym (at_place 7 v e h) ∙ ap (λ (m : Monomial). get_or m.exponents v 0) q ∙ at_place 7 v d h in
    absurd (omega arith)

zeros_under : (k : ℕ) (b : List ℕ) (i : ℕ) → get_or (replicate k 0) i 0 ≤ get_or b i 0
zeros_under zero b i = omega arith
zeros_under (suc k) b zero = omega arith
zeros_under (suc k) [] (suc i) = zeros_under k [] i
zeros_under (suc k) (x ∷ b) (suc i) = zeros_under k b i

pub off_place : (k v e i : ℕ) → i ≢ v → get_or (set (replicate k 0) v e) i 0 ≤ 0
off_place zero v e i d = omega arith
off_place (suc k) zero e zero d = absurd (d refl)
off_place (suc k) zero e (suc i) d = zeros_under k [] i
off_place (suc k) (suc v) e zero d = omega arith
off_place (suc k) (suc v) e (suc i) d = off_place k v e i (λ q. d (ap suc q))

power_under : (k v e : ℕ) (b : List ℕ) → e ≤ get_or b v 0 → (i : ℕ) → get_or (set (replicate k 0) v e) i 0 ≤ get_or b i 0
power_under zero v e b h i = omega arith
power_under (suc k) zero e [] h zero = h
power_under (suc k) zero e [] h (suc i) = zeros_under k [] i
power_under (suc k) zero e (x ∷ b) h zero = h
power_under (suc k) zero e (x ∷ b) h (suc i) = zeros_under k b i
power_under (suc k) (suc v) e [] h zero = omega arith
power_under (suc k) (suc v) e [] h (suc i) = power_under k v e [] h i
power_under (suc k) (suc v) e (x ∷ b) h zero = omega arith
power_under (suc k) (suc v) e (x ∷ b) h (suc i) = power_under k v e b h i

-- a power divides what has the exponent
pub power_divides : (v e : ℕ) (m : Monomial) → m.component ≡ 0 → e ≤ get_or m.exponents v 0 → Divides (variable_power v e) m
power_divides v e m c h = record { same = sym c; none_greater = power_under 7 v e m.exponents h }
