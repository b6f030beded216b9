-- The polynomial 1, powers, multiples by numbers and differences.
use Rattle.std.proofs.Common.{◌≡◌, ℕ, ◌+◌, ◌-◌, ◌*◌, ◌%◌, ◌<◌, zero, suc, List, [], ◌∷◌, ◌++◌, refl, sym, ap, ◌∙◌, arith, append-nil}
use native.Mathlib.Nat.{mul-mod_right, zero-mod}
use Rattle.monomials.specs.Mono.{Monomial, times, unit}
use Rattle.monomials.proofs.Order.{times_one, times_comm}
use Rattle.monomials.proofs.Exponents.{length-pointwise}
use Rattle.polys.specs.declared.term.Term.{Term}
use Rattle.polys.specs.Terms.{IsCanonical, EachMono, normal, add, sub, scaled, multiple, scale, products, mul, one, power}
use Rattle.polys.specs.Poly.{IsPlain}
use Rattle.polys.proofs.Weights.{weigh, canon, weigh-append, weigh-normal, normal_ext, normal_same, mod_plus}
use Rattle.polys.proofs.Sums.{normal_normal, mul_comm, mul_assoc}
use Rattle.polys.proofs.Each.{every_mul}
use Rattle.polys.proofs.Leads.{Seven}

-- ---- the polynomial 1

pub canonical_one : (p : ℕ) → 1 < p → IsCanonical p one
canonical_one p h = (omega arith, h, tt, tt)

scale_one : (f : List Term) → EachMono Seven f → scale (record { coeff = 1; mono = unit }) f ++ [] ≡ f
scale_one [] h = refl
scale_one (t ∷ f) h =
    let c : 1 * t.coeff ≡ t.coeff = omega arith in
    let m : times unit t.mono ≡ t.mono = times_comm unit t.mono ∙ times_one t.mono h.0 in
    λ i. record { coeff = c i; mono = m i } ∷ scale_one f h.1 i

pub one_mul : (p : ℕ) (f : List Term) → EachMono Seven f → mul p one f ≡ normal p f
one_mul p f h = ap (normal p) (scale_one f h)

pub canonical_same : (p : ℕ) (f : List Term) → IsCanonical p f → normal p f ≡ f
canonical_same p f h = normal_same p f (canon p f h)

pub mul_one : (p : ℕ) (f : List Term) → IsCanonical p f → EachMono Seven f → mul p f one ≡ f
mul_one p f c h = mul_comm p f one ∙ one_mul p f h ∙ canonical_same p f c

-- ---- powers

pub seven_times : (m n : Monomial) → Seven m → Seven n → Seven (times m n)
seven_times m n h k = length-pointwise (λ x y. x + y) 7 m.exponents n.exponents h k

pub plain_times : (m n : Monomial) → IsPlain m → IsPlain n → IsPlain (times m n)
plain_times m n h k = omega arith

pub sevens_power : (p : ℕ) (f : List Term) (n : ℕ) → EachMono Seven f → EachMono Seven (power p f n)
sevens_power p f zero h = (refl, tt)
sevens_power p f (suc n) h = every_mul Seven p f (power p f n) seven_times h (sevens_power p f n h)

pub plain_power : (p : ℕ) (f : List Term) (n : ℕ) → EachMono IsPlain f → EachMono IsPlain (power p f n)
plain_power p f zero h = (refl, tt)
plain_power p f (suc n) h = every_mul IsPlain p f (power p f n) plain_times h (plain_power p f n h)

pub normal-power : (p : ℕ) (f : List Term) (n : ℕ) → 1 < p → normal p (power p f n) ≡ power p f n
normal-power p f zero h = canonical_same p one (canonical_one p h)
normal-power p f (suc n) h = normal_normal p (products f (power p f n))

pub power-add : (p : ℕ) (f : List Term) (m n : ℕ) → EachMono Seven f → power p f (m + suc n) ≡ mul p (power p f m) (power p f (suc n))
power-add p f zero n k =
    let e : 0 + suc n ≡ suc n = omega arith in
    ap (power p f) e ∙ sym (one_mul p (power p f (suc n)) (sevens_power p f (suc n) k) ∙ normal_normal p (products f (power p f n)))
power-add p f (suc m) n k =
    let e : suc m + suc n ≡ suc (m + suc n) = omega arith in
    ap (power p f) e ∙ ap (mul p f) (power-add p f m n k) ∙ sym (mul_assoc p f (power p f m) (power p f (suc n)))

-- the square of a root, and one factor more
pub power_square : (p : ℕ) (f : List Term) (h n : ℕ) → 0 < h → n ≡ h + h → EachMono Seven f → mul p (power p f h) (power p f h) ≡ power p f n
power_square p f zero n pos e k = absurd (omega arith)
power_square p f (suc h) n pos e k = sym (ap (power p f) e ∙ power-add p f (suc h) h k)

-- one more factor on the right
pub power_next : (p : ℕ) (f : List Term) (n k : ℕ) → k ≡ n + 1 → mul p (power p f n) f ≡ power p f k
power_next p f n k e = let s : k ≡ suc n = omega arith in mul_comm p (power p f n) f ∙ ap (power p f) (sym s)

-- ---- multiples by numbers

pub weigh-scaled : (χ : Monomial → ℕ) (c : ℕ) (f : List Term) → weigh χ (scaled c f) ≡ c * weigh χ f
unfolding weigh
weigh-scaled χ c [] = omega arith
weigh-scaled χ c (t ∷ f) = rw (weigh-scaled χ c f) (omega arith)

pub sub_self : (p : ℕ) (f : List Term) → 0 < p → sub p f f ≡ []
unfolding weigh
sub_self zero f h = absurd (omega arith)
sub_self (suc k) f h =
    normal_ext (suc k) (f ++ multiple (suc k) (suc k - 1) f) [] (λ χ.
    ap (λ (n : ℕ). n % suc k) (weigh-append χ f (multiple (suc k) (suc k - 1) f))
    ∙ mod_plus (suc k) (weigh χ f) (weigh χ f) (weigh χ (multiple (suc k) (suc k - 1) f)) (k * weigh χ f) refl
    (weigh-normal (suc k) χ (scaled (suc k - 1) f) ∙ ap (λ (n : ℕ). n % suc k) (weigh-scaled χ (suc k - 1) f ∙ off χ))
    ∙ ap (λ (n : ℕ). n % suc k) (whole χ)
    ∙ mul-mod_right (suc k) (weigh χ f)
    ∙ sym (zero-mod (suc k)))
  where
    off : (χ : Monomial → ℕ) → (suc k - 1) * weigh χ f ≡ k * weigh χ f
    off χ = let e : suc k - 1 ≡ k = omega arith in rw e

    whole : (χ : Monomial → ℕ) → weigh χ f + k * weigh χ f ≡ suc k * weigh χ f
    whole χ = omega arith

pub add_none : (p : ℕ) (f : List Term) → IsCanonical p f → add p f [] ≡ f
add_none p f h = ap (normal p) (append-nil f) ∙ canonical_same p f h
