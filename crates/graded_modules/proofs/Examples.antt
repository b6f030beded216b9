-- The examples by hand.
use Rattle.std.proofs.Common.{◌≡◌, inr, ℕ, ◌<◌, ◌≤◌, zero, suc, List, [], ◌∷◌, get_or, refl, ap, arith}
use Rattle.std.specs.List.{All, AllPairs, Contains}
use Rattle.std.proofs.lemmas.List.Elements.{All-nil, All-cons, All-weaker}
use Rattle.monomials.specs.Mono.{Monomial, Divides, variable}
use Rattle.prime_field.specs.Primes.{IsPrime}
use Rattle.polys.specs.declared.term.Term.{Term}
use Rattle.polys.specs.Terms.{IsMonic}
use Rattle.graded_modules.specs.Vector.{IsGradedVector, IsGenerator, degree_at, lead_mono}
use Rattle.graded_modules.specs.Module.{InModule}
use Rattle.graded_modules.specs.SVector.{lead_lcm, IsSettled}
use Rattle.graded_modules.specs.Bases.{IsBasisBelow}
use Rattle.graded_modules.specs.Examples.{two_variables, TwoVariables, SVectorByHand, ShiftByHand}
use Rattle.graded_modules.proofs.Members.{in_generator}
use Rattle.graded_modules.proofs.Settled.{settled_law}
use Rattle.graded_modules.proofs.Bases.{basis_law}

abbrev x : List Term
x = record { coeff = 1; mono = variable 0 } ∷ []

abbrev y : List Term
y = record { coeff = 1; mono = variable 1 } ∷ []

two_is_prime : IsPrime 2
two_is_prime = ((omega arith), λ d a b e. omega arith)

generator_x : IsGenerator 2 2 0 x
generator_x = record {
  vector = record { canonical = ((omega arith), (omega arith), tt, tt); graded = (record { seven = refl; first = (refl, (refl, (refl, (refl, tt)))); two = (omega arith) }, tt) };
  homogeneous = (1, (refl, tt));
}

generator_y : IsGenerator 2 2 0 y
generator_y = record {
  vector = record { canonical = ((omega arith), (omega arith), tt, tt); graded = (record { seven = refl; first = (refl, (refl, (refl, (refl, tt)))); two = (omega arith) }, tt) };
  homogeneous = (1, (refl, tt));
}

two_of : (P : List Term → Type 0) → P x → P y → All P two_variables
two_of P a b = All-cons P x (y ∷ []) a (All-cons P y [] b (All-nil P))

pair_of : (R : List Term → List Term → Type 0) → R x y → AllPairs R two_variables
pair_of R h zero zero d a b = absurd (omega arith)
pair_of R h zero (suc zero) d a b = h
pair_of R h zero (suc (suc j)) d a b = absurd (omega arith)
pair_of R h (suc i) zero d a b = absurd (omega arith)
pair_of R h (suc i) (suc zero) d a b = absurd (omega arith)
pair_of R h (suc i) (suc (suc j)) d a b = absurd (omega arith)

generators : All (IsGenerator 2 2 0) two_variables
generators = two_of (IsGenerator 2 2 0) generator_x generator_y

vectors : All (IsGradedVector 2 2) two_variables
vectors = All-weaker (IsGenerator 2 2 0) (IsGradedVector 2 2) (λ f h. h.vector) two_variables generators

has_x : Contains two_variables x
has_x = (0, (omega arith), refl)

has_y : Contains two_variables y
has_y = (1, (omega arith), refl)

member : (f : List Term) → Contains two_variables f → InModule 2 2 two_variables f
member f c = in_generator 2 2 two_variables f (omega arith) vectors c

not_under : (a b : Monomial) (i : ℕ) → get_or b.exponents i 0 < get_or a.exponents i 0 → Divides a b → ⊥
not_under a b i l d = let k : get_or a.exponents i 0 ≤ get_or b.exponents i 0 = d.none_greater i in absurd (omega arith)

settled : IsSettled 2 2 0 two_variables x y
settled =
    settled_law.coprime 2 2 0 two_variables x y
    (record { prime = two_is_prime; first = generator_x; second = generator_y; first_monic = refl; second_monic = refl; one_component = refl })
    has_x has_y (refl, tt) (refl, tt) refl

basis : (e : ℕ) → IsBasisBelow 2 2 0 two_variables two_variables e
basis e = record {
  vectors = generators;
  monic = two_of IsMonic refl refl;
  members = two_of (InModule 2 2 two_variables) (member x has_x) (member y has_y);
  generators = λ t f c l. member (t ∷ f) c;
  apart = pair_of (λ f g. (Divides (lead_mono f) (lead_mono g) → ⊥) × (Divides (lead_mono g) (lead_mono f) → ⊥))
      (not_under (variable 0) (variable 1) 0 (omega arith), not_under (variable 1) (variable 0) 1 (omega arith));
  settled = pair_of (λ f g. (lead_mono f).component ≡ (lead_mono g).component → degree_at 0 (lead_lcm f g) < e → IsSettled 2 2 0 two_variables f g) (λ one l. settled);
}

low : (t : Term) (f : List Term) → Contains two_variables (t ∷ f) → degree_at 0 t.mono ≤ 2
low t f (zero, l, e) = let q : degree_at 0 (variable 0) ≡ degree_at 0 t.mono = ap (λ w. degree_at 0 (lead_mono w)) e in omega arith
low t f (suc zero, l, e) = let q : degree_at 0 (variable 1) ≡ degree_at 0 t.mono = ap (λ w. degree_at 0 (lead_mono w)) e in omega arith
low t f (suc (suc k), l, e) = absurd (omega arith)

pub two_variables_law : TwoVariables
two_variables_law =
    let whole = basis_law.whole 2 2 0 two_variables two_variables 2 two_is_prime generators (basis 3) low
    (pair_of (λ f g. (lead_mono f).component ≡ (lead_mono g).component → degree_at 0 (lead_lcm f g) ≤ 2) (λ one. omega arith)) in
    record {
      deep = inr (basis_law.deep 2 2 0 two_variables two_variables 1 1 x y two_is_prime generators (basis 1) (omega arith)
          (two_of (λ b. degree_at 0 (lead_mono b) ≤ 1) (omega arith) (omega arith)) has_x has_y
          (λ e. not_under (variable 0) (variable 1) 0 (omega arith) (record { same = refl; none_greater = λ i. (let q = ap (λ (m : Monomial). get_or m.exponents i 0) e in omega arith) }))
          refl (omega arith));
      not_deep = whole.0;
      leads = whole.1;
    }

pub s_vector_law : SVectorByHand
s_vector_law = refl

pub shift_law : ShiftByHand
shift_law = (
  record {
    vector = record {
      canonical = ((omega arith), (omega arith), refl, ((omega arith), (omega arith), tt, tt));
      graded = (record { seven = refl; first = (refl, (refl, (refl, (refl, (refl, tt))))); two = (omega arith) }, (record { seven = refl; first = (refl, (refl, (refl, (refl, (refl, tt))))); two = (omega arith) }, tt));
    };
    homogeneous = (1, (refl, (refl, tt)));
  },
  λ h. let a = h.homogeneous.1.0 in let b = h.homogeneous.1.1.0 in absurd (omega arith),
)
