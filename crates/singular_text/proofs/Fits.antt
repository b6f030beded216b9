-- Values that calls of polynomials take.
use Rattle.std.proofs.Common.{◌≡◌, ℕ, ◌+◌, ◌*◌, ◌%◌, ◌<◌, ◌≤◌, List, [], ◌∷◌, length, get_or, refl, sym, ap, ◌∙◌, arith, subst, Result, Ok, Err, Bool, true, false, cond, min, mul-le-mul_left}
use Rattle.std.specs.Prelude.{IfOk, nat_lt, nat_le, not, ◌&&◌, ◌==◌, ◌≢◌, max}
use Rattle.std.proofs.lemmas.Bool.Decides.{nat_tests}
use native.Mathlib.Nat.{mod-eq_of_lt}
use Rattle.monomials.specs.Mono.{Monomial, total_degree, unit, variable}
use Rattle.problem.specs.Letters.{is_among, place}
use Rattle.problem_form.specs.Words.{is_number, is_run, are_run_bytes, IsLetterOf}
use Rattle.singular_text.specs.declared.faults.ReadFault.TheVariants.{Limit}
use Rattle.singular_text.specs.declared.faults.Which.TheVariants.{Size}
use Rattle.prime_field.specs.Primes.{IsPrime}
use Rattle.polys.specs.declared.term.Term.{Term}
use Rattle.polys.specs.Terms.{IsPoly, IsAffine, EachMono, mul, add, sub, power, degree_of, keep}
use Rattle.polys.specs.Terms
use Rattle.polys.specs.Poly.{Polynomial, IsPlain, sum_of, difference_of, product_of, power_of}
use Rattle.polys.specs.Ring.{AreClosed}
use Rattle.polys.specs.Laws.{RingLaws, LeadLaws}
use Rattle.singular_text.specs.declared.faults.ReadFault.{ReadFault}
use Rattle.poly_text.specs.Digits.{number}
use Rattle.singular_text.specs.Values.{term_of, front_number, run_monomial}
use Rattle.problem.specs.Problem.{IsFit}
use Rattle.singular_text.specs.Evaluating.{zero_poly, checked, run_value, power_value}
use Rattle.singular_text.proofs.Powers.{power_digit, power_degree}
use Rattle.poly_text.proofs.VariablePowers.{affine_variable}
use Rattle.singular_text.proofs.Runs.{affine_run}
use Rattle.polys.proofs.Affine.{affine_unit}
use Rattle.problem.proofs.Places.{place_within}

pub plain_of : (n : ℕ) (f : List Term) → EachMono (IsAffine n) f → EachMono IsPlain f
plain_of n [] h = tt
plain_of n (t ∷ f) h = (h.0.plain, plain_of n f h.1)

pub plain_fit : (p n : ℕ) (f : Polynomial) → IsFit p n f → EachMono IsPlain f.terms
plain_fit p n f fit = plain_of n f.terms fit.poly.affine

-- what a check lets through
pub checked_fit : (p n : ℕ) (r : Result Polynomial ReadFault) (f g : Polynomial) → IfOk r (λ x. (x ≡ f) × (degree_of x.terms ≤ 60)) → f ≡ g → g.prime ≡ p → IsPoly p n g.terms
    → IfOk r (IsFit p n)
checked_fit p n (Err fault) f g passed is prime poly = tt
checked_fit p n (Ok x) f g passed is prime poly =
    let same : x ≡ g = passed.0 ∙ is in
    let P : Polynomial → Type 0 = λ (y : Polynomial). IsPoly p n y.terms in
    record { prime = ap (λ (y : Polynomial). y.prime) same ∙ prime; poly = subst P (sym same) poly; degree = passed.1 }

pub product_poly : (p n : ℕ) (f g : Polynomial) → AreClosed p n → IsFit p n f → IsFit p n g → IsPoly p n (product_of f g).terms
product_poly p n f g closed left right =
    let P : ℕ → Type 0 = λ (q : ℕ). IsPoly p n (mul q f.terms g.terms) in subst P (sym left.prime) (closed.product f.terms g.terms left.poly right.poly)

pub sum_poly : (p n : ℕ) (f g : Polynomial) → AreClosed p n → IsFit p n f → IsFit p n g → IsPoly p n (sum_of f g).terms
sum_poly p n f g closed left right =
    let P : ℕ → Type 0 = λ (q : ℕ). IsPoly p n (add q f.terms g.terms) in subst P (sym left.prime) (closed.sum f.terms g.terms left.poly right.poly)

pub difference_poly : (p n : ℕ) (f g : Polynomial) → AreClosed p n → IsFit p n f → IsFit p n g → IsPoly p n (difference_of f g).terms
difference_poly p n f g closed left right =
    let P : ℕ → Type 0 = λ (q : ℕ). IsPoly p n (sub q f.terms g.terms) in subst P (sym left.prime) (closed.difference f.terms g.terms left.poly right.poly)

pub power_poly : (p n : ℕ) (f : Polynomial) (k : ℕ) → AreClosed p n → IsFit p n f → IsPoly p n (power_of f k).terms
power_poly p n f k closed fit =
    let P : ℕ → Type 0 = λ (q : ℕ). IsPoly p n (power q f.terms k) in subst P (sym fit.prime) (closed.power f.terms k fit.poly)

pub zero_fit : (p n : ℕ) (f : Polynomial) → f ≡ zero_poly p → IsFit p n f
zero_fit p n f is =
    let P : Polynomial → Type 0 = λ (g : Polynomial). IsFit p n g in
    subst P (sym is) (record { prime = refl; poly = record { canonical = tt; affine = tt }; degree = omega arith })

-- ---- the operands

pub letter_alone : (letters token : List ℕ) → length token < 2 → IsLetterOf letters token → is_among letters (get_or token 0 0) ≡ true
letter_alone letters [] short is = absurd is
letter_alone letters (x ∷ []) short is = is
letter_alone letters (x ∷ y ∷ token) short is = absurd is

pub run_bytes_of : (letters word : List ℕ) → is_run letters word ≡ true → are_run_bytes letters word ≡ true
run_bytes_of letters word = by_case (nat_lt 1 (length word)) (are_run_bytes letters word) (not (is_number word))
  where
    by_case : (a b c : Bool) → ((a && b) && c) ≡ true → b ≡ true
    by_case true true c h = refl
    by_case true false c h = absurd (cc)
    by_case false b c h = absurd (cc)

-- a term of a great degree whose coefficient is not 0
pub large_term : (p c : ℕ) (m : Monomial) → c < p → c ≢ 0 → 60 < total_degree m.exponents
    → checked (record { prime = p; terms = term_of p c m }) ≡ Err (Limit Size)
large_term p c m residue some large = ap (λ (k : ℕ). checked (record { prime = p; terms = keep k m [] })) (mod-eq_of_lt residue) ∙ kept (c == 0) (grind (arith, nat_tests))
  where
    kept : (s : Bool) → s ≡ false → checked (record { prime = p; terms = cond s [] (record { coeff = c; mono = m } ∷ []) }) ≡ Err (Limit Size)
    kept true h = absurd (cc)
    kept false h = let e : nat_le (max (total_degree m.exponents) 0) 60 ≡ false = grind (arith, nat_tests) in rw e refl

-- ---- powers

-- the power so far, of a polynomial of degree 0
pub record IsPowerOf (p n : ℕ) (base power : Polynomial) (k : ℕ) : Type 0 where
  pub value : power ≡ power_of base k
  pub fit : IsFit p n power
  pub constant : degree_of power.terms ≡ 0

pub power_of_fit : (p n : ℕ) (base power : Polynomial) (k : ℕ) → AreClosed p n → ((q : ℕ) (f : List Term) (j : ℕ) → degree_of (Terms.power q f j) ≤ degree_of f * j)
    → IsFit p n base → degree_of base.terms ≡ 0 → power ≡ power_of base k → IsPowerOf p n base power k
power_of_fit p n base power k closed bound fit constant value = record {
  value = value;
  fit = let P : Polynomial → Type 0 = λ (f : Polynomial). IsFit p n f in subst P (sym value) (record { prime = fit.prime; poly = power_poly p n base k closed fit; degree = omega (arith, zero_degree) });
  constant = ap (λ (f : Polynomial). degree_of f.terms) value ∙ zero_degree;
}
  where
    zero_degree : degree_of (Terms.power base.prime base.terms k) ≡ 0
    zero_degree = let b : degree_of (Terms.power base.prime base.terms k) ≤ degree_of base.terms * k = bound base.prime base.terms k in
        let z : degree_of base.terms * k ≡ 0 = ap (λ (d : ℕ). d * k) constant ∙ omega arith in omega (arith, b, z)

pub power_next : (p n : ℕ) (base power tenth factor next : Polynomial) (k d : ℕ) → RingLaws → AreClosed p n → IsFit p n base → power ≡ power_of base k → tenth ≡ power_of power 10
    → factor ≡ power_of base d → next ≡ product_of tenth factor → next ≡ power_of base (k * 10 + d)
power_next p n base power tenth factor next k d laws closed fit is_power is_tenth is_factor is_next =
    is_next ∙ (λ i. product_of ((is_tenth ∙ ap (λ (f : Polynomial). power_of f 10) is_power) i) (is_factor i))
    ∙ ap (λ (g : List Term). record { prime = base.prime; terms = g }) digit
  where
    digit : mul base.prime (Terms.power base.prime (Terms.power base.prime base.terms k) 10) (Terms.power base.prime base.terms d) ≡ Terms.power base.prime base.terms (k * 10 + d)
    digit =
        let P : ℕ → Type 0 = λ (q : ℕ). mul q (Terms.power q (Terms.power q base.terms k) 10) (Terms.power q base.terms d) ≡ Terms.power q base.terms (k * 10 + d) in
        subst P (sym fit.prime) (power_digit p n base.terms k d laws closed fit.poly)

pub variable_place : (names letters token : List ℕ) (v : ℕ) → length names ≤ 6 → names ≡ letters → length token < 2 → IsLetterOf letters token
    → v ≡ place names (get_or token 0 0) → (v < 6) × (v < length letters)
variable_place names letters token v six same short is is_v =
    let among : is_among names (get_or token 0 0) ≡ true = ap (λ (l : List ℕ). is_among l (get_or token 0 0)) same ∙ letter_alone letters token short is in
    let here : place names (get_or token 0 0) < length names = place_within names (get_or token 0 0) among in
    (omega arith, omega (arith, ap (λ (l : List ℕ). length l) same))

pub variable_affine : (n v : ℕ) (m : Monomial) → v < n → m ≡ variable v → IsAffine n m
variable_affine n v m within is = let P : Monomial → Type 0 = λ (w : Monomial). IsAffine n w in subst P (sym is) (affine_variable n v within)

pub run_affine : (names letters word : List ℕ) (m : Monomial) → names ≡ letters → is_run letters word ≡ true → m ≡ run_monomial names word → IsAffine (length letters) m
run_affine names letters word m same run is =
    let P : Monomial → Type 0 = λ (w : Monomial). IsAffine (length letters) w in
    subst P (sym (is ∙ ap (λ (l : List ℕ). run_monomial l word) same)) (affine_run letters unit word (run_bytes_of letters word run) (affine_unit (length letters)))

pub large_run : (p : ℕ) (names letters word : List ℕ) (c : ℕ) → names ≡ letters → c ≡ front_number word % p → c < p → c ≢ 0 → 60 < total_degree (run_monomial names word).exponents
    → run_value p letters word ≡ Err (Limit Size)
large_run p names letters word c same is residue some large =
    sym (λ i. checked (record { prime = p; terms = term_of p (is i) (run_monomial (same i) word) }))
    ∙ large_term p c (run_monomial names word) residue some large

too_high : (f : Polynomial) → 60 < degree_of f.terms → checked f ≡ Err (Limit Size)
too_high f above = by_length (nat_le (length f.terms) 2000)
  where
    by_length : (s : Bool) → cond (s && nat_le (degree_of f.terms) 60) (Ok f) (Err (Limit Size)) ≡ Err (Limit Size)
    by_length true = let e : nat_le (degree_of f.terms) 60 ≡ false = grind (arith, nat_tests) in rw e refl
    by_length false = refl

-- a power whose degree is above 60
pub power_large : (p n : ℕ) (base : Polynomial) (digits : List ℕ) (k : ℕ) → IsPrime p → LeadLaws → AreClosed p n → IsFit p n base → degree_of base.terms ≢ 0
    → k ≡ min (number digits) 61 → 60 < k * degree_of base.terms → power_value base digits ≡ Err (Limit Size)
power_large p n base digits k prime laws closed fit some is_k large = not_small degree
  where
    degree : degree_of (Terms.power base.prime base.terms (number digits)) ≡ degree_of base.terms * number digits
    degree =
        let P : ℕ → Type 0 = λ (q : ℕ). degree_of (Terms.power q base.terms (number digits)) ≡ degree_of base.terms * number digits in
        subst P (sym fit.prime) (power_degree p n base.terms (number digits) prime laws closed fit.poly (omega arith))

    not_small : degree_of (Terms.power base.prime base.terms (number digits)) ≡ degree_of base.terms * number digits → power_value base digits ≡ Err (Limit Size)
    not_small h =
        let more : degree_of base.terms * k ≤ degree_of base.terms * number digits = mul-le-mul_left (degree_of base.terms) (omega arith) in
        let turned : k * degree_of base.terms ≡ degree_of base.terms * k = omega arith in
        let above : 60 < degree_of (Terms.power base.prime base.terms (number digits)) = omega (arith, h, more, turned) in
        too_high (power_of base (number digits)) above
