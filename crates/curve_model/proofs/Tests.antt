-- Linear tests of polynomials in x and y over F_7: sums of the coefficients, with weights of the two exponents.
use Rattle.std.proofs.Common.{◌≡◌, ℕ, ◌+◌, ◌*◌, ◌%◌, List, [], ◌∷◌, refl, sym, ap, ap₂, ◌∙◌, subst, arith}
use Rattle.std.specs.List.{All}
use Rattle.std.specs.Prelude.{slice_index}
use Rattle.std.proofs.lemmas.List.Elements.{All-head, All-tail}
use Rattle.std.proofs.lemmas.Nat.{mul-mod_second}
use Rattle.monomials.specs.Mono.{Monomial, times}
use Rattle.polys.specs.declared.term.Term.{Term}
use Rattle.polys.specs.Terms.{EachMono, IsAffine, IsPoly, add, sub, mul, multiple, scaled, products}
use Rattle.polys.specs.Ideal.{InIdeal, combination}
use Rattle.polys.proofs.Weights.{weigh, weigh-append, weigh-normal, mod_plus}
use Rattle.polys.proofs.Sums.{weigh-products}
use Rattle.polys.proofs.Units.{weigh-scaled}
use Rattle.curve_model.proofs.TwoVariables.{mono_of, exponents_of}

-- the weight of x^i y^j is h i j
abbrev pub on : (ℕ → ℕ → ℕ) → Monomial → ℕ
on h m = h (slice_index m.exponents 0) (slice_index m.exponents 1)

abbrev pub test : (ℕ → ℕ → ℕ) → List Term → ℕ
test h f = weigh (on h) f

-- the weight is 0 on each product of a monomial and g
abbrev pub Passes : (Monomial → ℕ) → List Term → Type 0
Passes χ g = (i j : ℕ) → weigh (λ m. χ (times (mono_of i j) m)) g % 7 ≡ 0

-- weights that agree on the monomials in x and y
pub weigh_same : (χ ω : Monomial → ℕ) (f : List Term) → EachMono (IsAffine 2) f → ((i j : ℕ) → χ (mono_of i j) ≡ ω (mono_of i j)) → weigh χ f ≡ weigh ω f
unfolding weigh
weigh_same χ ω [] a h = refl
weigh_same χ ω (t ∷ f) a h =
    let e = exponents_of t.mono a.0 in
    ap₂ (λ (x y : ℕ). t.coeff * x + y) (ap χ e.2 ∙ h e.0 e.1 ∙ sym (ap ω e.2)) (weigh_same χ ω f a.1 h)

pub weigh_zero : (χ : Monomial → ℕ) (f : List Term) → EachMono (IsAffine 2) f → ((i j : ℕ) → χ (mono_of i j) % 7 ≡ 0) → weigh χ f % 7 ≡ 0
unfolding weigh
weigh_zero χ [] a h = refl
weigh_zero χ (t ∷ f) a h =
    let e = exponents_of t.mono a.0 in
    let z : t.coeff * 0 ≡ 0 = omega arith in
    mod_plus 7 (t.coeff * χ t.mono) 0 (weigh χ f) 0
    (sym (mul-mod_second t.coeff (χ t.mono) 7) ∙ ap (λ (n : ℕ). (t.coeff * n) % 7) (ap (λ m. χ m % 7) e.2 ∙ h e.0 e.1) ∙ ap (λ (n : ℕ). n % 7) z)
    (weigh_zero χ f a.1 h)

module _ (χ : Monomial → ℕ) where
  pub test_add : (f g : List Term) → weigh χ f % 7 ≡ 0 → weigh χ g % 7 ≡ 0 → weigh χ (add 7 f g) % 7 ≡ 0
  test_add f g a b = weigh-normal 7 χ _ ∙ ap (λ (n : ℕ). n % 7) (weigh-append χ f g) ∙ mod_plus 7 (weigh χ f) 0 (weigh χ g) 0 a b

  -- f - g has the test of f where g has the test 0
  pub test_less : (f g : List Term) → weigh χ g % 7 ≡ 0 → weigh χ (sub 7 f g) % 7 ≡ weigh χ f % 7
  test_less f g b =
      let z : 6 * 0 ≡ 0 = omega arith in
      let e : weigh χ f + 0 ≡ weigh χ f = omega arith in
      weigh-normal 7 χ _
      ∙ ap (λ (n : ℕ). n % 7) (weigh-append χ f (multiple 7 6 g))
      ∙ mod_plus 7 (weigh χ f) (weigh χ f) (weigh χ (multiple 7 6 g)) 0 refl
      (weigh-normal 7 χ (scaled 6 g) ∙ ap (λ (n : ℕ). n % 7) (weigh-scaled χ 6 g) ∙ sym (mul-mod_second 6 (weigh χ g) 7) ∙ ap (λ (n : ℕ). (6 * n) % 7) b ∙ ap (λ (n : ℕ). n % 7) z)
      ∙ ap (λ (n : ℕ). n % 7) e

  pub test_product : (q g : List Term) → EachMono (IsAffine 2) q → Passes χ g → weigh χ (mul 7 q g) % 7 ≡ 0
  test_product q g a b = weigh-normal 7 χ (products q g) ∙ ap (λ (n : ℕ). n % 7) (weigh-products χ q g) ∙ weigh_zero (λ m. weigh (λ w. χ (times m w)) g) q a b

  test_combination : (qs gs : List (List Term)) → All (IsPoly 7 2) qs → All (Passes χ) gs → weigh χ (combination 7 qs gs) % 7 ≡ 0
  unfolding weigh
  test_combination [] gs a b = refl
  test_combination (q ∷ qs) [] a b = refl
  test_combination (q ∷ qs) (g ∷ gs) a b =
      test_add (mul 7 q g) (combination 7 qs gs) (test_product q g (All-head (IsPoly 7 2) q qs a).affine (All-head (Passes χ) g gs b))
      (test_combination qs gs (All-tail (IsPoly 7 2) q qs a) (All-tail (Passes χ) g gs b))

  -- a test that the generators pass is 0 on the members
  pub test_member : (gs : List (List Term)) (f : List Term) → All (Passes χ) gs → InIdeal 7 2 gs f → weigh χ f % 7 ≡ 0
  test_member gs f b i = subst (λ g. weigh χ g % 7 ≡ 0) (sym i.combined) (test_combination i.factors gs i.polys b)
