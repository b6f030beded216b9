-- All polynomials in n variables, with the denominator 1.
use Rattle.std.proofs.Common.{◌≡◌, ◌⊎◌, inl, inr, ℕ, ◌-◌, ◌<◌, ◌≤◌, zero, suc, List, [], ◌∷◌, length, map, get_or, replicate, refl, sym, ap, ◌∙◌, subst, arith}
use Rattle.std.specs.List.{AllZip, Contains}
use Rattle.std.proofs.lemmas.List.Elements.{All-nil, All-cons}
use Rattle.std.specs.declared.cmp.Ordering.TheVariants.{Less}
use Rattle.monomials.specs.Mono.{Monomial, Divides, unit, cmp_dp}
use Rattle.polys.specs.declared.term.Term.{Term}
use Rattle.polys.specs.Terms.{IsPoly, IsAffine, IsMonic, add, sub, multiple, mul, one, power, product}
use Rattle.polys.specs.Ideal.{InIdeal, IsSpanned, combination}
use Rattle.polys.specs.Reduced.{Reduced, leads, lower_monos, IsLead, IsMinimalLead}
use Rattle.polys.proofs.Sums.{mul_comm}
use Rattle.polys.proofs.Units.{mul_one, sub_self, add_none}
use Rattle.polys.proofs.Affine.{positive, poly_one, poly_multiple, sevens_of}
use Rattle.ideal_laws.proofs.Ideals.{in_none, in_mul, in_head, in_poly}
use Rattle.ideal_laws.proofs.Unique.{contains_head, contains_cases, contains_none}
use Rattle.curve_model.specs.Fraction.{Fraction, IsFraction, InA, over}
use Rattle.curve_model.specs.Integral.{Integral, lower_sum, monic_sum}
use Rattle.curve_model.specs.Local.{LocalAt, AreMembers, TakesIntoA}
use Rattle.curve_model.specs.Closure.{Closure}
use Rattle.curve_model.specs.Unit.{affine_space, UnitsCloseNothing}

module _ (p n : ℕ) (h : 1 < p) where
  pos : 0 < p
  pos = positive p h

  times_one : (f : List Term) → IsPoly p n f → mul p f one ≡ f
  times_one f k = mul_one p f k.canonical (sevens_of p n f k)

  one_poly : IsPoly p n one
  one_poly = poly_one p n h

  power_one : (k : ℕ) → power p one k ≡ one
  power_one zero = refl
  power_one (suc k) = ap (mul p one) (power_one k) ∙ times_one one one_poly

  -- ---- the ideal 0

  only_zero : (f : List Term) → InIdeal p n [] f → f ≡ []
  only_zero f i = i.combined ∙ none i.factors i.as_many
    where
      none : (qs : List (List Term)) → length qs ≡ 0 → combination p qs [] ≡ []
      none [] e = refl
      none (q ∷ qs) e = absurd (omega arith)

  no_lead : (m : Monomial) → IsLead p n [] m → ⊥
  no_lead m (t, f, i, e) = let z = only_zero (t ∷ f) i in absurd (cc)

  reduced_none : Reduced p n []
  reduced_none = record {
    polys = All-nil (IsPoly p n);
    monic = All-nil IsMonic;
    rising = λ i j d a b. absurd (omega arith);
    minimal = λ m. ((λ c. absurd (contains_none m c)), (λ l. absurd (no_lead m l.0)));
    lower = λ q c m k l. no_lead m l;
  }

  proper : InIdeal p n [] one → ⊥
  proper i = let z = only_zero one i in absurd (cc)

  -- ---- the ideal 1

  in_one : (f : List Term) → IsPoly p n f → InIdeal p n (one ∷ []) f
  in_one f k = subst (InIdeal p n (one ∷ [])) (times_one f k) (in_mul p n (one ∷ []) f one pos k (in_head p n one [] h one_poly))

  lead_unit : IsLead p n (one ∷ []) unit
  lead_unit = (record { coeff = 1; mono = unit }, [], in_head p n one [] h one_poly, refl)

  zeros_at : (k i : ℕ) → get_or (replicate {A = ℕ} k 0) i 0 ≡ 0
  zeros_at zero i = refl
  zeros_at (suc k) zero = refl
  zeros_at (suc k) (suc i) = zeros_at k i

  unit_divides : (m : Monomial) → IsAffine n m → Divides unit m
  unit_divides m a = record { same = sym a.plain; none_greater = λ i. let z = zeros_at 7 i in omega arith }

  -- a monomial without exponents
  all_zero : (k : ℕ) (a : List ℕ) → length a ≡ k → ((i : ℕ) → get_or a i 0 ≤ 0) → a ≡ replicate k 0
  all_zero zero [] e z = refl
  all_zero zero (x ∷ a) e z = absurd (omega arith)
  all_zero (suc k) [] e z = absurd (omega arith)
  all_zero (suc k) (x ∷ a) e z = let first : x ≤ 0 = z 0 in let same : x ≡ 0 = omega arith in λ i. same i ∷ all_zero k a (omega arith) (λ j. z (suc j)) i

  divides_unit : (w : Monomial) → IsAffine n w → Divides w unit → w ≡ unit
  divides_unit w a d =
      let e = all_zero 7 w.exponents a.seven (λ i. let z = zeros_at 7 i in let l = d.none_greater i in omega arith) in
      let c : w.component ≡ 0 = a.plain in
      λ i. record { exponents = e i; component = c i }

  lead_affine : (m : Monomial) → IsLead p n (one ∷ []) m → IsAffine n m
  lead_affine m (t, f, i, e) =
      subst (IsAffine n) e (in_poly p n (one ∷ []) (t ∷ f) pos (All-cons (IsPoly p n) one [] one_poly (All-nil (IsPoly p n))) i).affine.0

  minimal_unit : (m : Monomial) → Contains (leads (one ∷ [])) m → IsMinimalLead p n (one ∷ []) m
  minimal_unit m c = go (contains_cases unit m [] c)
    where
      least : IsMinimalLead p n (one ∷ []) unit
      least = (lead_unit, λ w l d. divides_unit w (lead_affine w l) d)

      go : (unit ≡ m) ⊎ Contains [] m → IsMinimalLead p n (one ∷ []) m
      go (inl e) = subst (IsMinimalLead p n (one ∷ [])) e least
      go (inr k) = absurd (contains_none m k)

  unit_minimal : (m : Monomial) → IsMinimalLead p n (one ∷ []) m → Contains (leads (one ∷ [])) m
  unit_minimal m l = subst (Contains (leads (one ∷ []))) (l.1 unit lead_unit (unit_divides m (lead_affine m l.0))) (contains_head unit [])

  nothing_lower : (q : List Term) → Contains (one ∷ []) q → (m : Monomial) → Contains (lower_monos q) m → IsLead p n (one ∷ []) m → ⊥
  nothing_lower q c m k l = go (contains_cases one q [] c)
    where
      go : (one ≡ q) ⊎ Contains [] q → ⊥
      go (inl e) = contains_none m (subst (λ w. Contains (lower_monos w) m) (sym e) k)
      go (inr d) = contains_none q d

  rising_one : (i j : ℕ) (d : Monomial) → i < j → j < 1 → cmp_dp (get_or (unit ∷ []) i d) (get_or (unit ∷ []) j d) ≡ Less
  rising_one i j d a b = absurd (omega arith)

  reduced_one : Reduced p n (one ∷ [])
  reduced_one = record {
    polys = All-cons (IsPoly p n) one [] one_poly (All-nil (IsPoly p n));
    monic = All-cons IsMonic one [] refl (All-nil IsMonic);
    rising = rising_one;
    minimal = λ m. (minimal_unit m, unit_minimal m);
    lower = nothing_lower;
  }

  -- ---- fractions

  in_a : (f : Fraction) → IsFraction (affine_space p n) f → InA (affine_space p n) f
  in_a f k = (f.numerator, k, subst (InIdeal p n []) (sym same) (in_none p n []))
    where
      right : mul p f.numerator (power p one f.exponent) ≡ f.numerator
      right = ap (mul p f.numerator) (power_one f.exponent) ∙ times_one f.numerator k

      same : sub p (mul p f.numerator one) (mul p f.numerator (power p one f.exponent)) ≡ []
      same = (λ i. sub p (times_one f.numerator k i) (right i)) ∙ sub_self p f.numerator pos

  -- f meets the equation f - f of degree 1
  integral : (f : List Term) → IsPoly p n f → Integral (affine_space p n) (over f 0)
  integral f k = record {
    coefficients = c ∷ [];
    polys = All-cons (IsPoly p n) c [] c_poly (All-nil (IsPoly p n));
    some = omega arith;
    equation = subst (InIdeal p n []) (sym zero_sum) (in_none p n []);
  }
    where
      c : List Term
      c = multiple p (p - 1) f

      c_poly : IsPoly p n c
      c_poly = poly_multiple p n (p - 1) f pos k

      low : lower_sum p f one 1 (c ∷ []) ≡ c
      low =
          ap (λ w. add p (mul p c (mul p w one)) []) (power_one 1)
          ∙ ap (λ w. add p (mul p c w) []) (times_one one one_poly)
          ∙ ap (λ w. add p w []) (times_one c c_poly)
          ∙ add_none p c c_poly.canonical

      zero_sum : monic_sum p f one (c ∷ []) ≡ []
      zero_sum = (λ i. add p (times_one f k i) (low i)) ∙ sub_self p f pos

  local : (f : List Term) → IsPoly p n f → LocalAt (affine_space p n) [] (over f 0)
  local f k = record { integral = integral f k; m = 0; takes = takes }
    where
      takes : (ls : List (List (List Term))) → AllZip (AreMembers 0) [] ls → TakesIntoA (affine_space p n) (product p (map (product p) ls)) (over f 0)
      takes [] z = subst (InIdeal p n (one ∷ [])) (mul_comm p f one) (in_mul p n (one ∷ []) f one pos k (in_head p n one [] h one_poly))
      takes (l ∷ ls) z = absurd z

  closure : Closure (affine_space p n) [] 0 (one ∷ [])
  closure = record {
    suffices = λ f k l. in_a f k;
    least = λ L a s. absurd (omega arith);
    basis = record { reduced = reduced_one; exact = λ f k. ((λ i. local f k), (λ l. in_one f k)) };
  }

  spanned : (f : List Term) → IsPoly p n f → IsSpanned p n (one ∷ []) [] f
  spanned f k = record {
    residues = [];
    below = All-nil (λ c. c < p);
    as_many = refl;
    close = subst (InIdeal p n (one ∷ [])) (sym (add_none p f k.canonical)) (in_one f k);
  }

  regular : (a : List Term) → IsPoly p n a → InIdeal p n [] (mul p one a) → InIdeal p n [] a
  regular a k i = subst (InIdeal p n []) (mul_comm p one a ∙ times_one a k) i

pub units_close_nothing : UnitsCloseNothing
units_close_nothing p n h = record {
  reduced = reduced_none p n h;
  proper = proper p n h;
  regular = regular p n h;
  dimension = record {
    basis = [];
    as_many = refl;
    spans = record { polys = All-nil (IsPoly p n); each = spanned p n h };
    least = λ us l s. absurd (omega arith);
  };
  no_point = λ P point. point.proper point.holds_denominator;
  no_fractions = in_a p n h;
  closure = closure p n h;
}
