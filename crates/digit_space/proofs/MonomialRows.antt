-- Digits of a monomial, by one variable after another.
use Rattle.std.proofs.Common.{◌≡◌, ℕ, zero, suc, ◌-◌, ◌*◌, ◌<◌, List, ◌∷◌, ◌++◌, length, set, replicate, refl, sym, ap, ◌∙◌, subst, arith}
use Rattle.std.specs.List.{Contains}
use Rattle.std.specs.declared.cmp.Ordering.TheVariants.{Less}
use Rattle.monomials.specs.Mono.{Monomial, Divides, IsMono, unit, times, variable, total_degree, cmp_dp}
use Rattle.monomials.proofs.Order.{times_comm, times_assoc, times_one, multiple_not_less}
use Rattle.monomials.proofs.Factors.{divides_law}
use Rattle.polys.specs.Terms.{IsAffine}
use Rattle.polys.specs.Curve.{data_of}
use Rattle.polys.proofs.Affine.{affine_times, affine_unit}
use Rattle.standard_monomials.specs.Standard.{polynomial_of}
use Rattle.standard_monomials.proofs.Powers.{length_power, affine_power}
use Rattle.standard_monomials.proofs.Search.{found_law, degree_zero}
use Rattle.standard_monomials.proofs.Steps.{degree_next}
use Rattle.digit_space.specs.Model.{DigitData, IsDigitSpace, IsDigitsOf, corner, times_variable, value_of, width}
use Rattle.digit_space.specs.Adding.{unit_at}
use Rattle.digit_laws.proofs.Spaces.{mono_product, affine_poly}
use Rattle.digit_space.proofs.Spaced.{finite, laws}
use Rattle.digit_space.proofs.Found.{standard, corner_there, corner_affine, first_factor}
use Rattle.digit_space.proofs.KeptRows.{variable_poly, corner_digits}

-- the row has the digits of a monomial that makes m with the rest
pub record OnTheWay (g : DigitData) (m rest : Monomial) (made : List ℕ) : Type 0 where
  pub affine : IsAffine g.curve.variables rest
  pub done : Monomial
  pub done_affine : IsAffine g.curve.variables done
  pub whole : times rest done ≡ m
  pub digits : IsDigitsOf g (polynomial_of done) made

-- 1 at the first place
first_set : (n : ℕ) → 0 < n → set (replicate n 0) 0 1 ≡ unit_at 0 ++ replicate (n - length (unit_at 0)) 0
first_set zero h = absurd (omega arith)
first_set (suc n) h = let w : n ≡ suc n - length (unit_at 0) = omega arith in ap (λ k. 1 ∷ replicate k 0) w

module _ (g : DigitData) (s : IsDigitSpace g) where
  -- the first corner is 1
  first_corner : 0 < length g.basis → corner g 0 ≡ unit
  first_corner l = go one
    where
      m : Monomial
      m = corner g 0

      a : IsAffine g.curve.variables m
      a = corner_affine g s 0 l

      whole : times unit m ≡ m
      whole = times_comm unit m ∙ times_one m a.seven

      one : Contains g.basis unit
      one = (s.corners.all.exact unit).1 (found_law.divisor g.curve.variables s.corners.basis unit m (affine_unit g.curve.variables)
          ((divides_law unit m (sym a.seven)).1 (m, sym a.seven, a.plain, sym whole)) (standard g s m (corner_there g s 0 l)))

      go : Contains g.basis unit → corner g 0 ≡ unit
      go (zero, h, e) = e
      go (suc k, h, e) = absurd (multiple_not_less unit m (sym a.seven) a.plain
          (subst (λ z. cmp_dp z unit ≡ Less) (sym whole) (subst (λ z. cmp_dp m z ≡ Less) e (s.corners.rising 0 (suc k) unit (omega arith) h))))

  pub some_corner : 0 < width g → (0 < length g.basis) × (0 < g.depth)
  some_corner h = go (length g.basis) g.depth h
    where
      go : (n d : ℕ) → 0 < n * d → (0 < n) × (0 < d)
      go zero d h = absurd (let w : 0 * d ≡ 0 = omega arith in omega arith)
      go (suc n) zero h = absurd (let w : suc n * 0 ≡ 0 = omega arith in omega arith)
      go (suc n) (suc d) h = (omega arith, omega arith)

  pub way_begins : (m : Monomial) (n : ℕ) (made : List ℕ) → IsAffine g.curve.variables m → 0 < width g → n ≡ width g → made ≡ set (replicate n 0) 0 1 → OnTheWay g m m made
  way_begins m n made a h en e =
      let b = some_corner h in
      let one = (corner_digits g s 0 b.0 b.1).digits in
      let same : made ≡ unit_at 0 ++ replicate (width g - length (unit_at 0)) 0 = e ∙ ap (λ k. set (replicate k 0) 0 1) en ∙ first_set (width g) h in
      record {
        affine = a;
        done = unit;
        done_affine = affine_unit g.curve.variables;
        whole = times_one m a.seven;
        digits = subst (IsDigitsOf g (polynomial_of unit)) (sym same) (subst (λ w. IsDigitsOf g (polynomial_of w) (unit_at 0 ++ replicate (width g - length (unit_at 0)) 0)) (first_corner b.0) one);
      }

  factor_affine : (m w : Monomial) (v : ℕ) → IsAffine g.curve.variables m → times w (variable v) ≡ m → IsMono w → IsAffine g.curve.variables w
  factor_affine m w v a e k =
      let seven : length w.exponents ≡ length m.exponents = k.seven ∙ sym a.seven in
      let d : Divides w m = (divides_law w m seven).1 (variable v, k.seven ∙ sym (length_power 7 v 1), refl, sym e) in
      record { seven = k.seven; first = first_factor g.curve.variables w.exponents m.exponents d.none_greater a.first seven; plain = d.same ∙ a.plain }

  pub way_goes_on : (m rest f : Monomial) (v : ℕ) (made new : List ℕ) → OnTheWay g m rest made → v < g.curve.variables → times f (variable v) ≡ rest → IsMono f
      → IsDigitsOf g (times_variable g v (value_of g made)) new → OnTheWay g m f new
  way_goes_on m rest f v made new o lv e k d =
      let x : IsAffine g.curve.variables (variable v) = affine_power g.curve.variables v 1 lv in
      let A = data_of g.curve in
      record {
        affine = factor_affine rest f v o.affine e k;
        done = times (variable v) o.done;
        done_affine = affine_times g.curve.variables (variable v) o.done x o.done_affine;
        whole = sym (times_assoc f (variable v) o.done) ∙ ap (λ z. times z o.done) e ∙ o.whole;
        digits = subst (λ z. IsDigitsOf g z new) (sym (mono_product A (finite g s) g.basis s.corners g.depth (variable v) o.done))
            ((laws g s).product (polynomial_of (variable v)) (polynomial_of o.done) made new (variable_poly g s v lv) (affine_poly A (finite g s) g.basis s.corners g.depth o.done o.done_affine) o.digits d);
      }

  pub way_smaller : (rest f : Monomial) (v : ℕ) → v < g.curve.variables → times f (variable v) ≡ rest → total_degree f.exponents < total_degree rest.exponents
  way_smaller rest f v lv e =
      let six = s.fit.six_variables in
      let up = degree_next f v (omega arith) in
      let same : total_degree (times f (variable v)).exponents ≡ total_degree rest.exponents = ap (λ z. total_degree z.exponents) e in
      omega arith

  pub way_ends : (m rest : Monomial) (made : List ℕ) → OnTheWay g m rest made → total_degree rest.exponents ≡ 0 → IsDigitsOf g (polynomial_of m) made
  way_ends m rest made o e =
      let z = degree_zero 7 rest.exponents o.affine.seven e in
      let one : rest ≡ unit = λ j. record { exponents = z j; component = o.affine.plain j } in
      let same : o.done ≡ m = sym (times_one o.done o.done_affine.seven) ∙ times_comm o.done unit ∙ ap (λ w. times w o.done) (sym one) ∙ o.whole in
      subst (λ w. IsDigitsOf g (polynomial_of w) made) same o.digits
