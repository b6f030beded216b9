-- Places in rising lists, and corners by their parents.
use Rattle.std.proofs.Common.{◌≡◌, ℕ, zero, suc, ◌<◌, ◌≤◌, List, [], ◌∷◌, length, get_or, refl, sym, ap, ◌∙◌, subst, arith, ⊎_elim}
use Rattle.std.proofs.lemmas.Bool.{cases_lt}
use Rattle.std.proofs.lemmas.List.{get_or_default}
use Rattle.std.specs.List.{Contains}
use Rattle.std.specs.List.Sorted.{IsPartitionPoint}
use Rattle.std.specs.declared.cmp.Ordering.TheVariants.{Less, Equal, Greater}
use Rattle.monomials.specs.Mono.{Monomial, Divides, IsMono, unit, times, variable, total_degree, cmp_dp}
use Rattle.monomials.proofs.Order.{self_dp, multiple_not_less}
use Rattle.monomials.proofs.Factors.{divides_law}
use Rattle.polys.specs.Terms.{IsAffine, OnlyFirst}
use Rattle.standard_monomials.specs.Standard.{IsStandard}
use Rattle.standard_monomials.proofs.Powers.{length_power}
use Rattle.standard_monomials.proofs.Search.{found_law, degree_zero}
use Rattle.standard_monomials.proofs.Steps.{degree_next}
use Rattle.digit_space.specs.Model.{DigitData, IsDigitSpace, corner}

-- what a search that found nothing passed over is not there
pub not_there : (ms : List Monomial) (i : ℕ) (m : Monomial) → IsPartitionPoint (λ y. cmp_dp y m ≡ Less) (λ y. cmp_dp y m ≡ Greater) ms i → Contains ms m → ⊥
not_there ms i m p (k, l, e) = ⊎_elim
    (λ q. let x : Less ≡ Equal = sym (p.0 k m (omega arith) q) ∙ ap (λ z. cmp_dp z m) e ∙ self_dp m in absurd (cc))
    (λ q. let x : Greater ≡ Equal = sym (p.1 k m q l) ∙ ap (λ z. cmp_dp z m) e ∙ self_dp m in absurd (cc))
    (cases_lt k i)

-- a factor of a monomial in the first variables is one
pub first_factor : (n : ℕ) (a whole : List ℕ) → ((i : ℕ) → get_or a i 0 ≤ get_or whole i 0) → OnlyFirst n whole → length a ≡ length whole → OnlyFirst n a
first_factor n [] whole h o l = tt
first_factor n (x ∷ a) [] h o l = absurd (omega arith)
first_factor zero (x ∷ a) (y ∷ whole) h o l = ((let e = o.0 in let f : x ≤ y = h 0 in omega arith), first_factor zero a whole (λ i. h (suc i)) o.1 (let e : length (x ∷ a) ≡ length (y ∷ whole) = l in omega arith))
first_factor (suc n) (x ∷ a) (y ∷ whole) h o l = first_factor n a whole (λ i. h (suc i)) o (let e : length (x ∷ a) ≡ length (y ∷ whole) = l in omega arith)

-- no variable divides it: it has the degree 0
pub no_degree : (n : ℕ) (a : List ℕ) → OnlyFirst n a → ((v : ℕ) → v < n → get_or a v 0 ≡ 0) → total_degree a ≡ 0
no_degree n [] o h = refl
no_degree zero (x ∷ a) o h = let e = o.0 in let r = no_degree zero a o.1 (λ v l. absurd (omega arith)) in omega arith
no_degree (suc n) (x ∷ a) o h = let e = h 0 (omega arith) in let r = no_degree n a o (λ v l. h (suc v) (omega arith)) in omega arith

-- it is 1
pub is_one : (n : ℕ) (m : Monomial) → IsAffine n m → ((v : ℕ) → v < n → get_or m.exponents v 0 ≡ 0) → m ≡ unit
is_one n m a h = let z = degree_zero 7 m.exponents a.seven (no_degree n m.exponents a.first h) in λ i. record { exponents = z i; component = a.plain i }

-- ---- corners

module _ (g : DigitData) (s : IsDigitSpace g) where
  pub standard : (m : Monomial) → Contains g.basis m → IsStandard g.curve.variables s.corners.basis m
  standard m c = (s.corners.all.exact m).0 c

  pub corner_there : (i : ℕ) → i < length g.basis → Contains g.basis (corner g i)
  corner_there i l = (i, l, get_or_default g.basis i (corner g i) unit l)

  -- a monomial whose product with a variable is a corner is a corner
  pub factor_there : (m w : Monomial) (v : ℕ) → Contains g.basis m → v < g.curve.variables → times w (variable v) ≡ m → IsMono w → Contains g.basis w
  factor_there m w v c l e k =
      let st = standard m c in
      let seven : length w.exponents ≡ length m.exponents = k.seven ∙ sym st.affine.seven in
      let d : Divides w m = (divides_law w m seven).1 (variable v, k.seven ∙ sym (length_power 7 v 1), refl, sym e) in
      let a : IsAffine g.curve.variables w = record {
        seven = k.seven;
        first = first_factor g.curve.variables w.exponents m.exponents d.none_greater st.affine.first seven;
        plain = d.same ∙ st.affine.plain;
      } in
      (s.corners.all.exact w).1 (found_law.divisor g.curve.variables s.corners.basis w m a d st)

  -- and stands before it
  pub factor_before : (i j v : ℕ) → i < length g.basis → j < length g.basis → v < g.curve.variables → times (corner g j) (variable v) ≡ corner g i → j < i
  factor_before i j v li lj lv e = ⊎_elim (λ l. l) (λ l. absurd (not_behind l)) (cases_lt j i)
    where
      m : Monomial
      m = corner g j

      long : length m.exponents ≡ length (variable v).exponents
      long = (standard m (corner_there j lj)).affine.seven ∙ sym (length_power 7 v 1)

      not_behind : i ≤ j → ⊥
      not_behind l = ⊎_elim
          (λ q. multiple_not_less m (variable v) long refl (subst (λ z. cmp_dp z m ≡ Less) (sym e) (s.corners.rising i j unit q lj)))
          (λ q. let six = s.fit.six_variables in
          let up = degree_next m v (omega arith) in
          let same : total_degree (times m (variable v)).exponents ≡ total_degree m.exponents = ap (λ z. total_degree z.exponents) (e ∙ ap (corner g) (let w : i ≡ j = omega arith in w)) in
          omega arith)
          (cases_lt i j)

  -- a corner of degree 0 is 1
  pub degree_one : (i : ℕ) → i < length g.basis → total_degree (corner g i).exponents ≡ 0 → corner g i ≡ unit
  degree_one i l e =
      let a = (standard (corner g i) (corner_there i l)).affine in
      let z = degree_zero 7 (corner g i).exponents a.seven e in λ j. record { exponents = z j; component = a.plain j }

  pub corner_affine : (i : ℕ) → i < length g.basis → IsAffine g.curve.variables (corner g i)
  corner_affine i l = (standard (corner g i) (corner_there i l)).affine
