-- Monomials of vectors of polynomials, and their order.
use Rattle.std.specs.Prelude.{◌≡◌, ℕ, ◌+◌, ◌≤◌, List, [], ◌∷◌, length, max, replicate, slice_index, slice_set}
use Rattle.std.specs.declared.cmp.Ordering.{Ordering}
use Rattle.std.specs.declared.cmp.Ordering.TheVariants.{Less, Equal, Greater}
use Rattle.std.specs.Ordering.{ordering_then, nat_cmp}
use Rattle.monomials.specs.declared.mono.TheConstants.{MAX_DEGREE}

-- the exponents of the variables, the homogenising variable's last, and the component of the unit vector
pub record Monomial : Type 0 where
  pub exponents : List ℕ
  pub component : ℕ

-- the degree, with the homogenising exponent counted
abbrev pub total_degree : List ℕ → ℕ
total_degree [] = 0
total_degree (x ∷ a) = x + total_degree a

-- place by place; a list that has ended has only zeros left
abbrev pub pointwise : (ℕ → ℕ → ℕ) → List ℕ → List ℕ → List ℕ
pointwise f [] b = b
pointwise f (x ∷ a) [] = x ∷ a
pointwise f (x ∷ a) (y ∷ b) = f x y ∷ pointwise f a b

-- the product of a vector's monomial and a monomial of component 0
abbrev pub times : Monomial → Monomial → Monomial
times a b = record { exponents = pointwise (λ x y. x + y) a.exponents b.exponents; component = a.component + b.component }

-- the greater exponent at each place, for two monomials of one component
abbrev pub common_multiple : Monomial → Monomial → Monomial
common_multiple a b = record { exponents = pointwise max a.exponents b.exponents; component = a.component }

-- the monomial 1
abbrev pub unit : Monomial
unit = record { exponents = replicate 7 0; component = 0 }

-- the variable with this number
abbrev pub variable : ℕ → Monomial
variable v = record { exponents = slice_set (replicate 7 0) v 1; component = 0 }

-- one component, and no exponent of a is greater
pub record Divides (a b : Monomial) : Type 0 where
  pub same : a.component ≡ b.component
  pub none_greater : (i : ℕ) → slice_index a.exponents i ≤ slice_index b.exponents i

-- at the last place where the exponents differ the smaller exponent is greater
abbrev pub cmp_last : List ℕ → List ℕ → Ordering
cmp_last [] [] = Equal
cmp_last [] (y ∷ b) = Less
cmp_last (x ∷ a) [] = Greater
cmp_last (x ∷ a) (y ∷ b) = ordering_then (cmp_last a b) (nat_cmp y x)

-- dp: component 0 is greater than component 1, then the greater degree is greater, then the last place decides
abbrev pub cmp_dp : Monomial → Monomial → Ordering
cmp_dp a b =
    ordering_then (nat_cmp b.component a.component)
    (ordering_then (nat_cmp (total_degree a.exponents) (total_degree b.exponents)) (cmp_last a.exponents b.exponents))

-- what holds of each monomial of the program
pub record IsMono (m : Monomial) : Type 0 where
  pub seven : length m.exponents ≡ 7
  pub bounded : total_degree m.exponents ≤ MAX_DEGREE
  pub one_of_two : m.component ≤ 1
