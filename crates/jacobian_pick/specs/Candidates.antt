-- The candidates for a denominator: minors of the Jacobian matrix and sums of them (Greuel and Pfister, section on the
-- singular locus; Böhm, Decker, Laplagne, Pfister, Steenpass and Steidel, Parallel Algorithms for Normalization).
use Rattle.std.specs.Prelude.{◌≡◌, ◌⊎◌, ℕ, ◌-◌, ◌==◌, if◌then◌else◌, List, [], ◌∷◌, ◌++◌, length, map, min, take, flat_map}
use Rattle.std.specs.List.{range_with_len}
use Rattle.monomials.specs.Mono.{variable}
use Rattle.polys.specs.declared.term.Term.{Term}
use Rattle.polys.specs.Ideal.{InIdeal}
use Rattle.polys.specs.Terms.{IsMonicOf, add, sub, mul, multiple, one, derivative}
use Rattle.problem.specs.Problem.{ProblemData}

-- ---- pairs of members of a list

-- what h gives for each member and each later one, in the order of their places
abbrev pub over_pairs : (List Term → List Term → List (List Term)) → List (List Term) → List (List Term)
over_pairs h [] = []
over_pairs h (f ∷ fs) = flat_map (h f) fs ++ over_pairs h fs

-- what h gives for each member of `after` and each other member of both lists, in the order of their places
abbrev pub over_others : (List Term → List Term → List (List Term)) → List (List Term) → List (List Term) → List (List Term)
over_others h before [] = []
over_others h before (f ∷ after) = flat_map (h f) (before ++ after) ++ over_others h (before ++ f ∷ []) after

-- ---- the Jacobian matrix, whose rows belong to the generators and whose columns to the variables

-- a row of two columns
abbrev pub partials : ℕ → List Term → List (List Term)
partials p f = derivative p 0 f ∷ derivative p 1 f ∷ []

-- the minor of the rows of f and g and of the columns k and l
abbrev pub minor : ℕ → ℕ → ℕ → List Term → List Term → List Term
minor p k l f g = sub p (mul p (derivative p k f) (derivative p l g)) (mul p (derivative p l f) (derivative p k g))

-- the minors of two rows of three columns
abbrev pub row_minors : ℕ → List Term → List Term → List (List Term)
row_minors p f g = minor p 0 1 f g ∷ minor p 0 2 f g ∷ minor p 1 2 f g ∷ []

-- 1 in one variable, the partial derivatives in two, the minors of two rows in three, and nothing in more. For xy in two
-- variables: y and x
abbrev pub jacobian : ℕ → ℕ → List (List Term) → List (List Term)
jacobian p n gs =
    if n == 1 then (one ∷ []) else (if n == 2 then flat_map (partials p) gs else (if n == 3 then over_pairs (row_minors p) gs else []))

-- ---- sums of two of them

-- f + c g for c from 1 to the smaller of p - 1 and 7. For y and x modulo 5: x + y, 2x + y, 3x + y, 4x + y
abbrev pub number_sums : ℕ → List Term → List Term → List (List Term)
number_sums p f g = map (λ c. add p f (multiple p c g)) (range_with_len 1 (min (p - 1) 7))

-- f + x_v g for each of n variables. For y and x: x^2 + y, xy + y
abbrev pub variable_sums : ℕ → ℕ → List Term → List Term → List (List Term)
variable_sums p n f g = map (λ v. add p f (mul p g (record { coeff = 1; mono = variable v } ∷ []))) (range_with_len 0 n)

-- ---- the candidates

-- ms has the monic multiples of exactly those members of fs that are outside the ideal of gs, in order
abbrev pub AreKept : ℕ → ℕ → List (List Term) → List (List Term) → List (List Term) → Type 0
AreKept p n gs [] ms = ms ≡ []
AreKept p n gs (f ∷ fs) ms =
    (InIdeal p n gs f × AreKept p n gs fs ms)
    ⊎ ((InIdeal p n gs f → ⊥) × (m : List Term) × (rest : List (List Term)) × IsMonicOf p f m × (ms ≡ m ∷ rest) × AreKept p n gs fs rest)

-- what the Jacobian matrix gives
abbrev pub jacobian_of : ProblemData → List (List Term)
jacobian_of problem = jacobian problem.prime (length problem.letters) problem.generators

-- the sums of the first six of the list with multiples of a later one by numbers
abbrev pub number_sums_of : ProblemData → List (List Term) → List (List Term)
number_sums_of problem first = over_pairs (number_sums problem.prime) (take 6 first)

-- the sums of the first six of the list with multiples of another one by variables
abbrev pub variable_sums_of : ProblemData → List (List Term) → List (List Term)
variable_sums_of problem first = over_others (variable_sums problem.prime (length problem.letters)) [] (take 6 first)

-- ms is what is kept of fs
abbrev pub AreKeptOf : ProblemData → List (List Term) → List (List Term) → Type 0
AreKeptOf problem fs ms = AreKept problem.prime (length problem.letters) problem.generators fs ms

-- what is kept of the Jacobian matrix
abbrev pub AreFirst : ProblemData → List (List Term) → Type 0
AreFirst problem ms = AreKeptOf problem (jacobian_of problem) ms

-- what is kept of the sums by numbers, and of those by variables
abbrev pub AreSecond : ProblemData → List (List Term) → List (List Term) → Type 0
AreSecond problem first ms = AreKeptOf problem (number_sums_of problem first) ms

abbrev pub AreThird : ProblemData → List (List Term) → List (List Term) → Type 0
AreThird problem first ms = AreKeptOf problem (variable_sums_of problem first) ms

-- the three lists, one after the other. For xy modulo 5: y, x, then x + y, x - 2y, x + 2y, x - y, then x^2 + y, xy + y,
-- xy + x, y^2 + x
pub record AreCandidates (problem : ProblemData) (cs : List (List Term)) : Type 0 where
  pub first : List (List Term)
  pub second : List (List Term)
  pub third : List (List Term)
  pub are_first : AreFirst problem first
  pub are_second : AreSecond problem first second
  pub are_third : AreThird problem first third
  pub joined : cs ≡ first ++ second ++ third
