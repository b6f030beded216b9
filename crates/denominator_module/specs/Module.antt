-- The graded module of a denominator: the pairs (a, b) in which a - b d is in the ideal (Greuel and Pfister, sections on
-- colon ideals and on syzygies).
use Rattle.std.specs.Prelude.{ℕ, ◌-◌, ◌==◌, if◌then◌else◌, List, [], ◌∷◌, ◌++◌, replicate}
use Rattle.polys.specs.declared.term.Term.{Term}
use Rattle.polys.specs.Terms.{degree_of, mul, multiple}
use Rattle.polys.specs.Ideal.{InIdeal}
use Rattle.polys.specs.Reduced.{IsReducedBasis}
use Rattle.graded_modules.specs.Vector.{lead_mono}
use Rattle.graded_modules.specs.Deep.{IsDeep}
use Rattle.homogenising.specs.Homogenised.{homogenised, dehomogenised, all_homogenised}

-- the vector (d, 1), where the second unit vector has the degree of d
abbrev pub with_unit : List Term → List Term
with_unit d = homogenised d ++ record { coeff = 1; mono = record { exponents = replicate 7 0; component = 1 } } ∷ []

-- (d, 1) and (g, 0) for each generator g, homogenised
abbrev pub module_of : List Term → List (List Term) → List (List Term)
module_of d gs = with_unit d ∷ all_homogenised gs

-- this module is deep under the cap
abbrev pub IsDeepDenominator : ℕ → ℕ → List Term → List (List Term) → ℕ → Type 0
IsDeepDenominator p n d gs cap = IsDeep p n (degree_of d) (module_of d gs) cap

-- ---- the parts of a pair

abbrev pub first : List Term → List Term
first [] = []
first (t ∷ f) = if t.mono.component == 0 then (t ∷ first f) else first f

abbrev pub second : List Term → List Term
second [] = []
second (t ∷ f) =
    if t.mono.component == 0 then second f else (record { coeff = t.coeff; mono = record { exponents = t.mono.exponents; component = 0 } } ∷ second f)

-- the first parts of the members of bs whose leads lie there, where the homogenising variable is 1
abbrev pub sum_members : ℕ → List (List Term) → List (List Term)
sum_members p [] = []
sum_members p (b ∷ bs) = if (lead_mono b).component == 0 then (dehomogenised p (first b) ∷ sum_members p bs) else sum_members p bs

-- the second parts of the members of bs whose leads lie there, where the homogenising variable is 1
abbrev pub colon_members : ℕ → List (List Term) → List (List Term)
colon_members p [] = []
colon_members p (b ∷ bs) = if (lead_mono b).component == 0 then colon_members p bs else (dehomogenised p (second b) ∷ colon_members p bs)

-- ---- lifts

-- the polynomial u that a pair with the second part -u stands for
abbrev pub quotient_of : ℕ → List Term → List Term
quotient_of p r = multiple p (p - 1) (dehomogenised p (second r))

-- ---- the colon ideal

-- a times d is in the ideal of gs
abbrev pub InColon : ℕ → ℕ → List (List Term) → List Term → List Term → Type 0
InColon p n gs d a = InIdeal p n gs (mul p d a)

-- qs is the reduced basis of the colon ideal
abbrev pub IsColonBasis : ℕ → ℕ → List (List Term) → List Term → List (List Term) → Type 0
IsColonBasis p n gs d qs = IsReducedBasis p n (InColon p n gs d) qs
