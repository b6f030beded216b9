-- Ideals of polynomials, regular elements and dimensions (Greuel and Pfister, sections on ideals and on dimension).
use Rattle.std.specs.Prelude.{◌≡◌, ℕ, ◌<◌, List, [], ◌∷◌, length, All}
use Rattle.polys.specs.declared.term.Term.{Term}
use Rattle.polys.specs.Terms.{IsPoly, add, sub, mul, multiple}

-- q_1 g_1 + .. + q_r g_r
abbrev pub combination : ℕ → List (List Term) → List (List Term) → List Term
combination p [] gs = []
combination p (q ∷ qs) [] = []
combination p (q ∷ qs) (g ∷ gs) = add p (mul p q g) (combination p qs gs)

-- f is a sum of multiples of the members of gs by polynomials in n variables
pub record InIdeal (p n : ℕ) (gs : List (List Term)) (f : List Term) : Type 0 where
  pub factors : List (List Term)
  pub polys : All (IsPoly p n) factors
  pub as_many : length factors ≡ length gs
  pub combined : f ≡ combination p factors gs

-- d a is in the ideal of gs only if a is
abbrev pub Regular : ℕ → ℕ → List (List Term) → List Term → Type 0
Regular p n gs d = (a : List Term) → IsPoly p n a → InIdeal p n gs (mul p d a) → InIdeal p n gs a

-- c_1 u_1 + .. + c_r u_r for numbers c_i
abbrev pub number_combination : ℕ → List ℕ → List (List Term) → List Term
number_combination p [] us = []
number_combination p (c ∷ cs) [] = []
number_combination p (c ∷ cs) (u ∷ us) = add p (multiple p c u) (number_combination p cs us)

-- f is a sum of multiples of the members of us by residues, up to the ideal of gs
pub record IsSpanned (p n : ℕ) (gs us : List (List Term)) (f : List Term) : Type 0 where
  pub residues : List ℕ
  pub below : All (λ c. c < p) residues
  pub as_many : length residues ≡ length us
  pub close : InIdeal p n gs (sub p f (number_combination p residues us))

-- the polynomials of us span all polynomials in n variables, up to the ideal of gs
pub record Spans (p n : ℕ) (gs us : List (List Term)) : Type 0 where
  pub polys : All (IsPoly p n) us
  pub each : (f : List Term) → IsPoly p n f → IsSpanned p n gs us f

-- some N polynomials span up to the ideal of gs, and no fewer do
pub record HasDim (p n : ℕ) (gs : List (List Term)) (N : ℕ) : Type 0 where
  pub basis : List (List Term)
  pub as_many : length basis ≡ N
  pub spans : Spans p n gs basis
  pub least : (us : List (List Term)) → length us < N → Spans p n gs us → ⊥

-- no finite list spans up to the ideal of gs
abbrev pub HasInfiniteDim : ℕ → ℕ → List (List Term) → Type 0
HasInfiniteDim p n gs = (us : List (List Term)) → Spans p n gs us → ⊥
