-- Monomials raised by a variable: products, degrees and the variables in them.
use Rattle.std.proofs.Common.{◌≡◌, ℕ, ◌+◌, ◌<◌, ◌≤◌, List, [], ◌∷◌, length, get_or, refl, sym, ap, ◌∙◌, arith, suc, zero, add-zero, replicate}
use Rattle.std.proofs.Math.ListN.{set}
use Rattle.std.proofs.lemmas.List.{length-set}
use Rattle.monomials.specs.Mono.{Monomial, IsMono, pointwise, total_degree, times, unit, variable}
use Rattle.polys.specs.Terms.{IsAffine, OnlyFirst}
use Rattle.polys.proofs.Affine.{only_zeros}
use Rattle.poly_text.specs.Raising.{raised}

abbrev monomial : List ℕ → ℕ → Monomial
monomial a c = record { exponents = a; component = c }

same_monomial : (a b : List ℕ) (c d : ℕ) → a ≡ b → c ≡ d → monomial a c ≡ monomial b d
same_monomial a b c d first second = λ i. record { exponents = first i; component = second i }

plus_zeros : (l : List ℕ) → pointwise (λ x y. x + y) l (replicate (length l) 0) ≡ l
plus_zeros [] = refl
plus_zeros (x ∷ l) = λ i. add-zero x i ∷ plus_zeros l i

plus_some : (l : List ℕ) (v e : ℕ) → v < length l
    → pointwise (λ x y. x + y) l (set (replicate (length l) 0) v (get_or (replicate (length l) 0) v 0 + e)) ≡ set l v (get_or l v 0 + e)
plus_some [] v e within = absurd (omega arith)
plus_some (x ∷ l) zero e within = let h : x + (0 + e) ≡ x + e = omega arith in λ i. h i ∷ plus_zeros l i
plus_some (x ∷ l) (suc v) e within = let h : v < length l = omega arith in λ i. add-zero x i ∷ plus_some l v e h i

-- a product with a power of the variable
pub times_raised : (m : Monomial) (v e : ℕ) → length m.exponents ≡ 7 → v < 6 → times m (raised unit v e) ≡ raised m v e
times_raised m v e seven within =
    same_monomial _ (set m.exponents v (get_or m.exponents v 0 + e)) _ m.component
    (
    ap (λ (n : ℕ). pointwise (λ x y. x + y) m.exponents (set (replicate n 0) v (get_or (replicate n 0) v 0 + e))) (sym seven)
    ∙ plus_some m.exponents v e (omega arith)
    )
    (add-zero m.component)

-- the degree grows by what is raised
degree_set : (l : List ℕ) (v e : ℕ) → v < length l → total_degree (set l v (get_or l v 0 + e)) ≡ total_degree l + e
degree_set [] v e within = absurd (omega arith)
degree_set (x ∷ l) zero e within = omega arith
degree_set (x ∷ l) (suc v) e within = let h : total_degree (set l v (get_or l v 0 + e)) ≡ total_degree l + e = degree_set l v e (omega arith) in omega arith

pub degree_kept : (l : List ℕ) (v e : ℕ) → total_degree l ≤ total_degree (set l v (get_or l v 0 + e))
degree_kept [] v e = omega arith
degree_kept (x ∷ l) zero e = omega arith
degree_kept (x ∷ l) (suc v) e = let h : total_degree l ≤ total_degree (set l v (get_or l v 0 + e)) = degree_kept l v e in omega arith

pub raised_degree : (m : Monomial) (v e : ℕ) → length m.exponents ≡ 7 → v < 6 → total_degree (raised m v e).exponents ≡ total_degree m.exponents + e
raised_degree m v e seven within = degree_set m.exponents v e (omega arith)

pub raised_mono : (m : Monomial) (v e : ℕ) → IsMono m → v < 6 → total_degree m.exponents + e ≤ 60000 → IsMono (raised m v e)
raised_mono m v e known within room = record {
  seven = length-set m.exponents v _ ∙ known.seven;
  bounded = omega (arith, raised_degree m v e known.seven within);
  one_of_two = known.one_of_two;
}

-- ---- the variables

only_set : (n : ℕ) (l : List ℕ) (v e : ℕ) → v < n → OnlyFirst n l → OnlyFirst n (set l v e)
only_set n [] v e within h = h
only_set zero (x ∷ l) v e within h = absurd (omega arith)
only_set (suc n) (x ∷ l) zero e within h = h
only_set (suc n) (x ∷ l) (suc v) e within h = only_set n l v e (omega arith) h

pub affine_variable : (n v : ℕ) → v < n → IsAffine n (variable v)
affine_variable n v within = record { seven = length-set (replicate 7 0) v 1; first = only_set n (replicate 7 0) v 1 within (only_zeros n 7); plain = refl }

pub affine_raised : (n : ℕ) (m : Monomial) (v e : ℕ) → v < n → IsAffine n m → IsAffine n (raised m v e)
affine_raised n m v e within h = record { seven = length-set m.exponents v _ ∙ h.seven; first = only_set n m.exponents v _ within h.first; plain = h.plain }
