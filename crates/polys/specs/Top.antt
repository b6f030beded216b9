-- The top of a polynomial: all its terms above a monomial. Private calls alone cite these.
use Rattle.std.specs.Prelude.{◌≡◌, ℕ, ◌+◌, ◌*◌, ◌%◌, ◌<◌, ◌≤◌, List, [], ◌∷◌, length, max, Option, None, Some}
use Rattle.std.specs.declared.cmp.Ordering.{Ordering}
use Rattle.std.specs.declared.cmp.Ordering.TheVariants.{Less, Equal, Greater}
use Rattle.monomials.specs.Mono.{Monomial, IsMono, times, total_degree, cmp_dp}
use Rattle.polys.specs.declared.term.Term.{Term}
use Rattle.polys.specs.declared.top.Top.{Top}
use Rattle.polys.specs.declared.top.Told.{Told}
use Rattle.polys.specs.declared.top.Told.TheVariants.{Whole, More, Open}
use Rattle.polys.specs.Terms.{degree_of}
use Rattle.polys.specs.Frobenius.{raised}
use Rattle.polys.specs.Poly.{IsVector}

-- the monomial is greater than the cut; no cut is below all
abbrev pub Above : Option Monomial → Monomial → Type 0
Above None w = Unit {0}
Above (Some m) w = cmp_dp w m ≡ Greater

-- the sum over the terms of the coefficient times the weight of the monomial
abbrev pub weight : (Monomial → ℕ) → List Term → ℕ
weight χ [] = 0
weight χ (t ∷ f) = t.coeff * χ t.mono + weight χ f

-- the weight is 0 but above the cut
abbrev pub Vanishes : Option Monomial → (Monomial → ℕ) → Type 0
Vanishes c χ = (w : Monomial) → length w.exponents ≡ 7 → (Above c w → ⊥) → χ w ≡ 0

-- above the cut the two lists of terms have one sum
abbrev pub Agrees : ℕ → Option Monomial → List Term → List Term → Type 0
Agrees p c l g = (χ : Monomial → ℕ) → Vanishes c χ → weight χ l % p ≡ weight χ g % p

-- the greater of two monomials
abbrev pub greater_by : Ordering → Monomial → Monomial → Monomial
greater_by Less a b = b
greater_by Equal a b = a
greater_by Greater a b = a

-- the higher of two cuts
abbrev pub higher : Option Monomial → Option Monomial → Option Monomial
higher None d = d
higher (Some a) None = Some a
higher (Some a) (Some b) = Some (greater_by (cmp_dp a b) a b)

-- the cut times a monomial
abbrev pub cut_times : Option Monomial → Monomial → Option Monomial
cut_times None m = None
cut_times (Some a) m = Some (times a m)

-- the degree of a cut
abbrev pub cut_degree : Option Monomial → ℕ
cut_degree None = 0
cut_degree (Some m) = total_degree m.exponents

-- a monomial of the program, if any
abbrev pub IsCut : Option Monomial → Type 0
IsCut None = Unit {0}
IsCut (Some m) = IsMono m

-- the terms fall, and the cut is a monomial of the program
pub record IsTop (p : ℕ) (t : Top) : Type 0 where
  pub terms : IsVector p t.terms.items
  pub cut : IsCut t.cut

-- the greatest degree of a term and of the cut
abbrev pub reach : Top → ℕ
reach t = max (degree_of t.terms.items) (cut_degree t.cut)

-- what the one is the top of the other is too
abbrev pub KeepsTop : ℕ → Top → Top → Type 0
KeepsTop p old new = (g : List Term) → Agrees p old.cut old.terms.items g → Agrees p new.cut new.terms.items g

-- the cut with exponents k times as great
abbrev pub cut_raised : ℕ → Option Monomial → Option Monomial
cut_raised k None = None
cut_raised k (Some m) = Some (raised k m)

-- the answer is right about the polynomial g and the limit
abbrev pub IsRightAbout : ℕ → List Term → ℕ → Told → Type 0
IsRightAbout p g limit (Whole terms) = (terms.items ≡ g) × IsVector p terms.items × (length terms.items ≤ limit)
IsRightAbout p g limit More = limit < length g
IsRightAbout p g limit Open = Unit {0}
