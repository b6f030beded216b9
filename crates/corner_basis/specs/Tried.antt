-- The monomials that the program has tried, with their digits.
use Rattle.std.specs.Prelude.{◌≡◌, ℕ, ◌*◌, ◌<◌, ◌≤◌, ◌+◌, List, [], ◌∷◌, ◌++◌, length, slice_index_or}
use Rattle.std.specs.declared.cmp.Ordering.TheVariants.{Less}
use Rattle.monomials.specs.Mono.{Monomial, cmp_dp, total_degree, unit}
use Rattle.polys.specs.declared.term.Term.{Term}
use Rattle.polys.specs.Terms.{IsAffine}
use Rattle.polys.specs.Curve.{data_of}
use Rattle.row_space.specs.Subspace.{Subspace}
use Rattle.standard_monomials.specs.Standard.{polynomial_of}
use Rattle.digit_space.specs.Model.{DigitData, IsDigitsOf}
use Rattle.corner_basis.specs.Fronts.{IsFrontIdeal}
use Rattle.corner_basis.specs.Staircase.{AreRelations, HasDivisor, IsAmong, IsSearch, IsStaircase, IsTailed, steps_left}
use Rattle.corner_basis.specs.declared.front.Front.{Front}
use Rattle.corner_basis.specs.declared.staircase.Staircase.{Staircase}

-- the rows have the digits of the monomials
pub record HaveDigits (g : DigitData) (ws : List Monomial) (rows : List (List ℕ)) : Type 0 where
  pub count : length rows ≡ length ws
  pub digits : (i : ℕ) → i < length ws → IsDigitsOf g (polynomial_of (slice_index_or ws i unit)) (slice_index_or rows i [])

-- an ideal of the polynomials modulo I and d^t, where the digits have at least t blocks
pub record IsFront (f : Front) : Type 0 where
  pub shallow : f.blocks ≤ f.digits.now.depth
  pub ideal : IsFrontIdeal f.digits.now f.blocks f.space.now

-- such monomials with their rows
pub record AreTried (f : Front) (s : Staircase) : Type 0 where
  pub monomials : IsStaircase (data_of f.digits.now.curve) f.digits.now.basis f.blocks f.space.now s.span s.standard s.leads
  pub standard_rows : HaveDigits f.digits.now s.standard s.standard_rows
  pub lead_rows : HaveDigits f.digits.now s.leads s.lead_rows

-- m is greater than all that were tried, and is no multiple of a lead
pub record IsNew (n : ℕ) (s : Staircase) (m : Monomial) : Type 0 where
  pub affine : IsAffine n m
  pub above : (w : Monomial) → IsAmong s.standard s.leads w → cmp_dp w m ≡ Less
  pub outside : HasDivisor s.leads m → ⊥
  pub low : total_degree m.exponents ≤ length s.standard

-- m was put at the end of those that are no leads, and adds to the span
pub record IsPutStandard (m : Monomial) (old new : Staircase) : Type 0 where
  pub standard : new.standard ≡ old.standard ++ m ∷ []
  pub leads : new.leads ≡ old.leads
  pub more : length new.span.basis ≡ length old.span.basis + 1

-- m was put at the end of the leads
pub record IsPutLead (m : Monomial) (old new : Staircase) : Type 0 where
  pub standard : new.standard ≡ old.standard
  pub leads : new.leads ≡ old.leads ++ m ∷ []
  pub span : new.span ≡ old.span

-- the search is so far, and how many steps are left at most
abbrev pub IsSearched : Front → ℕ → List Monomial → Staircase → Type 0
IsSearched f next queue s = IsSearch f.digits.now.curve.variables next queue s.standard s.leads

abbrev pub left : Front → ℕ → List Monomial → Staircase → ℕ
left f next queue s = steps_left (length f.digits.now.basis * f.blocks) (length s.span.basis) next queue

-- the relations between the monomials that were found
abbrev pub HasRelations : Front → Staircase → Subspace → Type 0
HasRelations f s relations = AreRelations (data_of f.digits.now.curve) f.digits.now.basis f.blocks f.space.now s.standard s.leads relations

-- a member with the lead number i, and such members for the first leads, so many of them
abbrev pub IsMember : Front → Staircase → ℕ → List Term → Type 0
IsMember f s i g = IsTailed (data_of f.digits.now.curve) f.digits.now.basis f.blocks f.space.now s.standard (slice_index_or s.leads i unit) g
