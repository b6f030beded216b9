-- What holds of the rows of a plan.
use Rattle.std.specs.Prelude.{◌≡◌, ℕ, ◌+◌, ◌-◌, ◌*◌, ◌<◌, ◌≤◌, List, [], length, map, slice_index, slice_index_or, All}
use Rattle.std.specs.declared.cmp.Ordering.TheVariants.{Greater}
use Rattle.monomials.specs.Mono.{Monomial, unit, times, variable, cmp_dp}
use Rattle.polys.specs.declared.term.Term.{Term}
use Rattle.polys.specs.Terms.{IsPoly, add, mul}
use Rattle.polys.specs.Ideal.{number_combination}
use Rattle.row_space.specs.Echelon.{IsRow}
use Rattle.standard_monomials.specs.Standard.{polynomial_of}
use Rattle.digit_plan.specs.declared.plan.Place.{Place}
use Rattle.digit_plan.specs.declared.plan.Place.TheVariants.{Corner, Border, Outer}
use Rattle.digit_plan.specs.declared.plan.Plan.{Plan}
use Rattle.digit_plan.specs.declared.plan.Rule.{Rule}
use Rattle.digit_plan.specs.declared.plan.Rule.TheVariants.{Lead, Multiple}
use Rattle.digit_plan.specs.Planned.{AreInner, IsPlaceIn, curve_of, monomial_at}
use Rattle.digit_make.specs.Blocks.{AreKnown, IsBlock}
use Rattle.digit_make.specs.declared.rows.Rows.{Rows}

-- the rows have digits of the monomials outside the corners
pub record AreRowsOf (plan : Plan) (rows : Rows) : Type 0 where
  pub border : AreKnown (curve_of plan) plan.corners plan.border rows.border
  pub outer : AreKnown (curve_of plan) plan.corners plan.outer rows.outer

-- the row has its block number t
abbrev pub HasBlock : Plan → ℕ → List ℕ → Type 0
HasBlock plan t row = length plan.corners * t + length plan.corners ≤ length row

-- the monomial at the place has its block number t: a corner always, and another one where its row has it
abbrev pub HasBlockAt : Plan → Rows → ℕ → Place → Type 0
HasBlockAt plan rows t (Corner i) = 0 ≤ t
HasBlockAt plan rows t (Border j) = HasBlock plan t (slice_index_or rows.border j [])
HasBlockAt plan rows t (Outer j) = HasBlock plan t (slice_index_or rows.outer j [])

-- the products of the variable v and the corners with factors have their block number t
abbrev pub HaveFactorRows : Plan → Rows → ℕ → ℕ → List ℕ → Type 0
HaveFactorRows plan rows t v factors =
    (i : ℕ) (place : Place) → i < length plan.corners → (slice_index factors i ≡ 0 → ⊥) → IsPlaceIn plan.corners plan.border [] place
    → monomial_at plan place ≡ times (slice_index_or plan.corners i unit) (variable v) → HasBlockAt plan rows t place

-- the border has the blocks before that with number t, and this one at each product of the variable v and a corner that is not above m
pub record HaveProductRows (plan : Plan) (rows : Rows) (t v : ℕ) (m : Monomial) : Type 0 where
  pub before : (j : ℕ) → j < length plan.border → length plan.corners * t ≤ length (slice_index_or rows.border j [])
  pub last : (i j : ℕ) → i < length plan.corners → j < length plan.border → (cmp_dp (slice_index_or plan.corners i unit) m ≡ Greater → ⊥)
      → slice_index_or plan.border j unit ≡ times (slice_index_or plan.corners i unit) (variable v) → HasBlock plan t (slice_index_or rows.border j [])

-- the blocks that the rule needs for the block number t are there
abbrev pub IsReadyFor : Plan → Rows → ℕ → Rule → Type 0
IsReadyFor plan rows t (Lead tail lift) = AreInner plan.corners tail × (0 < t → All (λ s. HasBlockAt plan rows (t - 1) s.place) lift)
IsReadyFor plan rows t (Multiple v place) = HasBlockAt plan rows t place × HaveProductRows plan rows t v (monomial_at plan place)

-- from the block number t of any f the row has become that of f + g
abbrev pub Adds : Plan → ℕ → List ℕ → List Term → List ℕ → Type 0
Adds plan t old g new =
    let A = curve_of plan in
    (f : List Term) → IsPoly A.prime A.variables f → IsBlock A plan.corners t f old → IsBlock A plan.corners t (add A.prime f g) new

-- residues, one for each corner
abbrev pub IsBlockRow : Plan → List ℕ → Type 0
IsBlockRow plan row = IsRow (curve_of plan).prime (length plan.corners) row

-- the variable v times the sum of the corners, each times its factor
abbrev pub corners_multiple : Plan → ℕ → List ℕ → List Term
corners_multiple plan v factors =
    let A = curve_of plan in mul A.prime (polynomial_of (variable v)) (number_combination A.prime factors (map polynomial_of plan.corners))
