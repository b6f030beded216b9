-- The blocks that a rule needs are there in the order in which they are made.
use Rattle.std.proofs.Common.{◌≡◌, ℕ, ◌+◌, ◌-◌, ◌*◌, ◌<◌, ◌≤◌, List, [], length, get_or, take, drop, refl, sym, ap, ◌∙◌, subst, arith}
use Rattle.std.specs.declared.cmp.Ordering.{Ordering}
use Rattle.std.specs.declared.cmp.Ordering.TheVariants.{Less, Equal, Greater}
use Rattle.std.specs.Ordering.{nat_cmp, MatchOrdering}
use Rattle.std.specs.Cmp.{ranks}
use Rattle.std.specs.List.{All, Contains}
use Rattle.std.proofs.lemmas.List.{get_or-drop, get_or-take, get_or_default}
use Rattle.std.proofs.lemmas.List.Elements.{All-get_or, All-weaker, Contains-get_or}
use Rattle.std.proofs.Math.Nat.{mul-le-mul_left}
use Rattle.monomials.specs.Mono.{Monomial, unit, times, variable, cmp_dp}
use Rattle.monomials.proofs.Order.{cmp_dp-times, same_dp}
use Rattle.polys.specs.Terms.{IsAffine}
use Rattle.standard_monomials.proofs.Steps.{less_next}
use Rattle.digit_plan.specs.declared.plan.Place.{Place}
use Rattle.digit_plan.specs.declared.plan.Place.TheVariants.{Corner, Border, Outer}
use Rattle.digit_plan.specs.declared.plan.Plan.{Plan}
use Rattle.digit_make.specs.declared.rows.Rows.{Rows}
use Rattle.digit_plan.specs.declared.plan.Rule.{Rule}
use Rattle.digit_plan.specs.declared.plan.Rule.TheVariants.{Lead, Multiple}
use Rattle.digit_plan.specs.declared.plan.Share.{Share}
use Rattle.digit_make.specs.Blocks.{AreGrown, HasBlocks, IsKnown}
use Rattle.digit_plan.specs.Planned.{AreInner, AreShares, IsPlace, IsPlaceIn, IsPlan, IsRule, NamesOnly, curve_of, monomial_at}
use Rattle.digit_make.specs.Rows.{AreRowsOf, HasBlock, HasBlockAt, HaveFactorRows, HaveProductRows, IsReadyFor}
use Rattle.digit_plan.proofs.Found.{earlier}
use Rattle.digit_make.proofs.First.{first_low}
use Rattle.digit_make.proofs.Steps.{affine_at}

-- a monomial as it is read
pub mono_read : (monomials list : List Monomial) (j : ℕ) (m : Monomial) → list ≡ monomials → j < length monomials → m ≡ get_or list j m → m ≡ get_or monomials j unit
mono_read monomials list j m e l q = q ∙ ap (λ z. get_or z j m) e ∙ get_or_default monomials j m unit l

-- a corner has its block always
pub inner_made : (plan : Plan) (rows : Rows) (t : ℕ) (tail : List Share) → AreInner plan.corners tail → All (λ s. HasBlockAt plan rows t s.place) tail
inner_made plan rows t tail h = All-weaker (λ (s : Share). IsPlaceIn plan.corners [] [] s.place) (λ (s : Share). HasBlockAt plan rows t s.place) (λ s l. go s.place l) tail h
  where
    go : (place : Place) → IsPlaceIn plan.corners [] [] place → HasBlockAt plan rows t place
    go (Corner i) l = omega arith
    go (Border j) l = absurd (omega arith)
    go (Outer j) l = absurd (omega arith)

module _ (plan : Plan) (h : IsPlan plan) where
  -- ---- what a product by a variable needs

  -- the entries of the block are 0 at corners above the monomial
  factor_low : (t : ℕ) (m : Monomial) (row : List ℕ) (i : ℕ) → IsAffine (curve_of plan).variables m → IsKnown (curve_of plan) plan.corners m row → HasBlock plan t row → i < length plan.corners
      → cmp_dp (get_or plan.corners i unit) m ≡ Greater
      → get_or (take (length plan.corners * (t - t) + length plan.corners - length plan.corners * (t - t)) (drop (length plan.corners * (t - t)) row)) i 0 ≡ 0
  factor_low t m row i a k long l e =
      let start : length plan.corners * (t - t) ≡ 0 = ap (λ z. length plan.corners * z) (let u : t - t ≡ 0 = omega arith in u) ∙ (let u : length plan.corners * 0 ≡ 0 = omega arith in u) in
      get_or-take (length plan.corners * (t - t) + length plan.corners - length plan.corners * (t - t)) (drop (length plan.corners * (t - t)) row) i 0 (omega arith)
      ∙ get_or-drop (length plan.corners * (t - t)) row i 0
      ∙ ap (λ z. get_or row z 0) (let u : length plan.corners * (t - t) + i ≡ i = omega arith in u)
      ∙ first_low plan h m row i a k (omega arith) l e

  pub factors_made : (rows : Rows) (t r v : ℕ) (m : Monomial) (row factors : List ℕ) → r ≤ t → IsAffine (curve_of plan).variables m → IsKnown (curve_of plan) plan.corners m row → HasBlock plan t row
      → HaveProductRows plan rows t v m
      → factors ≡ take (length plan.corners * (t - r) + length plan.corners - length plan.corners * (t - r)) (drop (length plan.corners * (t - r)) row) → HaveFactorRows plan rows r v factors
  factors_made rows t r v m row factors le a k long products q i (Corner j) l o inner e = omega arith
  factors_made rows t r v m row factors le a k long products q i (Outer j) l o inner e = absurd (omega arith)
  factors_made rows t r v m row factors le a k long products q i (Border j) l o inner e = go (nat_cmp r t) (ranks r t)
    where
      go : (s : Ordering) → MatchOrdering s (r < t) (r ≡ t) (t < r) → HasBlock plan r (get_or rows.border j [])
      go Less s =
          let b = products.before j inner in
          let w : length plan.corners * (r + 1) ≤ length plan.corners * t = mul-le-mul_left (length plan.corners) (let z : r + 1 ≤ t = omega arith in z) in
          omega arith
      go Equal s =
          subst (λ z. HasBlock plan z (get_or rows.border j [])) (sym s)
          (products.last i j l inner
          (λ above. o (ap (λ z. get_or z i 0) q
          ∙ ap (λ z. get_or (take (length plan.corners * (t - z) + length plan.corners - length plan.corners * (t - z)) (drop (length plan.corners * (t - z)) row)) i 0) s
          ∙ factor_low t m row i a k long l above))
          e)
      go Greater s = absurd (omega arith)

  -- ---- rows as they grow

  at_least : (s most : ℕ) (row : List ℕ) → HasBlocks (length plan.corners) s most row → length plan.corners * s ≤ length row
  at_least s most row b = let w : length plan.corners * s ≤ length plan.corners * b.count = mul-le-mul_left (length plan.corners) b.enough in let e = b.whole in omega arith

  has_block : (t most : ℕ) (row : List ℕ) → HasBlocks (length plan.corners) (t + 1) most row → HasBlock plan t row
  has_block t most row b = let w = at_least (t + 1) most row b in omega arith

  module _ (rows : Rows) (k : AreRowsOf plan rows) where
    border_inside : (j : ℕ) → j < length plan.border → j < length rows.border
    border_inside j l = (let c = k.border.count in omega arith)

    outer_inside : (j : ℕ) → j < length plan.outer → j < length rows.outer
    outer_inside j l = (let c = k.outer.count in omega arith)

    place_made : (t most far a b : ℕ) → 0 < t → AreGrown (length plan.corners) t most a rows.border → AreGrown (length plan.corners) t far b rows.outer → (place : Place) → IsPlace plan place
        → HasBlockAt plan rows (t - 1) place
    place_made t most far a b p g f (Corner i) l = omega arith
    place_made t most far a b p g f (Border j) l =
        has_block (t - 1) most (get_or rows.border j []) (subst (λ z. HasBlocks (length plan.corners) z most (get_or rows.border j [])) (let e : t ≡ t - 1 + 1 = omega arith in e) (g.all j [] (border_inside j l)))
    place_made t most far a b p g f (Outer j) l =
        has_block (t - 1) far (get_or rows.outer j []) (subst (λ z. HasBlocks (length plan.corners) z far (get_or rows.outer j [])) (let e : t ≡ t - 1 + 1 = omega arith in e) (f.all j [] (outer_inside j l)))

    lift_made : (t most far a b : ℕ) → AreGrown (length plan.corners) t most a rows.border → AreGrown (length plan.corners) t far b rows.outer → (lift : List Share) → AreShares plan lift → 0 < t
        → All (λ s. HasBlockAt plan rows (t - 1) s.place) lift
    lift_made t most far a b g f lift s p =
        All-weaker (λ (x : Share). (x.coeff < (curve_of plan).prime) × IsPlace plan x.place) (λ (x : Share). HasBlockAt plan rows (t - 1) x.place) (λ x l. place_made t most far a b p g f x.place l.1) lift s

    -- the product by a variable is above the factor
    above_factor : (place : Place) (v : ℕ) (m : Monomial) → IsPlace plan place → v < (curve_of plan).variables → times (monomial_at plan place) (variable v) ≡ m → cmp_dp (monomial_at plan place) m ≡ Less
    above_factor place v m l b e =
        subst (λ z. cmp_dp (monomial_at plan place) z ≡ Less) e
        (less_next (monomial_at plan place) v (affine_at plan h place l).seven (let s = h.fit.six_variables in omega arith))

    -- a product of the variable and a corner that is not above the factor comes before the product of the factor
    product_before : (q j i v : ℕ) (m : Monomial) (below : ℕ) → q < length plan.border → below < length plan.border → i < length plan.corners → j < length plan.border
        → times (get_or plan.border j unit) (variable v) ≡ get_or plan.border q unit → (cmp_dp (get_or plan.corners i unit) (get_or plan.border j unit) ≡ Greater → ⊥)
        → get_or plan.border below unit ≡ times (get_or plan.corners i unit) (variable v) → below < q
    product_before q j i v m below lq lb li lj e o s = earlier plan.border below q h.rising.around lb lq
        (subst (λ z. cmp_dp z (get_or plan.border q unit) ≡ Less) (sym s)
        (subst (λ z. cmp_dp (times (get_or plan.corners i unit) (variable v)) z ≡ Less) e
        (cmp_dp-times (get_or plan.corners i unit) (get_or plan.border j unit) (variable v) ((affine_at plan h (Corner i) li).seven ∙ sym (affine_at plan h (Border j) lj).seven)
        ∙ go (cmp_dp (get_or plan.corners i unit) (get_or plan.border j unit)) refl)))
      where
        go : (r : Ordering) → cmp_dp (get_or plan.corners i unit) (get_or plan.border j unit) ≡ r → cmp_dp (get_or plan.corners i unit) (get_or plan.border j unit) ≡ Less
        go Less c = c
        go Equal c =
            absurd (h.outside (get_or plan.border j unit) (Contains-get_or plan.border j unit lj)
            (subst (Contains plan.corners) (same_dp (get_or plan.corners i unit) (get_or plan.border j unit) c) (Contains-get_or plan.corners i unit li)))
        go Greater c = absurd (o c)

    ready_border : (t most far q : ℕ) (m : Monomial) (rule : Rule) → AreGrown (length plan.corners) t most q rows.border → AreGrown (length plan.corners) t far 0 rows.outer → q < length plan.border
        → m ≡ get_or plan.border q unit → IsRule plan m rule → NamesOnly plan.corners plan.border [] rule → IsReadyFor plan rows t rule
    ready_border t most far q m (Lead tail lift) g f l e r o = (o, λ p. lift_made t most far q 0 g f lift r.1 p)
    ready_border t most far q m (Multiple v (Corner i)) g f l e r o = absurd o
    ready_border t most far q m (Multiple v (Outer j)) g f l e r o = absurd (omega arith)
    ready_border t most far q m (Multiple v (Border j)) g f l e r o = (
      has_block t most (get_or rows.border j [])
          (g.first j [] (earlier plan.border j q h.rising.around o l (above_factor (Border j) v (get_or plan.border q unit) o r.0 (r.2 ∙ e))) (border_inside j o)),
      record {
        before = λ b lb. at_least t most (get_or rows.border b []) (g.all b [] (border_inside b lb));
        last = λ i b li lb under s. has_block t most (get_or rows.border b []) (g.first b [] (product_before q j i v m b l lb li o (r.2 ∙ e) under s) (border_inside b lb));
      },
    )

    ready_outer : (t most far q : ℕ) (m : Monomial) (rule : Rule) → AreGrown (length plan.corners) (t + 1) most 0 rows.border → AreGrown (length plan.corners) t far q rows.outer → q < length plan.outer
        → m ≡ get_or plan.outer q unit → IsRule plan m rule → NamesOnly plan.corners plan.border plan.outer rule → IsReadyFor plan rows t rule
    ready_outer t most far q m rule g f l e r o = go rule r o
      where
        less : AreGrown (length plan.corners) t most 0 rows.border
        less = record {
          all = λ b d lb. let w = g.all b d lb in record { count = w.count; enough = (let x = w.enough in omega arith); within = w.within; whole = w.whole };
          first = λ b d z lb. absurd (omega arith);
        }

        products : (v : ℕ) (w : Monomial) → HaveProductRows plan rows t v w
        products v w = record {
          before = λ b lb. at_least t most (get_or rows.border b []) (less.all b [] (border_inside b lb));
          last = λ i b li lb under s. has_block t most (get_or rows.border b []) (g.all b [] (border_inside b lb));
        }

        go : (rule : Rule) → IsRule plan m rule → NamesOnly plan.corners plan.border plan.outer rule → IsReadyFor plan rows t rule
        go (Lead tail lift) r o = (o, λ p. lift_made t most far 0 q less f lift r.1 p)
        go (Multiple v (Corner i)) r o = absurd o
        go (Multiple v (Border j)) r o = (has_block t most (get_or rows.border j []) (g.all j [] (border_inside j o)), products v (get_or plan.border j unit))
        go (Multiple v (Outer j)) r o = (
          has_block t far (get_or rows.outer j [])
              (f.first j [] (earlier plan.outer j q h.rising.further o l (above_factor (Outer j) v (get_or plan.outer q unit) o r.0 (r.2 ∙ e))) (outer_inside j o)),
          products v (get_or plan.outer j unit),
        )

    -- ---- the rules as they are read

    pub border_ready : (t most far q : ℕ) (list : List Rule) (rule : Rule) → AreGrown (length plan.corners) t most q rows.border → AreGrown (length plan.corners) t far 0 rows.outer → q < length plan.border
        → list ≡ plan.border_rules → rule ≡ get_or list q rule → IsReadyFor plan rows t rule
    border_ready t most far q list rule g f l e r =
        ready_border t most far q (get_or plan.border q unit) rule g f l refl (subst (IsRule plan (get_or plan.border q unit)) (sym read) (h.border_rules.each q rule l))
        (subst (NamesOnly plan.corners plan.border []) (sym read) (All-get_or (NamesOnly plan.corners plan.border []) plan.border_rules q rule (let c = h.border_rules.count in omega arith) h.inner))
      where
        read : rule ≡ get_or plan.border_rules q rule
        read = r ∙ ap (λ z. get_or z q rule) e

    pub outer_ready : (t most far q : ℕ) (list : List Rule) (rule : Rule) → AreGrown (length plan.corners) (t + 1) most 0 rows.border → AreGrown (length plan.corners) t far q rows.outer → q < length plan.outer
        → list ≡ plan.outer_rules → rule ≡ get_or list q rule → IsReadyFor plan rows t rule
    outer_ready t most far q list rule g f l e r =
        ready_outer t most far q (get_or plan.outer q unit) rule g f l refl (subst (IsRule plan (get_or plan.outer q unit)) (sym read) (h.outer_rules.each q rule l))
        (subst (NamesOnly plan.corners plan.border plan.outer) (sym read) (All-get_or (NamesOnly plan.corners plan.border plan.outer) plan.outer_rules q rule (let c = h.outer_rules.count in omega arith) h.further))
      where
        read : rule ≡ get_or plan.outer_rules q rule
        read = r ∙ ap (λ z. get_or z q rule) e
