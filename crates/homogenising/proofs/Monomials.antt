-- What lifting to a degree and setting the homogenising variable to 1 do to monomials.
use Rattle.std.proofs.Common.{◌≡◌, ℕ, ◌+◌, ◌-◌, ◌≤◌, List, [], ◌∷◌, length, sym, ap, ◌∙◌, subst, arith}
use Rattle.monomials.specs.Mono.{Monomial, total_degree, times, cmp_dp, Divides}
use Rattle.monomials.proofs.Exponents.{total_degree-plus, total_degree-push}
use Rattle.monomials.proofs.Factors.{divides_law}
use Rattle.polys.specs.Terms.{IsAffine}
use Rattle.polys.specs.Poly.{IsPlain}
use Rattle.graded_modules.specs.Vector.{IsGraded}
use Rattle.homogenising.specs.Homogenised.{with_hom}
use Rattle.homogenising.proofs.Places.{plus, plus_last}
use Rattle.homogenising.proofs.Order.{placed, lift, with-placed, lift-placed, lifted_order, flat_at, affine_of, graded_of, IsSteep, steep_at, seven_last, IsPlaced, placed_at}

-- the homogenising variable becomes 1
abbrev pub lower : Monomial → Monomial
lower m = with_hom 0 m

module _ (n : ℕ) (six : n ≤ 6) where
  -- ---- of monomials of polynomials

  pub degree_flat : (a : List ℕ) → total_degree (placed a 0 0).exponents ≡ total_degree a
  degree_flat a = total_degree-push a 0 ∙ (omega arith)

  pub lift_order : (K : ℕ) (a b : Monomial) → IsAffine n a → total_degree a.exponents ≤ K → IsAffine n b → total_degree b.exponents ≤ K
      → cmp_dp (lift K a) (lift K b) ≡ cmp_dp a b
  lift_order K a b p h q k =
      let f = flat_at n a six p in
      let g = flat_at n b six q in
      let lf = f.as_many in
      let lg = g.as_many in
      let da : total_degree a.exponents ≡ total_degree f.six = ap (λ (m : Monomial). total_degree m.exponents) f.is ∙ degree_flat f.six in
      let db : total_degree b.exponents ≡ total_degree g.six = ap (λ (m : Monomial). total_degree m.exponents) g.is ∙ degree_flat g.six in
      (λ i. cmp_dp ((ap (lift K) f.is ∙ lift-placed K f.six 0 lf) i) ((ap (lift K) g.is ∙ lift-placed K g.six 0 lg) i))
      ∙ lifted_order K f.six g.six (omega arith) (omega arith) (omega arith)
      ∙ (λ i. cmp_dp (sym f.is i) (sym g.is i))

  pub lower_lift : (K : ℕ) (m : Monomial) → IsAffine n m → lower (lift K m) ≡ m
  lower_lift K m p =
      let f = flat_at n m six p in
      ap lower (ap (lift K) f.is ∙ lift-placed K f.six 0 f.as_many)
      ∙ with-placed f.six (K - total_degree f.six) 0 0 f.as_many
      ∙ sym f.is

  pub graded_lift : (K : ℕ) (m : Monomial) → IsAffine n m → IsGraded n (lift K m)
  graded_lift K m p =
      let f = flat_at n m six p in
      subst (IsGraded n) (sym (ap (lift K) f.is ∙ lift-placed K f.six 0 f.as_many)) (graded_of n f.six (K - total_degree f.six) f.as_many f.first)

  pub plain_lift : (K : ℕ) (m : Monomial) → IsAffine n m → IsPlain (lift K m)
  plain_lift K m p = p.plain

  pub degree_lift : (K : ℕ) (m : Monomial) → IsAffine n m → total_degree m.exponents ≤ K → total_degree (lift K m).exponents ≡ K
  degree_lift K m p h =
      let f = flat_at n m six p in
      let d : total_degree m.exponents ≡ total_degree f.six = ap (λ (m : Monomial). total_degree m.exponents) f.is ∙ degree_flat f.six in
      ap (λ (m : Monomial). total_degree m.exponents) (ap (lift K) f.is ∙ lift-placed K f.six 0 f.as_many)
      ∙ total_degree-push f.six (K - total_degree f.six)
      ∙ (omega arith)

  -- ---- of monomials with the homogenising variable

  pub affine_lower : (m : Monomial) → IsGraded n m → IsPlain m → IsAffine n (lower m)
  affine_lower m g p =
      let s = steep_at n m g p in
      subst (IsAffine n) (sym (ap lower s.is ∙ with-placed s.six s.last 0 0 s.as_many)) (affine_of n s.six six s.as_many s.first)

  lower_placed : (m : Monomial) (s : IsSteep n m) → lower m ≡ placed s.six 0 0
  lower_placed m s = ap lower s.is ∙ with-placed s.six s.last 0 0 s.as_many

  degree_steep : (m : Monomial) (s : IsSteep n m) → total_degree m.exponents ≡ total_degree s.six + s.last
  degree_steep m s = ap (λ (m : Monomial). total_degree m.exponents) s.is ∙ total_degree-push s.six s.last

  pub degree_lower : (m : Monomial) → IsGraded n m → IsPlain m → total_degree (lower m).exponents ≤ total_degree m.exponents
  degree_lower m g p =
      let s = steep_at n m g p in
      let d = degree_steep m s in
      let e : total_degree (lower m).exponents ≡ total_degree s.six = ap (λ (m : Monomial). total_degree m.exponents) (lower_placed m s) ∙ degree_flat s.six in
      omega arith

  pub lift_lower : (e : ℕ) (m : Monomial) → IsGraded n m → IsPlain m → total_degree m.exponents ≡ e → lift e (lower m) ≡ m
  lift_lower e m g p h =
      let s = steep_at n m g p in
      let d = degree_steep m s in
      let y : e - total_degree s.six ≡ s.last = omega arith in
      ap (lift e) (lower_placed m s) ∙ lift-placed e s.six 0 s.as_many ∙ (λ i. placed s.six (y i) 0) ∙ sym s.is

  -- in one degree the order stays
  pub lower_order : (e : ℕ) (a b : Monomial) → IsGraded n a → IsPlain a → total_degree a.exponents ≡ e → IsGraded n b → IsPlain b → total_degree b.exponents ≡ e
      → cmp_dp (lower a) (lower b) ≡ cmp_dp a b
  lower_order e a b g p h k q l =
      let x = degree_lower a g p in
      let y = degree_lower b k q in
      sym (lift_order e (lower a) (lower b) (affine_lower a g p) (omega arith) (affine_lower b k q) (omega arith))
      ∙ (λ i. cmp_dp (lift_lower e a g p h i) (lift_lower e b k q l i))

-- ---- of products

times_placed : (a b : List ℕ) (x y : ℕ) → length a ≡ 6 → length b ≡ 6 → times (placed a x 0) (placed b y 0) ≡ placed (plus a b) (x + y) 0
times_placed a b x y h k = λ i. record { exponents = plus_last a b x y (omega arith) i; component = 0 }

length-plus : (a b : List ℕ) (k : ℕ) → length a ≡ k → length b ≡ k → length (plus a b) ≡ k
length-plus [] b k h l = l
length-plus (x ∷ a) [] k h l = h
length-plus (x ∷ a) (y ∷ b) k h l = let r = length-plus a b (k - 1) (omega arith) (omega arith) in omega arith

pub lower_times : (a b : Monomial) → length a.exponents ≡ 7 → IsPlain a → length b.exponents ≡ 7 → IsPlain b → lower (times a b) ≡ times (lower a) (lower b)
lower_times a b g p h q =
    let s = placed_at a g p in
    let r = placed_at b h q in
    ap lower ((λ i. times (s.is i) (r.is i)) ∙ times_placed s.six r.six s.last r.last s.as_many r.as_many)
    ∙ with-placed (plus s.six r.six) (s.last + r.last) 0 0 (length-plus s.six r.six 6 s.as_many r.as_many)
    ∙ sym (times_placed s.six r.six 0 0 s.as_many r.as_many)
    ∙ (λ i. times (sym (lower_is a s) i) (sym (lower_is b r) i))
  where
    lower_is : (m : Monomial) (s : IsPlaced m) → lower m ≡ placed s.six 0 0
    lower_is m s = ap lower s.is ∙ with-placed s.six s.last 0 0 s.as_many

pub seven_lower : (m : Monomial) → length m.exponents ≡ 7 → IsPlain m → length (lower m).exponents ≡ 7
seven_lower m h p =
    let s = placed_at m h p in
    ap (λ (w : Monomial). length w.exponents) (ap lower s.is ∙ with-placed s.six s.last 0 0 s.as_many) ∙ seven_last s.six 0 s.as_many

-- a multiple stays a multiple
pub lower_divides : (a b : Monomial) → length a.exponents ≡ 7 → IsPlain a → length b.exponents ≡ 7 → Divides a b → Divides (lower a) (lower b)
lower_divides a b g p h d =
    let c = (divides_law a b (g ∙ sym h)).0 d in
    let l : length c.0.exponents ≡ 7 = sym c.1 ∙ g in
    (divides_law (lower a) (lower b) (seven_lower a g p ∙ sym (seven_lower b h (sym d.same ∙ p)))).1
    (lower c.0, seven_lower a g p ∙ sym (seven_lower c.0 l c.2), c.2, ap lower c.3 ∙ lower_times a c.0 g p l c.2)

module _ (n : ℕ) (six : n ≤ 6) where
  -- a product lifted to K, where its second factor is lifted to e
  pub lift_times : (K e : ℕ) (a b : Monomial) → IsAffine n a → IsAffine n b → total_degree a.exponents + e ≤ K → total_degree b.exponents ≤ e
      → lift K (times a b) ≡ times (lift (K - e) a) (lift e b)
  lift_times K e a b p q h k =
      let f = flat_at n a six p in
      let g = flat_at n b six q in
      let da : total_degree a.exponents ≡ total_degree f.six = ap (λ (m : Monomial). total_degree m.exponents) f.is ∙ degree_flat n six f.six in
      let db : total_degree b.exponents ≡ total_degree g.six = ap (λ (m : Monomial). total_degree m.exponents) g.is ∙ degree_flat n six g.six in
      let sum : total_degree (plus f.six g.six) ≡ total_degree f.six + total_degree g.six = total_degree-plus f.six g.six in
      let y : K - total_degree (plus f.six g.six) ≡ (K - e - total_degree f.six) + (e - total_degree g.six) = omega arith in
      ap (lift K) ((λ i. times (f.is i) (g.is i)) ∙ times_placed f.six g.six 0 0 f.as_many g.as_many)
      ∙ lift-placed K (plus f.six g.six) 0 (length-plus f.six g.six 6 f.as_many g.as_many)
      ∙ (λ i. placed (plus f.six g.six) (y i) 0)
      ∙ sym (times_placed f.six g.six (K - e - total_degree f.six) (e - total_degree g.six) f.as_many g.as_many)
      ∙ sym (λ i. times ((ap (lift (K - e)) f.is ∙ lift-placed (K - e) f.six 0 f.as_many) i) ((ap (lift e) g.is ∙ lift-placed e g.six 0 g.as_many) i))
