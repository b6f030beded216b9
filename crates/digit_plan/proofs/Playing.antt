-- Rising lists of monomials: corners, their border, and what is further outside.
use Rattle.std.proofs.Common.{◌≡◌, ◌⊎◌, inl, inr, ℕ, zero, suc, ◌+◌, ◌<◌, ◌≤◌, List, [], ◌∷◌, length, get_or, refl, sym, ap, ◌∙◌, subst, arith}
use Rattle.std.specs.declared.cmp.Ordering.{Ordering}
use Rattle.std.specs.declared.cmp.Ordering.TheVariants.{Less, Equal, Greater}
use Rattle.std.specs.Ordering.{nat_cmp, MatchOrdering}
use Rattle.std.specs.Cmp.{ranks}
use Rattle.std.specs.List.{All, Contains, insert}
use Rattle.std.specs.List.Sorted.{IsPartitionPoint}
use Rattle.std.proofs.lemmas.List.{get_or_default}
use Rattle.std.proofs.lemmas.List.Edits.{length-insert}
use Rattle.std.proofs.lemmas.List.Elements.{All-get_or, All-weaker, All-contains, All-contains_itself}
use Rattle.std.proofs.lemmas.List.Sorted.{IsPermutation-insert, IsPermutation-sym, Contains-permutation}
use Rattle.monomials.specs.Mono.{Monomial, times, total_degree, unit, variable, cmp_dp}
use Rattle.monomials.proofs.Exponents.{get_or-pointwise, plus}
use Rattle.monomials.proofs.Order.{self_dp}
use Rattle.polys.specs.declared.term.Term.{Term}
use Rattle.polys.specs.Poly.{Polynomial}
use Rattle.polys.specs.Terms.{EachMono, IsAffine, OnlyFirst}
use Rattle.polys.proofs.Affine.{affine_times}
use Rattle.polys.proofs.Each.{every_more}
use Rattle.ideal_laws.proofs.Unique.{contains_cases, contains_head, contains_none, contains_tail}
use Rattle.standard_monomials.specs.Finding.{GainsMonomial}
use Rattle.standard_monomials.specs.Standard.{IsRising}
use Rattle.standard_monomials.proofs.Powers.{affine_power, at_place, length_power}
use Rattle.standard_monomials.proofs.Search.{Lowered, lowered, degree_zero}
use Rattle.standard_monomials.proofs.Steps.{degree_next, less_next}
use Rattle.digit_plan.specs.Playing.{AreClosed, AreLow, AreVariables, GainsOutside, GainsProducts, HasParent, IsBorder, IsCovered, IsInPlay, IsOuter, IsOutsideProduct, IsQuotient}
use Rattle.digit_plan.proofs.Found.{earlier}

-- a search that fails finds no place
pub not_there : (ms : List Monomial) (m : Monomial) (i : ℕ) → IsPartitionPoint (λ y. cmp_dp y m ≡ Less) (λ y. cmp_dp y m ≡ Greater) ms i → Contains ms m → ⊥
not_there ms m i p (k, l, e) = go (nat_cmp k i) (ranks k i)
  where
    same : cmp_dp (get_or ms k m) m ≡ Equal
    same = subst (λ z. cmp_dp z m ≡ Equal) (sym e) (self_dp m)

    go : (r : Ordering) → MatchOrdering r (k < i) (k ≡ i) (i < k) → ⊥
    go Less q = let d = p.0 k m (omega arith) q in absurd (cc (same, d))
    go Equal q = let d = p.1 k m (omega arith) l in absurd (cc (same, d))
    go Greater q = let d = p.1 k m (omega arith) l in absurd (cc (same, d))

-- a member as it is read
pub placed_at : (ms : List Monomial) (m : Monomial) → Contains ms m → (i : ℕ) × (i < length ms) × (get_or ms i unit ≡ m)
placed_at ms m (i, l, e) = (i, l, get_or_default ms i unit m l ∙ e)

pub place_in : (ms : List Monomial) (i : ℕ) (m : Monomial) → i < length ms → get_or ms i unit ≡ m → Contains ms m
place_in ms i m l e = (i, l, get_or_default ms i m unit l ∙ e)

-- a monomial of positive degree is a multiple of one by a variable
pub quotient_of : (n : ℕ) (m : Monomial) → IsAffine n m → 0 < total_degree m.exponents → (w : Monomial) × IsQuotient n m w
quotient_of n m a h = (
  w,
  record {
    factor = r.place;
    among = r.among;
    product = λ i. record { exponents = r.whole i; component = sym a.plain i };
    affine = record { seven = r.as_many; first = r.first; plain = refl };
    lower = r.lower;
  },
)
  where
    r : Lowered 7 n m.exponents
    r = lowered 7 n m.exponents a.seven a.first h

    w : Monomial
    w = record { exponents = r.rest; component = 0 }

module _ (n : ℕ) (ms : List Monomial) (six : n ≤ 6) (h : AreClosed n ms) where
  affine_at : (i : ℕ) → i < length ms → IsAffine n (get_or ms i unit)
  affine_at i l = All-get_or (IsAffine n) ms i unit l h.affine

  -- no corner has a degree above its number
  abbrev LowAt : ℕ → Type 0
  LowAt D = (i : ℕ) → total_degree (get_or ms i unit).exponents ≡ D → i < length ms → D ≤ i

  low_next : (D : ℕ) → LowAt D → LowAt (suc D)
  low_next D ih i e l = below (placed_at ms q.0 (h.closed q.0 q.1.factor q.1.affine q.1.among (subst (Contains ms) (sym q.1.product) (place_in ms i (get_or ms i unit) l refl))))
    where
      q : (w : Monomial) × IsQuotient n (get_or ms i unit) w
      q = quotient_of n (get_or ms i unit) (affine_at i l) (omega arith)

      below : (j : ℕ) × (j < length ms) × (get_or ms j unit ≡ q.0) → suc D ≤ i
      below (j, k, f) =
          let less : cmp_dp q.0 (get_or ms i unit) ≡ Less = subst (λ z. cmp_dp q.0 z ≡ Less) q.1.product (less_next q.0 q.1.factor q.1.affine.seven (let x = q.1.among in omega arith)) in
          let before : j < i = earlier ms j i h.rising k l (subst (λ z. cmp_dp z (get_or ms i unit) ≡ Less) (sym f) less) in
          let degree : total_degree (get_or ms j unit).exponents ≡ D = ap (λ (z : Monomial). total_degree z.exponents) f ∙ (let x = q.1.lower in omega arith) in
          let low : D ≤ j = ih j degree k in
          omega arith

  low_at : (D : ℕ) → LowAt D
  low_at zero i e l = omega arith
  low_at (suc D) i e l = low_next D (low_at D) i e l

  pub low : AreLow ms
  low = All-weaker (Contains ms) (λ m. total_degree m.exponents < 60000) each ms (All-contains_itself ms)
    where
      each : (m : Monomial) → Contains ms m → total_degree m.exponents < 60000
      each m c = go (placed_at ms m c)
        where
          go : (i : ℕ) × (i < length ms) × (get_or ms i unit ≡ m) → total_degree m.exponents < 60000
          go (i, l, e) =
              let d = low_at (total_degree (get_or ms i unit).exponents) i refl l in
              let f = h.few in
              subst (λ (z : Monomial). total_degree z.exponents < 60000) e (let g : total_degree (get_or ms i unit).exponents < 60000 = omega arith in g)

  -- 1 is a corner, if there is one
  pub unit_in : 0 < length ms → Contains ms unit
  unit_in l = place_in ms 0 unit l one
    where
      a : IsAffine n (get_or ms 0 unit)
      a = affine_at 0 l

      zero_degree : total_degree (get_or ms 0 unit).exponents ≡ 0
      zero_degree = let d = low_at (total_degree (get_or ms 0 unit).exponents) 0 refl l in omega arith

      one : get_or ms 0 unit ≡ unit
      one = let z = degree_zero 7 (get_or ms 0 unit).exponents a.seven zero_degree in λ i. record { exponents = z i; component = a.plain i }

pub low_read : (n : ℕ) (ms : List Monomial) (i : ℕ) (m : Monomial) → n ≤ 6 → AreClosed n ms → i < length ms → m ≡ get_or ms i m → total_degree m.exponents < 60000
low_read n ms i m six h l e = subst (λ (z : Monomial). total_degree z.exponents < 60000) (sym e) (low n ms six h i m l)

-- ---- the border

-- the list gains what an insertion gains, if the monomial is no corner
pub outside_new : (corners old new : List Monomial) (m : Monomial) → (Contains corners m → ⊥) → GainsMonomial m old new → length new ≤ length old + 1 → GainsOutside corners m old new
outside_new corners old new m o g few = record {
  rising = g.rising;
  few = few;
  members = λ w. (λ c. forth w ((g.members w).0 c), λ c. (g.members w).1 (back w c));
}
  where
    forth : (w : Monomial) → Contains old w ⊎ (m ≡ w) → Contains old w ⊎ ((m ≡ w) × (Contains corners w → ⊥))
    forth w (inl c) = inl c
    forth w (inr e) = inr (e, subst (λ z. Contains corners z → ⊥) e o)

    back : (w : Monomial) → Contains old w ⊎ ((m ≡ w) × (Contains corners w → ⊥)) → Contains old w ⊎ (m ≡ w)
    back w (inl c) = inl c
    back w (inr e) = inr e.0

pub outside_none : (corners old : List Monomial) (m : Monomial) → Contains corners m → IsRising old → GainsOutside corners m old old
outside_none corners old m c r = record { rising = r; few = omega arith; members = λ w. (λ d. inl d, back w) }
  where
    back : (w : Monomial) → Contains old w ⊎ ((m ≡ w) × (Contains corners w → ⊥)) → Contains old w
    back w (inl d) = d
    back w (inr e) = absurd (e.1 (subst (Contains corners) e.0 c))

pub products_none : (v : ℕ) (corners old : List Monomial) → IsRising old → GainsProducts v 0 corners old old
products_none v corners old r = record { rising = r; few = omega arith; members = λ w. (λ d. inl d, back w) }
  where
    back : (w : Monomial) → Contains old w ⊎ IsOutsideProduct v 0 corners w → Contains old w
    back w (inl d) = d
    back w (inr e) = absurd (let a = e.among in omega arith)

pub products_more : (v k : ℕ) (corners old mid new : List Monomial) (m : Monomial) → GainsProducts v k corners old mid → m ≡ times (get_or corners k unit) (variable v) → GainsOutside corners m mid new
    → GainsProducts v (k + 1) corners old new
products_more v k corners old mid new m g e o = record {
  rising = o.rising;
  few = (let a = g.few in let b = o.few in omega arith);
  members = λ w. (λ c. forth w ((o.members w).0 c), λ c. (o.members w).1 (back w c));
}
  where
    P : ℕ → Monomial → Type 0
    P j w = IsOutsideProduct v j corners w

    wider : (w : Monomial) → IsOutsideProduct v k corners w → IsOutsideProduct v (k + 1) corners w
    wider w p = record { place = p.place; among = (let a = p.among in omega arith); product = p.product; outside = p.outside }

    first : (w : Monomial) → Contains old w ⊎ IsOutsideProduct v k corners w → Contains old w ⊎ IsOutsideProduct v (k + 1) corners w
    first w (inl c) = inl c
    first w (inr p) = inr (wider w p)

    forth : (w : Monomial) → Contains mid w ⊎ ((m ≡ w) × (Contains corners w → ⊥)) → Contains old w ⊎ IsOutsideProduct v (k + 1) corners w
    forth w (inl c) = first w ((g.members w).0 c)
    forth w (inr q) = inr (record { place = k; among = omega arith; product = sym e ∙ q.0; outside = q.1 })

    last : (w : Monomial) (p : IsOutsideProduct v (k + 1) corners w) (r : Ordering) → MatchOrdering r (p.place < k) (p.place ≡ k) (k < p.place) → Contains mid w ⊎ ((m ≡ w) × (Contains corners w → ⊥))
    last w p Less q = inl ((g.members w).1 (inr (record { place = p.place; among = q; product = p.product; outside = p.outside })))
    last w p Equal q = inr (e ∙ ap (λ j. times (get_or corners j unit) (variable v)) (sym q) ∙ p.product, p.outside)
    last w p Greater q = absurd (let a = p.among in omega arith)

    back : (w : Monomial) → Contains old w ⊎ IsOutsideProduct v (k + 1) corners w → Contains mid w ⊎ ((m ≡ w) × (Contains corners w → ⊥))
    back w (inl c) = inl ((g.members w).1 (inl c))
    back w (inr p) = last w p (nat_cmp p.place k) (ranks p.place k)

-- a product is a corner or in the border
pub product_inside : (n v i : ℕ) (corners border : List Monomial) (m w : Monomial) → IsBorder n corners border → v < n → i < length corners → m ≡ times w (variable v) → w ≡ get_or corners i w
    → (Contains corners m → ⊥) → Contains border m
product_inside n v i corners border m w b l k e f o =
    (b.members m).1 (v, l, record { place = i; among = k; product = ap (λ z. times z (variable v)) (get_or_default corners i unit w k ∙ sym f) ∙ sym e; outside = o })

rising_none : IsRising []
rising_none i j d a b = absurd (omega arith)

pub border_none : (corners : List Monomial) → IsBorder 0 corners []
border_none corners = record {
  rising = rising_none;
  few = omega arith;
  members = λ w. (λ c. absurd (contains_none w c), λ p. absurd (let a = p.1 in omega arith));
}

pub border_more : (v : ℕ) (corners mid new : List Monomial) → IsBorder v corners mid → GainsProducts v (length corners) corners mid new → IsBorder (v + 1) corners new
border_more v corners mid new b g = record {
  rising = g.rising;
  few = (let a = b.few in let c = g.few in omega arith);
  members = λ w. (λ c. forth w ((g.members w).0 c), λ p. (g.members w).1 (back w p (nat_cmp p.0 v) (ranks p.0 v)));
}
  where
    Product : ℕ → Monomial → Type 0
    Product u w = IsOutsideProduct u (length corners) corners w

    forth : (w : Monomial) → Contains mid w ⊎ IsOutsideProduct v (length corners) corners w → (u : ℕ) × (u < v + 1) × IsOutsideProduct u (length corners) corners w
    forth w (inl c) = let p = (b.members w).0 c in (p.0, (let a = p.1 in omega arith), p.2)
    forth w (inr p) = (v, omega arith, p)

    back : (w : Monomial) (p : (u : ℕ) × (u < v + 1) × IsOutsideProduct u (length corners) corners w) (r : Ordering) → MatchOrdering r (p.0 < v) (p.0 ≡ v) (v < p.0)
        → Contains mid w ⊎ IsOutsideProduct v (length corners) corners w
    back w p Less q = inl ((b.members w).1 (p.0, q, p.2))
    back w p Equal q = inr (subst (λ u. IsOutsideProduct u (length corners) corners w) q p.2)
    back w p Greater q = absurd (let a = p.1 in omega arith)

pub border_affine : (n : ℕ) (corners border : List Monomial) → n ≤ 6 → AreClosed n corners → IsBorder n corners border → All (IsAffine n) border
border_affine n corners border six h b = All-weaker (Contains border) (IsAffine n) each border (All-contains_itself border)
  where
    each : (m : Monomial) → Contains border m → IsAffine n m
    each m c =
        let p = (b.members m).0 c in
        subst (IsAffine n) p.2.product (affine_times n (get_or corners p.2.place unit) (variable p.0) (All-get_or (IsAffine n) corners p.2.place unit p.2.among h.affine) (affine_power n p.0 1 p.1))

-- ---- the order of the variables

pub variable_at : (n k : ℕ) (order : List ℕ) → AreVariables n order → k < length order → get_or order k 0 < n
variable_at n k order a l = (a.exact (get_or order k 0)).0 (k, l, get_or_default order k (get_or order k 0) 0 l)

pub variables_none : AreVariables 0 []
variables_none = record { count = refl; exact = λ v. (λ c. absurd (contains_none v c), λ l. absurd (omega arith)) }

pub variables_more : (v i : ℕ) (order : List ℕ) → AreVariables v order → i ≤ length order → AreVariables (v + 1) (insert order i v)
variables_more v i order a l = record {
  count = length-insert order i v l ∙ (let c = a.count in omega arith);
  exact = λ u. (
    λ c. forth u (contains_cases v u order (Contains-permutation (insert order i v) (v ∷ order) u (IsPermutation-sym (v ∷ order) (insert order i v) (IsPermutation-insert order i v)) c)),
    λ q. Contains-permutation (v ∷ order) (insert order i v) u (IsPermutation-insert order i v) (back u q (nat_cmp u v) (ranks u v)),
  );
}
  where
    forth : (u : ℕ) → (v ≡ u) ⊎ Contains order u → u < v + 1
    forth u (inl e) = omega arith
    forth u (inr c) = let d = (a.exact u).0 c in omega arith

    back : (u : ℕ) → u < v + 1 → (r : Ordering) → MatchOrdering r (u < v) (u ≡ v) (v < u) → Contains (v ∷ order) u
    back u q Less e = contains_tail v u order ((a.exact u).1 e)
    back u q Equal e = subst (λ z. Contains (z ∷ order) u) e (contains_head u order)
    back u q Greater e = absurd (omega arith)

-- ---- quotients by variables

pub only_left : (n : ℕ) (a b : List ℕ) → OnlyFirst n (plus a b) → length a ≡ length b → OnlyFirst n a
only_left zero [] b h l = tt
only_left (suc n) [] b h l = tt
only_left n (x ∷ a) [] h l = absurd (omega arith)
only_left zero (x ∷ a) (y ∷ b) h l = ((let z = h.0 in omega arith), only_left zero a b h.1 (omega arith))
only_left (suc n) (x ∷ a) (y ∷ b) h l = only_left n a b h (omega arith)

pub quotient_by : (n v : ℕ) (m w : Monomial) → n ≤ 6 → v < n → IsAffine n m → times w (variable v) ≡ m → length w.exponents ≡ 7 → IsQuotient n m w
quotient_by n v m w six l a e seven = record {
  factor = v;
  among = l;
  product = e;
  affine = record {
    seven = seven;
    first = only_left n w.exponents (variable v).exponents (subst (λ (z : Monomial). OnlyFirst n z.exponents) (sym e) a.first) (seven ∙ sym (length_power 7 v 1));
    plain = (let p : w.component + 0 ≡ 0 = ap (λ (z : Monomial). z.component) e ∙ a.plain in omega arith);
  };
  lower = sym (degree_next w v (omega arith)) ∙ ap (λ (z : Monomial). total_degree z.exponents) e;
}

-- what no variable divides is 1
pub no_degree : (n : ℕ) (m : Monomial) (order : List ℕ) → n ≤ 6 → IsAffine n m → AreVariables n order → ((j : ℕ) → j < length order → get_or m.exponents (get_or order j 0) 0 ≡ 0) → total_degree m.exponents ≡ 0
no_degree n m order six a vars h = go (nat_cmp 0 (total_degree m.exponents)) (ranks 0 (total_degree m.exponents))
  where
    positive : 0 < total_degree m.exponents → ⊥
    positive l = absurd (let z = h c.0 c.1 in let y = here in omega arith)
      where
        q : (w : Monomial) × IsQuotient n m w
        q = quotient_of n m a l

        c : Contains order q.1.factor
        c = (vars.exact q.1.factor).1 q.1.among

        small : q.1.factor < 7
        small = let x = q.1.among in omega arith

        here : 0 < get_or m.exponents (get_or order c.0 0) 0
        here =
            subst (λ k. 0 < get_or m.exponents k 0) (sym (get_or_default order c.0 0 q.1.factor c.1 ∙ c.2))
            (subst (λ (z : Monomial). 0 < get_or z.exponents q.1.factor 0) q.1.product
            (let e = get_or-pointwise (λ x y. x + y) q.0.exponents (variable q.1.factor).exponents q.1.factor (q.1.affine.seven ∙ sym (length_power 7 q.1.factor 1)) (let s = q.1.affine.seven in let t = small in omega arith) in
            let f = at_place 7 q.1.factor 1 small in
            omega arith))

    go : (r : Ordering) → MatchOrdering r (0 < total_degree m.exponents) (0 ≡ total_degree m.exponents) (total_degree m.exponents < 0) → total_degree m.exponents ≡ 0
    go Less l = absurd (positive l)
    go Equal e = sym e
    go Greater l = absurd (omega arith)

pub one_by : (n : ℕ) (m : Monomial) → IsAffine n m → total_degree m.exponents ≡ 0 → m ≡ unit
one_by n m a e = let z = degree_zero 7 m.exponents a.seven e in λ i. record { exponents = z i; component = a.plain i }

-- ---- further outside

pub outer_none : (n : ℕ) (border : List Monomial) → IsOuter n border []
outer_none n border = record { rising = rising_none; affine = λ k d l. absurd (omega arith); parents = λ w c. absurd (contains_none w c) }

parent_kept : (n : ℕ) (border mid new : List Monomial) (w : Monomial) → ((u : Monomial) → Contains mid u → Contains new u) → HasParent n border mid w → HasParent n border new w
parent_kept n border mid new w k p = record { rest = p.rest; factor = p.factor; among = p.among; product = p.product; seven = p.seven; outside = go p.outside }
  where
    go : Contains border p.rest ⊎ Contains mid p.rest → Contains border p.rest ⊎ Contains new p.rest
    go (inl c) = inl c
    go (inr c) = inr (k p.rest c)

-- a monomial that is in no list joins those outside behind its quotient
pub outer_more : (n : ℕ) (corners border mid new : List Monomial) (m w : Monomial) → IsBorder n corners border → IsAffine n m → IsOuter n border mid → IsQuotient n m w → IsInPlay corners border mid w
    → (Contains corners m → ⊥) → (Contains border m → ⊥) → GainsMonomial m mid new → IsOuter n border new
outer_more n corners border mid new m w b a o q p none nor g = record {
  rising = g.rising;
  affine = All-weaker (Contains new) (IsAffine n) (λ u c. affine u ((g.members u).0 c)) new (All-contains_itself new);
  parents = λ u c. parent u ((g.members u).0 c);
}
  where
    keep : (u : Monomial) → Contains mid u → Contains new u
    keep u c = (g.members u).1 (inl c)

    affine : (u : Monomial) → Contains mid u ⊎ (m ≡ u) → IsAffine n u
    affine u (inl c) = All-contains (IsAffine n) mid u o.affine c
    affine u (inr e) = subst (IsAffine n) e a

    outside : IsInPlay corners border mid w → Contains border w ⊎ Contains new w
    outside (inl c) =
        let r = placed_at corners w c in
        absurd (nor ((b.members m).1 (q.factor, q.among, record { place = r.0; among = r.1; product = ap (λ z. times z (variable q.factor)) r.2 ∙ q.product; outside = none })))
    outside (inr (inl c)) = inl c
    outside (inr (inr c)) = inr (keep w c)

    parent : (u : Monomial) → Contains mid u ⊎ (m ≡ u) → HasParent n border new u
    parent u (inl c) = parent_kept n border mid new u keep (o.parents u c)
    parent u (inr e) = record { rest = w; factor = q.factor; among = q.among; product = q.product ∙ e; seven = q.affine.seven; outside = outside p }

pub each_mono_at : (P : Monomial → Type 0) (f : List Term) (i : ℕ) (t : Term) → i < length f → t ≡ get_or f i t → EachMono P f → P t.mono
each_mono_at P [] i t l e h = absurd (omega arith)
each_mono_at P (u ∷ f) zero t l e h = subst (λ (z : Term). P z.mono) (sym e) h.0
each_mono_at P (u ∷ f) (suc i) t l e h = each_mono_at P f i t (omega arith) e h.1

pub covered_kept : (corners border mid new : List Monomial) (f : List Term) → ((u : Monomial) → Contains mid u → Contains new u) → IsCovered corners border mid f → IsCovered corners border new f
covered_kept corners border mid new f k c = every_more (IsInPlay corners border mid) (IsInPlay corners border new) f go c
  where
    go : (m : Monomial) → IsInPlay corners border mid m → IsInPlay corners border new m
    go m (inl c) = inl c
    go m (inr (inl c)) = inr (inl c)
    go m (inr (inr c)) = inr (inr (k m c))

-- one polynomial more is covered
pub covered_more : (corners border mid new : List Monomial) (lifts : List Polynomial) (i : ℕ) (f : Polynomial) → ((u : Monomial) → Contains mid u → Contains new u) → i < length lifts → f ≡ get_or lifts i f
    → ((j : ℕ) (d : Polynomial) → j < i → IsCovered corners border mid (get_or lifts j d).terms) → IsCovered corners border new f.terms
    → (j : ℕ) (d : Polynomial) → j < i + 1 → IsCovered corners border new (get_or lifts j d).terms
covered_more corners border mid new lifts i f k l e h c j d a = go (nat_cmp j i) (ranks j i)
  where
    go : (r : Ordering) → MatchOrdering r (j < i) (j ≡ i) (i < j) → IsCovered corners border new (get_or lifts j d).terms
    go Less q = covered_kept corners border mid new (get_or lifts j d).terms k (h j d q)
    go Equal q = subst (λ z. IsCovered corners border new (get_or lifts z d).terms) (sym q) (subst (λ (z : Polynomial). IsCovered corners border new z.terms) (e ∙ get_or_default lifts i f d l) c)
    go Greater q = absurd (omega arith)
