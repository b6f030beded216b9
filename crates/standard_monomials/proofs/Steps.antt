-- The steps of the search for standard monomials: the invariants of its loops.
use Rattle.std.proofs.Common.{◌≡◌, ◌≢◌, ◌⊎◌, inl, inr, ℕ, ◌+◌, ◌<◌, ◌≤◌, List, [], ◌∷◌, length, set, get_or, replicate, refl, sym, ap, ◌∙◌, subst, arith}
use Rattle.std.specs.declared.cmp.Ordering.{Ordering}
use Rattle.std.specs.declared.cmp.Ordering.TheVariants.{Less, Equal, Greater}
use Rattle.std.specs.Ordering.{nat_cmp, MatchOrdering}
use Rattle.std.specs.Cmp.{ranks}
use Rattle.std.specs.List.{All, Contains}
use Rattle.std.proofs.lemmas.List.{get_or_default}
use Rattle.std.proofs.lemmas.List.Elements.{All-weaker, All-contains_itself}
use Rattle.monomials.specs.Mono.{Monomial, times, unit, variable, total_degree, cmp_dp}
use Rattle.monomials.proofs.Exponents.{total_degree-plus, total_degree-set, exponent_le}
use Rattle.monomials.proofs.Order.{same_dp, self_dp, multiple_not_less, turn_down}
use Rattle.polys.specs.declared.term.Term.{Term}
use Rattle.polys.specs.Terms.{IsAffine}
use Rattle.polys.proofs.Affine.{affine_times, only_zeros}
use Rattle.ideal_laws.proofs.Unique.{contains_cases, contains_none, contains_head}
use Rattle.graded_modules.specs.Module.{IsLeadMultiple}
use Rattle.standard_monomials.specs.Standard.{IsStandard, IsRising}
use Rattle.standard_monomials.specs.Finding.{GainsMonomial, IsNext, GainsMultiples}
use Rattle.standard_monomials.proofs.Powers.{length_power, affine_power}
use Rattle.standard_monomials.proofs.Rising.{under}
use Rattle.standard_monomials.proofs.Search.{found_law}

degree_variable : (v : ℕ) → v < 7 → total_degree (set (replicate 7 0) v 1) ≡ 1
degree_variable v h =
    let s = total_degree-set (replicate 7 0) v 1 h in
    let e = exponent_le (replicate 7 0) v in
    omega arith

pub degree_next : (m : Monomial) (v : ℕ) → v < 7 → total_degree (times m (variable v)).exponents ≡ total_degree m.exponents + 1
degree_next m v h =
    let s = total_degree-plus m.exponents (set (replicate 7 0) v 1) in
    let d = degree_variable v h in
    omega arith

-- a monomial is less than its multiple by a variable
pub less_next : (m : Monomial) (v : ℕ) → length m.exponents ≡ 7 → v < 7 → cmp_dp m (times m (variable v)) ≡ Less
less_next m v l h = go (cmp_dp m (times m (variable v))) refl
  where
    go : (r : Ordering) → cmp_dp m (times m (variable v)) ≡ r → cmp_dp m (times m (variable v)) ≡ Less
    go Less e = e
    go Equal e =
        let q : total_degree m.exponents ≡ total_degree (times m (variable v)).exponents = ap (λ w. total_degree w.exponents) (same_dp m (times m (variable v)) e) in
        let d = degree_next m v h in
        absurd (omega arith)
    go Greater e = absurd (multiple_not_less m (variable v) (l ∙ sym (length_power 7 v 1)) refl (turn_down m (times m (variable v)) e))

-- ---- the multiples of one monomial

module _ (ds : List (List Term)) (m : Monomial) where
  pub start : (ms : List Monomial) → IsRising ms → GainsMultiples ds 0 m ms ms
  start ms r = record { rising = r; longer = omega arith; members = λ w. (λ c. inl c, back w); kept = λ k d h e. refl }
    where
      back : (w : Monomial) → Contains ms w ⊎ IsNext ds 0 m w → Contains ms w
      back w (inl c) = c
      back w (inr n) = absurd (let a = n.among in omega arith)

  wider : (k : ℕ) (w : Monomial) → IsNext ds k m w → IsNext ds (k + 1) m w
  wider k w n = record { factor = n.factor; among = (let a = n.among in omega arith); multiple = n.multiple; outside = n.outside }

  -- the multiple by variable number k, or by one before
  last_or_before : (k : ℕ) (w : Monomial) → IsNext ds (k + 1) m w → ((times m (variable k) ≡ w) × (IsLeadMultiple ds w → ⊥)) ⊎ IsNext ds k m w
  last_or_before k w n = go (nat_cmp n.factor k) (ranks n.factor k)
    where
      go : (r : Ordering) → MatchOrdering r (n.factor < k) (n.factor ≡ k) (k < n.factor) → ((times m (variable k) ≡ w) × (IsLeadMultiple ds w → ⊥)) ⊎ IsNext ds k m w
      go Less a = inr (record { factor = n.factor; among = a; multiple = n.multiple; outside = n.outside })
      go Equal a = inl (ap (λ j. times m (variable j)) (sym a) ∙ n.multiple, n.outside)
      go Greater a = absurd (let b = n.among in omega arith)

  pub skip : (k : ℕ) (old new : List Monomial) → GainsMultiples ds k m old new → IsLeadMultiple ds (times m (variable k)) → GainsMultiples ds (k + 1) m old new
  skip k old new g h = record {
    rising = g.rising;
    longer = g.longer;
    members = λ w. (λ c. forth w ((g.members w).0 c), back w);
    kept = g.kept;
  }
    where
      forth : (w : Monomial) → Contains old w ⊎ IsNext ds k m w → Contains old w ⊎ IsNext ds (k + 1) m w
      forth w (inl c) = inl c
      forth w (inr n) = inr (wider k w n)

      next : (w : Monomial) → ((times m (variable k) ≡ w) × (IsLeadMultiple ds w → ⊥)) ⊎ IsNext ds k m w → Contains new w
      next w (inl a) = absurd (a.1 (subst (IsLeadMultiple ds) a.0 h))
      next w (inr n) = (g.members w).1 (inr n)

      back : (w : Monomial) → Contains old w ⊎ IsNext ds (k + 1) m w → Contains new w
      back w (inl c) = (g.members w).1 (inl c)
      back w (inr n) = next w (last_or_before k w n)

  pub more : (k : ℕ) (old mid new : List Monomial) → length m.exponents ≡ 7 → k < 7 → GainsMultiples ds k m old mid → (IsLeadMultiple ds (times m (variable k)) → ⊥)
      → GainsMonomial (times m (variable k)) mid new → GainsMultiples ds (k + 1) m old new
  more k old mid new seven l g outside h = record {
    rising = h.rising;
    longer = (let a = g.longer in let b = h.longer in omega arith);
    members = λ w. (λ c. forth w ((h.members w).0 c), back w);
    kept = λ i d q n. stays i d q n;
  }
    where
      known : (w : Monomial) → Contains old w ⊎ IsNext ds k m w → Contains old w ⊎ IsNext ds (k + 1) m w
      known w (inl c) = inl c
      known w (inr n) = inr (wider k w n)

      forth : (w : Monomial) → Contains mid w ⊎ (times m (variable k) ≡ w) → Contains old w ⊎ IsNext ds (k + 1) m w
      forth w (inl c) = known w ((g.members w).0 c)
      forth w (inr e) = inr (record { factor = k; among = omega arith; multiple = e; outside = λ x. outside (subst (IsLeadMultiple ds) (sym e) x) })

      next : (w : Monomial) → ((times m (variable k) ≡ w) × (IsLeadMultiple ds w → ⊥)) ⊎ IsNext ds k m w → Contains new w
      next w (inl a) = (h.members w).1 (inr a.0)
      next w (inr n) = (h.members w).1 (inl ((g.members w).1 (inr n)))

      back : (w : Monomial) → Contains old w ⊎ IsNext ds (k + 1) m w → Contains new w
      back w (inl c) = (h.members w).1 (inl ((g.members w).1 (inl c)))
      back w (inr n) = next w (last_or_before k w n)

      stays : (i : ℕ) (d : Monomial) → i < length old → cmp_dp (get_or old i d) m ≢ Greater → get_or new i d ≡ get_or old i d
      stays i d q n =
          let same = g.kept i d q n in
          let less : cmp_dp (get_or mid i d) (times m (variable k)) ≡ Less =
          ap (λ w. cmp_dp w (times m (variable k))) same ∙ under (get_or old i d) m (times m (variable k)) n (less_next m k seven l) in
          h.kept i d (let a = g.longer in omega arith) less ∙ same

-- ---- the search

-- the multiples of the first monomials are found, and no degree is above their number
pub record Searched (n : ℕ) (ds : List (List Term)) (next : ℕ) (ms : List Monomial) : Type 0 where
  pub rising : IsRising ms
  pub each : (w : Monomial) → Contains ms w → IsStandard n ds w
  pub first : IsStandard n ds unit → Contains ms unit
  pub closed : (j : ℕ) (d : Monomial) → j < next → j < length ms → (v : ℕ) → v < n → IsStandard n ds (times (get_or ms j d) (variable v)) → Contains ms (times (get_or ms j d) (variable v))
  pub low : (w : Monomial) → Contains ms w → total_degree w.exponents ≤ next

module _ (n : ℕ) (ds : List (List Term)) where
  pub searched_nothing : IsLeadMultiple ds unit → Searched n ds 0 []
  searched_nothing h = record {
    rising = λ i j d a b. absurd (omega arith);
    each = λ w c. absurd (contains_none w c);
    first = λ s. absurd (s.outside h);
    closed = λ j d a. absurd (omega arith);
    low = λ w c. absurd (contains_none w c);
  }

  pub searched_one : (IsLeadMultiple ds unit → ⊥) → Searched n ds 0 (unit ∷ [])
  searched_one h = record {
    rising = λ i j d a b. absurd (omega arith);
    each = λ w c. subst (IsStandard n ds) (only w (contains_cases unit w [] c)) standard;
    first = λ s. contains_head unit [];
    closed = λ j d a. absurd (omega arith);
    low = λ w c. subst (λ z. total_degree z.exponents ≤ 0) (only w (contains_cases unit w [] c)) (omega arith);
  }
    where
      standard : IsStandard n ds unit
      standard = record { affine = record { seven = refl; first = only_zeros n 7; plain = refl }; outside = h }

      only : (w : Monomial) → (unit ≡ w) ⊎ Contains [] w → unit ≡ w
      only w (inl e) = e
      only w (inr c) = absurd (contains_none w c)

  pub searched_more : n ≤ 6 → (i : ℕ) (m : Monomial) (old new : List Monomial) → Searched n ds i old → i < length old → m ≡ get_or old i m → GainsMultiples ds n m old new
      → Searched n ds (i + 1) new
  searched_more six i m old new s l e g = record {
    rising = g.rising;
    each = λ w c. standard w ((g.members w).0 c);
    first = λ x. (g.members unit).1 (inl (s.first x));
    closed = λ j d a b v q x. closed j d a v q x;
    low = λ w c. low w ((g.members w).0 c);
  }
    where
      there : Contains old m
      there = (i, l, sym e)

      standard : (w : Monomial) → Contains old w ⊎ IsNext ds n m w → IsStandard n ds w
      standard w (inl c) = s.each w c
      standard w (inr x) = record {
        affine = subst (IsAffine n) x.multiple (affine_times n m (variable x.factor) (s.each m there).affine (affine_power n x.factor 1 x.among));
        outside = x.outside;
      }

      low : (w : Monomial) → Contains old w ⊎ IsNext ds n m w → total_degree w.exponents ≤ i + 1
      low w (inl c) = let a = s.low w c in omega arith
      low w (inr x) =
          let a = s.low m there in
          let b = x.among in
          let d = degree_next m x.factor (omega arith) in
          subst (λ z. total_degree z.exponents ≤ i + 1) x.multiple (omega arith)

      at : (d : Monomial) → get_or old i d ≡ m
      at d = get_or_default old i d m l ∙ sym e

      no_greater : (j : ℕ) (d : Monomial) → j < i + 1 → cmp_dp (get_or old j d) m ≢ Greater
      no_greater j d a h = go (nat_cmp j i) (ranks j i)
        where
          go : (r : Ordering) → MatchOrdering r (j < i) (j ≡ i) (i < j) → ⊥
          go Less b =
              let k : Less ≡ Greater = sym (s.rising j i d b l) ∙ ap (λ w. cmp_dp (get_or old j d) w) (at d) ∙ h in
              absurd (cc)
          go Equal b =
              let k : Equal ≡ Greater = sym (self_dp m) ∙ ap (λ w. cmp_dp w m) (sym (ap (λ q. get_or old q d) b ∙ at d)) ∙ h in
              absurd (cc)
          go Greater b = absurd (omega arith)

      found : (j : ℕ) (d : Monomial) → j < i + 1 → (v : ℕ) → v < n → IsStandard n ds (times (get_or old j d) (variable v)) → Contains new (times (get_or old j d) (variable v))
      found j d a v q x = go (nat_cmp j i) (ranks j i)
        where
          go : (r : Ordering) → MatchOrdering r (j < i) (j ≡ i) (i < j) → Contains new (times (get_or old j d) (variable v))
          go Less b = (g.members (times (get_or old j d) (variable v))).1 (inl (s.closed j d b (omega arith) v q x))
          go Equal b =
              let same : get_or old j d ≡ m = ap (λ q. get_or old q d) b ∙ at d in
              (g.members (times (get_or old j d) (variable v))).1
              (inr (record { factor = v; among = q; multiple = ap (λ w. times w (variable v)) (sym same); outside = x.outside }))
          go Greater b = absurd (omega arith)

      closed : (j : ℕ) (d : Monomial) → j < i + 1 → (v : ℕ) → v < n → IsStandard n ds (times (get_or new j d) (variable v)) → Contains new (times (get_or new j d) (variable v))
      closed j d a v q x =
          let same = g.kept j d (omega arith) (no_greater j d a) in
          subst (λ w. Contains new (times w (variable v))) (sym same) (found j d a v q (subst (λ w. IsStandard n ds (times w (variable v))) same x))

  pub searched_all : (i : ℕ) (ms : List Monomial) → Searched n ds i ms → length ms ≤ i → (m : Monomial) → IsStandard n ds m → Contains ms m
  searched_all i ms s l = found_law.search n ds ms s.first next
    where
      next : (m : Monomial) (v : ℕ) → Contains ms m → v < n → IsStandard n ds (times m (variable v)) → Contains ms (times m (variable v))
      next m v c h x =
          subst (λ w. IsStandard n ds (times w (variable v)) → Contains ms (times w (variable v))) c.2
          (s.closed c.0 m (let q = c.1 in omega arith) c.1 v h) x

  pub searched_each : (i : ℕ) (ms : List Monomial) → Searched n ds i ms → All (IsStandard n ds) ms
  searched_each i ms s = All-weaker (Contains ms) (IsStandard n ds) s.each ms (All-contains_itself ms)
