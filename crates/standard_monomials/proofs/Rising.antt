-- Rising lists of monomials, and what an insertion makes of them.
use Rattle.std.proofs.Common.{◌≡◌, ◌≢◌, ◌⊎◌, inl, inr, ℕ, ◌+◌, ◌-◌, ◌<◌, ◌≤◌, List, ◌∷◌, length, get_or, refl, sym, ap, ◌∙◌, subst, arith}
use Rattle.std.specs.declared.cmp.Ordering.{Ordering}
use Rattle.std.specs.declared.cmp.Ordering.TheVariants.{Less, Equal, Greater}
use Rattle.std.specs.Ordering.{nat_cmp, MatchOrdering, ordering_index, is_lt}
use Rattle.std.specs.Cmp.{ranks}
use Rattle.std.specs.List.{Contains, HoldsAt, insert}
use Rattle.std.specs.List.Sorted.{IsNonDecreasingBy, IsPartitionPoint}
use Rattle.std.proofs.lemmas.List.Sorted.{searchable_from_sorted, IsPermutation-insert, IsPermutation-sym, Contains-permutation}
use Rattle.std.proofs.lemmas.List.Edits.{length-insert, get_or-insert_below, get_or-insert_at, get_or-insert_above}
use Rattle.monomials.specs.Mono.{Monomial, cmp_dp}
use Rattle.monomials.proofs.Order.{dp_total, same_dp, self_dp, turn_up, turn_down}
use Rattle.ideal_laws.proofs.Unique.{contains_cases, contains_head, contains_tail}
use Rattle.standard_monomials.specs.Standard.{AreDistinct, IsRising}
use Rattle.standard_monomials.specs.Finding.{GainsMonomial}

-- what is no greater than m is less than what m is less than
pub under : (a m w : Monomial) → cmp_dp a m ≢ Greater → cmp_dp m w ≡ Less → cmp_dp a w ≡ Less
under a m w n e = go (cmp_dp a m) refl
  where
    go : (r : Ordering) → cmp_dp a m ≡ r → cmp_dp a w ≡ Less
    go Less h = dp_total.trans a m w h e
    go Equal h = subst (λ z. cmp_dp z w ≡ Less) (sym (same_dp a m h)) e
    go Greater h = absurd (n h)

pub differ : (m w : Monomial) → cmp_dp m w ≡ Less → m ≢ w
differ m w e q = let k : Less ≡ Equal = sym e ∙ ap (λ z. cmp_dp m z) (sym q) ∙ self_dp m in absurd (cc)

pub rising_distinct : (ms : List Monomial) → IsRising ms → AreDistinct ms
rising_distinct ms r i j d a b = differ (get_or ms i d) (get_or ms j d) (r i j d a b)

pub searchable : (ms : List Monomial) (m : Monomial) → IsRising ms → IsNonDecreasingBy (λ y. ordering_index (cmp_dp y m)) ms
searchable ms m r =
    searchable_from_sorted dp_total (λ x. x) ms m
    (λ k d low high. ap is_lt (turn_up (get_or ms k d) (get_or ms (k + 1) d) (r k (k + 1) d (omega arith) (omega arith))))

module _ (ms : List Monomial) (i : ℕ) (m : Monomial) (l : i ≤ length ms) (p : IsPartitionPoint (λ y. cmp_dp y m ≡ Less) (λ y. cmp_dp y m ≡ Greater) ms i) where
  -- what stands at k after the insertion
  Placed : ℕ → Monomial → Type 0
  Placed k d =
      ((k < i) × (get_or (insert ms i m) k d ≡ get_or ms k d))
      ⊎ (((k ≡ i) × (get_or (insert ms i m) k d ≡ m)) ⊎ ((i < k) × (get_or (insert ms i m) k d ≡ get_or ms (k - 1) d)))

  placed : (k : ℕ) (d : Monomial) → Placed k d
  unfolding Placed
  placed k d = go (nat_cmp k i) (ranks k i)
    where
      go : (r : Ordering) → MatchOrdering r (k < i) (k ≡ i) (i < k) → Placed k d
      go Less h = inl (h, get_or-insert_below ms i m d k h l)
      go Equal h = inr (inl (h, ap (λ j. get_or (insert ms i m) j d) h ∙ get_or-insert_at ms i m d l))
      go Greater h =
          let e : k ≡ (k - 1) + 1 = omega arith in
          inr (inr (h, ap (λ j. get_or (insert ms i m) j d) e ∙ get_or-insert_above ms i m d (k - 1) (omega arith) l))

  inserted : IsRising ms → IsRising (insert ms i m)
  unfolding Placed
  inserted r a b d lt within = go (placed a d) (placed b d)
    where
      last : b < length ms + 1
      last = let long = length-insert ms i m l in omega arith

      both : (x y u v : Monomial) → x ≡ u → y ≡ v → cmp_dp u v ≡ Less → cmp_dp x y ≡ Less
      both x y u v e f h = (λ j. cmp_dp (e j) (f j)) ∙ h

      go : Placed a d → Placed b d → cmp_dp (get_or (insert ms i m) a d) (get_or (insert ms i m) b d) ≡ Less
      go (inl x) (inl y) = both (get_or (insert ms i m) a d) (get_or (insert ms i m) b d) (get_or ms a d) (get_or ms b d) x.1 y.1 (r a b d lt (let q = y.0 in let z = last in omega arith))
      go (inl x) (inr (inl y)) = both (get_or (insert ms i m) a d) (get_or (insert ms i m) b d) (get_or ms a d) m x.1 y.1 (p.0 a d (omega arith) x.0)
      go (inl x) (inr (inr y)) =
          both (get_or (insert ms i m) a d) (get_or (insert ms i m) b d) (get_or ms a d) (get_or ms (b - 1) d) x.1 y.1
          (r a (b - 1) d (let q = y.0 in let s = x.0 in let z = last in omega arith) (let q = y.0 in let z = last in omega arith))
      go (inr (inl x)) (inl y) = absurd (let q = y.0 in let s = x.0 in omega arith)
      go (inr (inl x)) (inr (inl y)) = absurd (let q = y.0 in let s = x.0 in omega arith)
      go (inr (inl x)) (inr (inr y)) =
          both (get_or (insert ms i m) a d) (get_or (insert ms i m) b d) m (get_or ms (b - 1) d) x.1 y.1
          (turn_down (get_or ms (b - 1) d) m (p.1 (b - 1) d (let q = y.0 in let z = last in omega arith) (let q = y.0 in let z = last in omega arith)))
      go (inr (inr x)) (inl y) = absurd (let q = y.0 in let s = x.0 in omega arith)
      go (inr (inr x)) (inr (inl y)) = absurd (let q = y.0 in let s = x.0 in omega arith)
      go (inr (inr x)) (inr (inr y)) =
          both (get_or (insert ms i m) a d) (get_or (insert ms i m) b d) (get_or ms (a - 1) d) (get_or ms (b - 1) d) x.1 y.1
          (r (a - 1) (b - 1) d (let s = x.0 in omega arith) (let q = y.0 in let z = last in omega arith))

  from_front : (w : Monomial) → (m ≡ w) ⊎ Contains ms w → Contains ms w ⊎ (m ≡ w)
  from_front w (inl e) = inr e
  from_front w (inr c) = inl c

  to_front : (w : Monomial) → Contains ms w ⊎ (m ≡ w) → Contains (m ∷ ms) w
  to_front w (inl c) = contains_tail m w ms c
  to_front w (inr e) = subst (λ z. Contains (m ∷ ms) z) e (contains_head m ms)

  before : (k : ℕ) (d : Monomial) → k < length ms → cmp_dp (get_or ms k d) m ≡ Less → k < i
  before k d h e = go (nat_cmp k i) (ranks k i)
    where
      not_above : i ≤ k → ⊥
      not_above q = let g : Less ≡ Greater = sym e ∙ p.1 k d q h in absurd (cc)

      go : (r : Ordering) → MatchOrdering r (k < i) (k ≡ i) (i < k) → k < i
      go Less q = q
      go Equal q = absurd (not_above (omega arith))
      go Greater q = absurd (not_above (omega arith))

  pub gains_insert : IsRising ms → GainsMonomial m ms (insert ms i m)
  gains_insert r = record {
    rising = inserted r;
    longer = (let e = length-insert ms i m l in omega arith);
    members = λ w. (
      λ c. from_front w (contains_cases m w ms (Contains-permutation (insert ms i m) (m ∷ ms) w (IsPermutation-sym (m ∷ ms) (insert ms i m) (IsPermutation-insert ms i m)) c)),
      λ c. Contains-permutation (m ∷ ms) (insert ms i m) w (IsPermutation-insert ms i m) (to_front w c),
    );
    kept = λ k d h e. get_or-insert_below ms i m d k (before k d h e) l;
  }

-- a monomial that is there is no gain
pub gains_none : (ms : List Monomial) (i : ℕ) (m : Monomial) → i < length ms → HoldsAt (λ y. cmp_dp y m ≡ Equal) ms i → IsRising ms → GainsMonomial m ms ms
gains_none ms i m l h r = record {
  rising = r;
  longer = omega arith;
  members = λ w. (λ c. inl c, back w);
  kept = λ k d q e. refl;
}
  where
    there : Contains ms m
    there = (i, l, same_dp (get_or ms i m) m (h m))

    back : (w : Monomial) → Contains ms w ⊎ (m ≡ w) → Contains ms w
    back w (inl c) = c
    back w (inr e) = subst (Contains ms) e there
