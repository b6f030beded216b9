-- The lead of each member of an ideal is a multiple of a lead of its reduced basis: where none divides it, no minimal lead
-- does, and a search down the degrees finds one.
use Rattle.std.proofs.Common.{◌≡◌, ◌⊎◌, inl, inr, ℕ, ◌+◌, ◌≤◌, ◌<◌, zero, suc, List, [], ◌∷◌, length, get_or, refl, sym, ap, ◌∙◌, subst, arith}
use Rattle.std.specs.declared.cmp.Ordering.{Ordering}
use Rattle.std.specs.declared.cmp.Ordering.TheVariants.{Less, Equal, Greater}
use Rattle.std.specs.Ordering.{nat_cmp, MatchOrdering}
use Rattle.std.specs.Cmp.{ranks}
use Rattle.std.specs.List.{Contains}
use Rattle.std.proofs.lemmas.List.Elements.{All-contains}
use Rattle.monomials.specs.Mono.{Monomial, total_degree, times, Divides}
use Rattle.monomials.proofs.Exponents.{total_degree-plus}
use Rattle.monomials.proofs.Factors.{divides_law, divides_trans}
use Rattle.prime_field.specs.Primes.{IsPrime}
use Rattle.prime_field.proofs.Table.{positive_of_prime}
use Rattle.polys.specs.declared.term.Term.{Term}
use Rattle.polys.specs.Terms.{IsPoly}
use Rattle.polys.specs.Ideal.{InIdeal}
use Rattle.polys.specs.Reduced.{IsLead, IsMinimalLead, Reduced}
use Rattle.ideal_laws.proofs.Ideals.{in_poly}
use Rattle.ideal_laws.proofs.Unique.{contains_head, contains_tail, contains_cases, contains_none}
use Rattle.graded_modules.specs.Vector.{lead_mono}
use Rattle.graded_modules.specs.Module.{IsLeadMultiple}
use Rattle.homogenising.specs.Laws.{ReducedHasLeads}
use Rattle.homogenising.proofs.Apart.{contained_lead}
use Rattle.homogenising.proofs.Places.{plus}

-- ---- deciding divisibility

abbrev Under : List ℕ → List ℕ → Type 0
Under a b = (i : ℕ) → get_or a i 0 ≤ get_or b i 0

under_cons : (x y : ℕ) (a b : List ℕ) → x ≤ y → Under a b → Under (x ∷ a) (y ∷ b)
under_cons x y a b h u zero = h
under_cons x y a b h u (suc i) = u i

at_most : (x y : ℕ) → (x ≤ y) ⊎ (x ≤ y → ⊥)
at_most x y = go (nat_cmp x y) (ranks x y)
  where
    go : (r : Ordering) → MatchOrdering r (x < y) (x ≡ y) (y < x) → (x ≤ y) ⊎ (x ≤ y → ⊥)
    go Less h = inl (omega arith)
    go Equal h = inl (omega arith)
    go Greater h = inr (λ k. absurd (omega arith))

under_or_not : (a b : List ℕ) → Under a b ⊎ (Under a b → ⊥)
under_or_not [] b = inl (λ i. omega arith)
under_or_not (x ∷ a) [] = go (at_most x 0) (under_or_not a [])
  where
    go : (x ≤ 0) ⊎ (x ≤ 0 → ⊥) → Under a [] ⊎ (Under a [] → ⊥) → Under (x ∷ a) [] ⊎ (Under (x ∷ a) [] → ⊥)
    go (inl h) (inl u) = inl (none h u)
      where
        none : x ≤ 0 → Under a [] → Under (x ∷ a) []
        none h u zero = h
        none h u (suc i) = u i
    go (inl h) (inr n) = inr (λ u. n (λ i. u (suc i)))
    go (inr n) q = inr (λ u. n (u 0))
under_or_not (x ∷ a) (y ∷ b) = go (at_most x y) (under_or_not a b)
  where
    go : (x ≤ y) ⊎ (x ≤ y → ⊥) → Under a b ⊎ (Under a b → ⊥) → Under (x ∷ a) (y ∷ b) ⊎ (Under (x ∷ a) (y ∷ b) → ⊥)
    go (inl h) (inl u) = inl (under_cons x y a b h u)
    go (inl h) (inr n) = inr (λ u. n (λ i. u (suc i)))
    go (inr n) q = inr (λ u. n (u 0))

divides_or_not : (a b : Monomial) → a.component ≡ b.component → Divides a b ⊎ (Divides a b → ⊥)
divides_or_not a b e = go (under_or_not a.exponents b.exponents)
  where
    go : Under a.exponents b.exponents ⊎ (Under a.exponents b.exponents → ⊥) → Divides a b ⊎ (Divides a b → ⊥)
    go (inl u) = inl (record { same = e; none_greater = u })
    go (inr n) = inr (λ d. n d.none_greater)

-- a member whose lead divides m, or none
pub search_lead : (ds : List (List Term)) (m : Monomial) → ((b : List Term) → Contains ds b → (lead_mono b).component ≡ m.component)
    → IsLeadMultiple ds m ⊎ ((b : List Term) → Contains ds b → Divides (lead_mono b) m → ⊥)
search_lead [] m h = inr (λ b c d. contains_none b c)
search_lead (q ∷ ds) m h = go (divides_or_not (lead_mono q) m (h q (contains_head q ds))) (search_lead ds m (λ b c. h b (contains_tail q b ds c)))
  where
    go : Divides (lead_mono q) m ⊎ (Divides (lead_mono q) m → ⊥) → IsLeadMultiple ds m ⊎ ((b : List Term) → Contains ds b → Divides (lead_mono b) m → ⊥)
        → IsLeadMultiple (q ∷ ds) m ⊎ ((b : List Term) → Contains (q ∷ ds) b → Divides (lead_mono b) m → ⊥)
    go (inl d) r = inl (q, contains_head q ds, d)
    go (inr n) (inl k) = inl (k.0, contains_tail q k.0 ds k.1, k.2)
    go (inr n) (inr k) = inr (λ b c d. pick b d (contains_cases q b ds c))
      where
        pick : (b : List Term) → Divides (lead_mono b) m → (q ≡ b) ⊎ Contains ds b → ⊥
        pick b d (inl e) = n (subst (λ w. Divides (lead_mono w) m) (sym e) d)
        pick b d (inr c) = k b c d

-- ---- a divisor of the same degree

plus_zero : (a c : List ℕ) → length a ≡ length c → total_degree c ≡ 0 → plus a c ≡ a
plus_zero [] [] l z = refl
plus_zero [] (y ∷ c) l z = absurd (omega arith)
plus_zero (x ∷ a) [] l z = refl
plus_zero (x ∷ a) (y ∷ c) l z = let e : x + y ≡ x = omega arith in λ i. e i ∷ plus_zero a c (omega arith) (omega arith) i

same_or_lower : (w m : Monomial) → length w.exponents ≡ length m.exponents → Divides w m → (w ≡ m) ⊎ (total_degree w.exponents < total_degree m.exponents)
same_or_lower w m l d = go (total_degree r.0.exponents) refl
  where
    r : (c : Monomial) × (length w.exponents ≡ length c.exponents) × (c.component ≡ 0) × (m ≡ times w c)
    r = (divides_law w m l).0 d

    sum : total_degree m.exponents ≡ total_degree w.exponents + total_degree r.0.exponents
    sum = ap (λ (x : Monomial). total_degree x.exponents) r.3 ∙ total_degree-plus w.exponents r.0.exponents

    go : (k : ℕ) → total_degree r.0.exponents ≡ k → (w ≡ m) ⊎ (total_degree w.exponents < total_degree m.exponents)
    go zero z =
        let p = plus_zero w.exponents r.0.exponents r.1 z in
        let e : w.component ≡ w.component + r.0.component = (let h = r.2 in omega arith) in
        inl ((λ i. record { exponents = sym p i; component = e i }) ∙ sym r.3)
    go (suc k) z = inr (let h = sum in omega arith)

module _ (p n : ℕ) (ds : List (List Term)) (prime : IsPrime p) (red : Reduced p n ds) where
  seven : (m : Monomial) → IsLead p n ds m → length m.exponents ≡ 7
  seven m (t, f, r, e) =
      let pos = positive_of_prime p prime in
      ap (λ (w : Monomial). length w.exponents) (sym e) ∙ (in_poly p n ds (t ∷ f) pos red.polys r).affine.0.seven

  -- where no minimal lead divides it, a monomial is no lead
  none : (D : ℕ) (m : Monomial) → total_degree m.exponents < D → IsLead p n ds m → ((w : Monomial) → IsMinimalLead p n ds w → Divides w m → ⊥) → ⊥
  none zero m h l away = absurd (omega arith)
  none (suc D) m h l away = away m (l, λ w k d. pick w k d (same_or_lower w m (seven w k ∙ sym (seven m l)) d) (none D)) (record { same = refl; none_greater = λ i. omega arith })
    where
      pick : (w : Monomial) → IsLead p n ds w → Divides w m → (w ≡ m) ⊎ (total_degree w.exponents < total_degree m.exponents)
          → ((m : Monomial) → total_degree m.exponents < D → IsLead p n ds m → ((w : Monomial) → IsMinimalLead p n ds w → Divides w m → ⊥) → ⊥) → w ≡ m
      pick w k d (inl e) ih = e
      pick w k d (inr g) ih = absurd (ih w (omega arith) k (λ x y z. away x y (divides_trans x w m z d)))

  plain_lead : (b : List Term) → Contains ds b → (lead_mono b).component ≡ 0
  plain_lead b c = go b (All-contains (IsPoly p n) ds b red.polys c)
    where
      go : (b : List Term) → IsPoly p n b → (lead_mono b).component ≡ 0
      go [] h = refl
      go (t ∷ f) h = h.affine.0.plain

  found : (t : Term) (f : List Term) → InIdeal p n ds (t ∷ f) → IsLeadMultiple ds t.mono
  found t f r = go (search_lead ds t.mono (λ b c. plain_lead b c ∙ sym plain))
    where
      plain : t.mono.component ≡ 0
      plain =
          let pos = positive_of_prime p prime in
          (in_poly p n ds (t ∷ f) pos red.polys r).affine.0.plain

      away : ((b : List Term) → Contains ds b → Divides (lead_mono b) t.mono → ⊥) → (w : Monomial) → IsMinimalLead p n ds w → Divides w t.mono → ⊥
      away k w m d = let c = contained_lead ds w ((red.minimal w).1 m) in k (c.0 ∷ c.1) c.2 (subst (λ x. Divides x t.mono) (sym c.3) d)

      go : IsLeadMultiple ds t.mono ⊎ ((b : List Term) → Contains ds b → Divides (lead_mono b) t.mono → ⊥) → IsLeadMultiple ds t.mono
      go (inl k) = k
      go (inr k) = absurd (none (total_degree t.mono.exponents + 1) t.mono (omega arith) (t, f, r, refl) (away k))

pub has_leads_law : ReducedHasLeads
has_leads_law p n ds prime red = found p n ds prime red
