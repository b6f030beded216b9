-- Buchberger's criterion, degree by degree.
use Rattle.std.proofs.Common.{◌≡◌, ◌≢◌, ◌⊎◌, inl, inr, ℕ, ◌<◌, ◌≤◌, zero, suc, List, [], ◌∷◌, length, get_or, refl, sym, ap, ◌∙◌, subst, arith}
use Rattle.std.specs.List.{All, AllPairs, Contains}
use Rattle.std.proofs.lemmas.List.Elements.{All-head, All-tail, All-contains, All-weaker, Contains-get_or}
use Rattle.monomials.specs.Mono.{Monomial, Divides, common_multiple}
use Rattle.prime_field.specs.Primes.{IsPrime}
use Rattle.polys.specs.declared.term.Term.{Term}
use Rattle.polys.specs.Terms.{IsMonic}
use Rattle.polys.proofs.Each.{every_more}
use Rattle.ideal_laws.proofs.Unique.{contains_cases, contains_none}
use Rattle.graded_modules.specs.Vector.{IsGraded, IsGradedVector, IsGenerator, degree_at, lead_mono}
use Rattle.graded_modules.specs.Module.{InModule, IsLeadUpTo, IsLeast, IsLeadMultiple}
use Rattle.graded_modules.specs.Deep.{HasHighPair, IsDeep}
use Rattle.graded_modules.specs.SVector.{Multiple, total, lead_lcm, IsSettled}
use Rattle.graded_modules.specs.Bases.{AreApart, IsBasisBelow, HasAllLeads, SpanOneModule}
use Rattle.graded_modules.specs.Laws.{BasisLaws}
use Rattle.graded_modules.proofs.Graded.{lead_graded, degree_times}
use Rattle.graded_modules.proofs.Members.{in_none, in_add, in_product, in_vector, in_larger}
use Rattle.graded_modules.proofs.Cofactors.{same_shape, divides_same, divides_degree, lcm_comm}
use Rattle.monomials.proofs.Factors.{divides_trans, divides_both}
use Rattle.graded_modules.proofs.SVectors.{swap_settled, self_settled, same_degrees}
use Rattle.prime_field.proofs.Table.{positive_of_prime}
use Rattle.graded_modules.proofs.Descent.{IsSummand, value, lead_of_total}
use Rattle.graded_modules.proofs.Parts.{part, part_head, member_part}

-- ---- pairs

module _ {X : Type 0} (R : X → X → Type 0) where
  head_pair : (x : X) (xs : List X) → AllPairs R (x ∷ xs) → (z : X) → Contains xs z → R x z
  head_pair x xs h z c = let l = c.1 in subst (R x) c.2 (h 0 (suc c.0) z (omega arith) (omega arith))

  tail_pairs : (x : X) (xs : List X) → AllPairs R (x ∷ xs) → AllPairs R xs
  tail_pairs x xs h i j d a b = h (suc i) (suc j) d (omega arith) (omega arith)

  -- two members are a pair in one order or the other, or they are equal
  pub pair_of : (xs : List X) → AllPairs R xs → (x y : X) → Contains xs x → Contains xs y → (R x y ⊎ R y x) ⊎ (x ≡ y)
  pair_of [] h x y a b = absurd (contains_none x a)
  pair_of (z ∷ xs) h x y a b = go (pair_of xs (tail_pairs z xs h) x y) (contains_cases z x xs a) (contains_cases z y xs b)
    where
      go : (Contains xs x → Contains xs y → (R x y ⊎ R y x) ⊎ (x ≡ y)) → (z ≡ x) ⊎ Contains xs x → (z ≡ y) ⊎ Contains xs y → (R x y ⊎ R y x) ⊎ (x ≡ y)
      go ih (inl p) (inl q) = inr (sym p ∙ q)
      go ih (inl p) (inr q) = inl (inl (subst (λ w. R w y) p (head_pair z xs h y q)))
      go ih (inr p) (inl q) = inl (inr (subst (λ w. R w x) q (head_pair z xs h x p)))
      go ih (inr p) (inr q) = ih p q

-- of two members one's lead divides the other's only if they are equal
pub apart_same : (bs : List (List Term)) → AreApart bs → (f g : List Term) → Contains bs f → Contains bs g → Divides (lead_mono f) (lead_mono g) → f ≡ g
apart_same bs h f g a b d = go (pair_of (λ f g. (Divides (lead_mono f) (lead_mono g) → ⊥) × (Divides (lead_mono g) (lead_mono f) → ⊥)) bs h f g a b)
  where
    go : ((((Divides (lead_mono f) (lead_mono g) → ⊥) × (Divides (lead_mono g) (lead_mono f) → ⊥)) ⊎ ((Divides (lead_mono g) (lead_mono f) → ⊥) × (Divides (lead_mono f) (lead_mono g) → ⊥))) ⊎ (f ≡ g)) → f ≡ g
    go (inl (inl k)) = absurd (k.0 d)
    go (inl (inr k)) = absurd (k.1 d)
    go (inr e) = e

module _ (p n shift : ℕ) (gs : List (List Term)) (prime : IsPrime p) (given : All (IsGenerator p n shift) gs) where
  pos : 0 < p
  pos = positive_of_prime p prime

  given_vectors : All (IsGradedVector p n) gs
  given_vectors = All-weaker (IsGenerator p n shift) (IsGradedVector p n) (λ f h. h.vector) gs given

  all_settled : (bs : List (List Term)) (e : ℕ) → IsBasisBelow p n shift gs bs (suc e)
      → (b c : List Term) → Contains bs b → Contains bs c → (lead_mono b).component ≡ (lead_mono c).component → degree_at shift (lead_lcm b c) ≤ e → IsSettled p n shift bs b c
  all_settled bs e h b c hb hc one l = go (pair_of R bs h.settled b c hb hc)
    where
      R : List Term → List Term → Type 0
      R f g = (lead_mono f).component ≡ (lead_mono g).component → degree_at shift (lead_lcm f g) < suc e → IsSettled p n shift bs f g

      turned : degree_at shift (lead_lcm c b) ≤ e
      turned = subst (λ w. degree_at shift w ≤ e) (lcm_comm (lead_mono b) (lead_mono c) one) l

      go : ((R b c ⊎ R c b) ⊎ (b ≡ c)) → IsSettled p n shift bs b c
      go (inl (inl k)) = k one (omega arith)
      go (inl (inr k)) = swap_settled p n shift bs pos h.vectors c b (sym one) (k (sym one) (omega (arith, turned)))
      go (inr q) = subst (λ w. IsSettled p n shift bs b w) q (self_settled p n shift bs pos h.vectors b)

  -- a sum of multiples of low degree is in the module of bs
  total_member : (bs : List (List Term)) (e d : ℕ) → IsBasisBelow p n shift gs bs (suc e) → d ≤ e → (ss : List Multiple) → All (IsSummand p n shift gs d) ss → InModule p n bs (total p ss)
  total_member bs e d h l [] a = in_none p n bs
  total_member bs e d h l (s ∷ ss) a =
      in_add p n bs (value p s) (total p ss) pos (go s (All-head (IsSummand p n shift gs d) s ss a)) (total_member bs e d h l ss (All-tail (IsSummand p n shift gs d) s ss a))
    where
      inside : (g : List Term) → Contains gs g → degree_at shift (lead_mono g) ≤ d → InModule p n bs g
      inside [] c k = in_none p n bs
      inside (t ∷ g) c k = h.generators t g c (omega arith)

      go : (s : Multiple) → IsSummand p n shift gs d s → InModule p n bs (value p s)
      go s k =
          let x = degree_times shift (lead_mono s.vector) s.term.mono in
          let y = k.degree in
          in_product p n bs s.vector (s.term ∷ []) pos (k.graded, tt) (k.plain, tt) (inside s.vector k.member (omega arith))

  -- the lead of a member is known up to the degree of the basis
  pub lead_known : (bs : List (List Term)) (e : ℕ) → IsBasisBelow p n shift gs bs (suc e) → (t : Term) (f : List Term) → InModule p n gs (t ∷ f) → degree_at shift t.mono ≤ e → IsLeadMultiple bs t.mono
  lead_known bs e h t f m l =
      let d = degree_at shift t.mono in
      let k = (in_vector p n gs (t ∷ f) pos given_vectors m).canonical in
      let x = member_part shift d p n gs given (t ∷ f) k m in
      let head = part_head shift d t f refl in
      let low : InModule p n bs (t ∷ part shift d f) = subst (InModule p n bs) (sym x.2 ∙ head) (total_member bs e d h l x.0 x.1) in
      let c = (in_vector p n bs (t ∷ part shift d f) pos (All-weaker (IsGenerator p n shift) (IsGradedVector p n) (λ f h. h.vector) bs h.vectors) low).canonical in
      let y = member_part shift d p n bs h.vectors (t ∷ part shift d f) c low in
      lead_of_total p n shift bs d prime h.vectors h.monic (λ b c hb hc one q. all_settled bs e h b c hb hc one (omega arith)) t (part shift d (part shift d f)) y.0 y.1
      (subst (λ w. w ≡ total p y.0) (part_head shift d t (part shift d f) refl) y.2)

  low_leads : (bs : List (List Term)) (e : ℕ) (m : Monomial) → IsBasisBelow p n shift gs bs (suc e) → IsLeadUpTo p n shift gs e m → IsLeadMultiple bs m
  low_leads bs e m h (t, f, a, u, q) = subst (IsLeadMultiple bs) q (lead_known bs e h t f a u.0)

  -- ---- leads of the basis

  -- the lead of a monic homogeneous member
  own_lead : (b : List Term) (cap : ℕ) → IsGenerator p n shift b → IsMonic b → InModule p n gs b → degree_at shift (lead_mono b) ≤ cap → IsLeadUpTo p n shift gs cap (lead_mono b)
  own_lead [] cap h monic m l = absurd monic
  own_lead (t ∷ f) cap h monic m l =
      (t, f, m, every_more (λ w. degree_at shift w ≡ degree_at shift t.mono) (λ w. degree_at shift w ≤ cap) (t ∷ f) (λ w q. omega arith) (same_degrees p n shift (t ∷ f) h), refl)

  lead_shape : (m : Monomial) (cap : ℕ) → IsLeadUpTo p n shift gs cap m → IsGraded n m
  lead_shape m cap (t, f, a, u, q) = subst (IsGraded n) q ((in_vector p n gs (t ∷ f) pos given_vectors a).graded.0)

  basis_lead_least : (bs : List (List Term)) (e cap : ℕ) (f : List Term) → IsBasisBelow p n shift gs bs e → e ≤ cap → degree_at shift (lead_mono f) ≤ e → Contains bs f
      → IsLeast (IsLeadUpTo p n shift gs cap) (lead_mono f)
  basis_lead_least bs e cap f h l deg c =
      (own_lead f cap gen (All-contains IsMonic bs f h.monic c) (All-contains (InModule p n gs) bs f h.members c) (omega arith), least)
    where
      gen : IsGenerator p n shift f
      gen = All-contains (IsGenerator p n shift) bs f h.vectors c

      gf : IsGraded n (lead_mono f)
      gf = lead_graded n f gen.vector.graded

      lower : (k : ℕ) → IsBasisBelow p n shift gs bs (suc k) → (w : Monomial) → IsLeadUpTo p n shift gs cap w → Divides w (lead_mono f) → degree_at shift w ≤ k → w ≡ lead_mono f
      lower k b w (t, g, a, u, q) d s =
          let x : IsLeadMultiple bs w = subst (IsLeadMultiple bs) q (lead_known bs k b t g a (subst (λ v. degree_at shift v ≤ k) (sym q) s)) in
          let same : x.0 ≡ f = apart_same bs b.apart x.0 f x.1 c (divides_trans (lead_mono x.0) w (lead_mono f) x.2 d) in
          divides_both w (lead_mono f) (same_shape n w (lead_mono f) (lead_shape w cap (t, g, a, u, q)) gf) d (subst (λ v. Divides (lead_mono v) w) same x.2)

      least : (w : Monomial) → IsLeadUpTo p n shift gs cap w → Divides w (lead_mono f) → w ≡ lead_mono f
      least w a d = go e h deg (split (degree_at shift w) (degree_at shift (lead_mono f)))
        where
          split : (x y : ℕ) → (x < y) ⊎ (y ≤ x)
          split x zero = inr (omega arith)
          split zero (suc y) = inl (omega arith)
          split (suc x) (suc y) = elim (split x y) as (λ _. (suc x < suc y) ⊎ (suc y ≤ suc x)) [ inl h ↦ inl (omega arith) | inr h ↦ inr (omega arith) ]

          go : (k : ℕ) → IsBasisBelow p n shift gs bs k → degree_at shift (lead_mono f) ≤ k → (degree_at shift w < degree_at shift (lead_mono f)) ⊎ (degree_at shift (lead_mono f) ≤ degree_at shift w) → w ≡ lead_mono f
          go k b r (inr s) = divides_same shift w (lead_mono f) (same_shape n w (lead_mono f) (lead_shape w cap a) gf) d s
          go zero b r (inl s) = absurd (omega arith)
          go (suc k) b r (inl s) = lower k b w a d (omega arith)

  deep : (bs : List (List Term)) (e cap : ℕ) (f g : List Term) → IsBasisBelow p n shift gs bs e → e ≤ cap → All (λ b. degree_at shift (lead_mono b) ≤ e) bs
      → Contains bs f → Contains bs g → lead_mono f ≢ lead_mono g → (lead_mono f).component ≡ (lead_mono g).component → cap < degree_at shift (lead_lcm f g) → HasHighPair p n shift gs cap
  deep bs e cap f g h l low cf cg differ one high = record {
    first = lead_mono f;
    second = lead_mono g;
    first_least = basis_lead_least bs e cap f h l (All-contains (λ b. degree_at shift (lead_mono b) ≤ e) bs f low cf) cf;
    second_least = basis_lead_least bs e cap g h l (All-contains (λ b. degree_at shift (lead_mono b) ≤ e) bs g low cg) cg;
    differ = differ;
    one_component = one;
    high = high;
  }

  -- ---- a basis in all degrees

  module _ (bs : List (List Term)) (cap : ℕ) (h : IsBasisBelow p n shift gs bs (suc cap)) (few : (t : Term) (f : List Term) → Contains gs (t ∷ f) → degree_at shift t.mono ≤ cap)
      (pairs : AllPairs (λ f g. (lead_mono f).component ≡ (lead_mono g).component → degree_at shift (lead_lcm f g) ≤ cap) bs) where
    each_pair : (b c : List Term) → Contains bs b → Contains bs c → (b ≡ c → ⊥) → (lead_mono b).component ≡ (lead_mono c).component → degree_at shift (lead_lcm b c) ≤ cap
    each_pair b c hb hc other one = go (pair_of R bs pairs b c hb hc)
      where
        R : List Term → List Term → Type 0
        R f g = (lead_mono f).component ≡ (lead_mono g).component → degree_at shift (lead_lcm f g) ≤ cap

        go : ((R b c ⊎ R c b) ⊎ (b ≡ c)) → degree_at shift (lead_lcm b c) ≤ cap
        go (inl (inl k)) = k one
        go (inl (inr k)) = subst (λ w. degree_at shift w ≤ cap) (lcm_comm (lead_mono c) (lead_mono b) (sym one)) (k (sym one))
        go (inr q) = absurd (other q)

    -- the least lead that a lead of bs divides is the lead itself
    found : (m : Monomial) → IsLeast (IsLeadUpTo p n shift gs cap) m → (b : List Term) × Contains bs b × (lead_mono b ≡ m)
    found m l =
        let x = low_leads bs cap m h l.0 in
        let small = lead_degree m l.0 in
        let y = divides_degree shift (lead_mono x.0) m x.2 in
        let own = own_lead x.0 cap (All-contains (IsGenerator p n shift) bs x.0 h.vectors x.1) (All-contains IsMonic bs x.0 h.monic x.1) (All-contains (InModule p n gs) bs x.0 h.members x.1) (omega arith) in
        (x.0, x.1, l.1 (lead_mono x.0) own x.2)
      where
        lead_degree : (m : Monomial) → IsLeadUpTo p n shift gs cap m → degree_at shift m ≤ cap
        lead_degree m (t, f, a, u, q) = subst (λ w. degree_at shift w ≤ cap) q u.0

    not_deep : IsDeep p n shift gs cap → ⊥
    not_deep (inl (t, f, c, high)) = let l = few t f c in absurd (omega arith)
    not_deep (inr k) =
        let x = found k.first k.first_least in
        let y = found k.second k.second_least in
        let other : x.0 ≡ y.0 → ⊥ = λ q. k.differ (sym x.2 ∙ ap lead_mono q ∙ y.2) in
        let one : (lead_mono x.0).component ≡ (lead_mono y.0).component = ap (λ m. m.component) x.2 ∙ k.one_component ∙ sym (ap (λ m. m.component) y.2) in
        let small : degree_at shift (lead_lcm x.0 y.0) ≤ cap = each_pair x.0 y.0 x.1 y.1 other one in
        let same : degree_at shift (common_multiple k.first k.second) ≤ cap = subst (λ w. degree_at shift w ≤ cap) (λ i. common_multiple (x.2 i) (y.2 i)) small in
        let high = k.high in
        absurd (omega arith)

    inside : (g : List Term) → Contains gs g → InModule p n bs g
    inside [] c = in_none p n bs
    inside (t ∷ g) c = let l = few t g c in h.generators t g c (omega arith)

    -- it is a basis below every degree
    at_every : (e : ℕ) → IsBasisBelow p n shift gs bs (suc e)
    at_every e = record {
      vectors = h.vectors;
      monic = h.monic;
      members = h.members;
      generators = λ t f c l. inside (t ∷ f) c;
      apart = h.apart;
      settled = λ i j d a b one l. h.settled i j d a b one (let k = pairs i j d a b one in omega arith);
    }

    all_leads : HasAllLeads p n gs bs
    all_leads m (t, f, a, q) = subst (IsLeadMultiple bs) q (lead_known bs (degree_at shift t.mono) (at_every (degree_at shift t.mono)) t f a (omega arith))

    one_module : SpanOneModule p n gs bs
    one_module f = (
      in_larger p n gs bs f pos (λ k d l. inside' k d l),
      in_larger p n bs gs f pos h.members,
    )
      where
        inside' : (k : ℕ) (d : List Term) → k < length gs → InModule p n bs (get_or gs k d)
        inside' k d l = inside (get_or gs k d) (Contains-get_or gs k d l)

pub basis_law : BasisLaws
basis_law = record {
  low_leads = λ p n shift gs bs e m prime given h l. low_leads p n shift gs prime given bs e m h l;
  deep = λ p n shift gs bs e cap f g prime given h l low cf cg differ one high. deep p n shift gs prime given bs e cap f g h l low cf cg differ one high;
  whole = λ p n shift gs bs cap prime given h few pairs.
      (not_deep p n shift gs prime given bs cap h few pairs, all_leads p n shift gs prime given bs cap h few pairs, one_module p n shift gs prime given bs cap h few pairs);
}
