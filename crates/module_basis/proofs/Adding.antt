-- The steps of a growing basis, and what they keep.
use Rattle.std.proofs.Common.{◌≡◌, ◌≢◌, ◌⊎◌, inl, inr, ℕ, ◌+◌, ◌<◌, ◌≤◌, zero, suc, List, [], ◌∷◌, ◌++◌, length, get_or, refl, sym, ap, ◌∙◌, subst, arith, append-nil, append_assoc, length-append}
use Rattle.std.specs.List.{All, Contains}
use Rattle.std.proofs.Math.Nat.{eq-or-lt_of_le}
use Rattle.std.proofs.Math.Seq.{get_or-append_seam}
use Rattle.std.proofs.lemmas.List.Elements.{All-push, All-nil, All-append, All-weaker, Contains-append_left, Contains-append_right, Contains-append_cases, Contains-get_or}
use Rattle.prime_field.specs.Primes.{IsPrime}
use Rattle.polys.specs.declared.term.Term.{Term}
use Rattle.polys.specs.Poly.{Polynomial, IsVector, terms_of}
use Rattle.polys.specs.Terms.{EachMono, IsMonic, IsMonicOf}
use Rattle.graded_modules.specs.Vector.{IsOfDegree, degree_at, lead_mono}
use Rattle.graded_modules.specs.Module.{InModule, IsLeadMultiple}
use Rattle.graded_modules.specs.SVector.{IsSettled, s_vector, lead_lcm}
use Rattle.graded_modules.specs.Laws.{ArePaired}
use Rattle.graded_modules.proofs.Members.{in_generator, in_larger}
use Rattle.graded_modules.proofs.SVectors.{same_degrees, s_vector_law}
use Rattle.prime_field.proofs.Table.{positive_of_prime as positive, above_one}
use Rattle.module_basis.specs.Gens.{IsHomogeneousOver}
use Rattle.module_division.specs.Vectors.{member}
use Rattle.module_division.specs.Division.{Reduces}
use Rattle.module_basis.specs.declared.gens.Gens.{Gens}
use Rattle.module_basis.specs.declared.growing.Growing.{Growing}
use Rattle.module_basis.specs.declared.pairs.Pair.{Pair}
use Rattle.module_basis.specs.Growing.{pair_of, AreOfOneComponent, IsPair, IsSettledPair, IsSettledPairOf, IsAwaited, AreAwaited, IsGrown, IsGrowing, GainsPairs, GainsVector, IsMemberAt, IsNewAt, IsBelowAll}
use Rattle.module_basis.proofs.Pairing.{paired}
use Rattle.module_division.proofs.Lists.{count_lists, lists_append, member_left, contains_more, divisor_vectors}
use Rattle.module_basis.proofs.Growth.{grown_new, pair_more, awaited_more, one_component_back, divisors, program_vector, nothing_in, nothing_below, new_is, new_in, new_below, generators_new}
use Rattle.module_basis.proofs.Joining.{awaited_pairs}

-- ---- one vector is put at the end

module _ (gens : Gens) (e : ℕ) (prime : IsPrime gens.prime) (old new : Growing) (b : Polynomial) (growing : IsGrowing gens e old) (fresh : IsNewAt gens e (terms_of old.basis.items) b)
    (vectors : new.basis.items ≡ old.basis.items ++ b ∷ []) where
  pushed_lists : terms_of new.basis.items ≡ terms_of old.basis.items ++ b.terms ∷ []
  pushed_lists = ap terms_of vectors ∙ lists_append old.basis.items (b ∷ [])

  pub pushed_growing : new.pairs.items ≡ old.pairs.items → IsGrowing gens e new
  pushed_growing p = record {
    primes = subst (All (λ f. f.prime ≡ gens.prime)) (sym vectors) (All-push (λ f. f.prime ≡ gens.prime) old.basis.items b growing.primes fresh.prime);
    grown = subst (IsGrown gens e) (sym pushed_lists) (grown_new gens e prime (terms_of old.basis.items) growing.grown b fresh);
    pairs =
        subst (All (IsPair gens.shift (terms_of new.basis.items))) (sym p)
        (All-weaker (IsPair gens.shift (terms_of old.basis.items)) (IsPair gens.shift (terms_of new.basis.items))
        (λ q h. pair_more gens (terms_of old.basis.items) (terms_of new.basis.items) (b.terms ∷ []) q pushed_lists h) old.pairs.items growing.pairs);
  }

  pushed_count : length new.basis.items ≡ length old.basis.items + 1
  pushed_count = ap length vectors ∙ length-append old.basis.items (b ∷ [])

  pub pushed_last : (k : ℕ) → k + 1 ≡ length new.basis.items → degree_at gens.shift (lead_mono (member (terms_of new.basis.items) k)) ≡ e
  pushed_last k h =
      let n = pushed_count in
      let m = count_lists old.basis.items in
      let q : k ≡ length (terms_of old.basis.items) = omega arith in
      let at : member (terms_of new.basis.items) k ≡ b.terms =
      (λ i. member (pushed_lists i) (q i)) ∙ get_or-append_seam (terms_of old.basis.items) b.terms [] [] in
      subst (λ f. degree_at gens.shift (lead_mono f) ≡ e) (sym at) (go b.terms fresh.monic fresh.member.degree)
    where
      go : (f : List Term) → IsMonic f → IsOfDegree gens.shift e f → degree_at gens.shift (lead_mono f) ≡ e
      go [] m h = absurd m
      go (t ∷ f) m h = h.0

  -- after the pairs with the new vector were formed
  pub pushed_gains : (last : Growing) → new.cap ≡ old.cap → new.pairs.items ≡ old.pairs.items → GainsPairs e new last
      → ((i k : ℕ) → k + 1 ≡ length new.basis.items → i < k → AreOfOneComponent (terms_of new.basis.items) i k → IsAwaited gens new.cap (terms_of new.basis.items) last.pairs.items i k)
      → GainsVector gens e old last
  pushed_gains last cap pairs gains here = record {
    cap = gains.cap ∙ cap;
    more = b ∷ [];
    vectors = gains.vectors ∙ vectors;
    more_pairs = gains.more;
    pairs = gains.pairs ∙ ap (λ l. l ++ gains.more) pairs;
    late = gains.late;
    awaited = λ ps h. subst (λ fs. AreAwaited gens old.cap (terms_of fs) (last.pairs.items ++ ps) (length fs)) (sym gains.vectors) (each ps h);
  }
    where
      each : (ps : List Pair) → AreAwaited gens old.cap (terms_of old.basis.items) (old.pairs.items ++ ps) (length old.basis.items)
          → AreAwaited gens old.cap (terms_of new.basis.items) (last.pairs.items ++ ps) (length new.basis.items)
      each ps h i j rising inside one =
          let n = pushed_count in
          go (eq-or-lt_of_le (j_le i j rising inside n))
        where
          j_le : (i j : ℕ) → i < j → j < length new.basis.items → length new.basis.items ≡ length old.basis.items + 1 → j ≤ length old.basis.items
          j_le i j r l n = omega arith

          kept : (q : Pair) → Contains (old.pairs.items ++ ps) q → Contains (last.pairs.items ++ ps) q
          kept q c = elim (Contains-append_cases old.pairs.items ps q c) [
            | inl x ↦ Contains-append_left last.pairs.items ps q (subst (λ l. Contains l q) (sym (gains.pairs ∙ ap (λ l. l ++ gains.more) pairs)) (Contains-append_left old.pairs.items gains.more q x))
            | inr y ↦ Contains-append_right last.pairs.items ps q y
          ]

          go : (j ≡ length old.basis.items) ⊎ (j < length old.basis.items) → IsAwaited gens old.cap (terms_of new.basis.items) (last.pairs.items ++ ps) i j
          go (inl q) =
              let n = pushed_count in
              awaited_pairs gens old.cap (terms_of new.basis.items) last.pairs.items (last.pairs.items ++ ps) i j (λ q c. Contains-append_left last.pairs.items ps q c)
              (subst (λ c. IsAwaited gens c (terms_of new.basis.items) last.pairs.items i j) cap (here i j (omega arith) rising one))
          go (inr l) =
              let m = count_lists old.basis.items in
              awaited_more gens old.cap (terms_of old.basis.items) (terms_of new.basis.items) (b.terms ∷ []) (old.pairs.items ++ ps) (last.pairs.items ++ ps) i j pushed_lists
              (omega arith) (omega arith) kept
              (h i j rising l (one_component_back gens (terms_of old.basis.items) (terms_of new.basis.items) (b.terms ∷ []) i j pushed_lists (omega arith) (omega arith) one))

-- where nothing was added
pub nothing_gained : (gens : Gens) (e : ℕ) (g : Growing) → GainsVector gens e g g
nothing_gained gens e g = record {
  cap = refl;
  more = [];
  vectors = sym (append-nil g.basis.items);
  more_pairs = [];
  pairs = sym (append-nil g.pairs.items);
  late = All-nil (λ q. e < q.degree);
  awaited = λ ps h. h;
}

pub gained_twice : (gens : Gens) (e : ℕ) (a b c : Growing) → GainsVector gens e a b → GainsVector gens e b c → GainsVector gens e a c
gained_twice gens e a b c x y = record {
  cap = y.cap ∙ x.cap;
  more = x.more ++ y.more;
  vectors = y.vectors ∙ ap (λ l. l ++ y.more) x.vectors ∙ append_assoc a.basis.items x.more y.more;
  more_pairs = x.more_pairs ++ y.more_pairs;
  pairs = y.pairs ∙ ap (λ l. l ++ y.more_pairs) x.pairs ∙ append_assoc a.pairs.items x.more_pairs y.more_pairs;
  late = All-append (λ q. e < q.degree) x.more_pairs y.more_pairs x.late y.late;
  awaited = λ ps h. subst (λ k. AreAwaited gens k (terms_of c.basis.items) (c.pairs.items ++ ps) (length c.basis.items)) x.cap
      (y.awaited ps (subst (λ k. AreAwaited gens k (terms_of b.basis.items) (b.pairs.items ++ ps) (length b.basis.items)) (sym x.cap) (x.awaited ps h)));
}

-- a member stays one
pub in_still : (gens : Gens) (e : ℕ) (fs gs more : List Polynomial) (f : List Term) → IsPrime gens.prime → gs ≡ fs ++ more → IsGrown gens e (terms_of gs)
    → InModule gens.prime gens.variables (terms_of fs) f → InModule gens.prime gens.variables (terms_of gs) f
in_still gens e fs gs more f prime q grown h =
    in_larger gens.prime gens.variables (terms_of fs) (terms_of gs) f (positive gens.prime prime)
    (λ k d i. in_generator gens.prime gens.variables (terms_of gs) (get_or (terms_of fs) k d) (above_one gens.prime prime) (λ k d i. (grown.below.vectors k d i).vector)
    (contains_more fs gs more q (get_or (terms_of fs) k d) (Contains-get_or (terms_of fs) k d i))) h

-- ---- what is left of a vector was added

pub record AddsRest (gens : Gens) (e : ℕ) (g : Growing) (v : List Term) (b : Polynomial) : Type 0 where
  pub fresh : IsNewAt gens e (terms_of g.basis.items) b
  pub member : (next : List Polynomial) → next ≡ g.basis.items ++ b ∷ [] → InModule gens.prime gens.variables (terms_of next) v
  pub below : (next : List Polynomial) → next ≡ g.basis.items ++ b ∷ [] → IsBelowAll gens e (terms_of next) v

pub adds_rest : (gens : Gens) (e : ℕ) → e ≤ 1000 → IsPrime gens.prime → (g : Growing) → IsGrowing gens e g → (v r : List Term) → IsMemberAt gens e v
    → Reduces gens.prime (terms_of g.basis.items) v r → IsVector gens.prime r → EachMono (λ m. IsLeadMultiple (terms_of g.basis.items) m → ⊥) r
    → (b : Polynomial) → b.prime ≡ gens.prime → r ≢ [] → IsMonicOf gens.prime r b.terms → AddsRest gens e g v b
adds_rest gens e low prime g growing v r at d known outside b q some monic =
    let bs = terms_of g.basis.items in
    let vectors = divisor_vectors gens.prime g.basis.items (divisors gens e g low growing) in
    let fresh = new_is gens e low prime bs growing.grown vectors v r at d known b q some monic outside in
    record {
      fresh = fresh;
      member = λ next eq. subst (λ l. InModule gens.prime gens.variables l v) (sym (ap terms_of eq ∙ lists_append g.basis.items (b ∷ [])))
          (new_in gens e low prime bs growing.grown vectors v r at d known b q some monic (generators_new gens e prime bs growing.grown b fresh));
      below = λ next eq. subst (λ l. IsBelowAll gens e l v) (sym (ap terms_of eq ∙ lists_append g.basis.items (b ∷ [])))
          (new_below gens e low prime bs growing.grown vectors v r at d known b q some monic);
    }

pub keeps_all : (gens : Gens) (e : ℕ) → e ≤ 1000 → IsPrime gens.prime → (g : Growing) → IsGrowing gens e g → (v r : List Term) → IsMemberAt gens e v
    → Reduces gens.prime (terms_of g.basis.items) v r → IsVector gens.prime r → r ≡ []
    → InModule gens.prime gens.variables (terms_of g.basis.items) v × IsBelowAll gens e (terms_of g.basis.items) v
keeps_all gens e low prime g growing v r at d known z =
    let vectors = divisor_vectors gens.prime g.basis.items (divisors gens e g low growing) in (
      nothing_in gens e low prime (terms_of g.basis.items) growing.grown vectors v r at d known z,
      nothing_below gens e low prime (terms_of g.basis.items) growing.grown vectors v r at d known z,
    )

-- ---- the S-vector of a pair

module _ (gens : Gens) (e : ℕ) (low : e ≤ 1000) (prime : IsPrime gens.prime) (g : Growing) (growing : IsGrowing gens e g) (q : Pair)
    (pair : IsPair gens.shift (terms_of g.basis.items) q) (degree : q.degree ≡ e) where
  bs_of : List (List Term)
  bs_of = terms_of g.basis.items

  pair_first : q.first < length (terms_of g.basis.items)
  pair_first = let r = pair.rising in let i = pair.inside in omega arith

  pub s_paired : ArePaired gens.prime gens.variables gens.shift (member (terms_of g.basis.items) q.first) (member (terms_of g.basis.items) q.second)
  s_paired = paired gens.prime gens.variables gens.shift prime (terms_of gens.vectors) (terms_of g.basis.items) e growing.grown.below q.first q.second pair_first pair.inside pair.one_component

  pub s_member : IsMemberAt gens e (s_vector gens.prime (member (terms_of g.basis.items) q.first) (member (terms_of g.basis.items) q.second))
  s_member =
      let p = gens.prime in
      let n = gens.variables in
      let f = member (terms_of g.basis.items) q.first in
      let h = member (terms_of g.basis.items) q.second in
      let graded = s_vector_law.vector p n gens.shift f h s_paired in
      let deg = subst (λ k. IsOfDegree gens.shift k (s_vector p f h)) (sym pair.degree ∙ degree) (s_vector_law.degree p n gens.shift f h s_paired) in
      record {
        vector = program_vector p n gens.shift e (s_vector p f h) graded deg (omega arith);
        graded = graded;
        degree = deg;
        member = s_vector_law.member p n gens.shift (terms_of gens.vectors) f h s_paired
            (growing.grown.below.members q.first [] pair_first) (growing.grown.below.members q.second [] pair.inside);
      }

  pub s_settled : (next more : List Polynomial) → next ≡ g.basis.items ++ more
      → IsBelowAll gens e (terms_of next) (s_vector gens.prime (member (terms_of g.basis.items) q.first) (member (terms_of g.basis.items) q.second))
      → IsSettledPair gens (terms_of next) q.first q.second
  s_settled next more eq below =
      let p = gens.prime in
      let n = gens.variables in
      let bs = terms_of g.basis.items in
      let cs = terms_of next in
      let e' = ap terms_of eq ∙ lists_append g.basis.items more in
      let mi : member bs q.first ≡ member cs q.first = sym (ap (λ l. member l q.first) e' ∙ member_left bs (terms_of more) q.first pair_first) in
      let mj : member bs q.second ≡ member cs q.second = sym (ap (λ l. member l q.second) e' ∙ member_left bs (terms_of more) q.second pair.inside) in
      subst (λ x. IsSettled p n gens.shift cs (member cs q.first) x) mj
      (subst (λ x. IsSettled p n gens.shift cs x (member bs q.second)) mi
      (below (lead_lcm (member bs q.first) (member bs q.second)) (sym pair.degree ∙ degree) (s_vector_law.below p n gens.shift (member bs q.first) (member bs q.second) s_paired)))

-- a homogeneous vector of the generators
pub generator_at : (gens : Gens) (e : ℕ) (v : Polynomial) → e ≤ 1000 → IsHomogeneousOver gens.prime gens.variables gens.shift v → degree_at gens.shift (lead_mono v.terms) ≡ e
    → InModule gens.prime gens.variables (terms_of gens.vectors) v.terms → IsMemberAt gens e v.terms
generator_at gens e v low h q i =
    let d = subst (λ k. IsOfDegree gens.shift k v.terms) q (same_degrees gens.prime gens.variables gens.shift v.terms h.vector) in
    record { vector = program_vector gens.prime gens.variables gens.shift e v.terms h.vector.vector d (omega arith); graded = h.vector.vector; degree = d; member = i }

-- the pair that is settled waits no longer
pub gone_through : (gens : Gens) (cap : ℕ) (bs : List (List Term)) (ps rest : List Pair) (q : Pair) (limit : ℕ)
    → IsSettledPairOf gens bs q → AreAwaited gens cap bs (ps ++ q ∷ rest) limit → AreAwaited gens cap bs (ps ++ rest) limit
gone_through gens cap bs ps rest q limit gone h i j r k one =
    let a = h i j r k one in
    record {
      low = a.low;
      waits = elim a.waits [
        | inl s ↦ inl s
        | inr c ↦ elim (Contains-append_cases ps (q ∷ rest) (pair_of gens.shift bs i j) c) [
          | inl x ↦ inr (Contains-append_left ps rest (pair_of gens.shift bs i j) x)
          | inr y ↦ first y
        ]
      ];
    }
  where
    same : q ≡ pair_of gens.shift bs i j → IsSettledPair gens bs i j
    same e = subst (λ x. IsSettledPair gens bs x j) (ap (λ (w : Pair). w.first) e) (subst (λ x. IsSettledPair gens bs q.first x) (ap (λ (w : Pair). w.second) e) gone)

    first : Contains (q ∷ rest) (pair_of gens.shift bs i j) → IsSettledPair gens bs i j ⊎ Contains (ps ++ rest) (pair_of gens.shift bs i j)
    first (k, l, e) = place k l e
      where
        place : (k : ℕ) → k < length (q ∷ rest) → get_or (q ∷ rest) k (pair_of gens.shift bs i j) ≡ pair_of gens.shift bs i j
            → IsSettledPair gens bs i j ⊎ Contains (ps ++ rest) (pair_of gens.shift bs i j)
        place zero l e = inl (same e)
        place (suc k) l e = inr (Contains-append_right ps rest (pair_of gens.shift bs i j) (k, omega arith, e))
