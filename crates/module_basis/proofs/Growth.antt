-- One more vector of a growing basis.
use Rattle.std.proofs.Common.{◌≡◌, ◌≢◌, inl, inr, ℕ, ◌+◌, ◌*◌, ◌%◌, ◌<◌, ◌≤◌, List, [], ◌∷◌, ◌++◌, length, get_or, refl, sym, ap, ◌∙◌, subst, arith, length-append, mul-le-mul_right}
use Rattle.std.specs.List.{All, Contains}
use Rattle.std.specs.declared.cmp.Ordering.TheVariants.{Less, Equal, Greater}
use Rattle.std.specs.declared.cmp.Ordering.{Ordering}
use Rattle.std.specs.Ordering.{nat_cmp, ordering_then}
use Rattle.std.specs.Cmp.{ranked}
use native.Mathlib.Nat.{mod-eq_of_lt}
use Rattle.std.proofs.lemmas.List.Elements.{All-push, Contains-get_or, Contains-append_left, Contains-push}
use Rattle.std.proofs.lemmas.List.Quantifiers.{all_pairs_push}
use Rattle.prime_field.specs.Primes.{IsPrime}
use Rattle.monomials.specs.Mono.{Monomial, IsMono, Divides, total_degree, cmp_dp, cmp_last}
use Rattle.polys.specs.declared.term.Term.{Term}
use Rattle.polys.specs.Poly.{Polynomial, IsVector, terms_of}
use Rattle.polys.specs.Terms.{EachMono, IsMonic, IsMonicOf, add, sub, multiple}
use Rattle.polys.proofs.Each.{every_more, every_zip, every_multiple}
use Rattle.polys.proofs.Units.{canonical_same}
use Rattle.polys.proofs.Sums.{add_comm}
use Rattle.graded_modules.specs.Vector.{IsGraded, IsGradedVector, IsGenerator, IsOfDegree, degree_at, lead_mono}
use Rattle.graded_modules.specs.Module.{InModule, IsLeadMultiple}
use Rattle.graded_modules.specs.SVector.{IsSumBelow, IsSettled, lead_lcm, s_vector}
use Rattle.graded_modules.proofs.Graded.{lead_graded, vector_multiple}
use Rattle.graded_modules.proofs.Cofactors.{divides_degree, divides_same, lcm_right, same_shape}
use Rattle.graded_modules.proofs.Members.{in_add, in_sub, in_multiple, in_generator, in_larger}
use Rattle.graded_modules.proofs.Settled.{settled_law, unscaled}
use Rattle.graded_modules.proofs.SVectors.{same_degrees}
use Rattle.prime_field.proofs.Table.{positive_of_prime as positive, above_one}
use Rattle.ideal_laws.proofs.Multiples.{multiple_multiple, multiple_residue, multiple_one}
use Rattle.ideal_laws.proofs.Differences.{from_sub, to_sub, sub_none}
use Rattle.graded_modules.proofs.Tops.{tail_below}
use Rattle.module_division.specs.Vectors.{member}
use Rattle.module_basis.specs.declared.gens.Gens.{Gens}
use Rattle.module_basis.specs.declared.growing.Growing.{Growing}
use Rattle.module_basis.specs.declared.pairs.Pair.{Pair}
use Rattle.module_division.specs.Division.{IsDivisor, Reduces}
use Rattle.module_basis.specs.Growing.{pair_degree, pair_of, AreOfOneComponent, IsPair, IsSettledPair, IsAwaited, IsGrown, IsGrowing, IsMemberAt, IsNewAt, IsBelowAll}
use Rattle.module_division.proofs.Lists.{place_of, member_left}
use Rattle.module_division.proofs.Reductions.{IsTight, IsGradedRemainder, graded_remainder}

-- ---- homogeneous vectors of low degree

-- a smaller monomial of the same degree has no more variables, as its unit vector has no less degree
tight_mono : (shift : ℕ) (l u : Monomial) → degree_at shift u ≡ degree_at shift l → l.component ≤ u.component → total_degree u.exponents ≤ total_degree l.exponents
tight_mono shift l u e c = go l.component u.component c e
  where
    go : (a b : ℕ) → a ≤ b → total_degree u.exponents + b * shift ≡ total_degree l.exponents + a * shift → total_degree u.exponents ≤ total_degree l.exponents
    go a b h e = let m : a * shift ≤ b * shift = mul-le-mul_right shift h in omega arith

component_falls : (l u : Monomial) → cmp_dp u l ≡ Less → l.component ≤ u.component
component_falls l u e = go (nat_cmp l.component u.component) refl e
  where
    go : (r : Ordering) → nat_cmp l.component u.component ≡ r
        → ordering_then r (ordering_then (nat_cmp (total_degree u.exponents) (total_degree l.exponents)) (cmp_last u.exponents l.exponents)) ≡ Less → l.component ≤ u.component
    go Less p q = let h : l.component < u.component = ranked l.component u.component Less (sym p) in omega arith
    go Equal p q = let h : l.component ≡ u.component = ranked l.component u.component Equal (sym p) in omega arith
    go Greater p q = absurd (grind arith)

pub tight : (p n shift : ℕ) (f : List Term) → IsGenerator p n shift f → IsTight f
tight p n shift [] h = tt
tight p n shift (t ∷ f) h =
    let d = same_degrees p n shift (t ∷ f) h in (
      omega arith,
      every_more (λ u. (cmp_dp u t.mono ≡ Less) × (degree_at shift u ≡ degree_at shift t.mono)) (λ u. total_degree u.exponents ≤ total_degree t.mono.exponents) f
          (λ u k. tight_mono shift t.mono u k.1 (component_falls t.mono u k.0))
          (every_zip (λ u. cmp_dp u t.mono ≡ Less) (λ u. degree_at shift u ≡ degree_at shift t.mono) f (tail_below p t f h.vector.canonical) d.1),
    )

pub graded_mono : (n shift e : ℕ) (m : Monomial) → IsGraded n m → degree_at shift m ≡ e → e ≤ 60000 → IsMono m
graded_mono n shift e m g d l = record { seven = g.seven; bounded = omega arith; one_of_two = g.two }

pub program_vector : (p n shift e : ℕ) (f : List Term) → IsGradedVector p n f → IsOfDegree shift e f → e ≤ 60000 → IsVector p f
program_vector p n shift e f g d l = record {
  canonical = g.canonical;
  monos = every_more (λ m. IsGraded n m × (degree_at shift m ≡ e)) IsMono f (λ m k. graded_mono n shift e m k.0 k.1 l) (every_zip (IsGraded n) (λ m. degree_at shift m ≡ e) f g.graded d);
}

pub divisor_of : (p n shift : ℕ) (f : Polynomial) → f.prime ≡ p → IsGenerator p n shift f.terms → IsMonic f.terms → degree_at shift (lead_mono f.terms) ≤ 60000 → IsDivisor p f
divisor_of p n shift f e g m l = record {
  prime = e;
  vector = program_vector p n shift (degree_at shift (lead_mono f.terms)) f.terms g.vector (same_degrees p n shift f.terms g) l;
  monic = m;
  tight = tight p n shift f.terms g;
}

pub divisors : (gens : Gens) (e : ℕ) (g : Growing) → e ≤ 1000 → IsGrowing gens e g → All (IsDivisor gens.prime) g.basis.items
divisors gens e g l h k d i =
    let b = h.grown.below in
    let fs = g.basis.items in
    divisor_of gens.prime gens.variables gens.shift (get_or fs k d) (h.primes k d i) (place_of (IsGenerator gens.prime gens.variables gens.shift) fs b.vectors k d i)
    (place_of IsMonic fs b.monic k d i) (let low = place_of (λ c. degree_at gens.shift (lead_mono c) ≤ e) fs h.grown.low k d i in omega arith)

-- ---- lists that grow

module _ (gens : Gens) where
  pub settled_more : (bs cs : List (List Term)) (i j : ℕ) → i < length bs → j < length bs → (more : List (List Term)) → cs ≡ bs ++ more
      → IsSettledPair gens bs i j → IsSettledPair gens cs i j
  settled_more bs cs i j hi hj more e s =
      let p = gens.prime in
      let n = gens.variables in
      let shift = gens.shift in
      let mi : member bs i ≡ member cs i = sym (ap (λ l. member l i) e ∙ member_left bs more i hi) in
      let mj : member bs j ≡ member cs j = sym (ap (λ l. member l j) e ∙ member_left bs more j hj) in
      subst (λ g. IsSettled p n shift cs (member cs i) g) mj
      (subst (λ f. IsSettled p n shift cs f (member bs j)) mi
      (settled_law.more p n shift bs cs (lead_lcm (member bs i) (member bs j)) (s_vector p (member bs i) (member bs j))
      (λ b c. subst (λ l. Contains l b) (sym e) (Contains-append_left bs more b c)) s))

  pub pair_more : (bs cs more : List (List Term)) (q : Pair) → cs ≡ bs ++ more → IsPair gens.shift bs q → IsPair gens.shift cs q
  pair_more bs cs more q e h =
      let r = h.rising in
      let i = h.inside in
      let n : length cs ≡ length bs + length more = ap length e ∙ length-append bs more in
      let mi : member cs q.first ≡ member bs q.first = ap (λ l. member l q.first) e ∙ member_left bs more q.first (omega arith) in
      let mj : member cs q.second ≡ member bs q.second = ap (λ l. member l q.second) e ∙ member_left bs more q.second i in
      record {
        rising = r;
        inside = omega arith;
        one_component = ap (λ b. (lead_mono b).component) mi ∙ h.one_component ∙ ap (λ b. (lead_mono b).component) (sym mj);
        degree = h.degree ∙ (λ k. degree_at gens.shift (lead_lcm (sym mi k) (sym mj k)));
      }

  -- awaited pairs are so in a larger list, and where more waits
  pub awaited_more : (cap : ℕ) (bs cs more : List (List Term)) (ps qs : List Pair) (i j : ℕ) → cs ≡ bs ++ more → i < length bs → j < length bs
      → ((q : Pair) → Contains ps q → Contains qs q) → IsAwaited gens cap bs ps i j → IsAwaited gens cap cs qs i j
  awaited_more cap bs cs more ps qs i j e hi hj sub h =
      let mi : member bs i ≡ member cs i = sym (ap (λ l. member l i) e ∙ member_left bs more i hi) in
      let mj : member bs j ≡ member cs j = sym (ap (λ l. member l j) e ∙ member_left bs more j hj) in
      let d : pair_degree gens.shift bs i j ≡ pair_degree gens.shift cs i j = (λ k. degree_at gens.shift (lead_lcm (mi k) (mj k))) in
      record {
        low = subst (λ k. k ≤ cap) d h.low;
        waits = elim h.waits [
          | inl s ↦ inl (settled_more bs cs i j hi hj more e s)
          | inr c ↦ inr (subst (λ (k : ℕ). Contains qs (record { first = i; second = j; degree = k })) d (sub (pair_of gens.shift bs i j) c))
        ];
      }

  -- where the list of vectors is longer, and the pairs of the new ones are awaited
  pub one_component_back : (bs cs more : List (List Term)) (i j : ℕ) → cs ≡ bs ++ more → i < length bs → j < length bs → AreOfOneComponent cs i j → AreOfOneComponent bs i j
  one_component_back bs cs more i j e hi hj h =
      let mi : member bs i ≡ member cs i = sym (ap (λ l. member l i) e ∙ member_left bs more i hi) in
      let mj : member bs j ≡ member cs j = sym (ap (λ l. member l j) e ∙ member_left bs more j hj) in
      ap (λ b. (lead_mono b).component) mi ∙ h ∙ ap (λ b. (lead_mono b).component) (sym mj)

-- ---- what is left of a vector

module _ (gens : Gens) (e : ℕ) (low : e ≤ 1000) (prime : IsPrime gens.prime) (bs : List (List Term)) (grown : IsGrown gens e bs) (vectors : All (IsVector gens.prime) bs)
    (v r : List Term) (at : IsMemberAt gens e v) (d : Reduces gens.prime bs v r) (known : IsVector gens.prime r) where
  left : IsGradedRemainder gens.prime gens.variables gens.shift bs v r e
  left =
      graded_remainder gens.prime gens.variables gens.shift prime bs grown.below.vectors vectors v r e at.graded at.degree d known.canonical

  taken_in : InModule gens.prime gens.variables bs (sub gens.prime v r)
  taken_in =
      left.member bs (λ k c i. in_generator gens.prime gens.variables bs (get_or bs k c) (above_one gens.prime prime) (λ k c i. (grown.below.vectors k c i).vector) (Contains-get_or bs k c i))

  whole_is : add gens.prime r (sub gens.prime v r) ≡ v
  whole_is = sym (from_sub gens.prime v r (sub gens.prime v r) (positive gens.prime prime) refl) ∙ canonical_same gens.prime v at.graded.canonical

  pub nothing_in : r ≡ [] → InModule gens.prime gens.variables bs v
  nothing_in z =
      subst (InModule gens.prime gens.variables bs)
      (ap (sub gens.prime v) z ∙ sub_none gens.prime v (positive gens.prime prime) ∙ canonical_same gens.prime v at.graded.canonical) taken_in

  pub nothing_below : r ≡ [] → IsBelowAll gens e bs v
  nothing_below z m q h =
      settled_law.nothing_left gens.prime gens.variables gens.shift bs m v prime at.graded
      (subst (λ x. IsSumBelow gens.prime gens.variables gens.shift bs m (sub gens.prime v x)) z (left.below m q h))

  rest_in : InModule gens.prime gens.variables (terms_of gens.vectors) r
  rest_in =
      let p = gens.prime in
      let T = sub p v r in
      subst (InModule p gens.variables (terms_of gens.vectors))
      (to_sub p v T r (positive p prime) (canonical_same p v at.graded.canonical ∙ sym whole_is ∙ add_comm p r T) ∙ canonical_same p r known.canonical)
      (in_sub p gens.variables (terms_of gens.vectors) v T (positive p prime) at.member (left.member (terms_of gens.vectors) grown.below.members))

  module _ (b : Polynomial) (b_prime : b.prime ≡ gens.prime) (some : r ≢ []) (monic : IsMonicOf gens.prime r b.terms) where
    pub new_is : EachMono (λ m. IsLeadMultiple bs m → ⊥) r → IsNewAt gens e bs b
    new_is outside = go r refl known some monic left outside rest_in
      where
        go : (x : List Term) → r ≡ x → IsVector gens.prime x → x ≢ [] → IsMonicOf gens.prime x b.terms → IsGradedRemainder gens.prime gens.variables gens.shift bs v x e
            → EachMono (λ m. IsLeadMultiple bs m → ⊥) x → InModule gens.prime gens.variables (terms_of gens.vectors) x → IsNewAt gens e bs b
        go [] q k s m l o i = absurd (s refl)
        go (t ∷ x) q k s m l o i =
            let p = gens.prime in
            let n = gens.variables in
            let c = m.1.0 in
            let is = m.1.2 in
            let back = unscaled p c t x b.terms prime m.1.1 k.canonical m.0 is in
            let g : IsGradedVector p n b.terms = subst (IsGradedVector p n) (sym is) (vector_multiple p n c (t ∷ x) (positive p prime) l.vector) in
            let deg : IsOfDegree gens.shift e b.terms = subst (IsOfDegree gens.shift e) (sym is) (every_multiple (λ w. degree_at gens.shift w ≡ e) p c (t ∷ x) l.degree) in
            record {
              prime = b_prime;
              member = record {
                vector = program_vector p n gens.shift e b.terms g deg (omega arith);
                graded = g;
                degree = deg;
                member = subst (InModule p n (terms_of gens.vectors)) (sym is) (in_multiple p n (terms_of gens.vectors) c (t ∷ x) (positive p prime) i);
              };
              monic = m.0;
              fresh = λ w. o.0 (subst (IsLeadMultiple bs) back.1 w);
            }

    pub new_below : IsBelowAll gens e (bs ++ b.terms ∷ []) v
    new_below m q h =
        settled_law.remainder gens.prime gens.variables gens.shift bs m v r b.terms prime at.graded left.vector some (left.low m h)
        (subst (λ k. IsOfDegree gens.shift k r) (sym q) left.degree) monic (left.below m q h)

    pub new_in : All (IsGenerator gens.prime gens.variables gens.shift) (bs ++ b.terms ∷ []) → InModule gens.prime gens.variables (bs ++ b.terms ∷ []) v
    new_in all =
        let p = gens.prime in
        let n = gens.variables in
        let cs = bs ++ b.terms ∷ [] in
        let old = in_larger p n bs cs (sub p v r) (positive p prime)
        (λ k d i. in_generator p n cs (get_or bs k d) (above_one p prime) (λ k d i. (all k d i).vector) (Contains-append_left bs (b.terms ∷ []) (get_or bs k d) (Contains-get_or bs k d i))) taken_in in
        subst (InModule p n cs) whole_is (in_add p n cs r (sub p v r) (positive p prime) (rest_by r known some monic) old)
      where
        rest_by : (x : List Term) → IsVector gens.prime x → x ≢ [] → IsMonicOf gens.prime x b.terms → InModule gens.prime gens.variables (bs ++ b.terms ∷ []) x
        rest_by [] k s m = absurd (s refl)
        rest_by (t ∷ x) k s m =
            let p = gens.prime in
            let n = gens.variables in
            let cs = bs ++ b.terms ∷ [] in
            let c = m.1.0 in
            let is = m.1.2 in
            let inverse = unscaled p c t x b.terms prime m.1.1 k.canonical m.0 is in
            let one : 1 % p ≡ 1 = let h = above_one p prime in mod-eq_of_lt h in
            subst (InModule p n cs)
            (ap (multiple p t.coeff) is ∙ multiple_multiple p t.coeff c (t ∷ x) ∙ multiple_residue p (t.coeff * c) 1 (t ∷ x) (inverse.0 ∙ sym one) ∙ multiple_one p (t ∷ x)
            ∙ canonical_same p (t ∷ x) k.canonical)
            (in_multiple p n cs t.coeff b.terms (positive p prime)
            (in_generator p n cs b.terms (above_one p prime) (λ k d i. (all k d i).vector) (Contains-push bs b.terms)))

-- ---- the basis with one more vector

module _ (gens : Gens) (e : ℕ) (prime : IsPrime gens.prime) (bs : List (List Term)) (grown : IsGrown gens e bs) (b : Polynomial) (new : IsNewAt gens e bs b) where
  generator_new : IsGenerator gens.prime gens.variables gens.shift b.terms
  generator_new = record { vector = new.member.graded; homogeneous = (e, new.member.degree) }

  lead_degree : degree_at gens.shift (lead_mono b.terms) ≡ e
  lead_degree = go b.terms new.monic new.member.degree
    where
      go : (f : List Term) → IsMonic f → IsOfDegree gens.shift e f → degree_at gens.shift (lead_mono f) ≡ e
      go [] m h = absurd m
      go (t ∷ f) m h = h.0

  graded_at : (k : ℕ) (d : List Term) → k < length bs → IsGraded gens.variables (lead_mono (get_or bs k d))
  graded_at k d i = lead_graded gens.variables (get_or bs k d) (grown.below.vectors k d i).vector.graded

  graded_new : IsGraded gens.variables (lead_mono b.terms)
  graded_new = lead_graded gens.variables b.terms new.member.graded.graded

  pub generators_new : All (IsGenerator gens.prime gens.variables gens.shift) (bs ++ b.terms ∷ [])
  generators_new = All-push (IsGenerator gens.prime gens.variables gens.shift) bs b.terms grown.below.vectors generator_new

  apart_new : (k : ℕ) (d : List Term) → k < length bs
      → (Divides (lead_mono (get_or bs k d)) (lead_mono b.terms) → ⊥) × (Divides (lead_mono b.terms) (lead_mono (get_or bs k d)) → ⊥)
  apart_new k d i =
      let f = get_or bs k d in
      let c = Contains-get_or bs k d i in (
        λ w. new.fresh (f, c, w),
        λ w.
            let l = grown.low k d i in
            let q = lead_degree in
            let same = divides_same gens.shift (lead_mono b.terms) (lead_mono f) (same_shape gens.variables (lead_mono b.terms) (lead_mono f) graded_new (graded_at k d i)) w (omega arith) in
            new.fresh (f, c, subst (λ m. Divides m (lead_mono b.terms)) same (record { same = refl; none_greater = λ j. omega arith })),
      )

  pub grown_new : IsGrown gens e (bs ++ b.terms ∷ [])
  grown_new =
      let p = gens.prime in
      let n = gens.variables in
      let shift = gens.shift in
      let cs = bs ++ b.terms ∷ [] in
      let q = lead_degree in
      record {
        below = record {
          vectors = generators_new;
          monic = All-push IsMonic bs b.terms grown.below.monic new.monic;
          members = All-push (InModule p n (terms_of gens.vectors)) bs b.terms grown.below.members new.member.member;
          generators = λ t f c l. in_larger p n bs cs (t ∷ f) (positive p prime)
              (λ k d i. in_generator p n cs (get_or bs k d) (above_one p prime) (λ k d i. (generators_new k d i).vector) (Contains-append_left bs (b.terms ∷ []) (get_or bs k d) (Contains-get_or bs k d i)))
              (grown.below.generators t f c l);
          apart = all_pairs_push (λ f g. (Divides (lead_mono f) (lead_mono g) → ⊥) × (Divides (lead_mono g) (lead_mono f) → ⊥)) bs b.terms grown.below.apart apart_new;
          settled = all_pairs_push (λ f g. (lead_mono f).component ≡ (lead_mono g).component → degree_at shift (lead_lcm f g) < e → IsSettled p n shift cs f g) bs b.terms
              (λ i j d a c s l. settled_law.more p n shift bs cs (lead_lcm (get_or bs i d) (get_or bs j d)) (s_vector p (get_or bs i d) (get_or bs j d))
              (λ x w. Contains-append_left bs (b.terms ∷ []) x w) (grown.below.settled i j d a c s l))
              (λ k d i s l.
              let h = divides_degree shift (lead_mono b.terms) (lead_lcm (get_or bs k d) b.terms) (lcm_right n (lead_mono (get_or bs k d)) (lead_mono b.terms) (graded_at k d i) graded_new s) in
              absurd (omega arith));
        };
        low = All-push (λ c. degree_at shift (lead_mono c) ≤ e) bs b.terms grown.low (omega arith);
      }
