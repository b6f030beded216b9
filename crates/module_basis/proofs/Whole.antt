-- The basis after the last degree.
use Rattle.std.proofs.Common.{◌≡◌, inl, inr, ℕ, ◌+◌, ◌<◌, ◌≤◌, suc, List, [], ◌∷◌, length, get_or, sym, ap, ◌∙◌, subst, arith}
use Rattle.std.specs.List.{All, AllPairs, Contains}
use Rattle.std.proofs.lemmas.Bool.{cases_lt}
use Rattle.std.proofs.lemmas.List.{get_or_default, get_or-map}
use Rattle.std.proofs.lemmas.List.Elements.{All-nil, Contains-get_or}
use Rattle.prime_field.specs.Primes.{IsPrime}
use Rattle.polys.specs.declared.term.Term.{Term}
use Rattle.polys.specs.Poly.{Polynomial, IsVector, terms_of}
use Rattle.polys.specs.Terms.{EachMono, IsMonic}
use Rattle.graded_modules.specs.Vector.{IsGenerator, IsGradedVector, IsOfDegree, degree_at, lead_mono}
use Rattle.graded_modules.specs.Module.{InModule, IsLeadMultiple}
use Rattle.graded_modules.specs.SVector.{lead_lcm}
use Rattle.graded_modules.specs.Deep.{HasHighVector, IsDeep}
use Rattle.graded_modules.specs.Bases.{IsBasisBelow, SpanOneModule, IsNormalForm}
use Rattle.graded_modules.proofs.Graded.{lead_graded}
use Rattle.graded_modules.proofs.Bases.{basis_law}
use Rattle.graded_modules.proofs.Members.{in_generator}
use Rattle.prime_field.proofs.Table.{above_one}
use Rattle.graded_modules.proofs.Reduced.{reduced_law, normal_law}
use Rattle.module_basis.specs.Gens.{AreGens, IsHomogeneousOver}
use Rattle.module_division.specs.Vectors.{member}
use Rattle.module_basis.specs.declared.gens.Gens.{Gens}
use Rattle.module_basis.specs.declared.growing.Growing.{Growing}
use Rattle.module_basis.specs.Basis.{IsBasis, IsHigh}
use Rattle.module_division.specs.Division.{IsDivisor, Reduces}
use Rattle.module_division.specs.Reduction.{IsInterreduced}
use Rattle.module_basis.specs.Growing.{pair_degree, IsPair, IsGrown, MayGrow}
use Rattle.module_division.proofs.Lists.{count_lists, divisor_vectors, place_of}
use Rattle.module_basis.proofs.Growth.{divisor_of}
use Rattle.module_basis.proofs.Joining.{all_generators}
use Rattle.module_division.proofs.Reductions.{graded_remainder, each_at}
use Rattle.module_division.proofs.Reduced.{monic_all, covered, rising_all, apart_all, outside_all, generators_all, members_all, low_all}

-- nothing is done
pub ready_first : (gens : Gens) (g : Growing) → g.basis.items ≡ [] → g.pairs.items ≡ [] → MayGrow gens 0 g
ready_first gens g b ps = record {
  growing = record {
    primes = subst (All (λ f. f.prime ≡ gens.prime)) (sym b) (All-nil (λ f. f.prime ≡ gens.prime));
    grown = subst (λ fs. IsGrown gens 0 (terms_of fs)) (sym b) (record {
      below = record {
        vectors = All-nil (IsGenerator gens.prime gens.variables gens.shift);
        monic = All-nil IsMonic;
        members = All-nil (InModule gens.prime gens.variables (terms_of gens.vectors));
        generators = λ t f c l. absurd (omega arith);
        apart = λ i j d r l. absurd (omega arith);
        settled = λ i j d r l. absurd (omega arith);
      };
      low = All-nil (λ b. degree_at gens.shift (lead_mono b) ≤ 0);
    });
    pairs = subst (All (IsPair gens.shift (terms_of g.basis.items))) (sym ps) (All-nil (IsPair gens.shift (terms_of g.basis.items)));
  };
  late = subst (All (λ q. 0 ≤ q.degree)) (sym ps) (All-nil (λ q. 0 ≤ q.degree));
  awaited = λ i j r l. let n : length g.basis.items ≡ 0 = ap length b in absurd (omega arith);
}

-- what the answer says
pub record IsAnswer (gens : Gens) (cap : ℕ) (qs : List Polynomial) : Type 0 where
  pub basis : IsBasis (record { prime = gens.prime; variables = gens.variables; shift = gens.shift; vectors = qs })
  pub one_module : SpanOneModule gens.prime gens.variables (terms_of gens.vectors) (terms_of qs)
  pub not_deep : IsDeep gens.prime gens.variables gens.shift (terms_of gens.vectors) cap → ⊥
  pub low : All (λ b. degree_at gens.shift (lead_mono b) ≤ cap) (terms_of qs)

pub answered : (gens : Gens) → AreGens gens → IsPrime gens.prime → (cap e : ℕ) → cap ≤ 1000 → (g : Growing) → MayGrow gens e g → e ≡ cap + 1 → g.cap ≡ cap
    → (HasHighVector gens.shift (terms_of gens.vectors) cap → ⊥) → All (λ b. degree_at gens.shift (lead_mono b) ≤ cap) (terms_of g.basis.items)
    → (qs : List Polynomial) → IsInterreduced gens.prime (terms_of g.basis.items) qs → IsAnswer gens cap qs
answered gens are prime cap e small g ready last c high low qs h =
    let p = gens.prime in
    let n = gens.variables in
    let shift = gens.shift in
    let gs = terms_of gens.vectors in
    let bs = terms_of g.basis.items in
    let allgs = all_generators gens are in
    let s : e ≡ suc cap = omega arith in
    let b = ready.growing.grown.below in
    let count = count_lists g.basis.items in
    let pairs : AllPairs (λ f g. (lead_mono f).component ≡ (lead_mono g).component → degree_at shift (lead_lcm f g) ≤ cap) bs =
    λ i j d r l one.
    let mi : get_or bs i d ≡ member bs i = get_or_default bs i d [] (omega arith) in
    let mj : get_or bs j d ≡ member bs j = get_or_default bs j d [] l in
    let a = ready.awaited i j r (omega arith) (ap (λ f. (lead_mono f).component) (sym mi) ∙ one ∙ ap (λ f. (lead_mono f).component) mj) in
    let low' = a.low in
    let at : degree_at shift (lead_lcm (get_or bs i d) (get_or bs j d)) ≡ pair_degree shift bs i j = (λ k. degree_at shift (lead_lcm (mi k) (mj k))) in
    omega arith in
    let few : (t : Term) (f : List Term) → Contains gs (t ∷ f) → degree_at shift t.mono ≤ cap =
    λ t f x. elim (cases_lt cap (degree_at shift t.mono)) [ inl l ↦ absurd (high (t, f, x, l)) | inr l ↦ l ] in
    let w = basis_law.whole p n shift gs bs cap prime allgs (subst (IsBasisBelow p n shift gs bs) s b) few pairs in
    let divs = divisors_at p n shift g.basis.items ready.growing.primes b.vectors b.monic (λ k d l. let x = low k d l in omega arith) in
    let vectors = divisor_vectors p g.basis.items divs in
    let seven : All (λ b. length (lead_mono b).exponents ≡ 7) bs = (λ k d l. (lead_graded n (get_or bs k d) (b.vectors k d l).vector.graded).seven) in
    let gen = generators_all p n shift prime bs b.monic b.vectors vectors qs h seven in
    let mon = monic_all p bs b.monic seven qs h in
    let lows = low_all p n shift prime bs b.monic b.vectors vectors qs h seven cap low in
    let r = reduced_law p n shift gs (terms_of qs) prime allgs (λ m x. covered p bs b.monic seven qs h m (w.1 m x)) (members_all p n shift prime bs b.monic b.vectors vectors qs h seven gs b.members)
    gen mon (rising_all p bs b.monic seven qs h) (apart_all p bs b.monic seven qs h) (outside_all p bs b.monic seven qs h) in
    record {
      basis = record {
        gens = record { some_variables = are.some_variables; six_variables = are.six_variables; vectors = over p n shift qs h.primes gen };
        reduced = r.0;
        divisors = divisors_at p n shift qs h.primes gen mon (λ k d l. let x = lows k d l in omega arith);
      };
      one_module = r.1;
      not_deep = w.0;
      low = lows;
    }
  where
    divisors_at : (p n shift : ℕ) (fs : List Polynomial) → All (λ f. f.prime ≡ p) fs → All (IsGenerator p n shift) (terms_of fs) → All IsMonic (terms_of fs)
        → All (λ b. degree_at shift (lead_mono b) ≤ 60000) (terms_of fs) → All (IsDivisor p) fs
    divisors_at p n shift fs primes gen mon low k d l =
        divisor_of p n shift (get_or fs k d) (primes k d l) (place_of (IsGenerator p n shift) fs gen k d l) (place_of IsMonic fs mon k d l) (place_of (λ b. degree_at shift (lead_mono b) ≤ 60000) fs low k d l)

    over : (p n shift : ℕ) (fs : List Polynomial) → All (λ f. f.prime ≡ p) fs → All (IsGenerator p n shift) (terms_of fs) → All (IsHomogeneousOver p n shift) fs
    over p n shift fs primes gen k d l = record { prime = primes k d l; vector = place_of (IsGenerator p n shift) fs gen k d l }

-- ---- normal forms

pub normal_of : (b : Gens) → IsBasis b → IsPrime b.prime → (v r : List Term) → IsGenerator b.prime b.variables b.shift v → Reduces b.prime (terms_of b.vectors) v r → IsVector b.prime r
    → EachMono (λ m. IsLeadMultiple (terms_of b.vectors) m → ⊥) r
    → IsNormalForm b.prime b.variables (terms_of b.vectors) v r × IsGradedVector b.prime b.variables r × ((e : ℕ) → IsOfDegree b.shift e v → IsOfDegree b.shift e r)
normal_of b h prime v r g d known outside =
    let p = b.prime in
    let n = b.variables in
    let bs = terms_of b.vectors in
    let vectors = divisor_vectors p b.vectors h.divisors in
    let all = h.reduced.vectors in
    let x = graded_remainder p n b.shift prime bs all vectors v r g.homogeneous.0 g.vector g.homogeneous.1 d known.canonical in (
      normal_law p n b.shift bs v r prime h.reduced g.vector x.vector
          (x.member bs (λ k d l. in_generator p n bs (get_or bs k d) (above_one p prime) (λ k d l. (all k d l).vector) (Contains-get_or bs k d l)))
          (λ m c. each_at (λ m. IsLeadMultiple bs m → ⊥) r m outside c),
      x.vector,
      λ e deg. (graded_remainder p n b.shift prime bs all vectors v r e g.vector deg d known.canonical).degree,
    )

-- ---- vectors above the cap

pub high_in : (shift cap : ℕ) (vs : List Polynomial) (k : ℕ) (v : Polynomial) → k < length vs → v ≡ get_or vs k v → IsHigh shift cap v.terms → HasHighVector shift (terms_of vs) cap
high_in shift cap vs k v h e (t, f, q, l) =
    let n = count_lists vs in
    let at : get_or (terms_of vs) k v.terms ≡ v.terms = get_or-map (λ (f : Polynomial). f.terms) vs k v v.terms h ∙ ap (λ (f : Polynomial). f.terms) (sym e) in
    (t, f, subst (Contains (terms_of vs)) q (k, omega arith, at), l)

pub none_high : (shift cap : ℕ) (vs : List Polynomial) → ((k : ℕ) (d : Polynomial) → k < length vs → IsHigh shift cap (get_or vs k d).terms → ⊥) → HasHighVector shift (terms_of vs) cap → ⊥
none_high shift cap vs none (t, f, (k, l, e), h) =
    let n = count_lists vs in
    let D : Polynomial = record { prime = 0; terms = t ∷ f } in
    none k D (omega arith) (t, f, sym (get_or-map (λ (g : Polynomial). g.terms) vs k D (t ∷ f) (omega arith)) ∙ e, h)

-- the vectors of low degree divide
pub last_divisors : (gens : Gens) (e cap : ℕ) (g : Growing) → cap ≤ 1000 → MayGrow gens e g → All (λ b. degree_at gens.shift (lead_mono b) ≤ cap) (terms_of g.basis.items) → All (IsDivisor gens.prime) g.basis.items
last_divisors gens e cap g small ready low k d l =
    let fs = g.basis.items in
    let b = ready.growing.grown.below in
    divisor_of gens.prime gens.variables gens.shift (get_or fs k d) (ready.growing.primes k d l) (place_of (IsGenerator gens.prime gens.variables gens.shift) fs b.vectors k d l)
    (place_of IsMonic fs b.monic k d l) (let x = place_of (λ c. degree_at gens.shift (lead_mono c) ≤ cap) fs low k d l in omega arith)

pub normal_at : (s b : Gens) → s ≡ b → IsBasis b → IsPrime b.prime → (v r : List Term) → IsGenerator s.prime s.variables s.shift v → Reduces b.prime (terms_of b.vectors) v r → IsVector b.prime r
    → EachMono (λ m. IsLeadMultiple (terms_of b.vectors) m → ⊥) r
    → IsNormalForm s.prime s.variables (terms_of s.vectors) v r × IsGradedVector s.prime s.variables r × ((e : ℕ) → IsOfDegree s.shift e v → IsOfDegree s.shift e r)
normal_at s b e h prime v r g d known outside =
    subst (λ x. IsNormalForm x.prime x.variables (terms_of x.vectors) v r × IsGradedVector x.prime x.variables r × ((e : ℕ) → IsOfDegree x.shift e v → IsOfDegree x.shift e r)) (sym e)
    (normal_of b h prime v r (subst (λ x. IsGenerator x.prime x.variables x.shift v) e g) d known outside)
