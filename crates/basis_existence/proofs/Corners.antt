-- Above an ideal of finite dimension each variable has a power that is a lead, so the leads in a box give a standard basis, and the
-- corners lie in it.
use Rattle.std.proofs.Common.{◌≡◌, ◌↔◌, ◌⊎◌, inl, inr, ℕ, ◌%◌, ◌<◌, ◌≤◌, zero, suc, List, [], ◌∷◌, map, length, All, get_or, refl, sym, ap, ◌∙◌, subst, arith}
use Rattle.monomials.proofs.Factors.{divides_self}
use native.Mathlib.Decide.{ℕ_discrete}
use Rattle.std.specs.List.{Contains}
use Rattle.std.specs.declared.cmp.Ordering.{Ordering}
use Rattle.std.specs.declared.cmp.Ordering.TheVariants.{Less, Equal, Greater}
use Rattle.std.specs.Ordering.{nat_cmp, MatchOrdering}
use Rattle.std.specs.Cmp.{ranks}
use Rattle.std.proofs.lemmas.List.{length-map}
use Rattle.std.proofs.lemmas.List.Elements.{All-nil, All-cons, All-weaker, All-contains, All-contains_itself}
use Rattle.prime_field.specs.Primes.{IsPrime}
use Rattle.comm_ring.specs.Modules.{InSpan, Dependent}
use Rattle.comm_ring.proofs.Exchange as Exchange
use Rattle.comm_ring.proofs.Fields.{residue_field}
use Rattle.comm_ring.proofs.Modules.{Module}
use Rattle.monomials.specs.Mono.{Monomial, Divides}
use Rattle.polys.specs.declared.term.Term.{Term}
use Rattle.polys.specs.Terms.{EachMono, IsAffine, IsPoly, IsMonic, coefficient, sub}
use Rattle.polys.specs.Ideal.{InIdeal, number_combination, Spans, HasDim}
use Rattle.polys.specs.Reduced.{IsLead}
use Rattle.polys.specs.Ring.{Member}
use Rattle.ideal_laws.proofs.Ideals.{in_larger}
use Rattle.ideal_laws.proofs.Unique.{contains_head, contains_tail, contains_none}
use Rattle.graded_modules.specs.Vector.{lead_mono}
use Rattle.graded_modules.specs.Module.{IsLeadMultiple}
use Rattle.homogenising.proofs.Spanning.{pos}
use Rattle.standard_monomials.specs.Standard.{IsStandardBasis, IsStandard, AreDistinct, AreCorners, polynomial_of, variable_power}
use Rattle.basis_existence.specs.Laws.{LeadsAreDecided, CornersExist, LargerIdealsAreFinite}
use Rattle.standard_monomials.proofs.Bases.{generators}
use Rattle.standard_monomials.proofs.Counting.{few, dimension}
use Rattle.basis_existence.proofs.Decisions.{member_or_not}
use Rattle.standard_monomials.proofs.Finite.{Sifted, sift, box, standard_or_not, others_zero, of_exponents}
use Rattle.standard_monomials.proofs.Infinite.{powers, length-powers, distinct, power_of, each_power}
use Rattle.basis_existence.proofs.LeadsDecided.{IsMonicLead, at, boxed, monic_lead_or_not, lead_affine, lead_or_not}
use Rattle.standard_monomials.proofs.Lists.{each_of}
use Rattle.standard_monomials.proofs.Powers.{affine_power, at_place, off_place, power_divides}
use Rattle.standard_monomials.proofs.Remainders.{basis_polys}
use Rattle.standard_monomials.proofs.Rising.{rising_distinct}
use Rattle.basis_existence.proofs.Sorting.{Sorted, sort}
use Rattle.standard_monomials.proofs.Space as Space
use Rattle.standard_monomials.proofs.Sums.{all_zero, sum_of, sum_within, monomial_polys}
use Rattle.ideal_laws.proofs.Members.{lift, length-lift}

-- no number is above B, or one is
low_or_high : (B : ℕ) (a : List ℕ) → ((i : ℕ) → get_or a i 0 ≤ B) ⊎ ((i : ℕ) × (i < length a) × (B < get_or a i 0))
low_or_high B [] = inl (λ i. omega arith)
low_or_high B (x ∷ a) = go (nat_cmp B x) (ranks B x) (low_or_high B a)
  where
    go : (r : Ordering) → MatchOrdering r (B < x) (B ≡ x) (x < B) → ((i : ℕ) → get_or a i 0 ≤ B) ⊎ ((i : ℕ) × (i < length a) × (B < get_or a i 0))
        → ((i : ℕ) → get_or (x ∷ a) i 0 ≤ B) ⊎ ((i : ℕ) × (i < length (x ∷ a)) × (B < get_or (x ∷ a) i 0))
    go Less l k = inr (0, (omega arith), l)
    go r l (inr k) = inr (suc k.0, (let h = k.1 in omega arith), k.2)
    go Equal l (inl k) = inl (λ i. each i)
      where
        each : (i : ℕ) → get_or (x ∷ a) i 0 ≤ B
        each zero = omega arith
        each (suc i) = k i
    go Greater l (inl k) = inl (λ i. each i)
      where
        each : (i : ℕ) → get_or (x ∷ a) i 0 ≤ B
        each zero = omega arith
        each (suc i) = k i

module _ (p n : ℕ) (prime : IsPrime p) (hs : List (List Term)) (polys : All (IsPoly p n) hs) (decide : (f : List Term) → IsPoly p n f → Dec (InIdeal p n hs f))
    (us : List (List Term)) (spans : Spans p n hs us) where
  abbrev V : Module (Space.K p n prime)
  V = Space.space p n prime hs

  -- one of more monomials than span is a lead
  dependent_lead : (ms : List Monomial) → AreDistinct ms → All (IsAffine n) ms → length us < length ms → (m : Monomial) × Contains ms m × IsLead p n hs m
  dependent_lead ms d a l = go (sum_of p dependent.0 ms) refl
    where
      ms_polys : All (IsPoly p n) (map polynomial_of ms)
      ms_polys = monomial_polys p n prime ms a

      as_many : length (lift p n (map polynomial_of ms) ms_polys) ≡ length ms
      as_many = length-lift p n (map polynomial_of ms) ms_polys ∙ length-map ms polynomial_of

      within : (fs : List (Member p n)) → All (InSpan V.ops (lift p n us spans.polys)) fs
      within [] = All-nil (InSpan V.ops (lift p n us spans.polys))
      within (f ∷ fs) = All-cons (InSpan V.ops (lift p n us spans.polys)) f fs (Space.spanned p n prime hs us spans f) (within fs)

      dependent : Dependent (Space.K p n prime).ops V.ops (lift p n (map polynomial_of ms) ms_polys)
      dependent = Exchange.dependent_many (Space.K p n prime) (residue_field p prime) V (lift p n (map polynomial_of ms) ms_polys) (lift p n us spans.polys)
          (within (lift p n (map polynomial_of ms) ms_polys)) (let e = as_many in let k = length-lift p n us spans.polys in omega arith)

      inside : InIdeal p n hs (sum_of p dependent.0 ms)
      inside = Space.vanishing p n prime hs dependent.0 (map polynomial_of ms) ms_polys dependent.2

      go : (f : List Term) → sum_of p dependent.0 ms ≡ f → (m : Monomial) × Contains ms m × IsLead p n hs m
      go [] e = absurd (dependent.3 (all_zero p dependent.0 ms d (dependent.1 ∙ as_many) (λ m k. ap (λ g. coefficient g m % p) e)))
      go (t ∷ f) e =
          let w : EachMono (Contains ms) (t ∷ f) = subst (EachMono (Contains ms)) e (sum_within p dependent.0 ms) in
          (t.mono, w.0, (t, f, subst (InIdeal p n hs) e inside, refl))

  abbrev bound : ℕ
  bound = length us

  abbrev candidates : List Monomial
  candidates = map of_exponents (box bound 7)

  -- a power of each variable is a lead, with an exponent up to the number of what spans
  power_lead : (v : ℕ) → v < 7 → v < n → (e : ℕ) × (e ≤ bound) × IsLead p n hs (variable_power v e)
  power_lead v seven l =
      let d = dependent_lead (powers v bound) (distinct v bound seven) (each_power (IsAffine n) v bound (λ e. affine_power n v e l)) (let k = length-powers v bound in omega arith) in
      let e = power_of v bound d.0 d.1 in
      (e.0, e.1, subst (IsLead p n hs) (sym e.2) d.2)

  power_boxed : (v e : ℕ) → v < 7 → v < n → e ≤ bound → Contains candidates (variable_power v e)
  power_boxed v e seven l h = boxed bound n (variable_power v e) (affine_power n v e l) (λ i. go i (ℕ_discrete i v))
    where
      go : (i : ℕ) → Dec (i ≡ v) → get_or (variable_power v e).exponents i 0 ≤ bound
      go i (yes q) = subst (λ j. get_or (variable_power v e).exponents j 0 ≤ bound) (sym q) (let k = at_place 7 v e seven in omega arith)
      go i (no d) = let k = off_place 7 v e i d in omega arith

  -- ---- monic members with the leads among a list of monomials

  abbrev IsLeadOf : List (List Term) → Monomial → Type 0
  IsLeadOf bs m = (b : List Term) × Contains bs b × (lead_mono b ≡ m)

  monic_lead : (w : Monomial) → IsLead p n hs w → IsMonicLead p n hs w
  monic_lead w l = go (monic_lead_or_not p n prime hs polys decide w (lead_affine p n prime hs polys decide w l))
    where
      go : IsMonicLead p n hs w ⊎ (IsLead p n hs w → ⊥) → IsMonicLead p n hs w
      go (inl g) = g
      go (inr o) = absurd (o l)

  record Collected (ms : List Monomial) : Type 0 where
    basis : List (List Term)
    members : All (InIdeal p n hs) basis
    monic : All IsMonic basis
    found : (m : Monomial) → Contains ms m → IsLead p n hs m → IsLeadOf basis m

  collect_more : (w : Monomial) (ms : List Monomial) → Collected ms → Dec (IsLead p n hs w) → Collected (w ∷ ms)
  collect_more w ms k (yes l) =
      let g = monic_lead w l in record {
        basis = (at w ∷ g.0) ∷ k.basis;
        members = All-cons (InIdeal p n hs) (at w ∷ g.0) k.basis g.1 k.members;
        monic = All-cons IsMonic (at w ∷ g.0) k.basis refl k.monic;
        found = each_of (λ m. IsLead p n hs m → IsLeadOf ((at w ∷ g.0) ∷ k.basis) m) w ms (λ l. (at w ∷ g.0, contains_head (at w ∷ g.0) k.basis, refl))
            (λ m c l. let b = k.found m c l in (b.0, contains_tail (at w ∷ g.0) b.0 k.basis b.1, b.2));
      }
  collect_more w ms k (no o) = record {
    basis = k.basis;
    members = k.members;
    monic = k.monic;
    found = each_of (λ m. IsLead p n hs m → IsLeadOf k.basis m) w ms (λ l. absurd (o l)) k.found;
  }

  collect : (ms : List Monomial) → Collected ms
  collect [] = record { basis = []; members = All-nil (InIdeal p n hs); monic = All-nil IsMonic; found = λ m c l. absurd (contains_none m c) }
  collect (w ∷ ms) = collect_more w ms (collect ms) (lead_or_not p n prime hs polys decide w)

  -- ---- the standard basis and its standard monomials

  abbrev whole : Collected candidates
  whole = collect candidates

  -- a monomial has small exponents, or is a multiple of a lead
  small_or_multiple : (m : Monomial) → IsAffine n m → ((i : ℕ) → get_or m.exponents i 0 ≤ bound) ⊎ IsLeadMultiple whole.basis m
  small_or_multiple m a = go (low_or_high bound m.exponents)
    where
      multiple : (i : ℕ) → i < 7 → bound < get_or m.exponents i 0 → (r : Ordering) → MatchOrdering r (i < n) (i ≡ n) (n < i) → IsLeadMultiple whole.basis m
      multiple i seven high Less l =
          let e = power_lead i seven l in
          let b = whole.found (variable_power i e.0) (power_boxed i e.0 seven l e.1) e.2 in
          (b.0, b.1, subst (λ w. Divides w m) (sym b.2) (power_divides i e.0 m a.plain (let h = e.1 in omega arith)))
      multiple i seven high Equal l = absurd (let z = others_zero n m.exponents i a.first (omega arith) in omega arith)
      multiple i seven high Greater l = absurd (let z = others_zero n m.exponents i a.first (omega arith) in omega arith)

      go : ((i : ℕ) → get_or m.exponents i 0 ≤ bound) ⊎ ((i : ℕ) × (i < length m.exponents) × (bound < get_or m.exponents i 0))
          → ((i : ℕ) → get_or m.exponents i 0 ≤ bound) ⊎ IsLeadMultiple whole.basis m
      go (inl h) = inl h
      go (inr k) = inr (multiple k.0 (let l = k.1 in let s = a.seven in omega arith) k.2 (nat_cmp k.0 n) (ranks k.0 n))

  standard : IsStandardBasis p n hs whole.basis
  standard = record { members = whole.members; monic = whole.monic; leads = λ t f i. go t f i (small_or_multiple t.mono (lead_affine p n prime hs polys decide t.mono (t, f, i, refl))) }
    where
      go : (t : Term) (f : List Term) → InIdeal p n hs (t ∷ f) → ((i : ℕ) → get_or t.mono.exponents i 0 ≤ bound) ⊎ IsLeadMultiple whole.basis t.mono → IsLeadMultiple whole.basis t.mono
      go t f i (inl h) =
          let b = whole.found t.mono (boxed bound n t.mono (lead_affine p n prime hs polys decide t.mono (t, f, i, refl)) h) (t, f, i, refl) in
          (b.0, b.1, subst (λ w. Divides w t.mono) (sym b.2) (divides_self t.mono))
      go t f i (inr d) = d

  pub corners : (ms : List Monomial) × AreCorners p n hs ms
  corners = (ranked.sorted, record { basis = whole.basis; standard = standard; all = record { distinct = rising_distinct ranked.sorted ranked.rising; exact = exact }; rising = ranked.rising })
    where
      or_not : (m : Monomial) → IsStandard n whole.basis m ⊎ (IsStandard n whole.basis m → ⊥)
      or_not = standard_or_not p n whole.basis (basis_polys p n prime hs whole.basis polys standard)

      kept : Sifted (IsStandard n whole.basis) or_not candidates
      kept = sift (IsStandard n whole.basis) or_not candidates

      ranked : Sorted kept.kept
      ranked = sort kept.kept

      small : (m : Monomial) → IsStandard n whole.basis m → ((i : ℕ) → get_or m.exponents i 0 ≤ bound) ⊎ IsLeadMultiple whole.basis m → Contains candidates m
      small m s (inl h) = boxed bound n m s.affine h
      small m s (inr d) = absurd (s.outside d)

      exact : (m : Monomial) → Contains ranked.sorted m ↔ IsStandard n whole.basis m
      exact m = (
        (λ c. All-contains (IsStandard n whole.basis) kept.kept m kept.holds ((ranked.exact m).0 c)),
        (λ s. (ranked.exact m).1 (kept.whole m (small m s (small_or_multiple m s.affine)) s)),
      )

-- ---- an ideal of finite dimension, and a larger one

module _ (p n : ℕ) (gs : List (List Term)) (N : ℕ) (prime : IsPrime p) (gp : All (IsPoly p n) gs) (d : HasDim p n gs N) where
  in_or_not : (f : List Term) → IsPoly p n f → Dec (InIdeal p n gs f)
  in_or_not = member_or_not p n gs gs N prime gp gp (generators p n gs prime gp) d

  pub lead_or_none : (m : Monomial) → Dec (IsLead p n gs m)
  lead_or_none = lead_or_not p n prime gs gp in_or_not

  pub finite_corners : (ms : List Monomial) × AreCorners p n gs ms
  finite_corners = corners p n prime gs gp in_or_not d.basis d.spans

  module _ (hs : List (List Term)) (hp : All (IsPoly p n) hs) (holds : All (InIdeal p n hs) gs) where
    -- what spans modulo an ideal spans modulo a larger one
    still_spans : Spans p n hs d.basis
    still_spans = record {
      polys = d.spans.polys;
      each = λ f h. let s = d.spans.each f h in record {
        residues = s.residues;
        below = s.below;
        as_many = s.as_many;
        close = in_larger p n gs hs (sub p f (number_combination p s.residues d.basis)) (pos p n prime) holds s.close;
      };
    }

    larger_dimension : (M : ℕ) × (M ≤ N) × HasDim p n hs M
    larger_dimension = go (corners p n prime hs hp (member_or_not p n gs hs N prime gp hp holds d) d.basis still_spans)
      where
        go : (ms : List Monomial) × AreCorners p n hs ms → (M : ℕ) × (M ≤ N) × HasDim p n hs M
        go (ms, c) =
            let each : All (IsStandard n c.basis) ms = All-weaker (Contains ms) (IsStandard n c.basis) (λ m k. (c.all.exact m).0 k) ms (All-contains_itself ms) in
            let l : length ms ≤ length d.basis = few p n prime hs c.basis hp c.standard ms (record { distinct = c.all.distinct; each = each }) d.basis still_spans in
            (length ms, subst (λ k. length ms ≤ k) d.as_many l, dimension p n prime hs c.basis hp c.standard ms c.all)

pub leads_law : LeadsAreDecided
leads_law p n gs N prime gp d m = lead_or_none p n gs N prime gp d m

pub corners_law : CornersExist
corners_law p n gs N prime gp d = finite_corners p n gs N prime gp d

pub larger_law : LargerIdealsAreFinite
larger_law p n gs hs N prime gp hp holds d = larger_dimension p n gs N prime gp d hs hp holds
