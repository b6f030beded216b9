-- The steps of the search: the queue after a monomial is tried.
use Rattle.std.proofs.Common.{◌≡◌, ◌≢◌, ◌⊎◌, inl, inr, ℕ, ◌+◌, ◌-◌, ◌<◌, ◌≤◌, List, [], ◌∷◌, ◌++◌, map, length, get_or, sym, ap, ◌∙◌, subst, arith}
use Rattle.std.specs.List.{Contains}
use Rattle.std.specs.declared.cmp.Ordering.{Ordering}
use Rattle.std.specs.declared.cmp.Ordering.TheVariants.{Less, Equal, Greater}
use Rattle.std.specs.Ordering.{nat_cmp, MatchOrdering}
use Rattle.std.specs.Cmp.{ranks}
use Rattle.std.proofs.lemmas.List.{get_or_default, length_push}
use Rattle.std.proofs.lemmas.List.Elements.{Contains-push, Contains-push_cases, Contains-append_left}
use Rattle.monomials.specs.Mono.{Monomial, Divides, cmp_dp, times, total_degree, unit, variable}
use Rattle.monomials.proofs.Factors.{divides_self}
use Rattle.monomials.proofs.Order.{self_dp}
use Rattle.polys.specs.declared.term.Term.{Term}
use Rattle.polys.specs.Terms.{IsAffine}
use Rattle.polys.proofs.Affine.{affine_times, affine_unit}
use Rattle.ideal_laws.proofs.Unique.{contains_cases, contains_head, contains_none}
use Rattle.graded_modules.specs.Vector.{lead_mono}
use Rattle.graded_modules.specs.Module.{IsLeadMultiple}
use Rattle.homogenising.proofs.Found.{search_lead}
use Rattle.standard_monomials.specs.Standard.{IsStandard, polynomial_of}
use Rattle.standard_monomials.specs.Finding.{GainsMultiples, IsNext}
use Rattle.standard_monomials.proofs.Lists.{contains_map, contained_map}
use Rattle.standard_monomials.proofs.Powers.{affine_power}
use Rattle.standard_monomials.proofs.Search.{found_law}
use Rattle.standard_monomials.proofs.Steps.{degree_next}
use Rattle.corner_basis.specs.Staircase.{HasDivisor, IsAmong, IsPassed, IsSearch}

-- at first 1 alone is to be tried
pub search_start : (n : ℕ) → IsSearch n 0 (unit ∷ []) [] []
search_start n = record {
  rising = λ i j d a b. absurd (omega arith);
  affine = λ m d. subst (IsAffine n) (only m (contains_cases unit m [] d)) (affine_unit n);
  low = λ m d. subst (λ z. total_degree z.exponents ≤ 0) (only m (contains_cases unit m [] d)) (omega arith);
  passed = λ i a b. absurd (omega arith);
  only = λ m d. none m d;
  first = contains_head unit [];
  closed = λ m v d. absurd (contains_none m d);
}
  where
    only : (w : Monomial) → (unit ≡ w) ⊎ Contains [] w → unit ≡ w
    only w (inl e) = e
    only w (inr c) = absurd (contains_none w c)

    none : (m : Monomial) → IsAmong [] [] m → (i : ℕ) × (i < 0) × (i < length (unit ∷ [])) × (get_or (unit ∷ []) i unit ≡ m)
    none m (inl d) = absurd (contains_none m d)
    none m (inr d) = absurd (contains_none m d)

wider_divisor : (ls : List Monomial) (m w : Monomial) → HasDivisor ls w → HasDivisor (ls ++ m ∷ []) w
wider_divisor ls m w d = (d.0, Contains-append_left ls (m ∷ []) d.0 d.1, d.2)

module _ (n next : ℕ) (queue ss ls : List Monomial) (h : IsSearch n next queue ss ls) (inside : next < length queue) (m : Monomial) (is : m ≡ get_or queue next m) where
  at : get_or queue next unit ≡ m
  at = get_or_default queue next unit m inside ∙ sym is

  pub here : Contains queue m
  here = (next, inside, sym is)

  -- what was tried is below
  pub above : (w : Monomial) → IsAmong ss ls w → cmp_dp w m ≡ Less
  above w d = let q = h.only w d in
      subst (λ z. cmp_dp z m ≡ Less) q.3 (subst (λ z. cmp_dp (get_or queue q.0 unit) z ≡ Less) at (h.rising q.0 next unit q.1 inside))

  -- the earlier ones and this one
  each : (Q : ℕ → Type 0) → ((i : ℕ) → i < next → Q i) → Q next → (i : ℕ) → i < next + 1 → Q i
  each Q f l i a = go (nat_cmp i next) (ranks i next)
    where
      go : (r : Ordering) → MatchOrdering r (i < next) (i ≡ next) (next < i) → Q i
      go Less b = f i b
      go Equal b = subst Q (sym b) l
      go Greater b = absurd (omega arith)

  later : (ls : List Monomial) (w : Monomial) → (i : ℕ) × (i < next) × (i < length queue) × (get_or queue i unit ≡ w) → (i : ℕ) × (i < next + 1) × (i < length queue) × (get_or queue i unit ≡ w)
  later ls w q = (q.0, (let a = q.1 in omega arith), q.2, q.3)

  pub search_skip : HasDivisor ls m → IsSearch n (next + 1) queue ss ls
  search_skip d = record {
    rising = h.rising;
    affine = h.affine;
    low = h.low;
    passed = each (λ i. i < length queue → IsPassed ss ls (get_or queue i unit)) h.passed (λ l. inr (subst (HasDivisor ls) (sym at) d));
    only = λ w e. later ls w (h.only w e);
    first = h.first;
    closed = h.closed;
  }

  pub search_lead_found : IsSearch n (next + 1) queue ss (ls ++ m ∷ [])
  search_lead_found = record {
    rising = h.rising;
    affine = h.affine;
    low = h.low;
    passed = each (λ i. i < length queue → IsPassed ss (ls ++ m ∷ []) (get_or queue i unit)) (λ i a b. wider (get_or queue i unit) (h.passed i a b))
        (λ l. inr (subst (HasDivisor (ls ++ m ∷ [])) (sym at) (m, Contains-push ls m, divides_self m)));
    only = λ w e. among w e;
    first = h.first;
    closed = h.closed;
  }
    where
      wider : (w : Monomial) → IsPassed ss ls w → IsPassed ss (ls ++ m ∷ []) w
      wider w (inl d) = inl d
      wider w (inr d) = inr (wider_divisor ls m w d)

      among : (w : Monomial) → IsAmong ss (ls ++ m ∷ []) w → (i : ℕ) × (i < next + 1) × (i < length queue) × (get_or queue i unit ≡ w)
      among w (inl d) = later ls w (h.only w (inl d))
      among w (inr d) = go (Contains-push_cases ls m w d)
        where
          go : Contains ls w ⊎ (m ≡ w) → (i : ℕ) × (i < next + 1) × (i < length queue) × (get_or queue i unit ≡ w)
          go (inl e) = later ls w (h.only w (inr e))
          go (inr e) = (next, (omega arith), inside, at ∙ e)

  module _ (six : n ≤ 6) (new : List Monomial) (g : GainsMultiples [] n m queue new) where
    no_greater : (i : ℕ) → i < next + 1 → cmp_dp (get_or queue i unit) m ≢ Greater
    no_greater = each (λ i. cmp_dp (get_or queue i unit) m ≢ Greater)
        (λ i a e. let q : Less ≡ Greater = sym (subst (λ z. cmp_dp (get_or queue i unit) z ≡ Less) at (h.rising i next unit a inside)) ∙ e in absurd (cc))
        (λ e. let q : Equal ≡ Greater = sym (self_dp m) ∙ ap (λ z. cmp_dp z m) (sym at) ∙ e in absurd (cc))

    stays : (i : ℕ) → i < next + 1 → get_or new i unit ≡ get_or queue i unit
    stays i a = g.kept i unit (omega arith) (no_greater i a)

    pub search_standard : IsSearch n (next + 1) new (ss ++ m ∷ []) ls
    search_standard = record {
      rising = g.rising;
      affine = λ w d. affine w ((g.members w).0 d);
      low = λ w d. low w ((g.members w).0 d);
      passed = λ i a b. subst (IsPassed (ss ++ m ∷ []) ls) (sym (stays i a)) (passed i a);
      only = λ w d. among w d;
      first = (g.members unit).1 (inl h.first);
      closed = λ w v d l. (g.members (times w (variable v))).1 (closed w v l (Contains-push_cases ss m w d));
    }
      where
        affine : (w : Monomial) → Contains queue w ⊎ IsNext [] n m w → IsAffine n w
        affine w (inl d) = h.affine w d
        affine w (inr x) = subst (IsAffine n) x.multiple (affine_times n m (variable x.factor) (h.affine m here) (affine_power n x.factor 1 x.among))

        long : length (ss ++ m ∷ []) ≡ length ss + 1
        long = length_push ss m

        low : (w : Monomial) → Contains queue w ⊎ IsNext [] n m w → total_degree w.exponents ≤ length (ss ++ m ∷ [])
        low w (inl d) = let a = h.low w d in let l = long in omega arith
        low w (inr x) =
            let a = h.low m here in
            let b = x.among in
            let d = degree_next m x.factor (omega arith) in
            let l = long in
            subst (λ z. total_degree z.exponents ≤ length (ss ++ m ∷ [])) x.multiple (omega arith)

        wider : (w : Monomial) → IsPassed ss ls w → IsPassed (ss ++ m ∷ []) ls w
        wider w (inl d) = inl (Contains-append_left ss (m ∷ []) w d)
        wider w (inr d) = inr d

        passed : (i : ℕ) → i < next + 1 → IsPassed (ss ++ m ∷ []) ls (get_or queue i unit)
        passed = each (λ i. IsPassed (ss ++ m ∷ []) ls (get_or queue i unit)) (λ i a. wider (get_or queue i unit) (h.passed i a (omega arith)))
            (inl (subst (Contains (ss ++ m ∷ [])) (sym at) (Contains-push ss m)))

        moved : (w : Monomial) → (i : ℕ) × (i < next + 1) × (i < length queue) × (get_or queue i unit ≡ w) → (i : ℕ) × (i < next + 1) × (i < length new) × (get_or new i unit ≡ w)
        moved w q = (q.0, q.1, (let a = q.2 in let b = g.longer in omega arith), stays q.0 q.1 ∙ q.3)

        among : (w : Monomial) → IsAmong (ss ++ m ∷ []) ls w → (i : ℕ) × (i < next + 1) × (i < length new) × (get_or new i unit ≡ w)
        among w (inr d) = moved w (later ls w (h.only w (inr d)))
        among w (inl d) = go (Contains-push_cases ss m w d)
          where
            go : Contains ss w ⊎ (m ≡ w) → (i : ℕ) × (i < next + 1) × (i < length new) × (get_or new i unit ≡ w)
            go (inl e) = moved w (later ls w (h.only w (inl e)))
            go (inr e) = moved w (next, (omega arith), inside, at ∙ e)

        closed : (w : Monomial) (v : ℕ) → v < n → Contains ss w ⊎ (m ≡ w) → Contains queue (times w (variable v)) ⊎ IsNext [] n m (times w (variable v))
        closed w v l (inl d) = inl (h.closed w v d l)
        closed w v l (inr e) = inr (record { factor = v; among = l; multiple = ap (λ z. times z (variable v)) e; outside = λ q. contains_none q.0 q.1 })

-- where the whole queue is tried, all monomials are
module _ (n next : ℕ) (queue ss ls : List Monomial) (h : IsSearch n next queue ss ls) (all : length queue ≤ next) (affine : (l : Monomial) → Contains ls l → IsAffine n l) where
  abbrev ds : List (List Term)
  ds = map polynomial_of ls

  divisor : (m : Monomial) → IsLeadMultiple (map polynomial_of ls) m → HasDivisor ls m
  divisor m q = let r = contained_map polynomial_of ls q.0 q.1 in (r.0, r.1, subst (λ z. Divides (lead_mono z) m) (sym r.2) q.2)

  multiple : (m : Monomial) → HasDivisor ls m → IsLeadMultiple (map polynomial_of ls) m
  multiple m q = (polynomial_of q.0, contains_map polynomial_of ls q.0 q.1, q.2)

  found : (m : Monomial) → IsStandard n (map polynomial_of ls) m → Contains queue m → Contains ss m
  found m s d = go (subst (IsPassed ss ls) (get_or_default queue d.0 unit m d.1 ∙ d.2) (h.passed d.0 (let a = d.1 in omega arith) d.1))
    where
      go : IsPassed ss ls m → Contains ss m
      go (inl e) = e
      go (inr e) = absurd (s.outside (multiple m e))

  pub search_all : (m : Monomial) → IsAffine n m → IsPassed ss ls m
  search_all m a = go (search_lead (map polynomial_of ls) m plain)
    where
      plain : (b : List Term) → Contains (map polynomial_of ls) b → (lead_mono b).component ≡ m.component
      plain b d = let r = contained_map polynomial_of ls b d in subst (λ z. (lead_mono z).component ≡ m.component) r.2 ((affine r.0 r.1).plain ∙ sym a.plain)

      go : IsLeadMultiple (map polynomial_of ls) m ⊎ ((b : List Term) → Contains (map polynomial_of ls) b → Divides (lead_mono b) m → ⊥) → IsPassed ss ls m
      go (inl q) = inr (divisor m q)
      go (inr q) = inl (found_law.search n (map polynomial_of ls) ss (λ s. found unit s h.first)
          (λ w v d l s. found (times w (variable v)) s (h.closed w v d l)) m (record { affine = a; outside = λ r. q r.0 r.1 r.2 }))
