-- The pair of the newest vector of a basis with an earlier one.
use Rattle.std.proofs.Common.{◌≡◌, ◌≢◌, ◌⊎◌, inl, inr, ℕ, ◌+◌, ◌<◌, ◌≤◌, List, [], ◌∷◌, ◌++◌, length, get_or, refl, sym, ap, ◌∙◌, subst, arith, append-nil, append_assoc}
use Rattle.std.specs.List.{All, Contains}
use Rattle.std.proofs.lemmas.Bool.{cases_lt}
use Rattle.std.proofs.Math.Nat.{eq-or-lt_of_le}
use Rattle.std.proofs.lemmas.List.Elements.{All-push, All-append, All-nil, All-map, All-cons}
use Rattle.monomials.proofs.Factors.{divides_self}
use Rattle.prime_field.specs.Primes.{IsPrime}
use Rattle.monomials.specs.Mono.{Monomial, Divides, total_degree, common_multiple}
use Rattle.polys.specs.declared.term.Term.{Term}
use Rattle.polys.specs.Poly.{Polynomial, IsPlain, terms_of}
use Rattle.polys.specs.Terms.{EachMono}
use Rattle.graded_modules.specs.Vector.{IsGraded, IsGenerator, degree_at, lead_mono}
use Rattle.graded_modules.specs.SVector.{lead_lcm}
use Rattle.graded_modules.proofs.Graded.{lead_graded}
use Rattle.graded_modules.proofs.Cofactors.{divides_same, lcm_left, lcm_right, graded_lcm, same_shape}
use Rattle.graded_modules.proofs.Bases.{basis_law}
use Rattle.graded_modules.proofs.Settled.{settled_law}
use Rattle.module_basis.specs.Gens.{AreGens}
use Rattle.module_division.specs.Vectors.{member}
use Rattle.module_basis.specs.declared.gens.Gens.{Gens}
use Rattle.module_basis.specs.declared.growing.Growing.{Growing}
use Rattle.module_basis.specs.declared.pairs.Pair.{Pair}
use Rattle.module_basis.specs.Growing.{pair_degree, pair_of, AreOfOneComponent, IsPair, IsSettledPair, IsAwaited, IsGrown, IsGrowing, GainsPairs, HasHighLeads}
use Rattle.module_basis.proofs.Pairing.{paired}
use Rattle.module_division.proofs.Lists.{member_is, member_in}

pub all_generators : (gens : Gens) → AreGens gens → All (IsGenerator gens.prime gens.variables gens.shift) (terms_of gens.vectors)
all_generators gens h = All-map (IsGenerator gens.prime gens.variables gens.shift) (λ (f : Polynomial). f.terms) gens.vectors (λ k d i. (h.vectors k d i).vector)

module _ (gens : Gens) (are : AreGens gens) (prime : IsPrime gens.prime) (e cap : ℕ) (low : e ≤ cap) (bs : List (List Term)) (grown : IsGrown gens e bs)
    (i j : ℕ) (rising : i < j) (inside : j < length bs) (last : degree_at gens.shift (lead_mono (member bs j)) ≡ e) (one : AreOfOneComponent bs i j) where
  before : i < length bs
  before = omega arith

  graded : (k : ℕ) → k < length bs → IsGraded gens.variables (lead_mono (member bs k))
  graded k h = lead_graded gens.variables (member bs k) (grown.below.vectors k [] h).vector.graded

  differ : lead_mono (member bs i) ≢ lead_mono (member bs j)
  differ q = (grown.below.apart i j [] rising inside).0 (subst (Divides (lead_mono (member bs i))) q (divides_self (lead_mono (member bs i))))

  pub joined_deep : cap < pair_degree gens.shift bs i j → HasHighLeads gens cap
  joined_deep h =
      basis_law.deep gens.prime gens.variables gens.shift (terms_of gens.vectors) bs e cap (member bs i) (member bs j) prime (all_generators gens are) grown.below low grown.low
      (member_in bs i before) (member_in bs j inside) differ one h

  pub joined_late : e < pair_degree gens.shift bs i j
  joined_late = go (cases_lt e (pair_degree gens.shift bs i j))
    where
      go : (e < pair_degree gens.shift bs i j) ⊎ (pair_degree gens.shift bs i j ≤ e) → e < pair_degree gens.shift bs i j
      go (inl h) = h
      go (inr h) =
          let a = lead_mono (member bs i) in
          let b = lead_mono (member bs j) in
          let ga = graded i before in
          let gb = graded j inside in
          let same : b ≡ common_multiple a b =
          divides_same gens.shift b (common_multiple a b) (same_shape gens.variables b (common_multiple a b) gb (graded_lcm gens.variables a b ga gb)) (lcm_right gens.variables a b ga gb one) (omega arith) in
          absurd ((grown.below.apart i j [] rising inside).0 (subst (Divides a) (sym same) (lcm_left gens.variables a b ga gb one)))

  pub joined_coprime : EachMono IsPlain (member bs i) → EachMono IsPlain (member bs j)
      → total_degree (lead_lcm (member bs i) (member bs j)).exponents ≡ total_degree (lead_mono (member bs i)).exponents + total_degree (lead_mono (member bs j)).exponents
      → IsSettledPair gens bs i j
  joined_coprime u v t =
      settled_law.coprime gens.prime gens.variables gens.shift bs (member bs i) (member bs j)
      (paired gens.prime gens.variables gens.shift prime (terms_of gens.vectors) bs e grown.below i j before inside one)
      (member_in bs i before) (member_in bs j inside) u v t

  pub joined_pair : IsPair gens.shift bs (pair_of gens.shift bs i j)
  joined_pair = record { rising = rising; inside = inside; one_component = one; degree = refl }

-- where nothing was added
pub no_gain : (e : ℕ) (g : Growing) → GainsPairs e g g
no_gain e g = record { cap = refl; vectors = refl; more = []; pairs = sym (append-nil g.pairs.items); late = All-nil (λ q. e < q.degree) }

-- where a pair was added
pub one_gain : (e : ℕ) (old new : Growing) (q : Pair) → new.cap ≡ old.cap → new.basis.items ≡ old.basis.items → new.pairs.items ≡ old.pairs.items ++ q ∷ [] → e < q.degree
    → GainsPairs e old new
one_gain e old new q c v p l = record { cap = c; vectors = v; more = q ∷ []; pairs = p; late = All-cons (λ q. e < q.degree) q [] l (All-nil (λ q. e < q.degree)) }

pub growing_pair : (gens : Gens) (e : ℕ) (old new : Growing) (q : Pair) → IsGrowing gens e old → new.basis.items ≡ old.basis.items → new.pairs.items ≡ old.pairs.items ++ q ∷ []
    → IsPair gens.shift (terms_of old.basis.items) q → IsGrowing gens e new
growing_pair gens e old new q h v p k = record {
  primes = subst (All (λ f. f.prime ≡ gens.prime)) (sym v) h.primes;
  grown = subst (λ fs. IsGrown gens e (terms_of fs)) (sym v) h.grown;
  pairs =
      subst (λ fs. All (IsPair gens.shift (terms_of fs)) new.pairs.items) (sym v)
      (subst (All (IsPair gens.shift (terms_of old.basis.items))) (sym p) (All-push (IsPair gens.shift (terms_of old.basis.items)) old.pairs.items q h.pairs k));
}

-- what the program computed of a pair
pub computed_degree : (shift : ℕ) (fs : List Polynomial) (i j : ℕ) (f g : Polynomial) (a b m : Monomial) (d : ℕ) → i < length fs → j < length fs → f ≡ get_or fs i f → g ≡ get_or fs j g
    → a ≡ lead_mono f.terms → b ≡ lead_mono g.terms → m ≡ common_multiple a b → d ≡ degree_at shift m → d ≡ pair_degree shift (terms_of fs) i j
computed_degree shift fs i j f g a b m d hi hj ef eg ea eb em ed =
    let x : a ≡ lead_mono (member (terms_of fs) i) = ea ∙ ap lead_mono (sym (member_is fs i f hi ef)) in
    let y : b ≡ lead_mono (member (terms_of fs) j) = eb ∙ ap lead_mono (sym (member_is fs j g hj eg)) in
    ed ∙ ap (degree_at shift) em ∙ (λ k. degree_at shift (common_multiple (x k) (y k)))

pub computed_component : (fs : List Polynomial) (i j : ℕ) (f g : Polynomial) (a b : Monomial) → i < length fs → j < length fs → f ≡ get_or fs i f → g ≡ get_or fs j g
    → a ≡ lead_mono f.terms → b ≡ lead_mono g.terms → a.component ≡ b.component → AreOfOneComponent (terms_of fs) i j
computed_component fs i j f g a b hi hj ef eg ea eb h =
    let x : a ≡ lead_mono (member (terms_of fs) i) = ea ∙ ap lead_mono (sym (member_is fs i f hi ef)) in
    let y : b ≡ lead_mono (member (terms_of fs) j) = eb ∙ ap lead_mono (sym (member_is fs j g hj eg)) in
    sym (ap (λ (m : Monomial). m.component) x) ∙ h ∙ ap (λ (m : Monomial). m.component) y

pub awaited_pairs : (gens : Gens) (cap : ℕ) (bs : List (List Term)) (ps qs : List Pair) (i j : ℕ) → ((q : Pair) → Contains ps q → Contains qs q)
    → IsAwaited gens cap bs ps i j → IsAwaited gens cap bs qs i j
awaited_pairs gens cap bs ps qs i j sub h = record {
  low = h.low;
  waits = elim h.waits [ inl s ↦ inl s | inr c ↦ inr (sub (pair_of gens.shift bs i j) c) ];
}

pub gains_then : (e : ℕ) (a b c : Growing) → GainsPairs e a b → GainsPairs e b c → GainsPairs e a c
gains_then e a b c x y = record {
  cap = y.cap ∙ x.cap;
  vectors = y.vectors ∙ x.vectors;
  more = x.more ++ y.more;
  pairs = y.pairs ∙ ap (λ l. l ++ y.more) x.pairs ∙ append_assoc a.pairs.items x.more y.more;
  late = All-append (λ q. e < q.degree) x.more y.more x.late y.late;
}

-- one more pair of a loop over the earlier vectors
pub awaited_next : (gens : Gens) (cap i k : ℕ) (bs : List (List Term)) (ps qs : List Pair) → ((q : Pair) → Contains ps q → Contains qs q)
    → ((j : ℕ) → j < i → AreOfOneComponent bs j k → IsAwaited gens cap bs ps j k) → (AreOfOneComponent bs i k → IsAwaited gens cap bs qs i k)
    → (j : ℕ) → j < i + 1 → AreOfOneComponent bs j k → IsAwaited gens cap bs qs j k
awaited_next gens cap i k bs ps qs sub before here j h one = go (eq-or-lt_of_le j_le)
  where
    j_le : j ≤ i
    j_le = omega arith

    go : (j ≡ i) ⊎ (j < i) → IsAwaited gens cap bs qs j k
    go (inl e) = subst (λ m. IsAwaited gens cap bs qs m k) (sym e) (here (subst (λ m. AreOfOneComponent bs m k) e one))
    go (inr l) = awaited_pairs gens cap bs ps qs j k sub (before j l one)

pub coprime_at : (f g f' g' : List Term) (m : Monomial) → f ≡ f' → g ≡ g' → m ≡ common_multiple (lead_mono f) (lead_mono g)
    → total_degree m.exponents ≡ total_degree (lead_mono f).exponents + total_degree (lead_mono g).exponents
    → total_degree (lead_lcm f' g').exponents ≡ total_degree (lead_mono f').exponents + total_degree (lead_mono g').exponents
coprime_at f g f' g' m ef eg em h =
    subst (λ x. total_degree (lead_lcm f' x).exponents ≡ total_degree (lead_mono f').exponents + total_degree (lead_mono x).exponents) eg
    (subst (λ x. total_degree (lead_lcm x g).exponents ≡ total_degree (lead_mono x).exponents + total_degree (lead_mono g).exponents) ef (ap (λ w. total_degree w.exponents) (sym em) ∙ h))

pub awaited_same : (gens : Gens) (fs gs : List Polynomial) (cap cap' i k : ℕ) (ps : List Pair) → fs ≡ gs → cap ≡ cap'
    → (AreOfOneComponent (terms_of fs) i k → IsAwaited gens cap (terms_of fs) ps i k) → AreOfOneComponent (terms_of gs) i k → IsAwaited gens cap' (terms_of gs) ps i k
awaited_same gens fs gs cap cap' i k ps e c h =
    subst (λ x. AreOfOneComponent (terms_of gs) i k → IsAwaited gens x (terms_of gs) ps i k) c
    (subst (λ xs. AreOfOneComponent (terms_of xs) i k → IsAwaited gens cap (terms_of xs) ps i k) e h)
