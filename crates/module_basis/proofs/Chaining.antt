-- The chain criterion: pairs that are settled by other pairs.
use Rattle.std.proofs.Common.{◌≡◌, ◌≢◌, ◌⊎◌, inl, inr, ℕ, ◌<◌, ◌≤◌, List, min, max, length, get_or, sym, ap, ◌∙◌, subst, arith}
use Rattle.std.specs.List.{All}
use Rattle.std.proofs.lemmas.Bool.{cases_lt}
use Rattle.prime_field.specs.Primes.{IsPrime}
use Rattle.monomials.specs.Mono.{Monomial, Divides, common_multiple}
use Rattle.polys.specs.declared.term.Term.{Term}
use Rattle.polys.specs.Poly.{Polynomial, terms_of}
use Rattle.graded_modules.specs.Vector.{degree_at, lead_mono}
use Rattle.graded_modules.specs.SVector.{lead_lcm}
use Rattle.graded_modules.proofs.Settled.{settled_law}
use Rattle.module_division.specs.Vectors.{member}
use Rattle.module_division.proofs.Lists.{count_lists, member_is}
use Rattle.module_basis.specs.declared.gens.Gens.{Gens}
use Rattle.module_basis.specs.declared.pairs.Pair.{Pair}
use Rattle.module_basis.specs.Growing.{AreOfOneComponent, IsPair, IsSettledPair, IsSettledPairOf, IsGrown}
use Rattle.module_basis.proofs.Pairing.{paired, settled_both, chained}
use Rattle.module_basis.proofs.Joining.{computed_degree}

-- the pair that was found among those that are done
pub found_done : (gens : Gens) (bs : List (List Term)) (done : List Pair) (first second : ℕ) → All (IsSettledPairOf gens bs) done
    → (k : ℕ) × (k < length done) × ((d : Pair) → ((get_or done k d).first ≡ first) × ((get_or done k d).second ≡ second)) → IsSettledPair gens bs first second
found_done gens bs done first second all (k, l, f) =
    let d : Pair = record { first = first; second = second; degree = 0 } in
    let e = f d in
    subst (λ y. IsSettledPair gens bs first y) e.1 (subst (λ x. IsSettledPair gens bs x (get_or done k d).second) e.0 (all k d l))

-- two members with leads of one component are settled where their pair is one of lower degree, or one that is done, whichever comes first
pub lower_settled : (gens : Gens) (e : ℕ) (fs : List Polynomial) (i j : ℕ) (f g : Polynomial) (a b m : Monomial) (d : ℕ) → IsPrime gens.prime → IsGrown gens e (terms_of fs)
    → i < length fs → j < length fs → i ≢ j → AreOfOneComponent (terms_of fs) i j → f ≡ get_or fs i f → g ≡ get_or fs j g
    → a ≡ lead_mono f.terms → b ≡ lead_mono g.terms → m ≡ common_multiple a b → d ≡ degree_at gens.shift m → d < e → IsSettledPair gens (terms_of fs) i j
lower_settled gens e fs i j f g a b m d prime grown hi hj apart one ef eg ea eb em ed low =
    let n = count_lists fs in
    settled_both gens.prime gens.variables gens.shift prime (terms_of gens.vectors) (terms_of fs) e grown.below i j (omega arith) (omega arith) apart one
    (subst (λ k. k < e) (computed_degree gens.shift fs i j f g a b m d hi hj ef eg ea eb em ed) low)

pub done_settled : (gens : Gens) (e : ℕ) (fs : List Polynomial) (done : List Pair) (i j least most : ℕ) → least ≡ min i j → most ≡ max i j → IsPrime gens.prime → IsGrown gens e (terms_of fs)
    → i < length fs → j < length fs → i ≢ j → AreOfOneComponent (terms_of fs) i j → All (IsSettledPairOf gens (terms_of fs)) done
    → (k : ℕ) × (k < length done) × ((d : Pair) → ((get_or done k d).first ≡ least) × ((get_or done k d).second ≡ most)) → IsSettledPair gens (terms_of fs) i j
done_settled gens e fs done i j least most low high prime grown hi hj apart one all found =
    go (cases_lt i j)
  where
    bs : List (List Term)
    bs = terms_of fs

    first_settled : IsSettledPair gens bs least most
    first_settled = found_done gens bs done least most all found

    go : (i < j) ⊎ (j ≤ i) → IsSettledPair gens bs i j
    go (inl h) = subst (λ y. IsSettledPair gens bs i y) (omega arith) (subst (λ x. IsSettledPair gens bs x most) (omega arith) first_settled)
    go (inr h) =
        let n = count_lists fs in
        settled_law.swapped gens.prime gens.variables gens.shift bs (member bs j) (member bs i) grown.below.vectors
        (paired gens.prime gens.variables gens.shift prime (terms_of gens.vectors) bs e grown.below j i (omega arith) (omega arith) (sym one))
        (subst (λ y. IsSettledPair gens bs j y) (omega arith) (subst (λ x. IsSettledPair gens bs x most) (omega arith) first_settled))

-- what the program found out of the divisor
pub divides_member : (gens : Gens) (fs : List Polynomial) (q : Pair) (k : ℕ) (h : Polynomial) (c m : Monomial) → k < length fs → h ≡ get_or fs k h → c ≡ lead_mono h.terms
    → m ≡ lead_lcm (member (terms_of fs) q.first) (member (terms_of fs) q.second) → Divides c m
    → Divides (lead_mono (member (terms_of fs) k)) (lead_lcm (member (terms_of fs) q.first) (member (terms_of fs) q.second))
divides_member gens fs q k h c m hk eh ec em d =
    subst (λ x. Divides x (lead_lcm (member (terms_of fs) q.first) (member (terms_of fs) q.second))) (ec ∙ ap lead_mono (sym (member_is fs k h hk eh)))
    (subst (Divides c) em d)

-- the lead of another member divides the least common multiple of those of a pair, and the pairs with it are settled
pub linked : (gens : Gens) (fs : List Polynomial) (q : Pair) (k : ℕ) (h : Polynomial) (c m : Monomial) → IsPrime gens.prime → IsGrown gens q.degree (terms_of fs)
    → IsPair gens.shift (terms_of fs) q → k < length fs → h ≡ get_or fs k h → c ≡ lead_mono h.terms
    → m ≡ lead_lcm (member (terms_of fs) q.first) (member (terms_of fs) q.second) → Divides c m
    → IsSettledPair gens (terms_of fs) q.first k → IsSettledPair gens (terms_of fs) k q.second → IsSettledPair gens (terms_of fs) q.first q.second
linked gens fs q k h c m prime grown pair hk eh ec em d left right =
    let n = count_lists fs in
    let r = pair.rising in
    let i = pair.inside in
    chained gens.prime gens.variables gens.shift prime (terms_of gens.vectors) (terms_of fs) q.degree grown.below q.first q.second k (omega arith) i (omega arith) pair.one_component
    (divides_member gens fs q k h c m hk eh ec em d) left right
