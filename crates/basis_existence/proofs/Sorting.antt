-- Monomials in rising order: sorted, and thinned to those that no other one divides.
use Rattle.std.proofs.Common.{◌≡◌, ◌⊎◌, inl, inr, ◌↔◌, List, [], ◌∷◌, refl, sym, ap, ◌∙◌, subst}
use Rattle.std.specs.declared.cmp.Ordering.{Ordering}
use Rattle.std.specs.declared.cmp.Ordering.TheVariants.{Less, Equal, Greater}
use Rattle.std.specs.List.{Contains}
use Rattle.monomials.specs.Mono.{Monomial, Divides, cmp_dp}
use Rattle.monomials.proofs.Order.{dp_total, same_dp, turn_down}
use Rattle.polys.specs.declared.term.Term.{Term}
use Rattle.ideal_laws.proofs.Unique.{contains_head, contains_tail, contains_none}
use Rattle.graded_modules.specs.Module.{IsLeadMultiple}
use Rattle.graded_modules.specs.Vector.{lead_mono}
use Rattle.monomials.proofs.Factors.{divides_trans as divides_chain, divides_self}
use Rattle.homogenising.proofs.Found.{search_lead}
use Rattle.standard_monomials.specs.Standard.{AreMinimal, IsRising, polynomial_of}
use Rattle.standard_monomials.proofs.Lists.{each_of, pairs_none, pairs_cons, pairs_head, pairs_tail}

abbrev Rise : Monomial → Monomial → Type 0
Rise m w = cmp_dp m w ≡ Less

-- ---- sorted

-- a rising list of the members of xs
pub record Sorted (xs : List Monomial) : Type 0 where
  pub sorted : List Monomial
  pub rising : IsRising sorted
  pub exact : (z : Monomial) → Contains sorted z ↔ Contains xs z

insert : (m : Monomial) (ws : List Monomial) → IsRising ws → Sorted (m ∷ ws)
insert m [] r = record { sorted = m ∷ []; rising = pairs_cons Rise m [] (λ z c. absurd (contains_none z c)) r; exact = λ z. (λ c. c, λ c. c) }
insert m (w ∷ ws) r = go (cmp_dp m w) refl (insert m ws (pairs_tail Rise w ws r))
  where
    go : (o : Ordering) → cmp_dp m w ≡ o → Sorted (m ∷ ws) → Sorted (m ∷ w ∷ ws)
    go Less e k = record {
      sorted = m ∷ w ∷ ws;
      rising = pairs_cons Rise m (w ∷ ws) (each_of (Rise m) w ws e (λ z c. dp_total.trans m w z e (pairs_head Rise w ws r z c))) r;
      exact = λ z. (λ c. c, λ c. c);
    }
    go Equal e k = record {
      sorted = w ∷ ws;
      rising = r;
      exact = λ z. (contains_tail m z (w ∷ ws), each_of (Contains (w ∷ ws)) m (w ∷ ws) (subst (Contains (w ∷ ws)) (sym (same_dp m w e)) (contains_head w ws)) (λ z c. c) z);
    }
    go Greater e k = record {
      sorted = w ∷ k.sorted;
      rising = pairs_cons Rise w k.sorted (λ z c. each_of (Rise w) m ws (turn_down m w e) (pairs_head Rise w ws r) z ((k.exact z).0 c)) k.rising;
      exact = λ z. (
        each_of All w k.sorted (contains_tail m w (w ∷ ws) (contains_head w ws))
            (λ z c. each_of All m ws (contains_head m (w ∷ ws)) (λ z c. contains_tail m z (w ∷ ws) (contains_tail w z ws c)) z ((k.exact z).0 c)) z,
        each_of Sorts m (w ∷ ws) (contains_tail w m k.sorted ((k.exact m).1 (contains_head m ws)))
            (each_of Sorts w ws (contains_head w k.sorted) (λ z c. contains_tail w z k.sorted ((k.exact z).1 (contains_tail m z ws c)))) z,
      );
    }
      where
        All : Monomial → Type 0
        All = Contains (m ∷ w ∷ ws)

        Sorts : Monomial → Type 0
        Sorts = Contains (w ∷ k.sorted)

sort_more : (x : Monomial) (xs : List Monomial) (s : Sorted xs) → Sorted (x ∷ s.sorted) → Sorted (x ∷ xs)
sort_more x xs s k = record {
  sorted = k.sorted;
  rising = k.rising;
  exact = λ z. (
    (λ c. each_of (Contains (x ∷ xs)) x s.sorted (contains_head x xs) (λ z c. contains_tail x z xs ((s.exact z).0 c)) z ((k.exact z).0 c)),
    (λ c. (k.exact z).1 (each_of (Contains (x ∷ s.sorted)) x xs (contains_head x s.sorted) (λ z c. contains_tail x z s.sorted ((s.exact z).1 c)) z c)),
  );
}

pub sort : (xs : List Monomial) → Sorted xs
sort [] = record { sorted = []; rising = pairs_none Rise; exact = λ z. (λ c. c, λ c. c) }
sort (x ∷ xs) = let s = sort xs in sort_more x xs s (insert x s.sorted s.rising)

-- ---- thinned

divides_or_not : (w z : Monomial) → w.component ≡ z.component → Dec (Divides w z)
divides_or_not w z e = go (search_lead (polynomial_of w ∷ []) z (λ b c. ap (λ (m : Monomial). m.component) (only b c) ∙ e))
  where
    only : (b : List Term) → Contains (polynomial_of w ∷ []) b → lead_mono b ≡ w
    only = each_of (λ b. lead_mono b ≡ w) (polynomial_of w) [] refl (λ b c. absurd (contains_none b c))

    go : IsLeadMultiple (polynomial_of w ∷ []) z ⊎ ((b : List Term) → Contains (polynomial_of w ∷ []) b → Divides (lead_mono b) z → ⊥) → Dec (Divides w z)
    go (inl d) = yes (subst (λ m. Divides m z) (only d.0 d.1) d.2)
    go (inr k) = no (k (polynomial_of w) (contains_head (polynomial_of w) []))

-- m is smaller than w and does not divide it
abbrev pub Apart : Monomial → Monomial → Type 0
Apart m w = (cmp_dp m w ≡ Less) × (Divides m w → ⊥)

-- ms without the multiples of w
record Sieved (w : Monomial) (ms : List Monomial) : Type 0 where
  left : List Monomial
  minimal : AreMinimal left
  among : (z : Monomial) → Contains left z → Contains ms z × (Divides w z → ⊥)
  whole : (z : Monomial) → Contains ms z → Contains left z ⊎ Divides w z

sieve : (w : Monomial) (ms : List Monomial) → ((z : Monomial) → Contains ms z → w.component ≡ z.component) → AreMinimal ms → Sieved w ms
sieve w [] c r = record { left = []; minimal = r; among = λ z k. absurd (contains_none z k); whole = λ z k. inl k }
sieve w (m ∷ ms) c r = go (divides_or_not w m (c m (contains_head m ms))) (sieve w ms (λ z k. c z (contains_tail m z ms k)) (pairs_tail Apart m ms r))
  where
    go : Dec (Divides w m) → Sieved w ms → Sieved w (m ∷ ms)
    go (yes d) s = record {
      left = s.left;
      minimal = s.minimal;
      among = λ z k. let a = s.among z k in (contains_tail m z ms a.0, a.1);
      whole = each_of (λ z. Contains s.left z ⊎ Divides w z) m ms (inr d) s.whole;
    }
    go (no n) s = record {
      left = m ∷ s.left;
      minimal = pairs_cons Apart m s.left (λ z k. pairs_head Apart m ms r z (s.among z k).0) s.minimal;
      among = each_of (λ z. Contains (m ∷ ms) z × (Divides w z → ⊥)) m s.left (contains_head m ms, n) (λ z k. let a = s.among z k in (contains_tail m z ms a.0, a.1));
      whole = each_of (λ z. Contains (m ∷ s.left) z ⊎ Divides w z) m ms (inl (contains_head m s.left)) (λ z k. more z (s.whole z k));
    }
      where
        more : (z : Monomial) → Contains s.left z ⊎ Divides w z → Contains (m ∷ s.left) z ⊎ Divides w z
        more z (inl q) = inl (contains_tail m z s.left q)
        more z (inr d) = inr d

abbrev HasDivisor : List Monomial → Monomial → Type 0
HasDivisor ms z = (m : Monomial) × Contains ms m × Divides m z

-- those of ws that no other one divides
pub record Thinned (ws : List Monomial) : Type 0 where
  pub least : List Monomial
  pub minimal : AreMinimal least
  pub among : (z : Monomial) → Contains least z → Contains ws z
  pub covers : (z : Monomial) → Contains ws z → HasDivisor least z

thin_more : (w : Monomial) (ws : List Monomial) → IsRising (w ∷ ws) → (t : Thinned ws) → Sieved w t.least → Thinned (w ∷ ws)
thin_more w ws r t s = record {
  least = w ∷ s.left;
  minimal = pairs_cons Apart w s.left (λ z k. (pairs_head Rise w ws r z (t.among z (s.among z k).0), (s.among z k).1)) s.minimal;
  among = each_of (Contains (w ∷ ws)) w s.left (contains_head w ws) (λ z k. contains_tail w z ws (t.among z (s.among z k).0));
  covers = each_of (HasDivisor (w ∷ s.left)) w ws (w, contains_head w s.left, divides_self w) (λ z k. let q = t.covers z k in go z q (s.whole q.0 q.1));
}
  where
    go : (z : Monomial) (q : HasDivisor t.least z) → Contains s.left q.0 ⊎ Divides w q.0 → HasDivisor (w ∷ s.left) z
    go z q (inl l) = (q.0, contains_tail w q.0 s.left l, q.2)
    go z q (inr d) = (w, contains_head w s.left, divides_chain w q.0 z d q.2)

pub thin : (ws : List Monomial) → ((z : Monomial) → Contains ws z → z.component ≡ 0) → IsRising ws → Thinned ws
thin [] c r = record { least = []; minimal = pairs_none Apart; among = λ z k. k; covers = λ z k. absurd (contains_none z k) }
thin (w ∷ ws) c r =
    let t = thin ws (λ z k. c z (contains_tail w z ws k)) (pairs_tail Rise w ws r) in
    thin_more w ws r t (sieve w t.least (λ z k. c w (contains_head w ws) ∙ sym (c z (contains_tail w z ws (t.among z k)))) t.minimal)
