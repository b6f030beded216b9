-- Pairs of members of a basis.
use Rattle.std.proofs.Common.{◌≡◌, ◌≢◌, ◌⊎◌, inl, inr, ℕ, ◌+◌, ◌-◌, ◌<◌, ◌≤◌, zero, suc, List, [], ◌∷◌, max, length, get_or, refl, sym, ap, ◌∙◌, subst, arith}
use Rattle.prime_field.specs.Primes.{IsPrime}
use Rattle.monomials.specs.Mono.{Monomial, IsMono, Divides, pointwise, times, total_degree}
use Rattle.monomials.proofs.Exponents.{length-pointwise}
use Rattle.monomials.proofs.Order.{times_comm, times_cancel}
use Rattle.polys.specs.declared.term.Term.{Term}
use Rattle.polys.specs.Poly.{Polynomial, terms_of}
use Rattle.graded_modules.specs.Vector.{degree_at, lead_mono}
use Rattle.graded_modules.specs.SVector.{IsSettled, cofactor, lead_lcm}
use Rattle.graded_modules.specs.Bases.{IsBasisBelow}
use Rattle.graded_modules.specs.Laws.{ArePaired}
use Rattle.graded_modules.proofs.Cofactors.{times_cofactor, lcm_comm}
use Rattle.graded_modules.proofs.Settled.{settled_law}
use Rattle.module_division.specs.Vectors.{member}
use Rattle.module_basis.specs.declared.gens.Gens.{Gens}
use Rattle.module_basis.specs.Growing.{IsGrown}
use Rattle.module_division.proofs.Lists.{count_lists, member_is}

pub total_max : (a b : List ℕ) → total_degree (pointwise max a b) ≤ total_degree a + total_degree b
total_max [] b = omega arith
total_max (x ∷ a) [] = omega arith
total_max (x ∷ a) (y ∷ b) = let ih = total_max a b in omega arith

-- the quotient is the cofactor
pub quotient_is : (l m q : Monomial) → length l.exponents ≡ 7 → IsMono m → IsMono q → Divides l m → times q l ≡ m → q ≡ cofactor l m
quotient_is l m q e hm hq d is =
    times_cancel q (cofactor l m) l (hq.seven ∙ sym (length-pointwise (λ x y. y - x) 7 l.exponents m.exponents e hm.seven))
    (is ∙ sym (times_cofactor l m (e ∙ sym hm.seven) d) ∙ times_comm l (cofactor l m))

module _ (p n shift : ℕ) (prime : IsPrime p) (gs bs : List (List Term)) (e : ℕ) (b : IsBasisBelow p n shift gs bs e) where
  pub paired : (i j : ℕ) → i < length bs → j < length bs → (lead_mono (member bs i)).component ≡ (lead_mono (member bs j)).component
      → ArePaired p n shift (member bs i) (member bs j)
  paired i j hi hj c = record {
    prime = prime;
    first = b.vectors i [] hi;
    second = b.vectors j [] hj;
    first_monic = b.monic i [] hi;
    second_monic = b.monic j [] hj;
    one_component = c;
  }

  -- pairs below the degree are settled in both orders
  pub settled_both : (i j : ℕ) → i < length bs → j < length bs → i ≢ j → (lead_mono (member bs i)).component ≡ (lead_mono (member bs j)).component
      → degree_at shift (lead_lcm (member bs i) (member bs j)) < e → IsSettled p n shift bs (member bs i) (member bs j)
  settled_both i j hi hj differ c l = go (either i j differ)
    where
      either : (i j : ℕ) → i ≢ j → (i < j) ⊎ (j < i)
      either zero zero d = absurd (d refl)
      either zero (suc j) d = inl (omega arith)
      either (suc i) zero d = inr (omega arith)
      either (suc i) (suc j) d = elim (either i j (λ e. d (ap suc e))) [ inl h ↦ inl (omega arith) | inr h ↦ inr (omega arith) ]

      go : (i < j) ⊎ (j < i) → IsSettled p n shift bs (member bs i) (member bs j)
      go (inl h) = b.settled i j [] h hj c l
      go (inr h) =
          settled_law.swapped p n shift bs (member bs j) (member bs i) b.vectors (paired j i hj hi (sym c))
          (b.settled j i [] h hi (sym c) (subst (λ m. degree_at shift m < e) (lcm_comm (lead_mono (member bs i)) (lead_mono (member bs j)) c) l))

  -- the chain criterion: the lead of another member divides the least common multiple, and both pairs with it are settled
  pub chained : (i j k : ℕ) → i < length bs → j < length bs → k < length bs → (lead_mono (member bs i)).component ≡ (lead_mono (member bs j)).component
      → Divides (lead_mono (member bs k)) (lead_lcm (member bs i) (member bs j))
      → IsSettled p n shift bs (member bs i) (member bs k) → IsSettled p n shift bs (member bs k) (member bs j) → IsSettled p n shift bs (member bs i) (member bs j)
  chained i j k hi hj hk c d left right =
      settled_law.chain p n shift bs (member bs i) (member bs j) (member bs k) b.vectors (paired i j hi hj c) (paired i k hi hk (sym d.same)) d left right

-- the leads of a grown basis have low degrees
pub low_lead : (gens : Gens) (e : ℕ) (fs : List Polynomial) (i : ℕ) (f : Polynomial) → IsGrown gens e (terms_of fs) → i < length fs → f ≡ get_or fs i f
    → total_degree (lead_mono f.terms).exponents ≤ e
low_lead gens e fs i f grown h ef =
    let n = count_lists fs in
    let bs = terms_of fs in
    let l : degree_at gens.shift (lead_mono (member bs i)) ≤ e = grown.low i [] (omega arith) in
    let s : degree_at gens.shift (lead_mono f.terms) ≤ e = subst (λ b. degree_at gens.shift (lead_mono b) ≤ e) (member_is fs i f h ef) l in
    omega arith
