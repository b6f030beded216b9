-- The quotient that a pair without a first part stands for.
use Rattle.std.proofs.Common.{◌≡◌, ℕ, ◌+◌, ◌-◌, ◌*◌, ◌%◌, ◌≤◌, ◌<◌, zero, suc, List, [], ◌∷◌, map, cond, Bool, true, false, not, ◌==◌, refl, sym, ap, ◌∙◌, subst, arith}
use Rattle.std.proofs.Math.Nat.{add-mul-mod_self_left}
use Rattle.std.proofs.lemmas.Bool.{eqb-false}
use Rattle.std.specs.Bool.{IsTrue}
use Rattle.std.specs.Prelude.{Some}
use Rattle.prime_field.specs.Primes.{IsPrime}
use Rattle.monomials.specs.Mono.{IsMono}
use Rattle.polys.specs.declared.term.Term.{Term}
use Rattle.polys.specs.Poly.{IsVector}
use Rattle.polys.specs.Terms.{IsCanonical, lead, multiple}
use Rattle.polys.proofs.Products.{times_residue, multiple_by_residue, residue_vector}
use Rattle.graded_modules.specs.Vector.{IsGenerator}
use Rattle.homogenising.specs.Homogenised.{without_hom}
use Rattle.homogenising.proofs.Lifted.{lowered}
use Rattle.homogenising.proofs.Terms.{lowered_vector}
use Rattle.denominator_module.specs.Module.{first, second, quotient_of}
use Rattle.denominator_module.proofs.Components.{every_second}
use Rattle.denominator_module.proofs.Seconds.{second_homogeneous, second_alone}
use Rattle.lift_colon.specs.Parts.{opposed}

-- the negative is the multiple by p - 1
pub opposite : (p a : ℕ) → a < p → (p - a) % p ≡ ((p - 1) * a) % p
opposite zero a h = let none : ⊥ = omega arith in absurd none
opposite (suc q) zero h = self q
  where
    self : (q : ℕ) → (suc q - 0) % suc q ≡ ((suc q - 1) * 0) % suc q
    self q = grind arith
opposite (suc q) (suc b) h = sym (add-mul-mod_self_left (suc q - suc b) (suc q) b) ∙ ap (λ x. x % suc q) whole
  where
    less : (suc q - 1) * suc b ≡ q * suc b
    less = let e : suc q - 1 ≡ q = omega arith in rw e

    whole : (suc q - suc b) + suc q * b ≡ (suc q - 1) * suc b
    whole = let e : (suc q - suc b) + suc q * b ≡ q * suc b = omega arith in e ∙ sym less

-- a vector has no first part where it begins in the second component
pub begins_second : (p : ℕ) (v : List Term) (t : Term) (k : ℕ) → IsCanonical p v → lead v ≡ Some t → k ≡ t.mono.component
    → (IsTrue (not (k == 0)) → first v ≡ []) × (first v ≡ [] → IsTrue (not (k == 0)))
begins_second p [] t k c e z = absurd (cc)
begins_second p (u ∷ f) t k c e z = go (k == 0) refl
  where
    same : k ≡ u.mono.component
    same = let q : u ≡ t = cc in z ∙ sym (ap (λ (s : Term). s.mono.component) q)

    go : (b : Bool) → (k == 0) ≡ b → (IsTrue (not b) → first (u ∷ f) ≡ []) × (first (u ∷ f) ≡ [] → IsTrue (not b))
    go true q = (
      λ x. absurd (cc),
      λ x. (let w : true ≡ (u.mono.component == 0) = sym q ∙ ap (λ n. n == 0) same in
          let y : u ∷ first f ≡ [] = (λ i. cond (w i) (u ∷ first f) (first f)) ∙ x in absurd (cc)),
    )
    go false q = (λ x. second_alone p (u ∷ f) c (λ w. eqb-false k 0 q (same ∙ w)), λ x. refl)

-- without a first part all terms are in the second one
abbrev moved : Term → Term
moved t = record { coeff = t.coeff; mono = record { exponents = t.mono.exponents; component = 0 } }

second_whole : (f : List Term) → first f ≡ [] → second f ≡ map moved f
second_whole [] z = refl
second_whole (t ∷ f) z = go (t.mono.component == 0) z (second_whole f)
  where
    go : (b : Bool) → cond b (t ∷ first f) (first f) ≡ [] → (first f ≡ [] → second f ≡ map moved f) → cond b (second f) (moved t ∷ second f) ≡ moved t ∷ map moved f
    go true z ih = absurd (cc)
    go false z ih = λ i. moved t ∷ ih z i

opposed_all : (p : ℕ) (f : List Term) → map (times_residue p (p - 1)) (without_hom (map moved f)) ≡ map (opposed p) f
opposed_all p [] = refl
opposed_all p (t ∷ f) = λ i. opposed p t ∷ opposed_all p f i

module _ (p n : ℕ) (v : List Term) (prime : IsPrime p) (two : 1 < p) (six : n ≤ 6) (h : (shift : ℕ) × IsGenerator p n shift v) (k : IsVector p v) (z : first v ≡ []) where
  opposed_second : map (times_residue p (p - 1)) (without_hom (second v)) ≡ map (opposed p) v
  opposed_second = ap (λ w. map (times_residue p (p - 1)) (without_hom w)) (second_whole v z) ∙ opposed_all p v

  second_vector : IsVector p (second v)
  second_vector = record {
    canonical = (second_homogeneous p n h.0 v h.1).generator.vector.canonical;
    monos = every_second IsMono IsMono v (λ m c x. record { seven = x.seven; bounded = x.bounded; one_of_two = (omega arith) }) k.monos;
  }

  lowered_second : IsVector p (without_hom (second v))
  lowered_second = lowered_vector p n (second v) six (second_homogeneous p n h.0 v h.1) second_vector

  pub opposed_is : map (opposed p) v ≡ quotient_of p v
  opposed_is =
      sym opposed_second ∙ multiple_by_residue p (p - 1) (without_hom (second v)) prime (omega arith) (omega arith) lowered_second.canonical
      ∙ ap (multiple p (p - 1)) (sym (lowered p n six (second v) (second_homogeneous p n h.0 v h.1)))

  pub opposed_vector : IsVector p (map (opposed p) v)
  opposed_vector = subst (IsVector p) opposed_second (residue_vector p (p - 1) (without_hom (second v)) prime (omega arith) (omega arith) lowered_second)
