-- The laws of integral fractions of a ring modulo an ideal, from what is asked of the ideal and d.
use Rattle.std.proofs.Common.{◌↔◌, ℕ, List, [], ◌∷◌, ◌++◌, All}
use Rattle.std.proofs.lemmas.List.Elements.{All-append}
use Rattle.prime_field.specs.Primes.{IsPrime}
use Rattle.comm_ring.specs.Ring.{CommRing, IsRingMap}
use Rattle.comm_ring.specs.Residues.{residue_ops}
use Rattle.comm_ring.specs.Modules.{combination, own_module, Dimension, modulo, module_through}
use Rattle.comm_ring.specs.Ideals.{InIdeal, IsIdeal}
use Rattle.comm_ring.proofs.Quote.{ring, quote}
use Rattle.comm_ring.proofs.Ideals as Ideals
use Rattle.comm_ring.proofs.Ideals.{quotient_ring}
use Rattle.comm_ring.proofs.Modules as Modules
use Rattle.comm_ring.proofs.Residues.{residues}
use Rattle.prime_field.proofs.Table.{positive_of_prime}
use Rattle.fraction_laws.specs.Fractions.{Regular}
use Rattle.fraction_laws.specs.Laws.{FractionLaws}
use Rattle.fraction_laws.specs.Curves.{curve_ops, RegularOver, space_over}
use Rattle.fraction_laws.proofs.LawsHold.{fraction_laws}

module _ (R : CommRing) (I : List R.carrier) where
  open R use {ops, carrier, ◌≈◌, ◌⊕◌, ◌⊗◌, neg, 𝟘, 𝟙, rfl, symm, trans, add_cong, mul_cong, add_zero}

  infix 40 ◌≈◌
  infixl 60 ◌⊕◌
  infixl 70 ◌⊗◌
  pub ideal : IsIdeal ops (InIdeal ops I)
  ideal = Ideals.ideal_of_list R I

  -- the ring modulo I
  abbrev pub curve : CommRing
  curve = quotient_ring R (InIdeal ops I) ideal

  -- the ideal of P modulo I is that of P and I together
  pub together : (P : List carrier) (x : carrier) → InIdeal (curve_ops ops I) P x → InIdeal ops (P ++ I) x
  together P x h =
      let c = combination (own_module ops) h.0 P in
      (Ideals.ideal_of_list R (P ++ I)).resp (c ⊕ (x ⊕ neg c)) x (ring R (c ∷ x ∷ []) (search quote depth 20) tt)
      ((Ideals.ideal_of_list R (P ++ I)).add c (x ⊕ neg c) (Modules.span_left R (Modules.own R) P I c (h.0, h.1, rfl c)) (Modules.span_right R (Modules.own R) P I (x ⊕ neg c) h.2))

  pub apart : (P : List carrier) (x : carrier) → InIdeal ops (P ++ I) x → InIdeal (curve_ops ops I) P x
  apart P x h =
      let s = Ideals.append_is_sum R P I x h in
      let u = s.2 in (
        u.0,
        u.1,
        ideal.resp s.1 (x ⊕ neg (combination (own_module ops) u.0 P))
            (symm (trans (add_cong (trans s.4 (add_cong u.2 (rfl s.1))) (rfl _)) (ring R (combination (own_module ops) u.0 P ∷ s.1 ∷ []) (search quote depth 20) tt))) s.3,
      )

  -- where the ideal of P holds I, it is the same modulo I
  pub held : (P : List carrier) → All (InIdeal ops P) I → (x : carrier) → InIdeal (curve_ops ops I) P x ↔ InIdeal ops P x
  held P h x = (
    (λ w. Ideals.ideal_least R (InIdeal ops P) (Ideals.ideal_of_list R P) (P ++ I) (All-append (InIdeal ops P) P I (Ideals.generators_in R P) h) x (together P x w)),
    λ w. apart P x (Modules.span_left R (Modules.own R) P I x w),
  )

  pub turned : (d x : carrier) → InIdeal ops (I ++ d ∷ []) x → InIdeal ops ((d ∷ []) ++ I) x
  turned d x h = Ideals.ideal_least R (InIdeal ops ((d ∷ []) ++ I)) (Ideals.ideal_of_list R ((d ∷ []) ++ I)) (I ++ d ∷ [])
      (All-append (InIdeal ops ((d ∷ []) ++ I)) I (d ∷ [])
      (λ k e l. Modules.span_right R (Modules.own R) (d ∷ []) I _ (Ideals.generators_in R I k e l))
      (λ k e l. Modules.span_left R (Modules.own R) (d ∷ []) I _ (Ideals.generators_in R (d ∷ []) k e l))) x h

  pub turned_back : (d x : carrier) → InIdeal ops ((d ∷ []) ++ I) x → InIdeal ops (I ++ d ∷ []) x
  turned_back d x h = Ideals.ideal_least R (InIdeal ops (I ++ d ∷ [])) (Ideals.ideal_of_list R (I ++ d ∷ [])) ((d ∷ []) ++ I)
      (All-append (InIdeal ops (I ++ d ∷ [])) (d ∷ []) I
      (λ k e l. Modules.span_right R (Modules.own R) I (d ∷ []) _ (Ideals.generators_in R (d ∷ []) k e l))
      (λ k e l. Modules.span_left R (Modules.own R) I (d ∷ []) _ (Ideals.generators_in R I k e l))) x h

  pub regular_of_curve : (d : carrier) → RegularOver ops I d → Regular (curve_ops ops I) d
  regular_of_curve d r x h = ideal.resp x (x ⊕ neg 𝟘) (ring R (x ∷ []) (search quote depth 20) tt)
      (r x (ideal.resp ((d ⊗ x) ⊕ neg 𝟘) (d ⊗ x) (ring R (d ∷ x ∷ []) (search quote depth 20) tt) h))

  pub map_to_curve : (O : CommRing) (f : O.carrier → carrier) → IsRingMap O.ops ops f → IsRingMap O.ops (curve_ops ops I) f
  map_to_curve O f m = record {
    resp = λ x y e. Ideals.equal_modulo R (InIdeal ops I) ideal (f x) (f y) (m.resp x y e);
    one = Ideals.equal_modulo R (InIdeal ops I) ideal (f O.𝟙) 𝟙 m.one;
    add = λ x y. Ideals.equal_modulo R (InIdeal ops I) ideal (f (O.◌⊕◌ x y)) (f x ⊕ f y) (m.add x y);
    mul = λ x y. Ideals.equal_modulo R (InIdeal ops I) ideal (f (O.◌⊗◌ x y)) (f x ⊗ f y) (m.mul x y);
  }

  pub dimension_of_curve : (scalar : ℕ → carrier) (d : carrier) (n : ℕ) → Dimension (space_over ops I scalar d) n
      → Dimension (modulo (module_through (curve_ops ops I) scalar) (InIdeal (curve_ops ops I) (d ∷ []))) n
  dimension_of_curve scalar d n D = (
    D.0,
    D.1,
    D.2,
    (λ f h. let s = D.3 f h in (s.0, s.1, apart (d ∷ []) _ (turned d _ s.2))),
    λ vs a l s. D.4 vs a l (λ f h. let t = s f h in (t.0, t.1, turned_back d _ (together (d ∷ []) _ t.2))),
  )

  -- the laws, where d is regular modulo I and the dimension modulo I and d is finite
  pub curve_laws : (d : carrier) → RegularOver ops I d → (p : ℕ) (prime : IsPrime p) (scalar : ℕ → carrier) → IsRingMap (residue_ops p) ops scalar
      → (n : ℕ) → Dimension (space_over ops I scalar d) n → FractionLaws (curve_ops ops I) d p scalar
  curve_laws d r p prime scalar m n D = fraction_laws curve d (regular_of_curve d r) p prime scalar (map_to_curve (residues p (positive_of_prime p prime)) scalar m) n (dimension_of_curve scalar d n D)
