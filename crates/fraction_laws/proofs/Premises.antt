-- From the numbers modulo a prime and the dimension modulo d to what the proofs use.
use Rattle.std.proofs.Common.{◌≡◌, refl, sym, ap, ℕ, ◌<◌, ◌+◌, ◌-◌, ◌*◌, ◌%◌, List, [], ◌∷◌, length, All, arith, mod-lt}
use native.Mathlib.Nat.{mod-mod}
use Rattle.std.proofs.lemmas.List.Elements.{All-head, All-tail}
use Rattle.prime_field.specs.Primes.{IsPrime}
use Rattle.comm_ring.specs.Ring.{Ops, CommRing, IsRingMap}
use Rattle.comm_ring.specs.Residues.{residue_ops}
use Rattle.comm_ring.specs.Modules.{ModuleOps, IsSubmodule, combine, combination, InSpan, Dimension, modulo, module_through}
use Rattle.comm_ring.specs.Ideals.{InIdeal}
use Rattle.comm_ring.proofs.Derived as Derived
use Rattle.comm_ring.proofs.Residues.{residues}
use Rattle.comm_ring.proofs.Fields.{inverse, residue_coefficients}
use Rattle.prime_field.proofs.Table.{positive_of_prime}
use Rattle.comm_ring.proofs.Ideals as Ideals
use Rattle.comm_ring.proofs.Modules.{Module, through}
use Rattle.comm_ring.proofs.Quotients.{quotient}
use Rattle.comm_ring.proofs.Quote.{ring, quote}
use Rattle.fraction_laws.proofs.Settings.{EachN, comb_of}
use Rattle.fraction_laws.proofs.Scalars.{Scalars, Spanned, Dim}

pub each_below : (p : ℕ) (cs : List ℕ) → All (λ c. c < p) cs → EachN (λ c. c < p) cs
each_below p [] h = tt
each_below p (c ∷ cs) h = (All-head (λ e. e < p) c cs h, each_below p cs (All-tail (λ e. e < p) c cs h))

pub combination_is : (O : Ops) (scalar : ℕ → O.carrier) (cs : List ℕ) (us : List O.carrier) → comb_of O scalar cs us ≡ combination (module_through O scalar) cs us
unfolding combine
combination_is O scalar [] us = refl
combination_is O scalar (c ∷ cs) [] = refl
combination_is O scalar (c ∷ cs) (u ∷ us) = ap (λ z. O.◌⊕◌ (O.◌⊗◌ (scalar c) u) z) (combination_is O scalar cs us)

module _ (Q : CommRing) (p : ℕ) (prime : IsPrime p) (scalar : ℕ → Q.carrier) (m : IsRingMap (residue_ops p) Q.ops scalar) where
  open Q use {ops, carrier, ◌≈◌, ◌⊕◌, ◌⊗◌, neg, 𝟘, 𝟙, rfl, symm, trans, add_cong, mul_cong, neg_cong, add_assoc, add_comm, add_zero, add_neg, mul_comm}

  infix 40 ◌≈◌
  infixl 60 ◌⊕◌
  infixl 70 ◌⊗◌
  pub positive : 0 < p
  positive = positive_of_prime p prime

  pub scalar-zero : scalar 0 ≈ 𝟘
  scalar-zero = Derived.add_right_cancel Q (scalar 0) 𝟘 (scalar 0) (trans (symm (m.add 0 0)) (trans (m.resp ((0 + 0) % p) 0 (mod-mod (0 + 0) p)) (symm (Derived.zero_add Q (scalar 0)))))

  pub scalar-neg : (c : ℕ) → scalar ((p - c % p) % p) ≈ neg (scalar c)
  scalar-neg c = Derived.neg_unique Q (scalar c) (scalar ((p - c % p) % p))
      (trans (symm (m.add c ((p - c % p) % p))) (trans (m.resp ((c + (p - c % p) % p) % p) 0 ((residues p positive).add_neg c)) scalar-zero))

  pub scalar-mod : (c : ℕ) → scalar (c % p) ≈ scalar c
  scalar-mod c = m.resp (c % p) c (mod-mod c p)

  pub scalar-inverse : (c : ℕ) → 0 < c → c < p → (e : ℕ) × (e < p) × scalar e ⊗ scalar c ≈ 𝟙
  scalar-inverse c l h =
      let i = inverse p prime c l h in (
        i.0 % p,
        mod-lt i.0 positive,
        trans (mul_cong (scalar-mod i.0) (rfl (scalar c))) (trans (symm (m.mul i.0 c)) (trans (m.resp ((i.0 * c) % p) 1 (ap (λ z. z % p) i.1)) m.one)),
      )

  pub scalar-combine : (b t e c : ℕ) → (r : ℕ) × (r < p) × scalar r ≈ scalar b ⊕ neg (scalar t ⊗ scalar e ⊗ scalar c)
  scalar-combine b t e c =
      let te : ℕ = (t * e) % p in
      let tec : ℕ = (te * c) % p in (
        (b + (p - tec % p) % p) % p,
        mod-lt (b + (p - tec % p) % p) positive,
        trans (m.add b ((p - tec % p) % p)) (add_cong (rfl (scalar b)) (trans (scalar-neg tec) (neg_cong (trans (m.mul te c) (mul_cong (m.mul t e) (rfl (scalar c))))))),
      )

  abbrev pub scalars : Scalars ops
  scalars = record {
    p = p;
    scal = scalar;
    scal_zero = scalar-zero;
    inverse = scalar-inverse;
    comb = λ b t e c hb ht he hc. scalar-combine b t e c;
  }

  module _ (d : carrier) where
    pub multiple_in : (x q : carrier) → x ≈ d ⊗ q → InIdeal ops (d ∷ []) x
    multiple_in x q e = (Ideals.ideal_of_list Q (d ∷ [])).resp (d ⊗ q) x (symm e)
        (Ideals.right_in Q (InIdeal ops (d ∷ [])) (Ideals.ideal_of_list Q (d ∷ [])) d q (All-head (InIdeal ops (d ∷ [])) d [] (Ideals.generators_in Q (d ∷ []))))

    pub multiple_out : (x : carrier) → InIdeal ops (d ∷ []) x → (q : carrier) × x ≈ d ⊗ q
    unfolding combine
    multiple_out x h = go h.0 h.1 h.2
      where
        go : (cs : List carrier) → length cs ≡ 1 → x ≈ combine ◌⊕◌ 𝟘 ◌⊗◌ cs (d ∷ []) → (q : carrier) × x ≈ d ⊗ q
        go [] l e = absurd (omega arith)
        go (c ∷ []) l e = (c, trans e (trans (add_zero (c ⊗ d)) (mul_comm c d)))
        go (c ∷ (b ∷ cs)) l e = absurd (omega arith)

    pub submodule : IsSubmodule (module_through ops scalar) (InIdeal ops (d ∷ []))
    submodule = record {
      resp = (Ideals.ideal_of_list Q (d ∷ [])).resp;
      none = (Ideals.ideal_of_list Q (d ∷ [])).none;
      add = (Ideals.ideal_of_list Q (d ∷ [])).add;
      scale = λ c x h. (Ideals.ideal_of_list Q (d ∷ [])).scale (scalar c) x h;
    }

    -- the ring modulo d, over the numbers modulo p
    abbrev pub Space : ModuleOps ℕ
    Space = modulo (module_through ops scalar) (InIdeal ops (d ∷ []))

    abbrev pub space : Module (residues p positive)
    space = quotient (residues p positive) (through (residues p positive) Q scalar m) (InIdeal ops (d ∷ [])) submodule

    spanned_in : (us : List carrier) (f : carrier) → InSpan Space us f → Spanned ops p scalar d us f
    spanned_in us f s =
        let r = residue_coefficients p positive space us f s in
        let q = multiple_out (f ⊕ neg (combination Space r.0 us)) r.3 in (
          r.0,
          q.0,
          r.1,
          each_below p r.0 r.2,
          trans (Derived.add_right_cancel Q f (combination Space r.0 us ⊕ d ⊗ q.0) (neg (combination Space r.0 us))
              (trans q.1 (ring Q (combination Space r.0 us ∷ d ⊗ q.0 ∷ []) (search quote depth 20) tt)))
              (add_cong (Derived.of_path Q (sym (combination_is ops scalar r.0 us))) (rfl (d ⊗ q.0))),
        )

    spanned_out : (us : List carrier) (f : carrier) → Spanned ops p scalar d us f → InSpan Space us f
    spanned_out us f s = (
      s.0,
      s.2,
      multiple_in (f ⊕ neg (combination Space s.0 us)) s.1
          (trans (add_cong (trans s.4 (add_cong (Derived.of_path Q (combination_is ops scalar s.0 us)) (rfl (d ⊗ s.1)))) (rfl (neg (combination Space s.0 us))))
          (ring Q (combination Space s.0 us ∷ d ⊗ s.1 ∷ []) (search quote depth 20) tt)),
    )

    pub dimension_in : (n : ℕ) → Dimension Space n → Dim ops p scalar d n
    dimension_in n D = (D.0, D.1, (λ f. spanned_in D.0 f (D.3 f tt)), λ vs l s. D.4 vs (λ k e h. tt) l (λ f t. spanned_out vs f (s f)))
