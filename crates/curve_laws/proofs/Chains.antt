-- Steps of equations with their members written out, for rings whose operations compute.
use Rattle.comm_ring.specs.Ring.{CommRing, pow}
use Rattle.comm_ring.specs.Modules.{combine}
use Rattle.comm_ring.specs.Ideals.{IsIdeal, InIdeal}
use Rattle.comm_ring.proofs.Ideals as Ideals
use Rattle.comm_ring.proofs.Modules as Modules
use Rattle.comm_ring.proofs.Quote.{ring, quote}
use Rattle.std.proofs.Common.{◌≡◌, List, [], ◌∷◌, length, arith}

module _ (C : CommRing) where
  open C use {ops, carrier, ◌≈◌, ◌⊕◌, ◌⊗◌, neg, 𝟘, 𝟙}

  infix 40 ◌≈◌
  infixl 60 ◌⊕◌
  infixl 70 ◌⊗◌
  -- one equation after another
  pub chain : (x y z : carrier) → x ≈ y → y ≈ z → x ≈ z
  chain x y z e f = C.trans e f

  -- an equation turned round
  pub flip : (x y : carrier) → x ≈ y → y ≈ x
  flip x y e = C.symm e

  pub add_both : (x x' y y' : carrier) → x ≈ x' → y ≈ y' → x ⊕ y ≈ x' ⊕ y'
  add_both x x' y y' e f = C.add_cong e f

  pub mul_both : (x x' y y' : carrier) → x ≈ x' → y ≈ y' → x ⊗ y ≈ x' ⊗ y'
  mul_both x x' y y' e f = C.mul_cong e f

  -- x over the power 0
  pub power_none : (d a y : carrier) → a ⊗ pow ops d 0 ≈ y → a ≈ y
  unfolding pow
  power_none d a y e = C.trans (C.symm (C.mul_one a)) e

  pub over_none : (d a y : carrier) → a ≈ y → a ⊗ pow ops d 0 ≈ y
  unfolding pow
  over_none d a y e = C.trans (C.mul_one a) e

  module _ (J : carrier → Type 0) (ideal : IsIdeal ops J) where
    -- a member of an ideal differs from 0 by a member
    pub from_zero : (x : carrier) → J x → J (x ⊕ neg 𝟘)
    from_zero x i = ideal.resp x (x ⊕ neg 𝟘) (ring C (x ∷ []) (search quote depth 20) tt) i

    pub of_zero : (x : carrier) → J (x ⊕ neg 𝟘) → J x
    of_zero x i = ideal.resp (x ⊕ neg 𝟘) x (ring C (x ∷ []) (search quote depth 20) tt) i

    -- x = y + z with z in J gives x - y in J, and conversely
    pub difference_in : (x y z : carrier) → x ≈ y ⊕ z → J z → J (x ⊕ neg y)
    difference_in x y z e i = ideal.resp z (x ⊕ neg y) (C.trans (ring C (y ∷ z ∷ []) (search quote depth 20) tt) (C.add_cong (C.symm e) (C.rfl (neg y)))) i

  module _ (I : List carrier) where
    -- the ideal of e and I, as multiples of e up to I
    pub multiple_in : (e x : carrier) → InIdeal ops (e ∷ I) x → (q : carrier) × InIdeal ops I (x ⊕ neg (q ⊗ e))
    unfolding combine
    multiple_in e x h = go h.0 h.1 h.2
      where
        go : (cs : List carrier) → length cs ≡ length (e ∷ I) → x ≈ combine ◌⊕◌ 𝟘 ◌⊗◌ cs (e ∷ I) → (q : carrier) × InIdeal ops I (x ⊕ neg (q ⊗ e))
        go [] l f = absurd (omega arith)
        go (c ∷ cs) l f = (c, difference_in (InIdeal ops I) (Ideals.ideal_of_list C I) x (c ⊗ e) (combine ◌⊕◌ 𝟘 ◌⊗◌ cs I) f (cs, (let k : length (c ∷ cs) ≡ length (e ∷ I) = l in omega arith), C.rfl _))

    pub multiple_out : (e x q : carrier) → InIdeal ops I (x ⊕ neg (q ⊗ e)) → InIdeal ops (e ∷ I) x
    multiple_out e x q h =
        let both = Ideals.ideal_of_list C (e ∷ I) in
        both.resp ((q ⊗ e) ⊕ (x ⊕ neg (q ⊗ e))) x (ring C (x ∷ q ∷ e ∷ []) (search quote depth 20) tt)
        (both.add (q ⊗ e) (x ⊕ neg (q ⊗ e)) (both.scale q e (Modules.span_head C (Modules.own C) e I)) (Modules.span_tail C (Modules.own C) e I (x ⊕ neg (q ⊗ e)) h))
