-- Rings whose equations are paths.
use Rattle.std.proofs.Common.{◌≡◌, refl, sym, ap, ap₂, ◌∙◌}
use Rattle.comm_ring.specs.Ring.{Ops, CommRing}

module _ (A : Type 0) (add mul : A → A → A) (negative : A → A) (zero one : A) where
  -- the operations, with equality itself
  abbrev pub path_ops : Ops
  path_ops = record { carrier = A; ◌≈◌ = λ x y. x ≡ y; ◌⊕◌ = add; ◌⊗◌ = mul; neg = negative; 𝟘 = zero; 𝟙 = one }

  -- the ring from its laws: the equivalence and the congruences are those of paths
  abbrev pub path_ring : ((x y z : A) → add (add x y) z ≡ add x (add y z)) → ((x y : A) → add x y ≡ add y x) → ((x : A) → add x zero ≡ x) → ((x : A) → add x (negative x) ≡ zero)
      → ((x y z : A) → mul (mul x y) z ≡ mul x (mul y z)) → ((x y : A) → mul x y ≡ mul y x) → ((x : A) → mul x one ≡ x) → ((x y z : A) → mul x (add y z) ≡ add (mul x y) (mul x z)) → CommRing
  path_ring a_assoc a_comm a_zero a_neg m_assoc m_comm m_one distributes = record {
    ops = path_ops;
    laws = record {
      rfl = λ x. refl;
      symm = λ {x} {y} e. sym e;
      trans = λ {x} {y} {z} e f. e ∙ f;
      add_cong = λ {x} {x'} {y} {y'} e f. ap₂ add e f;
      mul_cong = λ {x} {x'} {y} {y'} e f. ap₂ mul e f;
      neg_cong = λ {x} {x'} e. ap negative e;
      add_assoc = a_assoc;
      add_comm = a_comm;
      add_zero = a_zero;
      add_neg = a_neg;
      mul_assoc = m_assoc;
      mul_comm = m_comm;
      mul_one = m_one;
      distrib = distributes;
    };
  }
