-- A module modulo a submodule.
use Rattle.comm_ring.specs.Ring.{CommRing}
use Rattle.comm_ring.specs.Modules.{IsModule, IsSubmodule, modulo}
use Rattle.comm_ring.proofs.Modules as Modules
use Rattle.comm_ring.proofs.Modules.{Module}

module _ (R : CommRing) (M : Module R) (N : M.carrier → Type 0) (n : IsSubmodule M.ops N) where
  open M use {ops, carrier, ◌≋◌, ◌⊞◌, opposite, origin, ◌·◌, rfl, symm, trans, add_cong, opposite_cong, scale_cong, add_assoc, add_comm, add_origin, add_opposite, scale_sum, sum_scale, product_scale, one_scale}

  infix 40 ◌≋◌
  infixl 60 ◌⊞◌
  infixr 65 ◌·◌
  infixr 30 ◌⨾◌
  ◌⨾◌ : {x y z : carrier} → x ≋ y → y ≋ z → x ≋ z
  ◌⨾◌ e f = trans e f

  -- what is equal is equal modulo N
  pub equal_modulo : (x y : carrier) → x ≋ y → N (x ⊞ opposite y)
  equal_modulo x y e = Modules.equal_in R M N n x y e

  flipped : (x y : carrier) → N (x ⊞ opposite y) → N (y ⊞ opposite x)
  flipped x y h = n.resp (opposite (x ⊞ opposite y)) (y ⊞ opposite x)
      (Modules.opposite_sum R M x (opposite y) ⨾ add_cong (rfl (opposite x)) (Modules.opposite_opposite R M y) ⨾ add_comm (opposite x) y)
      (Modules.opposite_in R M N n (x ⊞ opposite y) h)

  chained : (x y z : carrier) → N (x ⊞ opposite y) → N (y ⊞ opposite z) → N (x ⊞ opposite z)
  chained x y z h k = n.resp ((x ⊞ opposite y) ⊞ (y ⊞ opposite z)) (x ⊞ opposite z)
      (symm (add_assoc (x ⊞ opposite y) y (opposite z)) ⨾ add_cong (Modules.sub_undo R M x y) (rfl (opposite z)))
      (n.add (x ⊞ opposite y) (y ⊞ opposite z) h k)

  added : (x x' y y' : carrier) → N (x ⊞ opposite x') → N (y ⊞ opposite y') → N ((x ⊞ y) ⊞ opposite (x' ⊞ y'))
  added x x' y y' h k = n.resp ((x ⊞ opposite x') ⊞ (y ⊞ opposite y')) ((x ⊞ y) ⊞ opposite (x' ⊞ y'))
      (Modules.add_exchange R M x (opposite x') y (opposite y') ⨾ add_cong (rfl (x ⊞ y)) (symm (Modules.opposite_sum R M x' y')))
      (n.add (x ⊞ opposite x') (y ⊞ opposite y') h k)

  scaled : (c c' : R.carrier) (x x' : carrier) → R.◌≈◌ c c' → N (x ⊞ opposite x') → N ((c · x) ⊞ opposite (c' · x'))
  scaled c c' x x' e h = n.resp (c · (x ⊞ opposite x')) ((c · x) ⊞ opposite (c' · x'))
      (scale_sum c x (opposite x') ⨾ add_cong (rfl (c · x)) (Modules.scale_opposite R M c x' ⨾ opposite_cong (scale_cong e (rfl x'))))
      (n.scale c (x ⊞ opposite x') h)

  pub modulo_laws : IsModule R.ops (modulo ops N)
  modulo_laws = record {
    rfl = λ x. equal_modulo x x (rfl x);
    symm = λ {x} {y} h. flipped x y h;
    trans = λ {x} {y} {z} h k. chained x y z h k;
    add_cong = λ {x} {x'} {y} {y'} h k. added x x' y y' h k;
    opposite_cong = λ {x} {x'} h. n.resp (opposite (x ⊞ opposite x')) (opposite x ⊞ opposite (opposite x')) (Modules.opposite_sum R M x (opposite x')) (Modules.opposite_in R M N n (x ⊞ opposite x') h);
    scale_cong = λ {c} {c'} {x} {x'} e h. scaled c c' x x' e h;
    add_assoc = λ x y z. equal_modulo _ _ (add_assoc x y z);
    add_comm = λ x y. equal_modulo _ _ (add_comm x y);
    add_origin = λ x. equal_modulo _ _ (add_origin x);
    add_opposite = λ x. equal_modulo _ _ (add_opposite x);
    scale_sum = λ c x y. equal_modulo _ _ (scale_sum c x y);
    sum_scale = λ c e x. equal_modulo _ _ (sum_scale c e x);
    product_scale = λ c e x. equal_modulo _ _ (product_scale c e x);
    one_scale = λ x. equal_modulo _ _ (one_scale x);
  }

  -- the module modulo N
  abbrev pub quotient : Module R
  quotient = record { ops = modulo ops N; laws = modulo_laws }

  -- the origin modulo N is exactly N
  pub origin_modulo : (x : carrier) → N x → N (x ⊞ opposite origin)
  origin_modulo x h = n.resp x (x ⊞ opposite origin) (symm (add_cong (rfl x) (Modules.opposite_origin R M) ⨾ add_origin x)) h

  pub modulo_origin : (x : carrier) → N (x ⊞ opposite origin) → N x
  modulo_origin x h = n.resp (x ⊞ opposite origin) x (add_cong (rfl x) (Modules.opposite_origin R M) ⨾ add_origin x) h
