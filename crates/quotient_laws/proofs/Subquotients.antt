-- A subring modulo one of its ideals, as a ring.
use Rattle.comm_ring.specs.Ring.{Ops, CommRing, IsCommRing}
use Rattle.comm_ring.specs.Ideals.{IsIdeal}
use Rattle.comm_ring.proofs.Ideals as Ideals
use Rattle.fraction_laws.proofs.Settings.{IsRing, IsModule}

module _ (R : CommRing) (B N : R.carrier → Type 0) (r : IsRing R.ops B) (m : IsModule R.ops B N) where
  open R use {◌⊕◌, ◌⊗◌, neg, 𝟘, 𝟙}

  infixl 60 ◌⊕◌
  infixl 70 ◌⊗◌
  pub none_in : B 𝟘
  none_in = r.resp (𝟙 ⊕ neg 𝟙) 𝟘 (R.add_neg 𝟙) (r.add 𝟙 (neg 𝟙) r.one (r.neg 𝟙 r.one))

  -- the subring
  abbrev pub subring_ops : Ops
  subring_ops = record {
    carrier = (x : R.carrier) × B x;
    ◌≈◌ = λ x y. R.◌≈◌ x.0 y.0;
    ◌⊕◌ = λ x y. (x.0 ⊕ y.0, r.add x.0 y.0 x.1 y.1);
    ◌⊗◌ = λ x y. (x.0 ⊗ y.0, r.mul x.0 y.0 x.1 y.1);
    neg = λ x. (neg x.0, r.neg x.0 x.1);
    𝟘 = (𝟘, none_in);
    𝟙 = (𝟙, r.one);
  }

  pub subring_laws : IsCommRing subring_ops
  subring_laws = record {
    rfl = λ x. R.rfl x.0;
    symm = λ {x} {y} e. R.symm e;
    trans = λ {x} {y} {z} e h. R.trans e h;
    add_cong = λ {x} {x'} {y} {y'} e h. R.add_cong e h;
    mul_cong = λ {x} {x'} {y} {y'} e h. R.mul_cong e h;
    neg_cong = λ {x} {x'} e. R.neg_cong e;
    add_assoc = λ x y z. R.add_assoc x.0 y.0 z.0;
    add_comm = λ x y. R.add_comm x.0 y.0;
    add_zero = λ x. R.add_zero x.0;
    add_neg = λ x. R.add_neg x.0;
    mul_assoc = λ x y z. R.mul_assoc x.0 y.0 z.0;
    mul_comm = λ x y. R.mul_comm x.0 y.0;
    mul_one = λ x. R.mul_one x.0;
    distrib = λ x y z. R.distrib x.0 y.0 z.0;
  }

  abbrev pub subring : CommRing
  subring = record { ops = subring_ops; laws = subring_laws }

  pub ideal : IsIdeal subring_ops (λ x. N x.0)
  ideal = record {
    resp = λ x y e h. m.resp x.0 y.0 e h;
    none = m.none;
    add = λ x y h k. m.add x.0 y.0 h k;
    scale = λ b x h. m.mul b.0 x.0 b.1 h;
  }

  -- the subring modulo the ideal
  abbrev pub subquotient : CommRing
  subquotient = Ideals.quotient_ring subring (λ x. N x.0) ideal
