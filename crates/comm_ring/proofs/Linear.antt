-- Identities between members of a module, by the solver of ring identities: the pairs of a scalar and a member are a
-- ring in which products of two members are 0.
use Rattle.std.proofs.Common.{ℕ, suc, List, [], ◌∷◌}
use lib.Dec.{T}
use Rattle.comm_ring.specs.Ring.{Ops, IsCommRing, CommRing, sub}
use Rattle.comm_ring.proofs.Derived as Derived
use Rattle.comm_ring.proofs.Solver.{Expression, agree, value, at}
use Rattle.comm_ring.proofs.Solver.Expression.{var, null, unit, add, mul, opp}
use Rattle.comm_ring.proofs.Expressions.{ring_as}
use Rattle.comm_ring.proofs.Modules as Modules
use Rattle.comm_ring.proofs.Modules.{Module}

module _ (R : CommRing) (M : Module R) where
  open M use {carrier, ◌≋◌, ◌⊞◌, opposite, origin, ◌·◌, rfl, symm, trans, add_cong, opposite_cong, scale_cong, add_assoc, add_comm, add_origin, add_opposite, scale_sum, sum_scale, product_scale, one_scale}

  infix 40 ◌≋◌
  infixl 60 ◌⊞◌
  infixr 65 ◌·◌
  infixr 30 ◌⨾◌
  ◌⨾◌ : {x y z : carrier} → x ≋ y → y ≋ z → x ≋ z
  ◌⨾◌ e f = trans e f

  -- pairs of a scalar and a member
  abbrev pub pair_ops : Ops
  pair_ops = record {
    carrier = R.carrier × carrier;
    ◌≈◌ = λ x y. R.◌≈◌ x.0 y.0 × x.1 ≋ y.1;
    ◌⊕◌ = λ x y. (R.◌⊕◌ x.0 y.0, x.1 ⊞ y.1);
    ◌⊗◌ = λ x y. (R.◌⊗◌ x.0 y.0, (x.0 · y.1) ⊞ (y.0 · x.1));
    neg = λ x. (R.neg x.0, opposite x.1);
    𝟘 = (R.𝟘, origin);
    𝟙 = (R.𝟙, origin);
  }

  scale_swap : (a b : R.carrier) (x : carrier) → a · b · x ≋ b · a · x
  scale_swap a b x = symm (product_scale a b x) ⨾ scale_cong (R.mul_comm a b) (rfl x) ⨾ product_scale b a x

  assoc : (a b c : R.carrier) (x y z : carrier) → ((R.◌⊗◌ a b) · z) ⊞ (c · ((a · y) ⊞ (b · x))) ≋ (a · ((b · z) ⊞ (c · y))) ⊞ ((R.◌⊗◌ b c) · x)
  assoc a b c x y z =
      add_cong (product_scale a b z) (scale_sum c (a · y) (b · x) ⨾ add_cong (scale_swap c a y) (scale_swap c b x ⨾ symm (product_scale b c x)))
      ⨾ symm (add_assoc (a · b · z) (a · c · y) ((R.◌⊗◌ b c) · x))
      ⨾ add_cong (symm (scale_sum a (b · z) (c · y))) (rfl ((R.◌⊗◌ b c) · x))

  distributes : (a b c : R.carrier) (x y z : carrier) → (a · (y ⊞ z)) ⊞ ((R.◌⊕◌ b c) · x) ≋ ((a · y) ⊞ (b · x)) ⊞ ((a · z) ⊞ (c · x))
  distributes a b c x y z = add_cong (scale_sum a y z) (sum_scale b c x) ⨾ Modules.add_exchange R M (a · y) (a · z) (b · x) (c · x)

  -- pairs are a ring
  pub pair_laws : IsCommRing pair_ops
  pair_laws = record {
    rfl = λ x. (R.rfl x.0, rfl x.1);
    symm = λ {x} {y} e. (R.symm e.0, symm e.1);
    trans = λ {x} {y} {z} e f. (R.trans e.0 f.0, trans e.1 f.1);
    add_cong = λ {x} {x'} {y} {y'} e f. (R.add_cong e.0 f.0, add_cong e.1 f.1);
    mul_cong = λ {x} {x'} {y} {y'} e f. (R.mul_cong e.0 f.0, add_cong (scale_cong e.0 f.1) (scale_cong f.0 e.1));
    neg_cong = λ {x} {x'} e. (R.neg_cong e.0, opposite_cong e.1);
    add_assoc = λ x y z. (R.add_assoc x.0 y.0 z.0, add_assoc x.1 y.1 z.1);
    add_comm = λ x y. (R.add_comm x.0 y.0, add_comm x.1 y.1);
    add_zero = λ x. (R.add_zero x.0, add_origin x.1);
    add_neg = λ x. (R.add_neg x.0, add_opposite x.1);
    mul_assoc = λ x y z. (R.mul_assoc x.0 y.0 z.0, assoc x.0 y.0 z.0 x.1 y.1 z.1);
    mul_comm = λ x y. (R.mul_comm x.0 y.0, add_comm (x.0 · y.1) (y.0 · x.1));
    mul_one = λ x. (R.mul_one x.0, add_cong (Modules.scale_origin R M x.0) (one_scale x.1) ⨾ Modules.origin_add R M x.1);
    distrib = λ x y z. (R.distrib x.0 y.0 z.0, distributes x.0 y.0 z.0 x.1 y.1 z.1);
  }

  -- the ring of pairs
  abbrev pub pairs : CommRing
  pairs = record { ops = pair_ops; laws = pair_laws }

-- the scalars, then the members, as pairs
abbrev pub members : (R : CommRing) (M : Module R) → List M.carrier → List (R.carrier × M.carrier)
members R M [] = []
members R M (x ∷ xs) = (R.𝟘, x) ∷ members R M xs

abbrev pub atoms : (R : CommRing) (M : Module R) → List R.carrier → List M.carrier → List (R.carrier × M.carrier)
atoms R M [] xs = members R M xs
atoms R M (c ∷ cs) xs = (c, M.origin) ∷ atoms R M cs xs

-- the pair is one of vars
pub record IsAtom (R : CommRing) (M : Module R) (vars : List (R.carrier × M.carrier)) (x : R.carrier × M.carrier) : Type 0 where
  pub index : ℕ
  pub is : (pair_ops R M).◌≈◌ (at (pairs R M) vars index) x

-- the scalar c is the value of an expression
pub record ReadScalar (R : CommRing) (M : Module R) (vars : List (R.carrier × M.carrier)) (c : R.carrier) : Type 0 where
  pub expression : Expression
  pub is : (pair_ops R M).◌≈◌ (value (pairs R M) vars expression) (c, M.origin)

-- the member x is the value of an expression
pub record ReadMember (R : CommRing) (M : Module R) (vars : List (R.carrier × M.carrier)) (x : M.carrier) : Type 0 where
  pub expression : Expression
  pub is : (pair_ops R M).◌≈◌ (value (pairs R M) vars expression) (R.𝟘, x)

module _ {R : CommRing} {M : Module R} where
  -- the first pair, and a later one
  abbrev pub atom_here : {vars : List (R.carrier × M.carrier)} {x : R.carrier × M.carrier} → IsAtom R M (x ∷ vars) x
  atom_here {x = x} = record { index = 0; is = (R.rfl x.0, M.rfl x.1) }

  abbrev pub atom_there : {vars : List (R.carrier × M.carrier)} {x y : R.carrier × M.carrier} → IsAtom R M vars x → IsAtom R M (y ∷ vars) x
  atom_there a = record { index = suc a.index; is = a.is }

  module _ {vars : List (R.carrier × M.carrier)} where
    abbrev pub s_atom : {c : R.carrier} → IsAtom R M vars (c, M.origin) → ReadScalar R M vars c
    s_atom a = record { expression = var a.index; is = a.is }

    abbrev pub m_atom : {x : M.carrier} → IsAtom R M vars (R.𝟘, x) → ReadMember R M vars x
    m_atom a = record { expression = var a.index; is = a.is }

    abbrev pub s_zero : ReadScalar R M vars R.𝟘
    s_zero = record { expression = null; is = (R.rfl R.𝟘, M.rfl M.origin) }

    abbrev pub s_one : ReadScalar R M vars R.𝟙
    s_one = record { expression = unit; is = (R.rfl R.𝟙, M.rfl M.origin) }

    abbrev pub s_add : {c e : R.carrier} → ReadScalar R M vars c → ReadScalar R M vars e → ReadScalar R M vars (R.◌⊕◌ c e)
    s_add p q = record { expression = add p.expression q.expression; is = (R.add_cong p.is.0 q.is.0, M.trans (M.add_cong p.is.1 q.is.1) (M.add_origin M.origin)) }

    abbrev pub s_neg : {c : R.carrier} → ReadScalar R M vars c → ReadScalar R M vars (R.neg c)
    s_neg p = record { expression = opp p.expression; is = (R.neg_cong p.is.0, M.trans (M.opposite_cong p.is.1) (Modules.opposite_origin R M)) }

    abbrev pub s_sub : {c e : R.carrier} → ReadScalar R M vars c → ReadScalar R M vars e → ReadScalar R M vars (sub R.ops c e)
    s_sub p q = s_add p (s_neg q)

    abbrev pub s_mul : {c e : R.carrier} → ReadScalar R M vars c → ReadScalar R M vars e → ReadScalar R M vars (R.◌⊗◌ c e)
    s_mul {c = c} {e = e} p q = record {
      expression = mul p.expression q.expression;
      is = (
        R.mul_cong p.is.0 q.is.0,
        M.trans (M.add_cong (M.scale_cong p.is.0 q.is.1) (M.scale_cong q.is.0 p.is.1)) (M.trans (M.add_cong (Modules.scale_origin R M c) (Modules.scale_origin R M e)) (M.add_origin M.origin)),
      );
    }

    abbrev pub m_origin : ReadMember R M vars M.origin
    m_origin = record { expression = null; is = (R.rfl R.𝟘, M.rfl M.origin) }

    abbrev pub m_add : {x y : M.carrier} → ReadMember R M vars x → ReadMember R M vars y → ReadMember R M vars (M.◌⊞◌ x y)
    m_add p q = record { expression = add p.expression q.expression; is = (R.trans (R.add_cong p.is.0 q.is.0) (R.add_zero R.𝟘), M.add_cong p.is.1 q.is.1) }

    abbrev pub m_opposite : {x : M.carrier} → ReadMember R M vars x → ReadMember R M vars (M.opposite x)
    m_opposite p = record { expression = opp p.expression; is = (R.trans (R.neg_cong p.is.0) (Derived.neg_zero R), M.opposite_cong p.is.1) }

    abbrev pub m_scale : {c : R.carrier} {x : M.carrier} → ReadScalar R M vars c → ReadMember R M vars x → ReadMember R M vars (M.◌·◌ c x)
    m_scale {c = c} {x = x} p q = record {
      expression = mul p.expression q.expression;
      is = (
        R.trans (R.mul_cong p.is.0 q.is.0) (Derived.mul_zero R c),
        M.trans (M.add_cong (M.scale_cong p.is.0 q.is.1) (M.scale_cong q.is.0 p.is.1)) (M.trans (M.add_cong (M.rfl (M.◌·◌ c x)) (Modules.zero_scale R M M.origin)) (M.add_origin (M.◌·◌ c x))),
      );
    }

-- both sides of an equation between members
pub record MemberSides (R : CommRing) (M : Module R) (vars : List (R.carrier × M.carrier)) (x y : M.carrier) : Type 0 where
  pub left : ReadMember R M vars x
  pub right : ReadMember R M vars y

-- both sides are read
abbrev pub member_sides : {R : CommRing} {M : Module R} {vars : List (R.carrier × M.carrier)} {x y : M.carrier} → ReadMember R M vars x → ReadMember R M vars y → MemberSides R M vars x y
member_sides p q = record { left = p; right = q }

-- the forms of members and of scalars, the atoms last
pub ruleset linear_quote = (member_sides, m_add, m_scale, m_opposite, m_origin, s_add, s_mul, s_sub, s_neg, s_zero, s_one, m_atom, s_atom, atom_here, atom_there)

-- both sides have one normal form in the scalars cs and the members xs; the last argument is `tt`
pub linear : (R : CommRing) (M : Module R) (cs : List R.carrier) (xs : List M.carrier) {x y : M.carrier} (s : MemberSides R M (atoms R M cs xs) x y)
    → T (agree s.left.expression s.right.expression) → M.◌≋◌ x y
linear R M cs xs s t = M.trans (M.symm s.left.is.1) (M.trans (ring_as (pairs R M) (atoms R M cs xs) s.left.expression s.right.expression t).1 s.right.is.1)
