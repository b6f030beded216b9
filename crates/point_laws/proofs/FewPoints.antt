-- Distinct points are at most the dimension modulo d: members that are 1 at one point and 0 at the later ones are independent.
use Rattle.std.proofs.Common.{◌≡◌, ◌⊎◌, inl, inr, refl, ap, ℕ, suc, ◌%◌, ◌≤◌, List, [], ◌∷◌, length, All, subst, arith}
use Rattle.std.proofs.lemmas.List.Elements.{All-nil, All-cons}
use Rattle.prime_field.specs.Primes.{IsPrime}
use Rattle.comm_ring.specs.Ring.{CommRing, IsRingMap}
use Rattle.comm_ring.specs.Residues.{residue_ops}
use Rattle.comm_ring.specs.Modules.{combine, combination, Dimension, module_through, Independent}
use Rattle.comm_ring.specs.Ideals.{InIdeal}
use Rattle.comm_ring.proofs.Quote.{ring, quote}
use Rattle.comm_ring.proofs.Residues.{residues}
use Rattle.comm_ring.proofs.Fields.{residue_field}
use Rattle.comm_ring.proofs.Modules as Modules
use Rattle.comm_ring.proofs.Quotients.{modulo_origin}
use Rattle.comm_ring.proofs.Dimension as Dimensions
use Rattle.fraction_laws.specs.Fractions.{Regular}
use Rattle.fraction_laws.proofs.Scalars.{Scalars, Dim}
use Rattle.fraction_laws.proofs.Premises.{positive, Space, space, scalars, dimension_in, submodule, multiple_out}
use Rattle.point_laws.specs.Points.{DistinctPoints}
use Rattle.point_laws.proofs.PointForms.{Id, Max, InAll, Point, EachPoint, Differs, Distinct}
use Rattle.point_laws.proofs.MaximalIdeals.{id_resp, id_add, id_mul, id_d, id_none}
use Rattle.point_laws.proofs.DistinctPoints.{max_of_point, coprime}
use Rattle.point_laws.proofs.PointTranslations.{points_in, distinct_in}

module _ (Q : CommRing) (d : Q.carrier) (regular : Regular Q.ops d) (p : ℕ) (prime : IsPrime p) (scalar : ℕ → Q.carrier)
    (m : IsRingMap (residue_ops p) Q.ops scalar) (n : ℕ) (D : Dimension (Space Q p prime scalar m d) n) where
  open Q use {ops, carrier, ◌≈◌, ◌⊕◌, ◌⊗◌, neg, 𝟘, 𝟙, rfl, symm, trans, add_cong, mul_cong, add_zero, add_neg, mul_comm}

  infix 40 ◌≈◌
  infixl 60 ◌⊕◌
  infixl 70 ◌⊗◌
  abbrev S : Scalars ops
  S = scalars Q p prime scalar m

  abbrev Fin : Dim ops p scalar d n
  Fin = dimension_in Q p prime scalar m d n D

  abbrev I : List carrier → carrier → Type 0
  I t x = Id ops d t x

  abbrev All_of : List (List carrier) → carrier → Type 0
  All_of s x = InAll ops d s x

  -- differences, and members of all the ideals
  id_sub : (t : List carrier) (x y : carrier) → I t x → I t y → I t (x ⊕ neg y)
  id_sub t x y h k = id_add Q d t x (neg y) h (id_resp Q d t (neg 𝟙 ⊗ y) (neg y) (ring Q (y ∷ []) (search quote depth 20) tt) (id_mul Q d t (neg 𝟙) y k))

  all_mul : (s : List (List carrier)) (c x : carrier) → All_of s x → All_of s (c ⊗ x)
  all_mul [] c x h = tt
  all_mul (t ∷ s) c x h = (id_mul Q d t c x h.0, all_mul s c x h.1)

  all_rest : (s : List (List carrier)) (x y : carrier) → All_of s x → All_of s (x ⊕ y) → All_of s y
  all_rest [] x y h k = tt
  all_rest (t ∷ s) x y h k = (
    id_resp Q d t ((x ⊕ y) ⊕ neg x) y (ring Q (x ∷ y ∷ []) (search quote depth 20) tt) (id_sub t (x ⊕ y) x k.0 h.0),
    all_rest s x y h.1 k.1,
  )

  all_d : (s : List (List carrier)) (q x : carrier) → x ≈ d ⊗ q → All_of s x
  all_d [] q x e = tt
  all_d (t ∷ s) q x e = (id_resp Q d t (d ⊗ q) x (symm e) (id_d Q d t q), all_d s q x e)

  -- some member is 1 modulo t, and 0 modulo each of s
  abbrev Separated : List carrier → List (List carrier) → Type 0
  Separated t s = (e : carrier) × I t (𝟙 ⊕ neg e) × All_of s e

  times : (x y e : carrier) → x ⊕ y ≈ 𝟙 → x ⊕ y ⊗ (𝟙 ⊕ neg e) ≈ 𝟙 ⊕ neg (y ⊗ e)
  times x y e h = trans (ring Q (x ∷ y ∷ e ∷ []) (search quote depth 20) tt) (add_cong h (rfl (neg (y ⊗ e))))

  separator : (t : List carrier) (s : List (List carrier)) → Point ops d t → EachPoint ops d s → Differs ops d t s → Separated t s
  separator t [] a b f = (𝟙, id_resp Q d t 𝟘 (𝟙 ⊕ neg 𝟙) (symm (add_neg 𝟙)) (id_none Q d t), tt)
  separator t (u ∷ s) a b f =
      let w = coprime Q d regular S n Fin t u a b.0 f.0 in
      let r = separator t s a b.1 f.1 in (
        w.1 ⊗ r.0,
        id_resp Q d t (w.0 ⊕ w.1 ⊗ (𝟙 ⊕ neg r.0)) (𝟙 ⊕ neg (w.1 ⊗ r.0)) (times w.0 w.1 r.0 w.4) (id_add Q d t w.0 (w.1 ⊗ (𝟙 ⊕ neg r.0)) w.2 (id_mul Q d t w.1 (𝟙 ⊕ neg r.0) r.1)),
        (id_resp Q d u (r.0 ⊗ w.1) (w.1 ⊗ r.0) (mul_comm r.0 w.1) (id_mul Q d u r.0 w.1 w.3), all_mul s w.1 r.0 r.2),
      )

  unfoldable separators : (s : List (List carrier)) → EachPoint ops d s → Distinct ops d s → List carrier
  separators [] a f = []
  separators (t ∷ s) a f = (separator t s a.0 a.1 f.0).0 ∷ separators s a.1 f.1

  length-separators : (s : List (List carrier)) (a : EachPoint ops d s) (f : Distinct ops d s) → length (separators s a f) ≡ length s
  unfolding separators
  length-separators [] a f = refl
  length-separators (t ∷ s) a f = ap suc (length-separators s a.1 f.1)

  abbrev sum : List ℕ → List carrier → carrier
  sum cs es = combination (module_through ops scalar) cs es

  abbrev IsZero : ℕ → Type 0
  IsZero c = c % p ≡ 0 % p

  -- a residue in a proper ideal is 0
  zero_in : (t : List carrier) → Max ops d t → (c : ℕ) → I t (scalar c) → IsZero c
  zero_in t h c k = go ((residue_field p prime).zero_or_inverse c)
    where
      go : IsZero c ⊎ ((e : ℕ) × (residue_ops p).◌≈◌ ((residue_ops p).◌⊗◌ e c) 1) → IsZero c
      go (inl z) = z
      go (inr i) = absurd (h.0 (id_resp Q d t (scalar i.0 ⊗ scalar c) 𝟙 (trans (symm (m.mul i.0 c)) (trans (m.resp ((residue_ops p).◌⊗◌ i.0 c) 1 i.1) m.one)) (id_mul Q d t (scalar i.0) (scalar c) k)))

  -- a combination of them that lies in each ideal has residues 0
  residues_are_zero : (s : List (List carrier)) (a : EachPoint ops d s) (f : Distinct ops d s) (cs : List ℕ) → length cs ≡ length (separators s a f) → All_of s (sum cs (separators s a f)) → All IsZero cs
  unfolding separators combine
  residues_are_zero [] a f [] l h = All-nil IsZero
  residues_are_zero [] a f (c ∷ cs) l h = absurd (omega arith)
  residues_are_zero (t ∷ s) a f [] l h = absurd (omega arith)
  residues_are_zero (t ∷ s) a f (c ∷ cs) l h =
      let w = separator t s a.0 a.1 f.0 in
      let es = separators s a.1 f.1 in
      let rest : All IsZero cs = residues_are_zero s a.1 f.1 cs (let q : length (c ∷ cs) ≡ length (w.0 ∷ es) = l in omega arith)
      (all_rest s (scalar c ⊗ w.0) (sum cs es) (all_mul s (scalar c) w.0 w.2) h.1) in
      let none : sum cs es ≈ 𝟘 = Modules.combination-zeros (residues p (positive Q p prime scalar m)) (Modules.through (residues p (positive Q p prime scalar m)) Q scalar m) cs es rest in
      let at : I t (scalar c ⊗ w.0) = id_resp Q d t (scalar c ⊗ w.0 ⊕ sum cs es) (scalar c ⊗ w.0) (trans (add_cong (rfl (scalar c ⊗ w.0)) none) (add_zero (scalar c ⊗ w.0))) h.0 in
      All-cons IsZero c cs (zero_in t (max_of_point Q d regular S n Fin t a.0) c
      (id_resp Q d t (scalar c ⊗ w.0 ⊕ scalar c ⊗ (𝟙 ⊕ neg w.0)) (scalar c) (ring Q (scalar c ∷ w.0 ∷ []) (search quote depth 20) tt)
      (id_add Q d t (scalar c ⊗ w.0) (scalar c ⊗ (𝟙 ⊕ neg w.0)) at (id_mul Q d t (scalar c) (𝟙 ⊕ neg w.0) w.1)))) rest

  pub few : (s : List (List carrier)) → DistinctPoints ops d s → length s ≤ n
  few s h =
      let a = points_in Q d s h.0 in
      let f = distinct_in Q d s h.1 in
      let K = residues p (positive Q p prime scalar m) in
      let i : Independent (residue_ops p) (Space Q p prime scalar m d) (separators s a f) =
      λ cs l e.
      let q = multiple_out Q p prime scalar m d (sum cs (separators s a f)) (modulo_origin K (Modules.through K Q scalar m) (InIdeal ops (d ∷ [])) (submodule Q p prime scalar m d) (sum cs (separators s a f)) e) in
      residues_are_zero s a f cs l (all_d s q.0 (sum cs (separators s a f)) q.1) in
      subst (λ k. k ≤ n) (length-separators s a f)
      (Dimensions.dimension_most K (residue_field p prime) (space Q p prime scalar m d) (λ x. Unit {0}) n D (separators s a f) (λ k e l. tt) i)
