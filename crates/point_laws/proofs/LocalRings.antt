-- Rings of local fractions: enlarging them, and what a ring that cannot be enlarged holds.
use Rattle.std.proofs.Common.{◌≡◌, ap, subst, ◌∙◌, ℕ, zero, suc, ◌+◌, ◌-◌, ◌%◌, ◌≤◌, List, [], ◌∷◌, length, All, arith}
use Rattle.std.specs.List.{Contains}
use Rattle.std.proofs.lemmas.List.Elements.{All-nil, All-cons, All-head, All-tail, All-weaker}
use Rattle.prime_field.specs.Primes.{IsPrime}
use Rattle.comm_ring.specs.Ring.{CommRing, IsRingMap, pow}
use Rattle.comm_ring.specs.Residues.{residue_ops}
use Rattle.comm_ring.specs.Modules.{combine, Dimension, DimensionOf, Independent}
use Rattle.comm_ring.specs.Ideals.{InIdeal, IsIdeal, Into, ProductOf, no_product, one_more}
use Rattle.comm_ring.proofs.Derived as Derived
use Rattle.comm_ring.proofs.Fields.{residue_field}
use Rattle.comm_ring.proofs.Ideals as Ideals
use Rattle.comm_ring.proofs.Takes as Takes
use Rattle.comm_ring.proofs.Modules as Modules
use Rattle.comm_ring.proofs.Dimension as Dimension
use Rattle.fraction_laws.specs.Fractions.{Regular, MultipleOf, Frac, Equal, fraction_ops, InA, LocalTo, IsFractionRing, Whole, KeepsRadical, IsFullAt, fraction_space, LocalIndependent}
use Rattle.point_laws.specs.Points.{Point}
use Rattle.point_laws.specs.Laws.{ModuleOf, IsLocalRing, Enlargement, FullIsLocal, FullCountsDelta, LocalRingIsBounded}
use Rattle.fraction_laws.proofs.Settings.{IsRing, Setting, gr, Digits, IsOver, IsFull, Radical}
use Rattle.fraction_laws.proofs.Scalars.{Scalars, Dim}
use Rattle.fraction_laws.proofs.Forms as Forms
use Rattle.fraction_laws.proofs.Forms.{fraction_ground}
use Rattle.fraction_laws.proofs.WrittenOut.{Finite, Gens, setting, digits, taken_up, local_up, local_down, d_pow}
use Rattle.point_laws.proofs.AllPoints.{sums_up}
use Rattle.fraction_laws.proofs.Coordinates.{finite}
use Rattle.point_laws.proofs.Enlarging as Enlarging
use Rattle.point_laws.proofs.DescentWritten.{descent_written}
use Rattle.fraction_laws.proofs.Translations.{member, member_back, choose, local_in, local_out, multiple_resp}
use Rattle.point_laws.proofs.PointTranslations.{to_sums}
use Rattle.fraction_laws.proofs.Premises.{Space, scalars, dimension_in}
use Rattle.fraction_laws.proofs.Independence as Independence

module _ (Q : CommRing) (d : Q.carrier) (regular : Regular Q.ops d) (p : ℕ) (prime : IsPrime p) (scalar : ℕ → Q.carrier)
    (m : IsRingMap (residue_ops p) Q.ops scalar) (n : ℕ) (D : Dimension (Space Q p prime scalar m d) n) where
  open Q use {ops, carrier, ◌≈◌, ◌⊕◌, ◌⊗◌, neg, 𝟘, 𝟙, rfl, symm, trans, mul_cong, mul_one}

  infix 40 ◌≈◌
  infixl 60 ◌⊕◌
  infixl 70 ◌⊗◌
  abbrev S : Scalars ops
  S = scalars Q p prime scalar m

  abbrev Fin : Dim ops p scalar d n
  Fin = dimension_in Q p prime scalar m d n D

  abbrev F : Finite Q d
  F = finite Q S d n Fin

  abbrev K : Setting
  K = setting Q d regular

  abbrev N : Digits (gr K)
  N = digits Q d regular F

  abbrev Mem : List carrier → carrier → Type 0
  Mem P = Forms.Mem ops d P

  abbrev G : List carrier → Frac ops d → Type 0
  G P = Gens Q d regular (Mem P)

  inside : (P : List carrier) (x : Frac ops d) → G P x → K.A x
  unfolding pow
  inside P x g = (g.0, trans (symm (mul_one x.0)) g.2)

  -- the same ring of fractions, and the same radical
  pub ring_in : (B : Frac ops d → Type 0) → IsFractionRing ops d B → IsRing (fraction_ops ops d) B
  ring_in B r = record { resp = r.resp; one = r.one; add = r.add; mul = r.mul; neg = r.neg }

  product_map : (P R B : Frac ops d → Type 0) → ((u : Frac ops d) → P u → R u) → (x : Frac ops d) → ProductOf (fraction_ops ops d) P B x → ProductOf (fraction_ops ops d) R B x
  product_map P R B f _ (no_product x z) = no_product x z
  product_map P R B f _ (one_more x u v y hu hv hy z) = one_more x u v y (f u hu) hv (product_map P R B f y hy) z

  whole_in : (P : List carrier) (u : Frac ops d) → Whole ops d P u → G P u
  whole_in P u w = (w.0, member Q d P w.0 w.1, w.2)

  whole_out : (P : List carrier) (u : Frac ops d) → G P u → Whole ops d P u
  whole_out P u g = let q = member_back Q d P g.0 g.1 in (q.0, q.1, trans g.2 (mul_cong q.2 (rfl (pow ops d u.1))))

  pub full_in : (P : List carrier) (B : Frac ops d → Type 0) → IsFullAt ops d P B → IsFull (fraction_ground ops d) (G P) B
  full_in P B f h t = f h (λ x w. let r = t x (w.0, (w.1.0, product_map (Whole ops d P) (G P) B (whole_in P) _ w.1.1)) in
      (r.0, (r.1.0, product_map (G P) (Whole ops d P) B (whole_out P) _ r.1.1)))

  keeps_in : (P : List carrier) (B : Frac ops d → Type 0) (h : Frac ops d) → KeepsRadical ops d P B h → (x : Frac ops d) → Radical (gr K) (G P) B x → Radical (gr K) (G P) B ((fraction_ops ops d).◌⊗◌ h x)
  keeps_in P B h t x w = let r = t x (w.0, (w.1.0, product_map (G P) (Whole ops d P) B (whole_out P) _ w.1.1)) in (r.0, (r.1.0, product_map (Whole ops d P) (G P) B (whole_in P) _ r.1.1))

  keeps_out : (P : List carrier) (B : Frac ops d → Type 0) (h : Frac ops d) → ((x : Frac ops d) → Radical (gr K) (G P) B x → Radical (gr K) (G P) B ((fraction_ops ops d).◌⊗◌ h x)) → KeepsRadical ops d P B h
  keeps_out P B h t x w = let r = t x (w.0, (w.1.0, product_map (Whole ops d P) (G P) B (whole_in P) _ w.1.1)) in (r.0, (r.1.0, product_map (G P) (Whole ops d P) B (whole_out P) _ r.1.1))

  -- one number of factors for all of a list
  multiples : (k : ℕ) → IsIdeal ops (MultipleOf ops d k)
  multiples k = record {
    resp = multiple_resp Q d k;
    none = (𝟘, symm (Derived.zero_mul Q (pow ops d k)));
    add = λ x y h q. (h.0 ⊕ q.0, trans (Q.add_cong h.1 q.1) (symm (Derived.distrib_right Q h.0 q.0 (pow ops d k))));
    scale = λ c x h. (c ⊗ h.0, trans (mul_cong (rfl c) h.1) (symm (Q.mul_assoc c h.0 (pow ops d k))));
  }

  abbrev Taken : List carrier → ℕ → ℕ → carrier → Type 0
  Taken P k m b = Into ops (Contains P) m (MultipleOf ops d k) b

  common : (P : List carrier) (k : ℕ) (L : List carrier) → All (λ b. LocalTo ops d (Contains P) b k) L → (m : ℕ) × All (Taken P k m) L
  common P k [] h = (0, All-nil (Taken P k 0))
  common P k (b ∷ L) h =
      let l = All-head (λ c. LocalTo ops d (Contains P) c k) b L h in
      let r = common P k L (All-tail (λ c. LocalTo ops d (Contains P) c k) b L h) in
      let m = l.1.0 + r.0 in (
        m,
        All-cons (Taken P k m) b L
            (Takes.into_more Q (Contains P) (MultipleOf ops d k) (multiples k) l.1.0 m b (omega arith) (Takes.into_of_takes Q (Contains P) (MultipleOf ops d k) (multiple_resp Q d k) l.1.0 b l.1.1))
            (All-weaker (Taken P k r.0) (Taken P k m) (λ c t. Takes.into_more Q (Contains P) (MultipleOf ops d k) (multiples k) r.0 m c (omega arith) t) L r.1),
      )

  module _ (P : List carrier) (point : Point ops d P) (k : ℕ) (L : List carrier) (ring : IsLocalRing ops d P k L) where
    abbrev B : Frac ops d → Type 0
    B = ModuleOf ops d k L

    over : IsOver (gr K) B
    unfolding pow
    over = record {
      is_ring = ring_in B ring.ring;
      holds = ring.holds;
      power = k;
      within = λ x h. K.A_ring.resp (pow ops d k ⊗ x.0, x.1) _ (symm (d_pow Q d regular k x.0 x.1)) (h.0, trans (Q.mul_comm _ _) h.2);
    }

    d_in : ProductOf (fraction_ops ops d) (G P) (InA ops d) (d, 0)
    d_in = sums_up Q d regular P d (to_sums Q d P d point.0)

    uniform : (m : ℕ) × All (Taken P k m) L
    uniform = common P k L ring.local

    all_taken : (x : Frac ops d) → B x → Into (fraction_ops ops d) (G P) uniform.0 (InA ops d) x
    all_taken x h =
        Takes.into_resp K.ring (G P) (InA ops d) K.A_ring.resp uniform.0 (h.0, k) x (symm h.2)
        (taken_up Q d regular (Mem P) h.0 k uniform.0
        (λ l e q. let c = choose Q d P l q in
        multiple_resp Q d k _ _ (mul_cong (symm c.3) (rfl h.0))
        (Takes.takes_of_into Q (Contains P) (MultipleOf ops d k) (multiple_resp Q d k) uniform.0 h.0
        (Ideals.ideal_least Q (Taken P k uniform.0) (Takes.into_ideal Q (Contains P) (MultipleOf ops d k) (multiples k) uniform.0) L uniform.1 h.0 h.1)
        c.0 (c.1 ∙ e) c.2)))

    abbrev Keeps : Frac ops d → Type 0
    Keeps h = (x : Frac ops d) → Radical (gr K) (G P) B x → Radical (gr K) (G P) B ((fraction_ops ops d).◌⊗◌ h x)

    low_ring : IsRing (fraction_ops ops d) Keeps
    low_ring = Enlarging.stable_ring K N (G P) (inside P) d_in B over

    keeps_ring : IsFractionRing ops d (KeepsRadical ops d P B)
    keeps_ring = record {
      resp = λ x y e h. keeps_out P B y (low_ring.resp x y e (keeps_in P B x h));
      one = keeps_out P B _ low_ring.one;
      add = λ x y h g. keeps_out P B _ (low_ring.add x y (keeps_in P B x h) (keeps_in P B y g));
      mul = λ x y h g. keeps_out P B _ (low_ring.mul x y (keeps_in P B x h) (keeps_in P B y g));
      neg = λ x h. keeps_out P B _ (low_ring.neg x (keeps_in P B x h));
    }

    keeps_holds : (x : Frac ops d) → B x → KeepsRadical ops d P B x
    keeps_holds x h = keeps_out P B x (Enlarging.stable_holds K N (G P) (inside P) d_in B over x h)

    keeps_over : (h : Frac ops d) → KeepsRadical ops d P B h → (b : carrier) × Equal ops d h.0 h.1 b (suc k)
    unfolding over
    keeps_over h t =
        let a = Enlarging.stable_within K N (G P) (inside P) d_in B over h (keeps_in P B h t) in
        let b = K.A_ring.resp _ (pow ops d (suc k) ⊗ h.0, h.1) (d_pow Q d regular (suc k) h.0 h.1) a in
        (b.0, trans (Q.mul_comm _ _) b.1)

    keeps_local : (h : Frac ops d) → KeepsRadical ops d P B h → LocalTo ops d (Contains P) h.0 h.1
    keeps_local h t = local_out Q d P h.0 h.1 (local_down Q d regular (Mem P) h.0 h.1 (
      Enlarging.stable_integral K N (G P) (inside P) d_in B over h (keeps_in P B h t),
      (suc uniform.0, Enlarging.stable_local K N (G P) (inside P) d_in B over uniform.0 all_taken h (keeps_in P B h t)),
    ))

    member_local : (x : Frac ops d) → B x → LocalTo ops d (Contains P) x.0 x.1
    member_local x h = keeps_local x (keeps_holds x h)

    local_member : IsFullAt ops d P B → (x : Frac ops d) → LocalTo ops d (Contains P) x.0 x.1 → B x
    local_member full x w =
        descent_written Q d regular S n Fin P d_in k (InIdeal ops L) (ring_in B ring.ring) ring.holds (full_in P B full)
        x (local_up Q d regular (Mem P) x.0 x.1 (local_in Q d P x.0 x.1 w))

    abbrev Residues : CommRing
    Residues = Independence.K Q d regular p prime scalar m

    abbrev Fractions : Modules.Module Residues
    Fractions = Independence.FractionSpace Q d regular p prime scalar m

    abbrev Ind : List (Frac ops d) → Type 0
    Ind fs = Independent (residue_ops p) (fraction_space ops d p scalar) fs

    abbrev Loc : Frac ops d → Type 0
    Loc f = LocalTo ops d (Contains P) f.0 f.1

    basis_local : (r : ℕ) → DimensionOf (fraction_space ops d p scalar) B r → LocalIndependent ops d p scalar P r
    basis_local r D = (D.0, D.1, All-weaker B Loc member_local D.0 D.2, Dimension.independent_of_dimension Residues (residue_field p prime) Fractions B r D)

    no_more : IsFullAt ops d P B → (r : ℕ) → DimensionOf (fraction_space ops d p scalar) B r → ¬ (LocalIndependent ops d p scalar P (suc r))
    no_more full r D b =
        let l : length b.0 ≤ r = Dimension.dimension_most Residues (residue_field p prime) Fractions B r D b.0 (All-weaker Loc B (local_member full) b.0 b.2) b.3 in
        let e : length b.0 ≡ suc r = b.1 in
        absurd (omega arith)

    independent_tail : (f : Frac ops d) (fs : List (Frac ops d)) → Ind (f ∷ fs) → Ind fs
    unfolding combine
    independent_tail f fs i cs l e = All-tail (λ c. c % p ≡ 0 % p) 0 cs
        (i (0 ∷ cs) (ap suc l) (Fractions.trans (Fractions.add_cong (Modules.zero_scale Residues Fractions f) (Fractions.rfl _)) (Fractions.trans (Modules.origin_add Residues Fractions _) e)))

    one_less : (r : ℕ) → LocalIndependent ops d p scalar P (suc r) → LocalIndependent ops d p scalar P r
    one_less r b = go b.0 b.1 b.2 b.3
      where
        go : (fs : List (Frac ops d)) → length fs ≡ suc r → All Loc fs → Ind fs → LocalIndependent ops d p scalar P r
        go [] e l i = absurd (omega arith)
        go (f ∷ fs) e l i = (fs, (let q : length (f ∷ fs) ≡ suc r = e in omega arith), All-tail Loc f fs l, independent_tail f fs i)

    fewer : (l r : ℕ) → LocalIndependent ops d p scalar P (l + r) → LocalIndependent ops d p scalar P r
    fewer zero r b = subst (λ j. LocalIndependent ops d p scalar P j) (omega arith) b
    fewer (suc l) r b = fewer l r (one_less (l + r) (subst (λ j. LocalIndependent ops d p scalar P j) (omega arith) b))

  pub enlargement : Enlargement ops d
  enlargement P point k L r = (keeps_ring P point k L r, keeps_holds P point k L r, λ h t. (keeps_over P point k L r h t, keeps_local P point k L r h t))

  pub full_is_local : FullIsLocal ops d
  full_is_local P point k L r full a l = (member_local P point k L r (a, l), local_member P point k L r full (a, l))

  pub full_counts_delta : FullCountsDelta ops d p scalar
  full_counts_delta P point k L ring full r D = (basis_local P point k L ring r D, no_more P point k L ring full r D)

  pub local_ring_is_bounded : LocalRingIsBounded ops d p scalar
  local_ring_is_bounded P point k L ring r D l q = fewer P point k L ring (r - l) l (subst (λ j. LocalIndependent ops d p scalar P j) (omega arith) (basis_local P point k L ring r D))
