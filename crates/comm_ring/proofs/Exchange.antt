-- The exchange law over a field: members of a span replace as many of the members that span it.
use Rattle.std.proofs.Common.{◌≡◌, ◌⊎◌, inl, inr, suc, ◌+◌, ◌<◌, ◌≤◌, List, [], ◌∷◌, ◌++◌, length, All, refl, sym, ap, subst, arith}
use Rattle.std.specs.List.{Contains}
use Rattle.std.proofs.lemmas.List.Elements.{All-nil, All-cons, All-head, All-tail, All-append, All-weaker, All-contains_itself, All-contains}
use Rattle.comm_ring.specs.Ring.{CommRing}
use Rattle.comm_ring.specs.Modules.{IsSubmodule, IsField, combine, combination, InSpan, Independent, Dependent}
use Rattle.comm_ring.proofs.Modules as Modules
use Rattle.comm_ring.proofs.Modules.{Module}

-- a member of a list is one of the longer list
contains_more : {X : Type 0} (y : X) (xs : List X) (x : X) → Contains xs x → Contains (y ∷ xs) x
contains_more y xs x h = (suc h.0, omega arith, h.2)

-- every member of the first list is one of the second
abbrev pub Part : {X : Type 0} → List X → List X → Type 0
Part xs ys = All (Contains ys) xs

part_more : {X : Type 0} (y : X) (xs ys : List X) → Part xs ys → Part xs (y ∷ ys)
part_more y xs ys h = All-weaker (Contains ys) (Contains (y ∷ ys)) (contains_more y ys) xs h

part_tail : {X : Type 0} (y : X) (ys : List X) → Part ys (y ∷ ys)
part_tail y ys = part_more y ys ys (All-contains_itself ys)

part_both : {X : Type 0} (y : X) (xs ys : List X) → Part xs ys → Part (y ∷ xs) (y ∷ ys)
part_both y xs ys h = All-cons (Contains (y ∷ ys)) y xs (0, omega arith, refl) (part_more y xs ys h)

-- a part of a part is a part
pub part_trans : {X : Type 0} (xs ys zs : List X) → Part xs ys → Part ys zs → Part xs zs
part_trans xs ys zs h k = All-weaker (Contains ys) (Contains zs) (λ x c. All-contains (Contains zs) ys x k c) xs h

-- what holds of a list's members holds of a part's members
pub part_all : {X : Type 0} (P : X → Type 0) (xs ys : List X) → Part xs ys → All P ys → All P xs
part_all P xs ys h k = All-weaker (Contains ys) P (λ x c. All-contains P ys x k c) xs h

module _ (R : CommRing) (F : IsField R.ops) (M : Module R) where
  open M use {ops, carrier, ◌≋◌, ◌⊞◌, opposite, origin, ◌·◌, rfl, symm, trans, add_cong, opposite_cong, scale_cong, add_assoc, add_comm, add_origin, add_opposite, scale_sum, sum_scale, product_scale, one_scale}

  infix 40 ◌≋◌
  infixl 60 ◌⊞◌
  infixr 65 ◌·◌
  infixr 30 ◌⨾◌
  ◌⨾◌ : {x y z : carrier} → x ≋ y → y ≋ z → x ≋ z
  ◌⨾◌ e f = trans e f

  -- the coefficient is 0
  abbrev pub Zero : R.carrier → Type 0
  Zero c = R.◌≈◌ c R.𝟘

  -- f = g + b r + s with b invertible makes r a combination of f, g and s
  solve_for : (W : carrier → Type 0) → IsSubmodule ops W → (b e : R.carrier) → R.◌≈◌ (R.◌⊗◌ e b) R.𝟙 → (f g r s : carrier) → f ≋ g ⊞ (b · r ⊞ s) → W f → W g → W s → W r
  solve_for W w b e inverse f g r s h wf wg ws =
      w.resp (e · ((f ⊞ opposite g) ⊞ opposite s)) r
      (scale_cong (R.rfl e) (add_cong (add_cong h (rfl (opposite g)) ⨾ Modules.add_undo_left R M (b · r ⊞ s) g) (rfl (opposite s)) ⨾ Modules.add_undo R M (b · r) s)
      ⨾ symm (product_scale e b r) ⨾ scale_cong inverse (rfl r) ⨾ one_scale r)
      (w.scale e ((f ⊞ opposite g) ⊞ opposite s) (Modules.sub_in R M W w (f ⊞ opposite g) s (Modules.sub_in R M W w f g wf wg) ws))

  -- one member of rest is left out, and f and g make up for it
  abbrev pub Pivot : (f g : carrier) → List carrier → Type 0
  Pivot f g rest = (left : List carrier) × suc (length left) ≡ length rest × Part left rest
      × ((ws : List carrier) → InSpan ops ws f → InSpan ops ws g → All (InSpan ops ws) left → All (InSpan ops ws) rest)

  -- coefficients are all 0, or one with an inverse lets its member be left out
  pub pivot : (rest : List carrier) (bs : List R.carrier) → length bs ≡ length rest → (f g : carrier) → f ≋ g ⊞ combination ops bs rest → All Zero bs ⊎ Pivot f g rest
  unfolding combine
  pivot [] [] l f g h = inl (All-nil Zero)
  pivot [] (b ∷ bs) l f g h = absurd (omega arith)
  pivot (r ∷ rest) [] l f g h = absurd (omega arith)
  pivot (r ∷ rest) (b ∷ bs) l f g h = go (F.zero_or_inverse b) (pivot rest bs (let k : length (b ∷ bs) ≡ length (r ∷ rest) = l in omega arith) f g)
    where
      after : Zero b → All Zero bs ⊎ Pivot f g rest → All Zero (b ∷ bs) ⊎ Pivot f g (r ∷ rest)
      after z (inl a) = inl (All-cons Zero b bs z a)
      after z (inr p) = inr (
        r ∷ p.0,
        ap suc p.1,
        part_both r p.0 rest p.2,
        λ ws wf wg wl. All-cons (InSpan ops ws) r rest (All-head (InSpan ops ws) r p.0 wl) (p.3 ws wf wg (All-tail (InSpan ops ws) r p.0 wl)),
      )

      go : Zero b ⊎ ((e : R.carrier) × R.◌≈◌ (R.◌⊗◌ e b) R.𝟙) → (f ≋ g ⊞ combination ops bs rest → All Zero bs ⊎ Pivot f g rest) → All Zero (b ∷ bs) ⊎ Pivot f g (r ∷ rest)
      go (inl z) k = after z (k (h ⨾ add_cong (rfl g) (add_cong (scale_cong z (rfl r) ⨾ Modules.zero_scale R M r) (rfl (combination ops bs rest)) ⨾ Modules.origin_add R M (combination ops bs rest))))
      go (inr i) k = inr (
        rest,
        refl,
        part_tail r rest,
        λ ws wf wg wl. All-cons (InSpan ops ws) r rest
            (solve_for (InSpan ops ws) (Modules.span_submodule R M ws) b i.0 i.1 f g r (combination ops bs rest) h wf wg (Modules.combination_in R M (InSpan ops ws) (Modules.span_submodule R M ws) bs rest wl)) wl,
      )

  -- fs and a part of us span all that us spans, and are as many
  abbrev pub Exchanged : (fs us : List carrier) → Type 0
  Exchanged fs us = (rest : List carrier) × length fs + length rest ≡ length us × Part rest us × All (InSpan ops (fs ++ rest)) us

  more_dependent : (f : carrier) (fs : List carrier) → Dependent R.ops ops fs → Dependent R.ops ops (f ∷ fs)
  unfolding combine
  more_dependent f fs d = (R.𝟘 ∷ d.0, ap suc d.1, add_cong (Modules.zero_scale R M f) d.2 ⨾ add_origin origin, λ a. d.3 (All-tail Zero R.𝟘 d.0 a))

  spanned_dependent : (f : carrier) (fs : List carrier) → InSpan ops fs f → Dependent R.ops ops (f ∷ fs)
  unfolding combine
  spanned_dependent f fs s = (
    R.𝟙 ∷ Modules.times R M (R.neg R.𝟙) s.0,
    ap suc (let e : length (Modules.times R M (R.neg R.𝟙) s.0) ≡ length s.0 = Modules.length-times R M (R.neg R.𝟙) s.0 in let l : length s.0 ≡ length fs = s.1 in omega arith),
    add_cong (one_scale f ⨾ s.2) (Modules.combination-times R M (R.neg R.𝟙) s.0 fs ⨾ Modules.opposite_is R M (combination ops s.0 fs)) ⨾ add_opposite (combination ops s.0 fs),
    λ a. F.proper (All-head Zero R.𝟙 (Modules.times R M (R.neg R.𝟙) s.0) a),
  )

  -- members of a span are dependent, or replace as many of the members that span it
  pub exchange : (fs us : List carrier) → All (InSpan ops us) fs → Dependent R.ops ops fs ⊎ Exchanged fs us
  exchange [] us h = inr (us, omega arith, All-contains_itself us, Modules.span_self R M us)
  exchange (f ∷ fs) us h = go (exchange fs us (All-tail (InSpan ops us) f fs h))
    where
      f_in : InSpan ops us f
      f_in = All-head (InSpan ops us) f fs h

      next : (x : Exchanged fs us) → (s : InSpan ops (fs ++ x.0) f) → (t : Modules.Parted R M fs x.0 s.0) → All Zero t.1 ⊎ Pivot f (combination ops t.0 fs) x.0 → Dependent R.ops ops (f ∷ fs) ⊎ Exchanged (f ∷ fs) us
      next x s t (inl z) = inl (spanned_dependent f fs (
        t.0,
        t.2,
        s.2 ⨾ subst (λ cs. combination ops cs (fs ++ x.0) ≋ combination ops t.0 fs ⊞ combination ops t.1 x.0) (sym t.4) (Modules.combination-append R M t.0 t.1 fs x.0 t.2)
            ⨾ add_cong (rfl (combination ops t.0 fs)) (Modules.combination-zeros R M t.1 x.0 z) ⨾ add_origin (combination ops t.0 fs),
      ))
      next x s t (inr p) = inr (
        p.0,
        (let a : length fs + length x.0 ≡ length us = x.1 in let b : suc (length p.0) ≡ length x.0 = p.1 in omega arith),
        part_trans p.0 x.0 us p.2 x.2,
        All-weaker (InSpan ops (fs ++ x.0)) (InSpan ops ws) (Modules.span_through R M (fs ++ x.0) ws (All-append (InSpan ops ws) fs x.0 in_fs (p.3 ws in_f in_g in_left))) us x.3,
      )
        where
          ws : List carrier
          ws = f ∷ (fs ++ p.0)

          in_f : InSpan ops ws f
          in_f = Modules.span_head R M f (fs ++ p.0)

          in_fs : All (InSpan ops ws) fs
          in_fs = All-weaker (InSpan ops fs) (InSpan ops ws) (λ y k. Modules.span_tail R M f (fs ++ p.0) y (Modules.span_left R M fs p.0 y k)) fs (Modules.span_self R M fs)

          in_g : InSpan ops ws (combination ops t.0 fs)
          in_g = Modules.combination_in R M (InSpan ops ws) (Modules.span_submodule R M ws) t.0 fs in_fs

          in_left : All (InSpan ops ws) p.0
          in_left = All-weaker (InSpan ops p.0) (InSpan ops ws) (λ y k. Modules.span_tail R M f (fs ++ p.0) y (Modules.span_right R M fs p.0 y k)) p.0 (Modules.span_self R M p.0)

      go : Dependent R.ops ops fs ⊎ Exchanged fs us → Dependent R.ops ops (f ∷ fs) ⊎ Exchanged (f ∷ fs) us
      go (inl d) = inl (more_dependent f fs d)
      go (inr x) = next x s t (pivot x.0 t.1 t.3 f (combination ops t.0 fs)
          (s.2 ⨾ subst (λ cs. combination ops cs (fs ++ x.0) ≋ combination ops t.0 fs ⊞ combination ops t.1 x.0) (sym t.4) (Modules.combination-append R M t.0 t.1 fs x.0 t.2)))
        where
          s : InSpan ops (fs ++ x.0) f
          s = Modules.span_through R M us (fs ++ x.0) x.3 f f_in

          t : Modules.Parted R M fs x.0 s.0
          t = Modules.part R M fs x.0 s.0 s.1

  -- more members than span them are dependent
  pub dependent_many : (fs us : List carrier) → All (InSpan ops us) fs → length us < length fs → Dependent R.ops ops fs
  dependent_many fs us h l = go (exchange fs us h)
    where
      go : Dependent R.ops ops fs ⊎ Exchanged fs us → Dependent R.ops ops fs
      go (inl d) = d
      go (inr x) = absurd (let e : length fs + length x.0 ≡ length us = x.1 in omega arith)

  -- no list is independent and dependent
  pub not_both : (fs : List carrier) → Independent R.ops ops fs → Dependent R.ops ops fs → ⊥
  not_both fs i d = d.3 (i d.0 d.1 d.2)

  -- independent members are no more than what spans them
  pub independent_few : (fs us : List carrier) → Independent R.ops ops fs → All (InSpan ops us) fs → length fs ≤ length us
  independent_few fs us i h = go (exchange fs us h)
    where
      go : Dependent R.ops ops fs ⊎ Exchanged fs us → length fs ≤ length us
      go (inl d) = absurd (not_both fs i d)
      go (inr x) = let e : length fs + length x.0 ≡ length us = x.1 in omega arith
