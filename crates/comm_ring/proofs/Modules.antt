-- Modules over a commutative ring: derived laws, combinations, spans and submodules.
use Rattle.std.proofs.Common.{◌≡◌, suc, List, [], ◌∷◌, ◌++◌, map, length, All, refl, ap, arith, length-append}
use Rattle.std.proofs.lemmas.List.Elements.{All-nil, All-cons, All-head, All-tail, All-weaker}
use Rattle.comm_ring.specs.Ring.{CommRing, IsRingMap}
use Rattle.comm_ring.specs.Modules.{ModuleOps, IsModule, IsSubmodule, combine, combination, InSpan, own_module, module_through}
use Rattle.comm_ring.proofs.Derived as Derived

-- a module: operations together with their laws
pub record Module (R : CommRing) : Type 1 where
  pub ops : ModuleOps R.carrier
  pub open ops use {carrier, ◌≋◌, ◌⊞◌, opposite, origin, ◌·◌}
  pub laws : IsModule R.ops ops
  pub open laws use {rfl, symm, trans, add_cong, opposite_cong, scale_cong, add_assoc, add_comm, add_origin, add_opposite, scale_sum, sum_scale, product_scale, one_scale}

-- a ring is a module over itself
abbrev pub own : (R : CommRing) → Module R
own R = record {
  ops = own_module R.ops;
  laws = record {
    rfl = R.rfl;
    symm = λ {x} {y} e. R.symm e;
    trans = λ {x} {y} {z} e f. R.trans e f;
    add_cong = λ {x} {x'} {y} {y'} e f. R.add_cong e f;
    opposite_cong = λ {x} {x'} e. R.neg_cong e;
    scale_cong = λ {c} {c'} {x} {x'} e f. R.mul_cong e f;
    add_assoc = R.add_assoc;
    add_comm = R.add_comm;
    add_origin = R.add_zero;
    add_opposite = R.add_neg;
    scale_sum = R.distrib;
    sum_scale = Derived.distrib_right R;
    product_scale = R.mul_assoc;
    one_scale = Derived.one_mul R;
  };
}

-- the scalars of one ring act on another through a ring map
pub through_laws : (K R : CommRing) (f : K.carrier → R.carrier) → IsRingMap K.ops R.ops f → IsModule K.ops (module_through R.ops f)
through_laws K R f m = record {
  rfl = R.rfl;
  symm = λ {x} {y} e. R.symm e;
  trans = λ {x} {y} {z} e h. R.trans e h;
  add_cong = λ {x} {x'} {y} {y'} e h. R.add_cong e h;
  opposite_cong = λ {x} {x'} e. R.neg_cong e;
  scale_cong = λ {c} {c'} {x} {x'} e h. R.mul_cong (m.resp c c' e) h;
  add_assoc = R.add_assoc;
  add_comm = R.add_comm;
  add_origin = R.add_zero;
  add_opposite = R.add_neg;
  scale_sum = λ c x y. R.distrib (f c) x y;
  sum_scale = λ c e x. R.trans (R.mul_cong (m.add c e) (R.rfl x)) (Derived.distrib_right R (f c) (f e) x);
  product_scale = λ c e x. R.trans (R.mul_cong (m.mul c e) (R.rfl x)) (R.mul_assoc (f c) (f e) x);
  one_scale = λ x. R.trans (R.mul_cong m.one (R.rfl x)) (Derived.one_mul R x);
}

abbrev pub through : (K R : CommRing) (f : K.carrier → R.carrier) → IsRingMap K.ops R.ops f → Module K
through K R f m = record { ops = module_through R.ops f; laws = through_laws K R f m }

module _ (R : CommRing) (M : Module R) where
  open M use {ops, carrier, ◌≋◌, ◌⊞◌, opposite, origin, ◌·◌, rfl, symm, trans, add_cong, opposite_cong, scale_cong, add_assoc, add_comm, add_origin, add_opposite, scale_sum, sum_scale, product_scale, one_scale}

  infix 40 ◌≋◌
  infixl 60 ◌⊞◌
  infixr 65 ◌·◌
  infixr 30 ◌⨾◌
  ◌⨾◌ : {x y z : carrier} → x ≋ y → y ≋ z → x ≋ z
  ◌⨾◌ e f = trans e f

  -- the origin and opposites
  pub origin_add : (x : carrier) → origin ⊞ x ≋ x
  origin_add x = add_comm origin x ⨾ add_origin x

  pub opposite_add : (x : carrier) → opposite x ⊞ x ≋ origin
  opposite_add x = add_comm (opposite x) x ⨾ add_opposite x

  -- regrouping of three and of four
  pub add_left_comm : (x y z : carrier) → x ⊞ (y ⊞ z) ≋ y ⊞ (x ⊞ z)
  add_left_comm x y z = symm (add_assoc x y z) ⨾ add_cong (add_comm x y) (rfl z) ⨾ add_assoc y x z

  pub add_exchange : (x y z w : carrier) → (x ⊞ y) ⊞ (z ⊞ w) ≋ (x ⊞ z) ⊞ (y ⊞ w)
  add_exchange x y z w = add_assoc x y (z ⊞ w) ⨾ add_cong (rfl x) (add_left_comm y z w) ⨾ symm (add_assoc x z (y ⊞ w))

  -- (x + z) - z = x
  pub add_undo : (x z : carrier) → (x ⊞ z) ⊞ opposite z ≋ x
  add_undo x z = add_assoc x z (opposite z) ⨾ add_cong (rfl x) (add_opposite z) ⨾ add_origin x

  -- (z + x) - z = x
  pub add_undo_left : (x z : carrier) → (z ⊞ x) ⊞ opposite z ≋ x
  add_undo_left x z = add_cong (add_comm z x) (rfl (opposite z)) ⨾ add_undo x z

  -- (x - z) + z = x
  pub sub_undo : (x z : carrier) → (x ⊞ opposite z) ⊞ z ≋ x
  sub_undo x z = add_assoc x (opposite z) z ⨾ add_cong (rfl x) (opposite_add z) ⨾ add_origin x

  -- cancellation, and what follows for scalars and opposites
  pub add_right_cancel : (x y z : carrier) → x ⊞ z ≋ y ⊞ z → x ≋ y
  add_right_cancel x y z e = symm (add_undo x z) ⨾ add_cong e (rfl (opposite z)) ⨾ add_undo y z

  pub opposite_unique : (x y : carrier) → x ⊞ y ≋ origin → y ≋ opposite x
  opposite_unique x y e = add_right_cancel y (opposite x) x (add_comm y x ⨾ e ⨾ symm (opposite_add x))

  pub zero_scale : (x : carrier) → R.𝟘 · x ≋ origin
  zero_scale x = add_right_cancel (R.𝟘 · x) origin (R.𝟘 · x) (symm (sum_scale R.𝟘 R.𝟘 x) ⨾ scale_cong (R.add_zero R.𝟘) (rfl x) ⨾ symm (origin_add (R.𝟘 · x)))

  pub scale_origin : (c : R.carrier) → c · origin ≋ origin
  scale_origin c = add_right_cancel (c · origin) origin (c · origin) (symm (scale_sum c origin origin) ⨾ scale_cong (R.rfl c) (add_origin origin) ⨾ symm (origin_add (c · origin)))

  pub neg_scale : (c : R.carrier) (x : carrier) → R.neg c · x ≋ opposite (c · x)
  neg_scale c x = opposite_unique (c · x) (R.neg c · x) (symm (sum_scale c (R.neg c) x) ⨾ scale_cong (R.add_neg c) (rfl x) ⨾ zero_scale x)

  pub opposite_is : (x : carrier) → R.neg R.𝟙 · x ≋ opposite x
  opposite_is x = neg_scale R.𝟙 x ⨾ opposite_cong (one_scale x)

  pub opposite_opposite : (x : carrier) → opposite (opposite x) ≋ x
  opposite_opposite x = symm (opposite_unique (opposite x) x (opposite_add x))

  pub opposite_sum : (x y : carrier) → opposite (x ⊞ y) ≋ opposite x ⊞ opposite y
  opposite_sum x y = symm (opposite_unique (x ⊞ y) (opposite x ⊞ opposite y) (add_exchange x y (opposite x) (opposite y) ⨾ add_cong (add_opposite x) (add_opposite y) ⨾ add_origin origin))

  pub opposite_origin : opposite origin ≋ origin
  opposite_origin = symm (opposite_unique origin origin (add_origin origin))

  pub scale_opposite : (c : R.carrier) (x : carrier) → c · opposite x ≋ opposite (c · x)
  scale_opposite c x = opposite_unique (c · x) (c · opposite x) (symm (scale_sum c x (opposite x)) ⨾ scale_cong (R.rfl c) (add_opposite x) ⨾ scale_origin c)

  -- x - y is the origin only where x = y
  pub equal_of_sub : (x y : carrier) → x ⊞ opposite y ≋ origin → x ≋ y
  equal_of_sub x y e = symm (sub_undo x y) ⨾ add_cong e (rfl y) ⨾ origin_add y

  -- and conversely
  pub sub_of_equal : (x y : carrier) → x ≋ y → x ⊞ opposite y ≋ origin
  sub_of_equal x y e = add_cong e (rfl (opposite y)) ⨾ add_opposite y

  -- coefficients that are all 0
  pub combination-zeros : (cs : List R.carrier) (us : List carrier) → All (λ c. R.◌≈◌ c R.𝟘) cs → combination ops cs us ≋ origin
  unfolding combine
  combination-zeros [] us h = rfl origin
  combination-zeros (c ∷ cs) [] h = rfl origin
  combination-zeros (c ∷ cs) (u ∷ us) h =
      add_cong (scale_cong (All-head (λ e. R.◌≈◌ e R.𝟘) c cs h) (rfl u) ⨾ zero_scale u) (combination-zeros cs us (All-tail (λ e. R.◌≈◌ e R.𝟘) c cs h)) ⨾ add_origin origin

  -- as many zeros as us has members
  zeros : List carrier → List R.carrier
  zeros [] = []
  zeros (u ∷ us) = R.𝟘 ∷ zeros us

  length-zeros : (us : List carrier) → length (zeros us) ≡ length us
  unfolding zeros
  length-zeros [] = refl
  length-zeros (u ∷ us) = ap suc (length-zeros us)

  combination-of_zeros : (us : List carrier) → combination ops (zeros us) us ≋ origin
  unfolding zeros combine
  combination-of_zeros [] = rfl origin
  combination-of_zeros (u ∷ us) = add_cong (zero_scale u) (combination-of_zeros us) ⨾ add_origin origin

  -- coefficients changed into equivalent ones
  pub combination-map : (f : R.carrier → R.carrier) → ((c : R.carrier) → R.◌≈◌ (f c) c) → (cs : List R.carrier) (us : List carrier) → combination ops (map f cs) us ≋ combination ops cs us
  unfolding combine
  combination-map f h [] us = rfl origin
  combination-map f h (c ∷ cs) [] = rfl origin
  combination-map f h (c ∷ cs) (u ∷ us) = add_cong (scale_cong (h c) (rfl u)) (combination-map f h cs us)

  -- sums of coefficients, place by place
  unfoldable pub plus : List R.carrier → List R.carrier → List R.carrier
  plus [] es = []
  plus (c ∷ cs) [] = []
  plus (c ∷ cs) (e ∷ es) = R.◌⊕◌ c e ∷ plus cs es

  -- they are as many, and give the sum of the combinations
  pub length-plus : (cs es : List R.carrier) → length cs ≡ length es → length (plus cs es) ≡ length es
  unfolding plus
  length-plus [] es e = e
  length-plus (c ∷ cs) [] e = refl
  length-plus (c ∷ cs) (d ∷ es) e = ap suc (length-plus cs es (let h : length (c ∷ cs) ≡ length (d ∷ es) = e in omega arith))

  pub combination-plus : (cs es : List R.carrier) (us : List carrier) → length cs ≡ length us → length es ≡ length us
      → combination ops (plus cs es) us ≋ combination ops cs us ⊞ combination ops es us
  unfolding plus combine
  combination-plus [] [] us e h = symm (add_origin origin)
  combination-plus [] (d ∷ es) [] e h = symm (add_origin origin)
  combination-plus [] (d ∷ es) (u ∷ us) e h = absurd (omega arith)
  combination-plus (c ∷ cs) es [] e h = absurd (omega arith)
  combination-plus (c ∷ cs) [] (u ∷ us) e h = absurd (omega arith)
  combination-plus (c ∷ cs) (d ∷ es) (u ∷ us) e h =
      add_cong (sum_scale c d u) (combination-plus cs es us (let k : length (c ∷ cs) ≡ length (u ∷ us) = e in omega arith) (let k : length (d ∷ es) ≡ length (u ∷ us) = h in omega arith))
      ⨾ add_exchange (c · u) (d · u) (combination ops cs us) (combination ops es us)

  -- multiples of coefficients
  unfoldable pub times : R.carrier → List R.carrier → List R.carrier
  times c [] = []
  times c (e ∷ es) = R.◌⊗◌ c e ∷ times c es

  -- they are as many, and give the multiple of the combination
  pub length-times : (c : R.carrier) (es : List R.carrier) → length (times c es) ≡ length es
  unfolding times
  length-times c [] = refl
  length-times c (e ∷ es) = ap suc (length-times c es)

  pub combination-times : (c : R.carrier) (es : List R.carrier) (us : List carrier) → combination ops (times c es) us ≋ c · combination ops es us
  unfolding times combine
  combination-times c [] us = symm (scale_origin c)
  combination-times c (e ∷ es) [] = symm (scale_origin c)
  combination-times c (e ∷ es) (u ∷ us) = add_cong (product_scale c e u) (combination-times c es us) ⨾ symm (scale_sum c (e · u) (combination ops es us))

  -- a combination over two lists together
  pub combination-append : (cs es : List R.carrier) (us vs : List carrier) → length cs ≡ length us → combination ops (cs ++ es) (us ++ vs) ≋ combination ops cs us ⊞ combination ops es vs
  unfolding combine
  combination-append [] es [] vs e = symm (origin_add (combination ops es vs))
  combination-append [] es (u ∷ us) vs e = absurd (omega arith)
  combination-append (c ∷ cs) es [] vs e = absurd (omega arith)
  combination-append (c ∷ cs) es (u ∷ us) vs e =
      add_cong (rfl (c · u)) (combination-append cs es us vs (let k : length (c ∷ cs) ≡ length (u ∷ us) = e in omega arith))
      ⨾ symm (add_assoc (c · u) (combination ops cs us) (combination ops es vs))

  -- a combination over two lists, taken apart
  abbrev pub Parted : List carrier → List carrier → List R.carrier → Type 0
  Parted us vs cs = (first : List R.carrier) × (second : List R.carrier) × length first ≡ length us × length second ≡ length vs × cs ≡ first ++ second

  -- coefficients over two lists can be taken apart
  pub part : (us vs : List carrier) (cs : List R.carrier) → length cs ≡ length (us ++ vs) → Parted us vs cs
  part [] vs cs e = ([], cs, refl, e, refl)
  part (u ∷ us) vs [] e = absurd (omega arith)
  part (u ∷ us) vs (c ∷ cs) e =
      let h = part us vs cs (let k : length (c ∷ cs) ≡ length (u ∷ (us ++ vs)) = e in omega arith) in
      (c ∷ h.0, h.1, ap suc h.2, h.3, ap (λ l. c ∷ l) h.4)

  -- a span is a submodule
  pub span_submodule : (us : List carrier) → IsSubmodule ops (InSpan ops us)
  span_submodule us = record {
    resp = λ x y e h. (h.0, h.1, symm e ⨾ h.2);
    none = (zeros us, length-zeros us, symm (combination-of_zeros us));
    add = λ x y h k. (
      plus h.0 k.0,
      (let e : length (plus h.0 k.0) ≡ length k.0 = length-plus h.0 k.0 (let a : length h.0 ≡ length us = h.1 in let b : length k.0 ≡ length us = k.1 in omega arith) in let b : length k.0 ≡ length us = k.1 in omega arith),
      add_cong h.2 k.2 ⨾ symm (combination-plus h.0 k.0 us h.1 k.1),
    );
    scale = λ c x h. (
      times c h.0,
      (let e : length (times c h.0) ≡ length h.0 = length-times c h.0 in let a : length h.0 ≡ length us = h.1 in omega arith),
      scale_cong (R.rfl c) h.2 ⨾ symm (combination-times c h.0 us),
    );
  }

  -- a longer list spans more, its members too
  pub span_tail : (u : carrier) (us : List carrier) (f : carrier) → InSpan ops us f → InSpan ops (u ∷ us) f
  unfolding combine
  span_tail u us f h = (R.𝟘 ∷ h.0, ap suc h.1, h.2 ⨾ symm (add_cong (zero_scale u) (rfl (combination ops h.0 us)) ⨾ origin_add (combination ops h.0 us)))

  pub span_head : (u : carrier) (us : List carrier) → InSpan ops (u ∷ us) u
  unfolding combine
  span_head u us = (R.𝟙 ∷ zeros us, ap suc (length-zeros us), symm (add_cong (one_scale u) (combination-of_zeros us) ⨾ add_origin u))

  pub span_self : (us : List carrier) → All (InSpan ops us) us
  span_self [] = All-nil (InSpan ops [])
  span_self (u ∷ us) = All-cons (InSpan ops (u ∷ us)) u us (span_head u us) (All-weaker (InSpan ops us) (InSpan ops (u ∷ us)) (span_tail u us) us (span_self us))

  -- two lists together span what each spans
  pub span_left : (us vs : List carrier) (f : carrier) → InSpan ops us f → InSpan ops (us ++ vs) f
  span_left us vs f h = (
    h.0 ++ zeros vs,
    (let e : length zs ≡ length vs = length-zeros vs in let a : length h.0 ≡ length us = h.1 in simp length-append (omega arith)),
    h.2 ⨾ symm (combination-append h.0 (zeros vs) us vs h.1 ⨾ add_cong (rfl (combination ops h.0 us)) (combination-of_zeros vs) ⨾ add_origin (combination ops h.0 us)),
  )
    where
      zs : List R.carrier
      zs = zeros vs

  pub span_right : (us vs : List carrier) (f : carrier) → InSpan ops vs f → InSpan ops (us ++ vs) f
  span_right [] vs f h = h
  span_right (u ∷ us) vs f h = span_tail u (us ++ vs) f (span_right us vs f h)

  module _ (N : carrier → Type 0) (n : IsSubmodule ops N) where
    -- a submodule holds combinations of its members
    pub combination_in : (cs : List R.carrier) (us : List carrier) → All N us → N (combination ops cs us)
    unfolding combine
    combination_in [] us h = n.none
    combination_in (c ∷ cs) [] h = n.none
    combination_in (c ∷ cs) (u ∷ us) h = n.add _ _ (n.scale c u (All-head N u us h)) (combination_in cs us (All-tail N u us h))

    -- a submodule that holds us holds its span
    pub span_least : (us : List carrier) → All N us → (f : carrier) → InSpan ops us f → N f
    span_least us h f s = n.resp _ _ (symm s.2) (combination_in s.0 us h)

    -- it holds opposites and differences
    pub opposite_in : (x : carrier) → N x → N (opposite x)
    opposite_in x h = n.resp _ _ (opposite_is x) (n.scale (R.neg R.𝟙) x h)

    pub sub_in : (x y : carrier) → N x → N y → N (x ⊞ opposite y)
    sub_in x y h k = n.add _ _ h (opposite_in y k)

    -- it holds the difference of what is equal
    pub equal_in : (x y : carrier) → x ≋ y → N (x ⊞ opposite y)
    equal_in x y e = n.resp _ _ (symm (sub_of_equal x y e)) n.none

  -- what combinations of us hold, combinations of a list that spans us hold
  pub span_through : (us vs : List carrier) → All (InSpan ops vs) us → (f : carrier) → InSpan ops us f → InSpan ops vs f
  span_through us vs h f s = span_least (InSpan ops vs) (span_submodule vs) us h f s
