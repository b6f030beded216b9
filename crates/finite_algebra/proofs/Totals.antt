-- Sums in a module, and maps that keep sums and multiples.
use Rattle.std.proofs.Common.{◌≡◌, ℕ, zero, suc, ◌<◌, List, [], ◌∷◌, ap, subst, arith, ⊎_elim, length, get_or}
use Rattle.std.proofs.lemmas.Bool.{cases_eq}
use Rattle.comm_ring.specs.Ring.{CommRing}
use Rattle.comm_ring.specs.Sums.{joined, below}
use Rattle.comm_ring.specs.Modules.{ModuleOps, IsSubmodule, combine, combination}
use Rattle.comm_ring.proofs.Sums.{below-suc}
use Rattle.comm_ring.proofs.Joined as Joined
use Rattle.comm_ring.proofs.Joined.{CommMonoid}
use Rattle.comm_ring.proofs.Modules as Modules
use Rattle.comm_ring.proofs.Modules.{Module}
use Rattle.finite_algebra.specs.Elements.{total}

-- f keeps equality, sums and multiples
pub record IsLinear {S : Type 0} (V W : ModuleOps S) (f : V.carrier → W.carrier) : Type 0 where
  pub resp : (x y : V.carrier) → V.◌≋◌ x y → W.◌≋◌ (f x) (f y)
  pub add : (x y : V.carrier) → W.◌≋◌ (f (V.◌⊞◌ x y)) (W.◌⊞◌ (f x) (f y))
  pub scale : (c : S) (x : V.carrier) → W.◌≋◌ (f (V.◌·◌ c x)) (W.◌·◌ c (f x))

module _ (K : CommRing) (M : Module K) where
  open M use {ops, carrier, ◌≋◌, ◌⊞◌, opposite, origin, ◌·◌, rfl, symm, trans, add_cong, scale_cong, add_assoc, add_comm, add_origin, scale_sum}

  infix 40 ◌≋◌
  infixl 60 ◌⊞◌
  infixr 65 ◌·◌
  infixr 30 ◌⨾◌
  ◌⨾◌ : {x y z : carrier} → x ≋ y → y ≋ z → x ≋ z
  ◌⨾◌ e f = trans e f

  pub of_path : {x y : carrier} → x ≡ y → x ≋ y
  of_path {x = x} e = subst (λ z. x ≋ z) e (rfl x)

  -- the sums of a module
  abbrev sums : CommMonoid
  sums = record {
    carrier = carrier;
    ◌≈◌ = ◌≋◌;
    unit = origin;
    ◌·◌ = ◌⊞◌;
    rfl = rfl;
    symm = λ {a} {b} e. symm e;
    trans = λ {a} {b} {c} e f. trans e f;
    cong = λ {a} {a'} {b} {b'} e f. add_cong e f;
    assoc = add_assoc;
    comm = add_comm;
    unit_op = Modules.origin_add K M;
  }

  pub total-zero : (f : ℕ → carrier) → total ops f 0 ≋ origin
  unfolding joined
  total-zero f = rfl origin

  pub total-suc : (f : ℕ → carrier) (n : ℕ) → total ops f (suc n) ≋ total ops f n ⊞ f n
  unfolding joined
  total-suc f n = of_path (ap (joined ◌⊞◌ origin f) (below-suc n)) ⨾ Joined.big-append sums f (below n) (n ∷ []) ⨾ add_cong (rfl _) (add_origin (f n))

  -- the first summand apart
  pub total-front : (f : ℕ → carrier) (n : ℕ) → total ops f (suc n) ≋ f 0 ⊞ total ops (λ k. f (suc k)) n
  total-front f zero = total-suc f zero ⨾ add_cong (total-zero f) (rfl (f 0)) ⨾ Modules.origin_add K M (f 0) ⨾ symm (add_cong (rfl (f 0)) (total-zero (λ k. f (suc k))) ⨾ add_origin (f 0))
  total-front f (suc n) = total-suc f (suc n) ⨾ add_cong (total-front f n) (rfl (f (suc n))) ⨾ add_assoc (f 0) (total ops (λ k. f (suc k)) n) (f (suc n))
      ⨾ symm (add_cong (rfl (f 0)) (total-suc (λ k. f (suc k)) n))

  -- equal summands below n
  pub total_ext : (f g : ℕ → carrier) (n : ℕ) → ((k : ℕ) → k < n → f k ≋ g k) → total ops f n ≋ total ops g n
  total_ext f g zero e = total-zero f ⨾ symm (total-zero g)
  total_ext f g (suc n) e = total-suc f n ⨾ add_cong (total_ext f g n (λ k h. e k (omega arith))) (e n (omega arith)) ⨾ symm (total-suc g n)

  -- sums and multiples of all summands
  pub total-add : (f g : ℕ → carrier) (n : ℕ) → total ops (λ k. f k ⊞ g k) n ≋ total ops f n ⊞ total ops g n
  total-add f g n = Joined.big-op sums f g (below n)

  pub total-scale : (c : K.carrier) (f : ℕ → carrier) (n : ℕ) → total ops (λ k. c · f k) n ≋ c · total ops f n
  total-scale c f zero = total-zero _ ⨾ symm (scale_cong (K.rfl c) (total-zero f) ⨾ Modules.scale_origin K M c)
  total-scale c f (suc n) = total-suc _ n ⨾ add_cong (total-scale c f n) (rfl (c · f n)) ⨾ symm (scale_cong (K.rfl c) (total-suc f n) ⨾ scale_sum c (total ops f n) (f n))

  -- summands that are all the origin, and only one that is not
  pub total-origin : (f : ℕ → carrier) (n : ℕ) → ((k : ℕ) → k < n → f k ≋ origin) → total ops f n ≋ origin
  total-origin f n e = total_ext f (λ k. origin) n e ⨾ Joined.big-unit sums (below n)

  pub total-single : (f : ℕ → carrier) (n k : ℕ) → k < n → ((j : ℕ) → j < n → ¬ (j ≡ k) → f j ≋ origin) → total ops f n ≋ f k
  total-single f zero k h z = elim (absurd {A = ⊥} (omega arith)) [ ]
  total-single f (suc n) k h z = total-suc f n ⨾ ⊎_elim
      (λ (e : n ≡ k). add_cong (total-origin f n (λ j l. z j (omega arith) (λ s. absurd (omega arith)))) (of_path (ap f e)) ⨾ Modules.origin_add K M (f k))
      (λ (d : ¬ (n ≡ k)). add_cong (total-single f n k (omega arith) (λ j l. z j (omega arith))) (z n (omega arith) d) ⨾ add_origin (f k))
      (cases_eq n k)

  -- a combination as a sum over the places
  pub combination-total : (cs : List K.carrier) (us : List carrier) (d : carrier) → combination ops cs us ≋ total ops (λ k. get_or cs k K.𝟘 · get_or us k d) (length us)
  unfolding combine
  combination-total [] us d = symm (total-origin _ (length us) (λ k h. Modules.zero_scale K M (get_or us k d)))
  combination-total (c ∷ cs) [] d = symm (total-zero _)
  combination-total (c ∷ cs) (u ∷ us) d = add_cong (rfl (c · u)) (combination-total cs us d) ⨾ symm (total-front (λ k. get_or (c ∷ cs) k K.𝟘 · get_or (u ∷ us) k d) (length us))

  -- a submodule holds sums of its members
  pub total_in : (N : carrier → Type 0) → IsSubmodule ops N → (f : ℕ → carrier) (n : ℕ) → ((k : ℕ) → k < n → N (f k)) → N (total ops f n)
  total_in N s f zero h = s.resp _ _ (symm (total-zero f)) s.none
  total_in N s f (suc n) h = s.resp _ _ (symm (total-suc f n)) (s.add _ _ (total_in N s f n (λ k l. h k (omega arith))) (h n (omega arith)))

-- linear maps keep the origin, opposites and sums
module _ (K : CommRing) (V W : Module K) (f : V.carrier → W.carrier) (l : IsLinear V.ops W.ops f) where
  pub linear-origin : W.◌≋◌ (f V.origin) W.origin
  linear-origin = W.trans (l.resp _ _ (V.symm (Modules.zero_scale K V V.origin))) (W.trans (l.scale K.𝟘 V.origin) (Modules.zero_scale K W (f V.origin)))

  pub linear-opposite : (x : V.carrier) → W.◌≋◌ (f (V.opposite x)) (W.opposite (f x))
  linear-opposite x = W.trans (l.resp _ _ (V.symm (Modules.opposite_is K V x))) (W.trans (l.scale (K.neg K.𝟙) x) (Modules.opposite_is K W (f x)))

  pub linear-sub : (x y : V.carrier) → W.◌≋◌ (f (V.◌⊞◌ x (V.opposite y))) (W.◌⊞◌ (f x) (W.opposite (f y)))
  linear-sub x y = W.trans (l.add x (V.opposite y)) (W.add_cong (W.rfl (f x)) (linear-opposite y))

  pub linear-total : (g : ℕ → V.carrier) (n : ℕ) → W.◌≋◌ (f (total V.ops g n)) (total W.ops (λ k. f (g k)) n)
  linear-total g zero = W.trans (l.resp _ _ (total-zero K V g)) (W.trans linear-origin (W.symm (total-zero K W (λ k. f (g k)))))
  linear-total g (suc n) = W.trans (l.resp _ _ (total-suc K V g n)) (W.trans (l.add (total V.ops g n) (g n))
      (W.trans (W.add_cong (linear-total g n) (W.rfl (f (g n)))) (W.symm (total-suc K W (λ k. f (g k)) n))))

-- one linear map after another
pub linear_then : (K : CommRing) (U V W : Module K) (f : U.carrier → V.carrier) (g : V.carrier → W.carrier) → IsLinear U.ops V.ops f → IsLinear V.ops W.ops g → IsLinear U.ops W.ops (λ x. g (f x))
linear_then K U V W f g l m = record {
  resp = λ x y e. m.resp (f x) (f y) (l.resp x y e);
  add = λ x y. W.trans (m.resp _ _ (l.add x y)) (m.add (f x) (f y));
  scale = λ c x. W.trans (m.resp _ _ (l.scale c x)) (m.scale c (f x));
}

-- a map that agrees with a linear one is linear
pub linear_same : (K : CommRing) (V W : Module K) (f g : V.carrier → W.carrier) → ((x : V.carrier) → W.◌≋◌ (f x) (g x)) → IsLinear V.ops W.ops g → IsLinear V.ops W.ops f
linear_same K V W f g e l = record {
  resp = λ x y h. W.trans (e x) (W.trans (l.resp x y h) (W.symm (e y)));
  add = λ x y. W.trans (e _) (W.trans (l.add x y) (W.symm (W.add_cong (e x) (e y))));
  scale = λ c x. W.trans (e _) (W.trans (l.scale c x) (W.symm (W.scale_cong (K.rfl c) (e x))));
}
