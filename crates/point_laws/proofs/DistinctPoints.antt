-- Points by the definition: they are maximal ideals, and different ones are apart.
use Rattle.std.proofs.Common.{ℕ, ◌⊎◌, inl, inr, ◌↔◌, List, [], ◌∷◌}
use Rattle.comm_ring.specs.Ideals.{ProductOf, no_product, one_more}
use Rattle.comm_ring.specs.Ring.{pow, CommRing}
use Rattle.point_laws.proofs.AllPoints.{apart_up, sums, mem_self, mem_in}
use Rattle.fraction_laws.proofs.Basic.{gen_add, gen_mul, gen_resp, gen_one}
use Rattle.point_laws.proofs.MaximalIdeals.{dec_id, id_resp, id_add, id_d, id_none, id_more, id_absorb, id_mono, apart_or_in}
use Rattle.fraction_laws.proofs.WrittenOut.{setting, Gens}
use Rattle.fraction_laws.proofs.Forms.{Mem}
use Rattle.point_laws.proofs.PointForms.{Id, Max, Covers, Point, EachPoint, Differs, Distinct, Holds}
use Rattle.fraction_laws.proofs.Scalars.{Scalars, Dim}
use Rattle.fraction_laws.proofs.Settings.{gr, ApartFrom, AllApart}

module _ (Q : CommRing) (d : Q.carrier) (cancel : (x : Q.carrier) → Q.◌≈◌ (Q.◌⊗◌ d x) Q.𝟘 → Q.◌≈◌ x Q.𝟘) where
  open Q use {carrier, ◌≈◌, ◌⊕◌, ◌⊗◌, neg, 𝟘, 𝟙, rfl, symm, trans, add_cong, mul_cong, neg_cong, add_assoc, add_comm, add_zero, add_neg, mul_assoc, mul_comm, mul_one, distrib}

  infix 40 ◌≈◌
  infixl 60 ◌⊕◌
  infixl 70 ◌⊗◌
  abbrev I : List carrier → carrier → Type 0
  I = Id Q.ops d

  abbrev S : List carrier → carrier → Type 0
  S t = ProductOf Q.ops (Mem Q.ops d t) (λ x. Unit {0})

  to_id : (t : List carrier) (x : carrier) → S t x → I t x
  to_id t x (no_product _ z) = id_resp Q d t _ _ (symm z) (id_none Q d t)
  to_id t x (one_more _ p b y hp hb hy z) = id_resp Q d t _ _ (symm z) (id_add Q d t _ _ (mem_in Q d cancel t p (p ⊗ b) hp (b, mul_comm p b)) (to_id t y hy))

  from_id : (t : List carrier) → S t d → (x : carrier) → I t x → S t x
  from_id t g = sums Q d cancel t g t (mem_self Q d cancel t)

  -- of two maximal ideals that lie in one another both are one
  same_of_in : (t u : List carrier) → Max Q.ops d t → Max Q.ops d u → ((x : carrier) → I u x → I t x) → (x : carrier) → I t x → I u x
  same_of_in t u h k f x w = go (k.1 x)
    where
      go : I u x ⊎ I (x ∷ u) 𝟙 → I u x
      go (inl a) = a
      go (inr a) = absurd (h.0 (id_absorb Q d t x 𝟙 w (id_mono Q d u t f x 𝟙 a)))

  module _ (Sc : Scalars Q.ops) (n : ℕ) (D : Dim Q.ops Sc.p Sc.scal d n) where
    pub max_of_point : (t : List carrier) → Point Q.ops d t → Max Q.ops d t
    unfolding pow
    max_of_point t p = ((λ a. p.1 (from_id t p.0 𝟙 a)), λ f. go f (dec_id Q d Sc n D t f))
      where
        go : (f : carrier) → Dec (I t f) → I t f ⊎ I (f ∷ t) 𝟙
        go f (yes a) = inl a
        go f (no m) = inr (to_id (f ∷ t) 𝟙 (p.2 f (λ s. m (to_id t f s))))

    -- a maximal ideal is the ideal of a point: of d and its list
    mem_d : (m l : List carrier) → ((x : carrier) → Mem Q.ops d l x → S m x) → (x : carrier) → S l x → S m x
    mem_d m l f x (no_product _ z) = no_product _ z
    mem_d m l f x (one_more _ p b y hp hb hy z) = gen_resp Q (Mem Q.ops d m) (λ w. Unit {0}) _ _ (symm (trans z (add_cong (mul_comm p b) (rfl y))))
        (gen_add Q (Mem Q.ops d m) (λ w. Unit {0}) (gen_mul Q (Mem Q.ops d m) (λ w. Unit {0}) (λ a c e g. tt) b tt (f p hp)) (mem_d m l f y hy))

    more : (m : List carrier) (u x : carrier) → S m x → S (u ∷ m) x
    more m u x (no_product _ z) = no_product _ z
    more m u x (one_more _ p b y hp hb hy z) = one_more _ p b y (inr hp) hb (more m u y hy) z

    d_first : (m : List carrier) → S (d ∷ m) d
    d_first m = gen_one Q (Mem Q.ops d (d ∷ m)) (λ w. Unit {0}) tt d (inl (rfl d))

    with_d : (m : List carrier) (x : carrier) → I m x → I (d ∷ m) x
    with_d m x h = id_more Q d m d x h

    drop_d : (m : List carrier) (x : carrier) → I (d ∷ m) x → I m x
    drop_d m x h = id_absorb Q d m d x (id_resp Q d m _ _ (mul_one d) (id_d Q d m 𝟙)) h

    pub point_of_max : (m : List carrier) → Max Q.ops d m → Point Q.ops d (d ∷ m)
    point_of_max m h =
        (d_first m, (λ s. h.0 (drop_d m 𝟙 (to_id (d ∷ m) 𝟙 s))), λ f no_f. go f no_f (h.1 f))
      where
        go : (f : carrier) → ¬ (S (d ∷ m) f) → I m f ⊎ I (f ∷ m) 𝟙 → S (f ∷ (d ∷ m)) 𝟙
        go f n (inl a) = absurd (n (from_id (d ∷ m) (d_first m) f (with_d m f a)))
        go f n (inr a) = from_id (f ∷ (d ∷ m)) (more (d ∷ m) f d (d_first m)) 𝟙 (id_mono Q d m (d ∷ m) (with_d m) f 𝟙 a)

    -- a list that holds every point covers every maximal ideal
    pub covers_of_holds : (s : List (List carrier)) → ((m : List carrier) → Point Q.ops d m → Holds Q.ops d s m) → (m : List carrier) → Max Q.ops d m → Covers Q.ops d s m
    covers_of_holds s f m h = turn s (f (d ∷ m) (point_of_max m h)) points_d
      where
        points_d : (t : List carrier) → ((x : carrier) → S t x ↔ S (d ∷ m) x) → S t d
        points_d t e = (e d).1 (d_first m)

        turn : (s : List (List carrier)) → Holds Q.ops d s (d ∷ m) → ((t : List carrier) → ((x : carrier) → S t x ↔ S (d ∷ m) x) → S t d) → Covers Q.ops d s m
        turn [] h g = absurd h
        turn (t ∷ s) (inl e) g = inl (λ x a. drop_d m x (to_id (d ∷ m) x ((e x).0 (from_id t (g t e) x a))))
        turn (t ∷ s) (inr h) g = inr (turn s h g)

    abbrev Gn : List carrier → carrier × ℕ → Type 0
    Gn l = Gens Q d cancel (Mem Q.ops d l)

    -- a member of the one and a member of the other with the sum 1
    pub coprime : (t u : List carrier) → Point Q.ops d t → Point Q.ops d u → ¬ ((x : carrier) → S t x ↔ S u x) → (x : carrier) × (y : carrier) × I t x × I u y × x ⊕ y ≈ 𝟙
    coprime t u p q f = go (apart_or_in Q d t (max_of_point t p) u)
      where
        go : ((x : carrier) × (y : carrier) × I t x × I u y × x ⊕ y ≈ 𝟙) ⊎ ((x : carrier) → I u x → I t x) → (x : carrier) × (y : carrier) × I t x × I u y × x ⊕ y ≈ 𝟙
        go (inl w) = w
        go (inr g) = absurd (f (λ x. ((λ a. from_id u q.0 x (same_of_in t u (max_of_point t p) (max_of_point u q) g x (to_id t x a))), λ a. from_id t p.0 x (g x (to_id u x a)))))

    pub apart_from : (t : List carrier) (s : List (List carrier)) → Point Q.ops d t → EachPoint Q.ops d s → Differs Q.ops d t s → ApartFrom (gr (setting Q d cancel)) (List carrier) Gn t s
    unfolding pow
    apart_from t [] p q f = tt
    apart_from t (u ∷ s) p q f = (apart_up Q d cancel t u p.0 q.0.0 (coprime t u p q.0 f.0), apart_from t s p q.1 f.1)

    pub all_apart : (s : List (List carrier)) → EachPoint Q.ops d s → Distinct Q.ops d s → AllApart (gr (setting Q d cancel)) (List carrier) Gn s
    unfolding pow
    all_apart [] p f = tt
    all_apart (t ∷ s) p f = (apart_from t s p.0 p.1 f.0, all_apart s p.1 f.1)
