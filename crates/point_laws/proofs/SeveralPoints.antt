-- Local at several points, by lists of members.
use Rattle.std.proofs.Common.{sym, subst, ◌∙◌, ℕ, List, [], ◌∷◌, length, map}
use Rattle.comm_ring.proofs.Derived.{one_mul, pow-add}
use Rattle.comm_ring.specs.Ideals.{Into, Respects}
use Rattle.comm_ring.specs.Ring.{pow, CommRing}
use Rattle.point_laws.proofs.AllPoints.{gens}
use Rattle.fraction_laws.proofs.Basic.{into_list, list_into}
use Rattle.fraction_laws.proofs.FractionRing.{Frac, Eq, times, whole_ring, times_cong, times_assoc, eq_tran}
use Rattle.point_laws.proofs.Splitting.{all_resp}
use Rattle.fraction_laws.proofs.WrittenOut.{Finite, setting, digits, Wh, em, Fr, integral_up, integral_down, firsts, length-firsts, each_firsts, prod_firsts, prod_em, gens_em, length-map-em}
use Rattle.fraction_laws.proofs.Forms.{Mem}
use Rattle.point_laws.proofs.PointForms.{Chosen, prod_all, LocalAtAll}
use Rattle.fraction_laws.proofs.Settings.{prod, Setting, gr, Digits, IntoAll, LocalAt}

module _ (Q : CommRing) (d : Q.carrier) (cancel : (x : Q.carrier) → Q.◌≈◌ (Q.◌⊗◌ d x) Q.𝟘 → Q.◌≈◌ x Q.𝟘) (F : Finite Q d) where
  open Q use {carrier, ◌≈◌, ◌⊕◌, ◌⊗◌, neg, 𝟘, 𝟙, rfl, symm, trans, add_cong, mul_cong, neg_cong, add_assoc, add_comm, add_zero, add_neg, mul_assoc, mul_comm, mul_one, distrib}

  infix 40 ◌≈◌
  infixl 60 ◌⊕◌
  infixl 70 ◌⊗◌
  abbrev K : Setting
  K = setting Q d cancel

  abbrev N : Digits (gr K)
  N = digits Q d cancel F

  abbrev e : carrier → Frac Q d cancel
  e = em Q d cancel

  abbrev W : Frac Q d cancel → Type 0
  W = Wh Q d cancel

  abbrev mul : Frac Q d cancel → Frac Q d cancel → Frac Q d cancel
  mul = times Q d cancel

  w_resp : Respects (Fr Q d cancel).ops W
  w_resp = (whole_ring Q d cancel).resp

  -- x, y with x equal to a whole member p: (p r) g and r (x g)
  turn : (x g : Frac Q d cancel) (p r : carrier) → Eq Q d cancel x (e p) → Eq Q d cancel (mul (e r) (mul x g)) (mul (e (p ⊗ r)) g)
  unfolding pow
  turn x g p r h =
      eq_tran Q d cancel (mul (e r) (mul x g)) (mul (e r) (mul (e p) g)) (mul (e (p ⊗ r)) g)
      (times_cong Q d cancel (e r) (e r) (mul x g) (mul (e p) g) (rfl _) (times_cong Q d cancel x (e p) g g h (rfl _)))
      (eq_tran Q d cancel (mul (e r) (mul (e p) g)) (mul (e (r ⊗ p)) g) (mul (e (p ⊗ r)) g)
      (symm (times_assoc Q d cancel (e r) (e p) g))
      (times_cong Q d cancel (e (r ⊗ p)) (e (p ⊗ r)) g g (mul_cong (mul_comm r p) (rfl 𝟙)) (rfl _)))

  down : (s : List (List carrier)) (m : ℕ) (f : Frac Q d cancel) → IntoAll (gr K) (List carrier) (gens Q d cancel F) s m W f → (ls : List (List carrier)) → Chosen Q.ops d s m ls → W (mul (e (prod_all Q.ops d ls)) f)
  down [] m f h [] c = w_resp f (mul (e 𝟙) f) ((Fr Q d cancel).symm (one_mul (Fr Q d cancel) f)) h
  down [] m f h (l ∷ ls) c = absurd c
  down (t ∷ s) m f h [] c = absurd c
  down (t ∷ s) m f h (l ∷ ls) c =
      let x = prod (Fr Q d cancel).ops (map e l) in
      let M = IntoAll (gr K) (List carrier) (gens Q d cancel F) s m W in
      let i : Into (Fr Q d cancel).ops (gens Q d cancel F t) (length (map e l)) M f = subst (λ k. Into (Fr Q d cancel).ops (gens Q d cancel F t) k M f) (sym (length-map-em Q d cancel l ∙ c.0)) h in
      w_resp (mul (e (prod_all Q.ops d ls)) (mul x f)) (mul (e (prod Q.ops l ⊗ prod_all Q.ops d ls)) f)
      (turn x f (prod Q.ops l) (prod_all Q.ops d ls) (prod_em Q d cancel (Mem Q.ops d t) l))
      (down s m (mul x f) (list_into (Fr Q d cancel) (gens Q d cancel F t) M (all_resp K N (List carrier) (gens Q d cancel F) W w_resp s m) (map e l) f (gens_em Q d cancel (Mem Q.ops d t) l c.1) i) ls c.2)

  up : (s : List (List carrier)) (m : ℕ) (f : Frac Q d cancel) → ((ls : List (List carrier)) → Chosen Q.ops d s m ls → W (mul (e (prod_all Q.ops d ls)) f)) → IntoAll (gr K) (List carrier) (gens Q d cancel F) s m W f
  up [] m f h = w_resp (mul (e 𝟙) f) f (one_mul (Fr Q d cancel) f) (h [] tt)
  up (t ∷ s) m f h =
      into_list (Fr Q d cancel) (gens Q d cancel F t) (IntoAll (gr K) (List carrier) (gens Q d cancel F) s m W) (all_resp K N (List carrier) (gens Q d cancel F) W w_resp s m) m f
      (λ l q c. up s m (mul (prod (Fr Q d cancel).ops l) f) (λ ls k.
      let z = firsts Q d cancel (Mem Q.ops d t) l c in
      w_resp (mul (e (prod Q.ops z ⊗ prod_all Q.ops d ls)) f) (mul (e (prod_all Q.ops d ls)) (mul (prod (Fr Q d cancel).ops l) f))
      (symm (turn (prod (Fr Q d cancel).ops l) f (prod Q.ops z) (prod_all Q.ops d ls) (prod_firsts Q d cancel (Mem Q.ops d t) l c)))
      (h (z ∷ ls) (length-firsts Q d cancel (Mem Q.ops d t) l c ∙ q, each_firsts Q d cancel (Mem Q.ops d t) l c, k))))

  pub local_at_up : (s : List (List carrier)) (a : carrier) (k : ℕ) → LocalAtAll Q.ops d s a k → LocalAt (gr K) (List carrier) (gens Q d cancel F) s (a, k)
  unfolding pow
  local_at_up s a k h = (integral_up Q d cancel a k h.0, (h.1.0, up s h.1.0 (a, k) (λ ls c. let r = h.1.1 ls c in (r.0, trans r.1 (mul_cong (rfl _) (symm (trans (pow-add Q d 0 k) (one_mul Q _))))))))

  pub local_at_down : (s : List (List carrier)) (a : carrier) (k : ℕ) → LocalAt (gr K) (List carrier) (gens Q d cancel F) s (a, k) → LocalAtAll Q.ops d s a k
  unfolding pow
  local_at_down s a k h = (integral_down Q d cancel a k h.0, (h.1.0, λ ls c. let r = down s h.1.0 (a, k) h.1.1 ls c in (r.0, trans r.1 (mul_cong (rfl _) (trans (pow-add Q d 0 k) (one_mul Q _))))))
