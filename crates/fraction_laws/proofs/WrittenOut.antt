-- Integral and local fractions, written out and as members of the ring of fractions.
use Rattle.std.proofs.Common.{◌≡◌, refl, sym, ap, subst, ◌∙◌, ℕ, suc, ◌+◌, ◌<◌, List, [], ◌∷◌, length, arith, map}
use Rattle.comm_ring.proofs.Derived.{one_mul, zero_mul, pow-add}
use Rattle.comm_ring.proofs.Expressions.{c1, ◌+:◌, ◌*:◌, v0, v1, v2, ring_as}
use Rattle.comm_ring.specs.Ideals.{Into}
use Rattle.comm_ring.specs.Ring.{CommRing, pow}
use Rattle.fraction_laws.proofs.Basic.{into_list, list_into}
use Rattle.fraction_laws.proofs.FractionRing.{Frac, Eq, plus, times, fractions, emb, IsWhole, whole_ring, pow_emb, times_cong, plus_cong, eq_tran}
use Rattle.fraction_laws.proofs.Integrals.{integral_resp, local_resp}
use Rattle.fraction_laws.specs.Fractions.{monic, IntegralAt, Equal}
use Rattle.fraction_laws.proofs.Forms.{LocalTo}
use Rattle.fraction_laws.proofs.Settings.{mon, prod, Each, Setting, gr, Digits, Integral, Local}

-- a ring whose members have finitely many digits modulo d
pub record Finite (Q : CommRing) (d : Q.carrier) : Type 0 where
  pub size : ℕ
  pub digit : Q.carrier → ℕ
  pub over : Q.carrier → Q.carrier
  pub digit_lt : (x : Q.carrier) → digit x < size
  pub digit_same : (x y : Q.carrier) → digit x ≡ digit y → Q.◌≈◌ (Q.◌⊕◌ x (Q.◌⊗◌ d (over y))) (Q.◌⊕◌ y (Q.◌⊗◌ d (over x)))

module _ (Q : CommRing) (d : Q.carrier) (cancel : (x : Q.carrier) → Q.◌≈◌ (Q.◌⊗◌ d x) Q.𝟘 → Q.◌≈◌ x Q.𝟘) where
  open Q use {carrier, ◌≈◌, ◌⊕◌, ◌⊗◌, neg, 𝟘, 𝟙, rfl, symm, trans, add_cong, mul_cong, neg_cong, add_assoc, add_comm, add_zero, add_neg, mul_assoc, mul_comm, mul_one, distrib}

  infix 40 ◌≈◌
  infixl 60 ◌⊕◌
  infixl 70 ◌⊗◌
  abbrev pub Fr : CommRing
  Fr = fractions Q d cancel

  abbrev pub Wh : Frac Q d cancel → Type 0
  Wh = IsWhole Q d cancel

  abbrev pub em : carrier → Frac Q d cancel
  em = emb Q d cancel

  pub whole_eq : (x : Frac Q d cancel) → (h : Wh x) → Eq Q d cancel x (em h.0)
  unfolding pow
  whole_eq x h = trans (mul_one _) h.1

  pub em_whole : (x : carrier) → Wh (em x)
  unfolding pow
  em_whole x = (x, symm (mul_one x))

  pub d_pow : (k : ℕ) (a : carrier) (n : ℕ) → Eq Q d cancel (times Q d cancel (pow Fr.ops (em d) k) (a, n)) (pow Q.ops d k ⊗ a, n)
  unfolding pow
  d_pow k a n = eq_tran Q d cancel (times Q d cancel (pow Fr.ops (em d) k) (a, n)) (times Q d cancel (pow Q.ops d k, 0) (a, n)) (pow Q.ops d k ⊗ a, n)
      (times_cong Q d cancel (pow Fr.ops (em d) k) (pow Q.ops d k, 0) (a, n) (a, n) (pow_emb Q d cancel d k) (rfl _))
      (mul_cong (rfl _) (symm (trans (pow-add Q d 0 n) (one_mul Q _))))

  pub cancel_whole : (x : Frac Q d cancel) → Eq Q d cancel (times Q d cancel (em d) x) (𝟘, 0) → Eq Q d cancel x (𝟘, 0)
  unfolding pow
  cancel_whole x h = trans (mul_one _) (trans (cancel x.0 (trans (symm (mul_one _)) (trans h (zero_mul Q _)))) (symm (zero_mul Q _)))

  abbrev pub setting : Setting
  setting = record {
    ring = Fr;
    A = Wh;
    A_ring = whole_ring Q d cancel;
    d = em d;
    A_d = em_whole d;
    cancel = cancel_whole;
    denom = λ f. (f.1, (whole_ring Q d cancel).resp (pow Q.ops d f.1 ⊗ f.0, f.1) _ (symm (d_pow f.1 f.0 f.1)) (f.0, mul_comm _ _));
  }

  module _ (F : Finite Q d) where
    open F use {size, digit, over, digit_lt, digit_same}

    pub same : (x y : Frac Q d cancel) (a : Wh x) (b : Wh y) → digit a.0 ≡ digit b.0
        → Eq Q d cancel (plus Q d cancel x (times Q d cancel (em d) (em (over b.0)))) (plus Q d cancel y (times Q d cancel (em d) (em (over a.0))))
    unfolding pow
    same x y a b e =
        let p = times Q d cancel (em d) (em (over b.0)) in
        let q = times Q d cancel (em d) (em (over a.0)) in
        eq_tran Q d cancel (plus Q d cancel x p) (plus Q d cancel (em a.0) p) (plus Q d cancel y q)
        (plus_cong Q d cancel x (em a.0) p p (whole_eq x a) (rfl _))
        (eq_tran Q d cancel (plus Q d cancel (em a.0) p) (plus Q d cancel (em b.0) q) (plus Q d cancel y q)
        (trans (ring_as Q (a.0 ∷ d ∷ over b.0 ∷ []) ((v0 *: c1 +: v1 *: v2 *: c1) *: c1) (v0 +: v1 *: v2) tt)
        (trans (digit_same a.0 b.0 e) (ring_as Q (b.0 ∷ d ∷ over a.0 ∷ []) (v0 +: v1 *: v2) ((v0 *: c1 +: v1 *: v2 *: c1) *: c1) tt)))
        (plus_cong Q d cancel (em b.0) y q q (symm (whole_eq y b)) (rfl _)))

    abbrev pub digits : Digits (gr setting)
    digits = record {
      size = size;
      digit = λ x a. (digit a.0, em (over a.0), digit_lt a.0, em_whole (over a.0));
      digit_same = same;
    }

  -- the equation of a fraction, computed
  mon_top : (cs : List carrier) (a : carrier) (k : ℕ) → (mon Fr.ops (map em cs) (a, k)).0 ≈ monic Q.ops d cs a (pow Q.ops d k) × pow Q.ops d (mon Fr.ops (map em cs) (a, k)).1 ≈ pow Q.ops (pow Q.ops d k) (length cs)
  unfolding pow
  mon_top [] a k = (rfl 𝟙, rfl 𝟙)
  mon_top (c ∷ cs) a k =
      let h = mon_top cs a k in
      let e = (mon Fr.ops (map em cs) (a, k)).1 in
      let r : pow Q.ops d (k + e) ≈ pow Q.ops d k ⊗ pow Q.ops (pow Q.ops d k) (length cs) = trans (pow-add Q d k e) (mul_cong (rfl _) h.1) in
      (add_cong (trans (mul_one _) (mul_cong (rfl a) h.0)) (mul_cong (rfl c) r), trans (pow-add Q d (k + e) 0) (trans (mul_one _) r))

  pub length-map-em : (cs : List carrier) → length (map em cs) ≡ length cs
  length-map-em [] = refl
  length-map-em (c ∷ cs) = ap suc (length-map-em cs)

  each_em : (cs : List carrier) → Each Fr.ops Wh (map em cs)
  unfolding pow
  each_em [] = tt
  each_em (c ∷ cs) = (em_whole c, each_em cs)

  pub integral_up : (a : carrier) (k : ℕ) → IntegralAt Q.ops d a k → Integral (gr setting) (a, k)
  unfolding pow
  integral_up a k w = (
    map em w.0,
    (let e = length-map-em w.0 in let l : 0 < length w.0 = w.1 in omega arith),
    each_em w.0,
    trans (mul_one _) (trans (mon_top w.0 a k).0 (trans w.2 (symm (zero_mul Q _)))),
  )

  numbers : (cs : List (Frac Q d cancel)) → Each Fr.ops Wh cs → List carrier
  unfolding pow
  numbers [] h = []
  numbers (c ∷ cs) h = h.0.0 ∷ numbers cs h.1

  length-numbers : (cs : List (Frac Q d cancel)) (h : Each Fr.ops Wh cs) → length (numbers cs h) ≡ length cs
  unfolding numbers pow
  length-numbers [] h = refl
  length-numbers (c ∷ cs) h = ap suc (length-numbers cs h.1)

  mon_numbers : (cs : List (Frac Q d cancel)) (h : Each Fr.ops Wh cs) (x : Frac Q d cancel) → Eq Q d cancel (mon Fr.ops cs x) (mon Fr.ops (map em (numbers cs h)) x)
  unfolding numbers pow
  mon_numbers [] h x = rfl _
  mon_numbers (c ∷ cs) h x =
      plus_cong Q d cancel (times Q d cancel x (mon Fr.ops cs x)) (times Q d cancel x (mon Fr.ops (map em (numbers cs h.1)) x)) c (em h.0.0)
      (times_cong Q d cancel x x (mon Fr.ops cs x) (mon Fr.ops (map em (numbers cs h.1)) x) (rfl _) (mon_numbers cs h.1 x)) (whole_eq c h.0)

  pub integral_down : (a : carrier) (k : ℕ) → Integral (gr setting) (a, k) → IntegralAt Q.ops d a k
  unfolding pow
  integral_down a k w =
      let n = numbers w.0 w.2 in
      let m = mon Fr.ops (map em n) (a, k) in
      let e : Eq Q d cancel m (𝟘, 0) = eq_tran Q d cancel m (mon Fr.ops w.0 (a, k)) (𝟘, 0) (symm (mon_numbers w.0 w.2 (a, k))) w.3 in (
        n,
        (let q = length-numbers w.0 w.2 in let l : 0 < length w.0 = w.1 in omega arith),
        trans (symm (mon_top n a k).0) (trans (symm (mul_one _)) (trans e (zero_mul Q _))),
      )

  module _ (P : carrier → Type 0) where
    -- the generators as fractions
    abbrev pub Gens : Frac Q d cancel → Type 0
    Gens x = (p : carrier) × P p × Eq Q d cancel x (em p)

    pub firsts : (l : List (Frac Q d cancel)) → Each Fr.ops Gens l → List carrier
    firsts [] h = []
    firsts (x ∷ l) h = h.0.0 ∷ firsts l h.1

    pub length-firsts : (l : List (Frac Q d cancel)) (h : Each Fr.ops Gens l) → length (firsts l h) ≡ length l
    unfolding firsts
    length-firsts [] h = refl
    length-firsts (x ∷ l) h = ap suc (length-firsts l h.1)

    pub each_firsts : (l : List (Frac Q d cancel)) (h : Each Fr.ops Gens l) → Each Q.ops P (firsts l h)
    unfolding firsts
    each_firsts [] h = tt
    each_firsts (x ∷ l) h = (h.0.1, each_firsts l h.1)

    pub prod_firsts : (l : List (Frac Q d cancel)) (h : Each Fr.ops Gens l) → Eq Q d cancel (prod Fr.ops l) (em (prod Q.ops (firsts l h)))
    unfolding firsts
    prod_firsts [] h = rfl _
    prod_firsts (x ∷ l) h = times_cong Q d cancel x (em h.0.0) (prod Fr.ops l) (em (prod Q.ops (firsts l h.1))) h.0.2 (prod_firsts l h.1)

    pub prod_em : (l : List carrier) → Eq Q d cancel (prod Fr.ops (map em l)) (em (prod Q.ops l))
    prod_em [] = rfl _
    prod_em (x ∷ l) = times_cong Q d cancel (em x) (em x) (prod Fr.ops (map em l)) (em (prod Q.ops l)) (rfl _) (prod_em l)

    pub gens_em : (l : List carrier) → Each Q.ops P l → Each Fr.ops Gens (map em l)
    gens_em [] h = tt
    gens_em (x ∷ l) h = ((x, h.0, rfl _), gens_em l h.1)

    -- what every product of m members takes into the multiples of d^k, as a fraction
    pub taken_up : (a : carrier) (k m : ℕ) → ((l : List carrier) → length l ≡ m → Each Q.ops P l → (q : carrier) × (prod Q.ops l ⊗ a) ≈ (q ⊗ pow Q.ops d k)) → Into Fr.ops Gens m Wh (a, k)
    unfolding pow
    taken_up a k m t =
        into_list Fr Gens Wh (whole_ring Q d cancel).resp m (a, k) (λ l e h.
        let f = firsts l h in
        let r = t f (length-firsts l h ∙ e) (each_firsts l h) in
        (whole_ring Q d cancel).resp (times Q d cancel (em (prod Q.ops f)) (a, k)) (times Q d cancel (prod Fr.ops l) (a, k))
        (times_cong Q d cancel (em (prod Q.ops f)) (prod Fr.ops l) (a, k) (a, k) (symm (prod_firsts l h)) (rfl _))
        (r.0, trans r.1 (mul_cong (rfl _) (symm (trans (pow-add Q d 0 k) (one_mul Q _))))))

    pub local_up : (a : carrier) (k : ℕ) → LocalTo Q.ops d P a k → Local (gr setting) Gens (a, k)
    local_up a k w = (integral_up a k w.0, (w.1.0, taken_up a k w.1.0 w.1.1))

    pub local_down : (a : carrier) (k : ℕ) → Local (gr setting) Gens (a, k) → LocalTo Q.ops d P a k
    unfolding pow
    local_down a k w = (
      integral_down a k w.0,
      (
        w.1.0,
        λ l e h.
            let m : Into Fr.ops Gens (length (map em l)) Wh (a, k) = subst (λ n. Into Fr.ops Gens n Wh (a, k)) (sym (length-map-em l ∙ e)) w.1.1 in
            let r = list_into Fr Gens Wh (whole_ring Q d cancel).resp (map em l) (a, k) (gens_em l h) m in
            let s = (whole_ring Q d cancel).resp (times Q d cancel (prod Fr.ops (map em l)) (a, k)) (times Q d cancel (em (prod Q.ops l)) (a, k))
            (times_cong Q d cancel (prod Fr.ops (map em l)) (em (prod Q.ops l)) (a, k) (a, k) (prod_em l) (rfl _)) r in
            (s.0, trans s.1 (mul_cong (rfl _) (trans (pow-add Q d 0 k) (one_mul Q _)))),
      ),
    )

  -- integral and local give one answer for equal fractions
  pub integral_of_equal : (a b : carrier) (k l : ℕ) → Equal Q.ops d a k b l → IntegralAt Q.ops d a k → IntegralAt Q.ops d b l
  unfolding pow
  integral_of_equal a b k l e h = integral_down b l (integral_resp setting (a, k) (b, l) e (integral_up a k h))

  pub local_of_equal : (P : carrier → Type 0) (a b : carrier) (k l : ℕ) → Equal Q.ops d a k b l → LocalTo Q.ops d P a k → LocalTo Q.ops d P b l
  unfolding pow
  local_of_equal P a b k l e h = local_down P b l (local_resp setting (Gens P) (λ p g. (g.0, trans (symm (mul_one _)) g.2)) (a, k) (b, l) e (local_up P a k h))
