-- The laws of one fraction, for the fractions of a ring in which d cancels.
use Rattle.std.proofs.Common.{◌≡◌, sym, subst, ℕ, zero, suc, ◌+◌, ◌*◌, ◌↔◌, List, arith}
use Rattle.comm_ring.specs.Ring.{CommRing, pow}
use Rattle.fraction_laws.proofs.Coordinates.{finite, dec_power}
use Rattle.fraction_laws.proofs.FractionRing.{cancel_two, Eq, times, times_cong, eq_tran}
use Rattle.fraction_laws.proofs.Integrals.{integral_of_bounded, bounded_of_integral}
use Rattle.fraction_laws.proofs.PowerBound.{delta_bounds}
use Rattle.fraction_laws.proofs.WrittenOut.{Finite, setting, digits, Gens, em, em_whole, Fr, integral_up, integral_down, d_pow}
use Rattle.fraction_laws.specs.Fractions.{IntegralAt, Equal, Serves}
use Rattle.fraction_laws.proofs.Forms.{Mem, fraction_ground}
use Rattle.fraction_laws.proofs.Scalars.{Scalars, Dim}
use Rattle.fraction_laws.proofs.Settings.{Ground, Setting, Digits, Bounded, Local, Residues, Beyond}

module _ (Q : CommRing) (d : Q.carrier) (cancel : (x : Q.carrier) → Q.◌≈◌ (Q.◌⊗◌ d x) Q.𝟘 → Q.◌≈◌ x Q.𝟘) where
  open Q use {carrier, ◌≈◌, ◌⊕◌, ◌⊗◌, neg, 𝟘, 𝟙, rfl, symm, trans, add_cong, mul_cong, neg_cong, add_assoc, add_comm, add_zero, add_neg, mul_assoc, mul_comm, mul_one, distrib}

  infix 40 ◌≈◌
  infixl 60 ◌⊕◌
  infixl 70 ◌⊗◌
  abbrev G : Ground
  G = fraction_ground Q.ops d

  abbrev K : Setting
  K = setting Q d cancel

  pub pow_frac : (a : carrier) (k j : ℕ) → Eq Q d cancel (pow (Fr Q d cancel).ops (a, k) j) (pow Q.ops a j, k * j)
  unfolding pow
  pow_frac a k zero = let e : k * 0 ≡ 0 = omega arith in subst (λ n. Eq Q d cancel (𝟙, 0) (𝟙, n)) (sym e) (rfl _)
  pow_frac a k (suc j) = let e : k + k * j ≡ k * suc j = omega arith in
      subst (λ n. Eq Q d cancel (pow (Fr Q d cancel).ops (a, k) (suc j)) (pow Q.ops a (suc j), n)) e
      (times_cong Q d cancel (a, k) (a, k) (pow (Fr Q d cancel).ops (a, k) j) (pow Q.ops a j, k * j) (rfl _) (pow_frac a k j))

  serves_up : (a : carrier) (k n : ℕ) → Serves Q.ops d a k n → Bounded G (a, k) n
  unfolding pow
  serves_up a k n s j =
      K.A_ring.resp (pow Q.ops d n ⊗ pow Q.ops a j, k * j) (times Q d cancel (pow (Fr Q d cancel).ops (em Q d cancel d) n) (pow (Fr Q d cancel).ops (a, k) j))
      (eq_tran Q d cancel (pow Q.ops d n ⊗ pow Q.ops a j, k * j) (times Q d cancel (pow (Fr Q d cancel).ops (em Q d cancel d) n) (pow Q.ops a j, k * j)) (times Q d cancel (pow (Fr Q d cancel).ops (em Q d cancel d) n) (pow (Fr Q d cancel).ops (a, k) j))
      (symm (d_pow Q d cancel n (pow Q.ops a j) (k * j)))
      (times_cong Q d cancel (pow (Fr Q d cancel).ops (em Q d cancel d) n) (pow (Fr Q d cancel).ops (em Q d cancel d) n) (pow Q.ops a j, k * j) (pow (Fr Q d cancel).ops (a, k) j) (rfl _) (symm (pow_frac a k j))))
      ((s j).0, trans (mul_comm _ _) (s j).1)

  serves_down : (a : carrier) (k n : ℕ) → Bounded G (a, k) n → Serves Q.ops d a k n
  unfolding pow
  serves_down a k n s j =
      let h = K.A_ring.resp (times Q d cancel (pow (Fr Q d cancel).ops (em Q d cancel d) n) (pow (Fr Q d cancel).ops (a, k) j)) (pow Q.ops d n ⊗ pow Q.ops a j, k * j)
      (eq_tran Q d cancel (times Q d cancel (pow (Fr Q d cancel).ops (em Q d cancel d) n) (pow (Fr Q d cancel).ops (a, k) j)) (times Q d cancel (pow (Fr Q d cancel).ops (em Q d cancel d) n) (pow Q.ops a j, k * j)) (pow Q.ops d n ⊗ pow Q.ops a j, k * j)
      (times_cong Q d cancel (pow (Fr Q d cancel).ops (em Q d cancel d) n) (pow (Fr Q d cancel).ops (em Q d cancel d) n) (pow (Fr Q d cancel).ops (a, k) j) (pow Q.ops a j, k * j) (rfl _) (pow_frac a k j))
      (d_pow Q d cancel n (pow Q.ops a j) (k * j))) (s j) in
      (h.0, trans (mul_comm _ _) h.1)

  module _ (S : Scalars Q.ops) (n : ℕ) (D : Dim Q.ops S.p S.scal d n) where
    abbrev F : Finite Q d
    F = finite Q S d n D

    abbrev N : Digits G
    N = digits Q d cancel F

    pub integral_serves : (a : carrier) (k : ℕ) → IntegralAt Q.ops d a k ↔ ((m : ℕ) × Serves Q.ops d a k m)
    integral_serves a k = (
      λ h. let b = bounded_of_integral K (a, k) (integral_up Q d cancel a k h) in (b.0, serves_down a k b.0 b.1),
      λ h. integral_down Q d cancel a k (integral_of_bounded K N (a, k) h.0 (serves_up a k h.0 h.1)),
    )

    pub cancel_pair : (x y : carrier) → d ⊗ x ≈ d ⊗ y → x ≈ y
    unfolding pow
    cancel_pair x y e = cancel_two Q d cancel 1 x y (trans (mul_cong (mul_one d) (rfl x)) (trans e (mul_cong (symm (mul_one d)) (rfl y))))

    unfoldable pub residues : Residues G
    unfolding pow
    residues = record {
      p = S.p;
      scal = λ c. (S.scal c, 0);
      scal_in = λ c. em_whole Q d cancel (S.scal c);
      scal_zero = mul_cong S.scal_zero (rfl 𝟙);
      inverse = λ c l m. let i = S.inverse c l m in (i.0, mul_cong i.2 (rfl 𝟙));
      decide = λ f. dec_power Q S d n D cancel_pair f.1 f.0;
    }

    pub delta_bounds_power : (P : List carrier) (r : ℕ) → ¬ (Beyond G S.p (λ c. (S.scal c, 0)) (Gens Q d cancel (Mem Q.ops d P)) (suc r)) → (f : carrier × ℕ) → Local G (Gens Q d cancel (Mem Q.ops d P)) f → (b : carrier) × Equal Q.ops d f.0 f.1 b r
    unfolding residues pow
    delta_bounds_power P r h f w =
        let a = delta_bounds K residues N (Gens Q d cancel (Mem Q.ops d P)) (λ p g. (g.0, trans (symm (mul_one _)) g.2)) r h f w in
        let b = K.A_ring.resp (times Q d cancel (pow (Fr Q d cancel).ops (em Q d cancel d) r) f) (pow Q.ops d r ⊗ f.0, f.1) (d_pow Q d cancel r f.0 f.1) a in
        (b.0, trans (mul_comm _ _) b.1)
