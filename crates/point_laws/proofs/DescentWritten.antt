-- Descent and lists of all points, for the fractions of a ring in which d cancels.
use Rattle.std.proofs.Common.{ℕ, List}
use Rattle.comm_ring.specs.Ideals.{ProductOf}
use Rattle.comm_ring.specs.Ring.{CommRing, pow}
use Rattle.fraction_laws.specs.Fractions.{fraction_ops, InA, InModule}
use Rattle.fraction_laws.proofs.Settings.{IsRing, Ground, Setting, Digits, Integral, Local, IsFull, LocalAt}
use Rattle.fraction_laws.proofs.Scalars.{Scalars, Dim}
use Rattle.fraction_laws.proofs.Forms.{Mem, fraction_ground}
use Rattle.fraction_laws.proofs.WrittenOut.{Finite, setting, digits, Gens, d_pow}
use Rattle.fraction_laws.proofs.Coordinates.{finite}
use Rattle.point_laws.proofs.PointForms.{Max, Covers}
use Rattle.point_laws.proofs.Descent.{descent}
use Rattle.point_laws.proofs.Splitting.{local_of_integral}
use Rattle.point_laws.proofs.AllPoints.{all_points, gens, members}

module _ (Q : CommRing) (d : Q.carrier) (cancel : (x : Q.carrier) → Q.◌≈◌ (Q.◌⊗◌ d x) Q.𝟘 → Q.◌≈◌ x Q.𝟘) where
  open Q use {carrier, ◌≈◌, ◌⊕◌, ◌⊗◌, neg, 𝟘, 𝟙, rfl, symm, trans, add_cong, mul_cong, neg_cong, add_assoc, add_comm, add_zero, add_neg, mul_assoc, mul_comm, mul_one, distrib}

  infix 40 ◌≈◌
  infixl 60 ◌⊕◌
  infixl 70 ◌⊗◌
  abbrev G : Ground
  G = fraction_ground Q.ops d

  abbrev K : Setting
  K = setting Q d cancel

  module _ (S : Scalars Q.ops) (n : ℕ) (D : Dim Q.ops S.p S.scal d n) where
    abbrev F : Finite Q d
    F = finite Q S d n D

    abbrev N : Digits G
    N = digits Q d cancel F

    pub descent_written : (P : List carrier) → ProductOf (fraction_ops Q.ops d) (Gens Q d cancel (Mem Q.ops d P)) (InA Q.ops d) (d, 0)
        → (k : ℕ) (L : carrier → Type 0) → IsRing (fraction_ops Q.ops d) (InModule Q.ops d k L) → ((x : carrier × ℕ) → InA Q.ops d x → InModule Q.ops d k L x)
        → IsFull G (Gens Q d cancel (Mem Q.ops d P)) (InModule Q.ops d k L)
        → (f : carrier × ℕ) → Local G (Gens Q d cancel (Mem Q.ops d P)) f → InModule Q.ops d k L f
    unfolding pow
    descent_written P g k L r holds full f w =
        descent K N (Gens Q d cancel (Mem Q.ops d P)) (λ p h. (h.0, trans (symm (mul_one _)) h.2)) g (InModule Q.ops d k L)
        (record { is_ring = r; holds = holds; power = k; within = λ x h. K.A_ring.resp (pow Q.ops d k ⊗ x.0, x.1) _ (symm (d_pow Q d cancel k x.0 x.1)) (h.0, trans (mul_comm _ _) h.2) })
        full f w

    -- the list of points covers all maximal ideals
    pub local_where_all_points : (s : List (List carrier)) → ((m : List carrier) → Max Q.ops d m → Covers Q.ops d s m) → (f : carrier × ℕ) → Integral G f → LocalAt G (List carrier) (gens Q d cancel F) s f
    unfolding pow
    local_where_all_points s c f h = local_of_integral K N (List carrier) (gens Q d cancel F) s (members Q d cancel F s) (all_points Q d cancel F S n D s c) f h
