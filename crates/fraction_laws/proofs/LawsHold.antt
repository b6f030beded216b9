-- The laws of one fraction hold where d is regular and the ring has a dimension modulo d.
use Rattle.std.proofs.Common.{ℕ, suc, List}
use Rattle.prime_field.specs.Primes.{IsPrime}
use Rattle.comm_ring.specs.Ring.{CommRing, IsRingMap, pow}
use Rattle.comm_ring.specs.Residues.{residue_ops}
use Rattle.comm_ring.specs.Modules.{Dimension}
use Rattle.fraction_laws.specs.Fractions.{Regular, Frac}
use Rattle.fraction_laws.specs.Laws.{EqualFractionsAgree, OnePowerServes, FractionsAreClosed, DeltaBoundsPower, FractionLaws}
use Rattle.fraction_laws.proofs.Settings.{Setting, gr, Digits}
use Rattle.fraction_laws.proofs.Scalars.{Scalars, Dim}
use Rattle.fraction_laws.proofs.Forms as Forms
use Rattle.fraction_laws.proofs.FractionRing.{plus, times}
use Rattle.fraction_laws.proofs.WrittenOut.{Finite, Gens, setting, digits, integral_of_equal, local_of_equal, local_up, local_down, integral_up, integral_down}
use Rattle.fraction_laws.proofs.Coordinates.{finite}
use Rattle.fraction_laws.proofs.Integrals.{integral_add, integral_mul, local_add, local_mul}
use Rattle.fraction_laws.proofs.FractionLaws.{integral_serves, delta_bounds_power}
use Rattle.fraction_laws.proofs.Translations.{local_in, local_out}
use Rattle.fraction_laws.proofs.Premises.{Space, scalars, dimension_in}
use Rattle.fraction_laws.proofs.DimensionOfPowers.{powers_have_dimension}
use Rattle.fraction_laws.proofs.Independence.{beyond_out}

module _ (Q : CommRing) (d : Q.carrier) (regular : Regular Q.ops d) (p : ℕ) (prime : IsPrime p) (scalar : ℕ → Q.carrier)
    (m : IsRingMap (residue_ops p) Q.ops scalar) (n : ℕ) (D : Dimension (Space Q p prime scalar m d) n) where
  open Q use {ops, carrier, ◌≈◌, ◌⊕◌, ◌⊗◌, neg, 𝟘, 𝟙, rfl, symm, trans, mul_cong, mul_one}

  infix 40 ◌≈◌
  infixl 60 ◌⊕◌
  infixl 70 ◌⊗◌
  abbrev S : Scalars ops
  S = scalars Q p prime scalar m

  abbrev Fin : Dim ops p scalar d n
  Fin = dimension_in Q p prime scalar m d n D

  abbrev F : Finite Q d
  F = finite Q S d n Fin

  abbrev K : Setting
  K = setting Q d regular

  abbrev N : Digits (gr K)
  N = digits Q d regular F

  abbrev Mem : List carrier → carrier → Type 0
  Mem P = Forms.Mem ops d P

  abbrev G : List carrier → Frac ops d → Type 0
  G P = Gens Q d regular (Mem P)

  equal : EqualFractionsAgree ops d
  equal P a b k l e = (
    ((λ h. integral_of_equal Q d regular a b k l e h), λ h. integral_of_equal Q d regular b a l k (symm e) h),
    (
      (λ h. local_out Q d P b l (local_of_equal Q d regular (Mem P) a b k l e (local_in Q d P a k h))),
      λ h. local_out Q d P a k (local_of_equal Q d regular (Mem P) b a l k (symm e) (local_in Q d P b l h)),
    ),
  )

  serves : OnePowerServes ops d
  serves a k = integral_serves Q d regular S n Fin a k

  inside : (P : List carrier) (x : Frac ops d) → G P x → K.A x
  unfolding pow
  inside P x g = (g.0, trans (symm (mul_one x.0)) g.2)

  closed : FractionsAreClosed ops d
  closed = (
    (λ x y h k. let u = integral_up Q d regular x.0 x.1 h in let v = integral_up Q d regular y.0 y.1 k in (
      integral_down Q d regular (plus Q d regular x y).0 (plus Q d regular x y).1 (integral_add K N x y u v),
      integral_down Q d regular (times Q d regular x y).0 (times Q d regular x y).1 (integral_mul K N x y u v),
    )),
    (λ P x y h k. let u = local_up Q d regular (Mem P) x.0 x.1 (local_in Q d P x.0 x.1 h) in let v = local_up Q d regular (Mem P) y.0 y.1 (local_in Q d P y.0 y.1 k) in (
      local_out Q d P (plus Q d regular x y).0 (plus Q d regular x y).1 (local_down Q d regular (Mem P) (plus Q d regular x y).0 (plus Q d regular x y).1 (local_add K N (G P) (inside P) x y u v)),
      local_out Q d P (times Q d regular x y).0 (times Q d regular x y).1 (local_down Q d regular (Mem P) (times Q d regular x y).0 (times Q d regular x y).1 (local_mul K N (G P) (inside P) x y u v)),
    )),
  )

  bound : DeltaBoundsPower ops d p scalar
  bound P r no_more a k w = delta_bounds_power Q d regular S n Fin P r (λ b. no_more (beyond_out Q d regular p prime scalar m P (suc r) b)) (a, k) (local_up Q d regular (Mem P) a k (local_in Q d P a k w))

  pub fraction_laws : FractionLaws ops d p scalar
  fraction_laws = record {
    equal = equal;
    serves = serves;
    closed = closed;
    bound = bound;
    powers = powers_have_dimension Q d regular p prime scalar m;
  }
