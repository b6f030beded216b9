-- Fractions a over d^k of a ring.
use Rattle.std.specs.Prelude.{◌≡◌, ℕ, suc, ◌<◌, ◌+◌, ◌*◌, List, [], ◌∷◌, length, All}
use Rattle.std.specs.List.{Contains}
use Rattle.comm_ring.specs.Ring.{Ops, pow}
use Rattle.comm_ring.specs.Residues.{residue_ops}
use Rattle.comm_ring.specs.Modules.{ModuleOps, module_through, modulo, Independent}
use Rattle.comm_ring.specs.Ideals.{Takes, ProductOf}

module _ (Q : Ops) (d : Q.carrier) where
  open Q use {carrier, ◌≈◌, ◌⊕◌, ◌⊗◌, neg, 𝟘, 𝟙}

  infix 40 ◌≈◌
  infixl 60 ◌⊕◌
  infixl 70 ◌⊗◌
  -- d times a member is 0 only where the member is
  abbrev pub Regular : Type 0
  Regular = (x : carrier) → d ⊗ x ≈ 𝟘 → x ≈ 𝟘

  -- x is a multiple of d^k
  abbrev pub MultipleOf : ℕ → carrier → Type 0
  MultipleOf k x = (q : carrier) × x ≈ (q ⊗ pow Q d k)

  -- a fraction a over d^k
  abbrev pub Frac : Type 0
  Frac = carrier × ℕ

  -- a over d^k equals b over d^l
  abbrev pub Equal : carrier → ℕ → carrier → ℕ → Type 0
  Equal a k b l = (a ⊗ pow Q d l) ≈ (b ⊗ pow Q d k)

  -- fractions with their equality, sum and product
  abbrev pub fraction_ops : Ops
  fraction_ops = record {
    carrier = Frac;
    ◌≈◌ = λ x y. (x.0 ⊗ pow Q d y.1) ≈ (y.0 ⊗ pow Q d x.1);
    ◌⊕◌ = λ x y. ((x.0 ⊗ pow Q d y.1) ⊕ (y.0 ⊗ pow Q d x.1), x.1 + y.1);
    ◌⊗◌ = λ x y. (x.0 ⊗ y.0, x.1 + y.1);
    neg = λ x. (neg x.0, x.1);
    𝟘 = (𝟘, 0);
    𝟙 = (𝟙, 0);
  }

  -- the fractions that equal some b over d^0
  abbrev pub InA : Frac → Type 0
  InA x = (b : carrier) × x.0 ≈ (b ⊗ pow Q d x.1)

  -- x^m + c_1 y x^(m-1) + .. + c_m y^m, the last coefficient first
  abbrev pub monic : List carrier → carrier → carrier → carrier
  monic [] x y = 𝟙
  monic (c ∷ cs) x y = (x ⊗ monic cs x y) ⊕ (c ⊗ pow Q y (suc (length cs)))

  -- a over d^k satisfies a monic equation
  abbrev pub IntegralAt : carrier → ℕ → Type 0
  IntegralAt a k = (cs : List carrier) × (0 < length cs) × monic cs a (pow Q d k) ≈ 𝟘

  -- a over d^k is integral, and for some m every product of m members of P takes a into the multiples of d^k
  abbrev pub LocalTo : (carrier → Type 0) → carrier → ℕ → Type 0
  LocalTo P a k = IntegralAt a k × ((m : ℕ) × Takes Q P m (MultipleOf k) a)

  -- one n serves for all powers of a over d^k: each equals some b over d^n
  abbrev pub Serves : carrier → ℕ → ℕ → Type 0
  Serves a k n = (j : ℕ) → (b : carrier) × Equal (pow Q a j) (k * j) b n

  -- the fractions that equal some b over d^k with b in L
  abbrev pub InModule : ℕ → (carrier → Type 0) → Frac → Type 0
  InModule k L x = (b : carrier) × L b × Equal x.0 x.1 b k

  -- a set of fractions is a ring
  pub record IsFractionRing (B : Frac → Type 0) : Type 0 where
    pub resp : (x y : Frac) → fraction_ops.◌≈◌ x y → B x → B y
    pub one : B fraction_ops.𝟙
    pub add : (x y : Frac) → B x → B y → B (fraction_ops.◌⊕◌ x y)
    pub mul : (x y : Frac) → B x → B y → B (fraction_ops.◌⊗◌ x y)
    pub neg : (x : Frac) → B x → B (fraction_ops.neg x)

  -- the members of a list, as fractions
  abbrev pub Whole : List carrier → Frac → Type 0
  Whole P x = (p : carrier) × Contains P p × fraction_ops.◌≈◌ x (p, 0)

  -- the members of B with a power in PB
  abbrev pub RadicalAt : List carrier → (Frac → Type 0) → Frac → Type 0
  RadicalAt P B x = B x × ((n : ℕ) × ProductOf fraction_ops (Whole P) B (pow fraction_ops x n))

  -- h takes the radical of B at P into itself
  abbrev pub KeepsRadical : List carrier → (Frac → Type 0) → Frac → Type 0
  KeepsRadical P B h = (x : Frac) → RadicalAt P B x → RadicalAt P B (fraction_ops.◌⊗◌ h x)

  -- B holds each fraction that takes its radical at P into itself
  abbrev pub IsFullAt : List carrier → (Frac → Type 0) → Type 0
  IsFullAt P B = (h : Frac) → KeepsRadical P B h → B h

  module _ (p : ℕ) (scalar : ℕ → carrier) where
    -- fractions over the numbers modulo p, equal where they differ by one of A
    abbrev pub fraction_space : ModuleOps ℕ
    fraction_space = modulo (module_through fraction_ops (λ c. (scalar c, 0))) InA

    -- some r fractions are local at P and independent modulo A
    abbrev pub LocalIndependent : List carrier → ℕ → Type 0
    LocalIndependent P r = (fs : List Frac) × length fs ≡ r × All (λ f. LocalTo (Contains P) f.0 f.1) fs × Independent (residue_ops p) fraction_space fs

    -- the greatest number of fractions that are local at P and independent modulo A
    abbrev pub Delta : List carrier → ℕ → Type 0
    Delta P r = LocalIndependent P r × ¬ (LocalIndependent P (suc r))
