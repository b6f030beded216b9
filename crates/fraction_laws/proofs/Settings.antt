-- Fractions in the abstract: a ring, a subring A, a denominator d, and what is integral and local over A.
use Rattle.std.specs.Prelude.{◌≡◌, ℕ, suc, ◌<◌, List, [], ◌∷◌, length}
use Rattle.comm_ring.specs.Ring.{Ops, CommRing, pow}
use Rattle.comm_ring.specs.Ideals.{Into, ProductOf}

module _ (R : Ops) where
  open R use {carrier, ◌≈◌, ◌⊕◌, ◌⊗◌, neg, 𝟘, 𝟙}

  infix 40 ◌≈◌
  infixl 60 ◌⊕◌
  infixl 70 ◌⊗◌
  -- the monic polynomial with these lower coefficients, the constant one first
  abbrev pub mon : List carrier → carrier → carrier
  mon [] x = 𝟙
  mon (c ∷ cs) x = (x ⊗ mon cs x) ⊕ c

  abbrev pub Each : (carrier → Type 0) → List carrier → Type 0
  Each P [] = Unit {0}
  Each P (x ∷ l) = P x × Each P l

  -- a sum of multiples of the members of a list by residues
  abbrev pub comb_of : (ℕ → carrier) → List ℕ → List carrier → carrier
  comb_of scal [] fs = 𝟘
  comb_of scal (c ∷ cs) [] = 𝟘
  comb_of scal (c ∷ cs) (f ∷ fs) = (scal c ⊗ f) ⊕ comb_of scal cs fs

  abbrev pub prod : List carrier → carrier
  prod [] = 𝟙
  prod (x ∷ l) = x ⊗ prod l

  -- M holds 0, sums, and multiples by members of B
  pub record IsModule (B M : carrier → Type 0) : Type 0 where
    pub resp : (x y : carrier) → x ≈ y → M x → M y
    pub none : M 𝟘
    pub add : (x y : carrier) → M x → M y → M (x ⊕ y)
    pub mul : (b x : carrier) → B b → M x → M (b ⊗ x)

  pub record IsRing (B : carrier → Type 0) : Type 0 where
    pub resp : (x y : carrier) → x ≈ y → B x → B y
    pub one : B 𝟙
    pub add : (x y : carrier) → B x → B y → B (x ⊕ y)
    pub mul : (x y : carrier) → B x → B y → B (x ⊗ y)
    pub neg : (x : carrier) → B x → B (neg x)

-- fractions without their laws: the operations, the subring A, and a denominator d
pub record Ground : Type 1 where
  pub ops : Ops
  pub A : ops.carrier → Type 0
  pub d : ops.carrier

-- fractions: a ring, its subring A, and a denominator d
pub record Setting : Type 1 where
  pub ring : CommRing
  pub A : ring.carrier → Type 0
  pub A_ring : IsRing ring.ops A
  pub d : ring.carrier
  pub A_d : A d
  pub cancel : (x : ring.carrier) → ring.◌≈◌ (ring.◌⊗◌ d x) ring.𝟘 → ring.◌≈◌ x ring.𝟘
  pub denom : (f : ring.carrier) → (k : ℕ) × A (ring.◌⊗◌ (pow ring.ops d k) f)

abbrev pub gr : Setting → Ground
gr K = record { ops = K.ring.ops; A = K.A; d = K.d }

-- A is finite modulo d: members with one digit differ by a multiple of d
pub record Digits (K : Ground) : Type 0 where
  pub size : ℕ
  pub digit : (x : K.ops.carrier) → K.A x → (i : ℕ) × (q : K.ops.carrier) × (i < size) × K.A q
  pub digit_same : (x y : K.ops.carrier) (a : K.A x) (b : K.A y) → (digit x a).0 ≡ (digit y b).0
      → K.ops.◌≈◌ (K.ops.◌⊕◌ x (K.ops.◌⊗◌ K.d (digit y b).1)) (K.ops.◌⊕◌ y (K.ops.◌⊗◌ K.d (digit x a).1))

module _ (K : Ground) where
  open K use {ops, A, d, ops.{carrier, ◌≈◌, ◌⊕◌, ◌⊗◌, neg, 𝟘, 𝟙}}

  infix 40 ◌≈◌
  infixl 60 ◌⊕◌
  infixl 70 ◌⊗◌
  abbrev pub Integral : carrier → Type 0
  Integral f = (cs : List carrier) × (0 < length cs) × Each ops A cs × (mon ops cs f ≈ 𝟘)

  -- one power of d serves for all powers of f
  abbrev pub Bounded : carrier → ℕ → Type 0
  Bounded f k = (j : ℕ) → A (pow ops d k ⊗ pow ops f j)

  abbrev pub Local : (carrier → Type 0) → carrier → Type 0
  Local P f = Integral f × ((m : ℕ) × Into ops P m A f)

  -- the members of B with a power in PB
  abbrev pub Radical : (P B : carrier → Type 0) → carrier → Type 0
  Radical P B x = B x × ((n : ℕ) × ProductOf ops P B (pow ops x n))

  -- a ring of fractions that holds A and lies within A over a power of d
  pub record IsOver (B : carrier → Type 0) : Type 0 where
    pub is_ring : IsRing ops B
    pub holds : (x : carrier) → A x → B x
    pub power : ℕ
    pub within : (x : carrier) → B x → A (pow ops d power ⊗ x)

  -- it holds each h that takes its radical at P into itself
  abbrev pub IsFull : (P B : carrier → Type 0) → Type 0
  IsFull P B = (h : carrier) → ((x : carrier) → Radical P B x → Radical P B (h ⊗ x)) → B h

abbrev pub EachN : (ℕ → Type 0) → List ℕ → Type 0
EachN P [] = Unit {0}
EachN P (x ∷ l) = P x × EachN P l

-- residues as members of A, and a test for A
pub record Residues (K : Ground) : Type 0 where
  pub p : ℕ
  pub scal : ℕ → K.ops.carrier
  pub scal_in : (c : ℕ) → K.A (scal c)
  pub scal_zero : K.ops.◌≈◌ (scal 0) K.ops.𝟘
  pub inverse : (c : ℕ) → 0 < c → c < p → (e : ℕ) × K.ops.◌≈◌ (K.ops.◌⊗◌ (scal e) (scal c)) K.ops.𝟙
  pub decide : (f : K.ops.carrier) → Dec (K.A f)

module _ (K : Ground) (p : ℕ) (scal : ℕ → K.ops.carrier) where
  open K use {ops, A, d, ops.{carrier, ◌≈◌, ◌⊕◌, ◌⊗◌, neg, 𝟘, 𝟙}}

  infix 40 ◌≈◌
  infixl 60 ◌⊕◌
  infixl 70 ◌⊗◌
  abbrev pub lin : List ℕ → List carrier → carrier
  lin cs fs = comb_of ops scal cs fs

  -- independent modulo A
  abbrev pub Independent : List carrier → Type 0
  Independent fs = (cs : List ℕ) → length cs ≡ length fs → EachN (λ c. c < p) cs → A (lin cs fs) → EachN (λ c. c ≡ 0) cs

  abbrev pub Beyond : (P : carrier → Type 0) → ℕ → Type 0
  Beyond P r = (fs : List carrier) × (length fs ≡ r) × Each ops (Local K P) fs × Independent fs

  -- delta(P) = r
  abbrev pub Delta : (P : carrier → Type 0) → ℕ → Type 0
  Delta P r = Beyond P r × ¬ (Beyond P (suc r))

-- Several points, each given by its generators.
module _ (K : Ground) (T : Type 0) (gens : T → K.ops.carrier → Type 0) where
  open K use {ops, A, d, ops.{carrier, ◌≈◌, ◌⊕◌, ◌⊗◌, neg, 𝟘, 𝟙}}

  infix 40 ◌≈◌
  infixl 60 ◌⊕◌
  infixl 70 ◌⊗◌
  -- every product that has m members of each point takes f into M
  abbrev pub IntoAll : List T → ℕ → (carrier → Type 0) → carrier → Type 0
  IntoAll [] m M f = M f
  IntoAll (t ∷ s) m M f = Into ops (gens t) m (IntoAll s m M) f

  abbrev pub LocalAt : List T → carrier → Type 0
  LocalAt s f = Integral K f × ((m : ℕ) × IntoAll s m A f)

  -- two points that together generate 1
  abbrev pub Apart : T → T → Type 0
  Apart t u = (x : carrier) × (y : carrier) × ProductOf ops (gens t) A x × ProductOf ops (gens u) A y × (x ⊕ y) ≈ 𝟙

  abbrev pub ApartFrom : T → List T → Type 0
  ApartFrom t [] = Unit {0}
  ApartFrom t (u ∷ s) = Apart t u × ApartFrom t s

  abbrev pub AllApart : List T → Type 0
  AllApart [] = Unit {0}
  AllApart (t ∷ s) = ApartFrom t s × AllApart s

  -- one fraction for each point, local there
  abbrev pub Parts : List T → List carrier → Type 0
  Parts [] [] = Unit {0}
  Parts [] (f ∷ fs) = ⊥
  Parts (t ∷ s) [] = ⊥
  Parts (t ∷ s) (f ∷ fs) = Local K (gens t) f × Parts s fs

  abbrev pub total : List carrier → carrier
  total [] = 𝟘
  total (f ∷ fs) = f ⊕ total fs

  abbrev pub Members : List T → Type 0
  Members [] = Unit {0}
  Members (t ∷ s) = ((x : carrier) → gens t x → A x) × Members s

  -- some products with equally many members of each point are multiples of d
  abbrev pub Multiple : carrier → Type 0
  Multiple x = (c : carrier) × A c × x ≈ d ⊗ c

  abbrev pub AllPoints : List T → Type 0
  AllPoints s = (m : ℕ) × IntoAll s m Multiple 𝟙
