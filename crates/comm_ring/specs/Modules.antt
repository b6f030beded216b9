-- Modules over a ring: combinations of members, spans, independence and dimension.
use Rattle.std.specs.Prelude.{◌≡◌, ◌<◌, ◌⊎◌, ℕ, List, [], ◌∷◌, length, All}
use Rattle.comm_ring.specs.Ring.{Ops}

-- the operations of a module, and the equality that they keep
pub record ModuleOps (scalar : Type 0) : Type 1 where
  pub carrier : Type 0
  pub ◌≋◌ : carrier → carrier → Type 0
  pub ◌⊞◌ : carrier → carrier → carrier
  pub opposite : carrier → carrier
  pub origin : carrier
  pub ◌·◌ : scalar → carrier → carrier
  infix 40 ◌≋◌
  infixl 60 ◌⊞◌
  infixr 65 ◌·◌

-- c_1 u_1 + .. + c_n u_n, for given operations
unfoldable pub combine : {S A : Type 0} → (A → A → A) → A → (S → A → A) → List S → List A → A
combine add origin scale [] us = origin
combine add origin scale (c ∷ cs) [] = origin
combine add origin scale (c ∷ cs) (u ∷ us) = add (scale c u) (combine add origin scale cs us)

module _ {S : Type 0} (V : ModuleOps S) where
  open V use {carrier, ◌≋◌, ◌⊞◌, opposite, origin, ◌·◌}

  infix 40 ◌≋◌
  infixl 60 ◌⊞◌
  infixr 65 ◌·◌
  -- c_1 u_1 + .. + c_n u_n
  abbrev pub combination : List S → List carrier → carrier
  combination cs us = combine ◌⊞◌ origin ◌·◌ cs us

  -- f is a combination of the members of us
  abbrev pub InSpan : List carrier → carrier → Type 0
  InSpan us f = (cs : List S) × length cs ≡ length us × f ≋ combination cs us

  -- every member of M is a combination of the members of us
  abbrev pub Spans : (carrier → Type 0) → List carrier → Type 0
  Spans M us = (f : carrier) → M f → InSpan us f

  -- some n members of M span M, and no fewer members of M do
  abbrev pub DimensionOf : (carrier → Type 0) → ℕ → Type 0
  DimensionOf M n = (us : List carrier) × length us ≡ n × All M us × Spans M us × ((vs : List carrier) → All M vs → length vs < n → Spans M vs → ⊥)

  -- some n members span everything, and no fewer do
  abbrev pub Dimension : ℕ → Type 0
  Dimension n = DimensionOf (λ f. Unit {0}) n

  -- M holds the origin, sums and multiples, and with a member all that equals it
  pub record IsSubmodule (M : carrier → Type 0) : Type 0 where
    pub resp : (x y : carrier) → x ≋ y → M x → M y
    pub none : M origin
    pub add : (x y : carrier) → M x → M y → M (x ⊞ y)
    pub scale : (c : S) (x : carrier) → M x → M (c · x)

  -- the same module, with members equal where their difference lies in M
  abbrev pub modulo : (carrier → Type 0) → ModuleOps S
  modulo M = record { carrier = carrier; ◌≋◌ = λ x y. M (x ⊞ opposite y); ◌⊞◌ = ◌⊞◌; opposite = opposite; origin = origin; ◌·◌ = ◌·◌ }

module _ (O : Ops) (V : ModuleOps O.carrier) where
  open V use {carrier, ◌≋◌, ◌⊞◌, opposite, origin, ◌·◌}

  infix 40 ◌≋◌
  infixl 60 ◌⊞◌
  infixr 65 ◌·◌
  -- a combination of the members of us is the origin only where every coefficient is 0
  abbrev pub Independent : List carrier → Type 0
  Independent us = (cs : List O.carrier) → length cs ≡ length us → combination V cs us ≋ origin → All (λ c. O.◌≈◌ c O.𝟘) cs

  -- some combination of the members of us is the origin, though not every coefficient is 0
  abbrev pub Dependent : List carrier → Type 0
  Dependent us = (cs : List O.carrier) × length cs ≡ length us × combination V cs us ≋ origin × ¬ (All (λ c. O.◌≈◌ c O.𝟘) cs)

  -- the members of us lie in M, span M, and are independent
  abbrev pub IsBasis : (carrier → Type 0) → List carrier → Type 0
  IsBasis M us = All M us × Spans V M us × Independent us

  -- the laws of a module over the ring's scalars
  pub record IsModule : Type 0 where
    pub rfl : (x : carrier) → x ≋ x
    pub symm : {x y : carrier} → x ≋ y → y ≋ x
    pub trans : {x y z : carrier} → x ≋ y → y ≋ z → x ≋ z
    pub add_cong : {x x' y y' : carrier} → x ≋ x' → y ≋ y' → (x ⊞ y) ≋ (x' ⊞ y')
    pub opposite_cong : {x x' : carrier} → x ≋ x' → opposite x ≋ opposite x'
    pub scale_cong : {c c' : O.carrier} {x x' : carrier} → O.◌≈◌ c c' → x ≋ x' → (c · x) ≋ (c' · x')
    pub add_assoc : (x y z : carrier) → ((x ⊞ y) ⊞ z) ≋ (x ⊞ (y ⊞ z))
    pub add_comm : (x y : carrier) → (x ⊞ y) ≋ (y ⊞ x)
    pub add_origin : (x : carrier) → (x ⊞ origin) ≋ x
    pub add_opposite : (x : carrier) → (x ⊞ opposite x) ≋ origin
    pub scale_sum : (c : O.carrier) (x y : carrier) → (c · (x ⊞ y)) ≋ ((c · x) ⊞ (c · y))
    pub sum_scale : (c e : O.carrier) (x : carrier) → ((O.◌⊕◌ c e) · x) ≋ ((c · x) ⊞ (e · x))
    pub product_scale : (c e : O.carrier) (x : carrier) → ((O.◌⊗◌ c e) · x) ≋ (c · (e · x))
    pub one_scale : (x : carrier) → (O.𝟙 · x) ≋ x

-- a ring as a module over itself
abbrev pub own_module : (O : Ops) → ModuleOps O.carrier
own_module O = record { carrier = O.carrier; ◌≋◌ = O.◌≈◌; ◌⊞◌ = O.◌⊕◌; opposite = O.neg; origin = O.𝟘; ◌·◌ = O.◌⊗◌ }

-- a ring as a module over scalars that stand for some of its members
abbrev pub module_through : {S : Type 0} (O : Ops) → (S → O.carrier) → ModuleOps S
module_through O member = record { carrier = O.carrier; ◌≋◌ = O.◌≈◌; ◌⊞◌ = O.◌⊕◌; opposite = O.neg; origin = O.𝟘; ◌·◌ = λ c x. O.◌⊗◌ (member c) x }

-- f keeps equality, sums and multiples, and members that it makes equal are equal
pub record IsEmbedding {S : Type 0} (V W : ModuleOps S) (f : V.carrier → W.carrier) : Type 0 where
  pub resp : (x y : V.carrier) → V.◌≋◌ x y → W.◌≋◌ (f x) (f y)
  pub add : (x y : V.carrier) → W.◌≋◌ (f (V.◌⊞◌ x y)) (W.◌⊞◌ (f x) (f y))
  pub scale : (c : S) (x : V.carrier) → W.◌≋◌ (f (V.◌·◌ c x)) (W.◌·◌ c (f x))
  pub injective : (x y : V.carrier) → W.◌≋◌ (f x) (f y) → V.◌≋◌ x y

-- every scalar is 0 or has an inverse, and 1 is not 0
pub record IsField (O : Ops) : Type 0 where
  pub proper : ¬ (O.◌≈◌ O.𝟙 O.𝟘)
  pub zero_or_inverse : (c : O.carrier) → (O.◌≈◌ c O.𝟘) ⊎ ((e : O.carrier) × (O.◌≈◌ (O.◌⊗◌ e c) O.𝟙))
