-- Values joined over a list, in a commutative monoid.
use Rattle.std.proofs.Common.{ℕ, zero, suc, ◌<◌, Bool, true, false, not, cond, List, [], ◌∷◌, ◌++◌, map, length, get_or, set, All, filter, flat_map, IsPermutation, subst, arith}
use Rattle.std.proofs.lemmas.List.Elements.{All-head, All-tail}
use Rattle.std.proofs.lemmas.List.Sorted.{IsPermutation-keeps}
use Rattle.std.proofs.SliceLists.{swap_is, hd}
use Rattle.comm_ring.specs.Ring.{CommRing}
use Rattle.comm_ring.specs.Sums.{joined}
use Rattle.comm_ring.proofs.Derived.{zero_add, one_mul}

-- a commutative monoid up to an equivalence
pub record CommMonoid : Type 1 where
  pub carrier : Type 0
  pub ◌≈◌ : carrier → carrier → Type 0
  pub unit : carrier
  pub ◌·◌ : carrier → carrier → carrier
  infix 40 ◌≈◌
  infixl 65 ◌·◌
  pub rfl : (a : carrier) → a ≈ a
  pub symm : {a b : carrier} → a ≈ b → b ≈ a
  pub trans : {a b c : carrier} → a ≈ b → b ≈ c → a ≈ c
  pub cong : {a a' b b' : carrier} → a ≈ a' → b ≈ b' → a · b ≈ a' · b'
  pub assoc : (a b c : carrier) → (a · b) · c ≈ a · (b · c)
  pub comm : (a b : carrier) → a · b ≈ b · a
  pub unit_op : (a : carrier) → unit · a ≈ a

-- a ring by its sums, and by its products
abbrev pub additive : CommRing → CommMonoid
additive R = record {
  carrier = R.carrier;
  ◌≈◌ = R.◌≈◌;
  unit = R.𝟘;
  ◌·◌ = R.◌⊕◌;
  rfl = R.rfl;
  symm = λ {a} {b} e. R.symm e;
  trans = λ {a} {b} {c} e f. R.trans e f;
  cong = λ {a} {a'} {b} {b'} e f. R.add_cong e f;
  assoc = R.add_assoc;
  comm = R.add_comm;
  unit_op = zero_add R;
}

abbrev pub multiplicative : CommRing → CommMonoid
multiplicative R = record {
  carrier = R.carrier;
  ◌≈◌ = R.◌≈◌;
  unit = R.𝟙;
  ◌·◌ = R.◌⊗◌;
  rfl = R.rfl;
  symm = λ {a} {b} e. R.symm e;
  trans = λ {a} {b} {c} e f. R.trans e f;
  cong = λ {a} {a'} {b} {b'} e f. R.mul_cong e f;
  assoc = R.mul_assoc;
  comm = R.mul_comm;
  unit_op = one_mul R;
}

module _ (M : CommMonoid) where
  open M use {carrier, ◌≈◌, unit, ◌·◌, rfl, symm, trans, cong, assoc, comm, unit_op}

  infix 40 ◌≈◌
  infixl 65 ◌·◌
  infixr 30 ◌⨾◌
  ◌⨾◌ : {a b c : carrier} → a ≈ b → b ≈ c → a ≈ c
  ◌⨾◌ e f = trans e f

  left_comm : (a b c : carrier) → a · (b · c) ≈ b · (a · c)
  left_comm a b c = symm (assoc a b c) ⨾ cong (comm a b) (rfl c) ⨾ assoc b a c

  exchange : (a b c d : carrier) → (a · b) · (c · d) ≈ (a · c) · (b · d)
  exchange a b c d = assoc a b (c · d) ⨾ cong (rfl a) (left_comm b c d) ⨾ symm (assoc a c (b · d))

  flip_ends : (a b c : carrier) → (a · b) · c ≈ (c · b) · a
  flip_ends a b c = comm (a · b) c ⨾ cong (rfl c) (comm a b) ⨾ symm (assoc c b a)

  -- the values of f over a list, joined
  abbrev pub big : {X : Type 0} → (X → carrier) → List X → carrier
  big f xs = joined ◌·◌ unit f xs

  module _ {X : Type 0} where
    -- over two lists together, of two functions, of the unit
    pub big-append : (f : X → carrier) (xs ys : List X) → big f (xs ++ ys) ≈ big f xs · big f ys
    unfolding joined
    big-append f [] ys = symm (unit_op (big f ys))
    big-append f (x ∷ xs) ys = cong (rfl (f x)) (big-append f xs ys) ⨾ symm (assoc (f x) (big f xs) (big f ys))

    pub big-op : (f g : X → carrier) (xs : List X) → big (λ x. f x · g x) xs ≈ big f xs · big g xs
    unfolding joined
    big-op f g [] = symm (unit_op unit)
    big-op f g (x ∷ xs) = cong (rfl (f x · g x)) (big-op f g xs) ⨾ exchange (f x) (g x) (big f xs) (big g xs)

    pub big-unit : (xs : List X) → big (λ x. unit) xs ≈ unit
    unfolding joined
    big-unit [] = rfl unit
    big-unit (x ∷ xs) = unit_op (big (λ x. unit) xs) ⨾ big-unit xs

    -- equivalent values, at each member or everywhere
    pub big_ext : (f g : X → carrier) (xs : List X) → All (λ x. f x ≈ g x) xs → big f xs ≈ big g xs
    unfolding joined
    big_ext f g [] h = rfl unit
    big_ext f g (x ∷ xs) h = cong (All-head (λ y. f y ≈ g y) x xs h) (big_ext f g xs (All-tail (λ y. f y ≈ g y) x xs h))

    pub big_same : (f g : X → carrier) (xs : List X) → ((x : X) → f x ≈ g x) → big f xs ≈ big g xs
    unfolding joined
    big_same f g [] h = rfl unit
    big_same f g (x ∷ xs) h = cong (h x) (big_same f g xs h)

    -- what passes a test and what does not, apart
    pub big-filter : (p : X → Bool) (f : X → carrier) (xs : List X) → big f xs ≈ big f (filter p xs) · big f (filter (λ x. not (p x)) xs)
    unfolding joined
    big-filter p f [] = symm (unit_op unit)
    big-filter p f (x ∷ xs) = by (p x) (big-filter p f xs)
      where
        by : (b : Bool) → big f xs ≈ big f (filter p xs) · big f (filter (λ y. not (p y)) xs) →
            f x · big f xs ≈ big f (cond b (x ∷ filter p xs) (filter p xs)) · big f (cond (not b) (x ∷ filter (λ y. not (p y)) xs) (filter (λ y. not (p y)) xs))
        by true h = cong (rfl (f x)) h ⨾ symm (assoc (f x) (big f (filter p xs)) (big f (filter (λ y. not (p y)) xs)))
        by false h = cong (rfl (f x)) h ⨾ left_comm (f x) (big f (filter p xs)) (big f (filter (λ y. not (p y)) xs))

    big-set : (f : X → carrier) (l : List X) (i : ℕ) (v d : X) → i < length l → big f (set l i v) · f (get_or l i d) ≈ big f l · f v
    unfolding joined
    big-set f [] i v d h = elim (absurd {A = ⊥} (omega arith)) [ ]
    big-set f (x ∷ l) zero v d h = flip_ends (f v) (big f l) (f x)
    big-set f (x ∷ l) (suc i) v d h = assoc (f x) (big f (set l i v)) (f (get_or l i d)) ⨾ cong (rfl (f x)) (big-set f l i v d (omega arith)) ⨾ symm (assoc (f x) (big f l) (f v))

    big-exchange : (f : X → carrier) (l : List X) (i j : ℕ) (d : X) → i < length l → j < length l → big f (set (set l i (get_or l j d)) j (get_or l i d)) ≈ big f l
    unfolding joined
    big-exchange f [] i j d p q = elim (absurd {A = ⊥} (omega arith)) [ ]
    big-exchange f (x ∷ l) zero zero d p q = rfl _
    big-exchange f (x ∷ l) zero (suc j) d p q = comm (f (get_or l j d)) (big f (set l j x)) ⨾ big-set f l j x d (omega arith) ⨾ comm (big f l) (f x)
    big-exchange f (x ∷ l) (suc i) zero d p q = comm (f (get_or l i d)) (big f (set l i x)) ⨾ big-set f l i x d (omega arith) ⨾ comm (big f l) (f x)
    big-exchange f (x ∷ l) (suc i) (suc j) d p q = cong (rfl (f x)) (big-exchange f l i j d (omega arith) (omega arith))

    -- the order of the list makes no difference
    pub big-IsPermutation : (f : X → carrier) (xs ys : List X) → IsPermutation xs ys → big f ys ≈ big f xs
    big-IsPermutation f xs ys = IsPermutation-keeps xs (λ l. big f l ≈ big f xs) (rfl _)
        (λ l i j p q h. trans (subst (λ k. big f k ≈ big f (set (set l i (get_or l j (hd l (omega arith)))) j (get_or l i (hd l (omega arith))))) (swap_is l i j (hd l (omega arith)) p q) (rfl _)) (big-exchange f l i j (hd l (omega arith)) p q ⨾ h)) ys

  -- over lists end to end, and over a mapped list
  pub big-flat_map : {X Y : Type 0} (f : Y → carrier) (g : X → List Y) (xs : List X) → big f (flat_map g xs) ≈ big (λ x. big f (g x)) xs
  unfolding joined
  big-flat_map f g [] = rfl unit
  big-flat_map f g (x ∷ xs) = big-append f (g x) (flat_map g xs) ⨾ cong (rfl (big f (g x))) (big-flat_map f g xs)

  pub big-map : {X Y : Type 0} (f : Y → carrier) (g : X → Y) (xs : List X) → big f (map g xs) ≈ big (λ x. f (g x)) xs
  unfolding joined
  big-map f g [] = rfl unit
  big-map f g (x ∷ xs) = cong (rfl (f (g x))) (big-map f g xs)

  -- a double list in either order
  pub big-swap : {X Y : Type 0} (f : X → Y → carrier) (xs : List X) (ys : List Y) → big (λ x. big (f x) ys) xs ≈ big (λ y. big (λ x. f x y) xs) ys
  unfolding joined
  big-swap f [] ys = symm (big-unit ys)
  big-swap f (x ∷ xs) ys = cong (rfl (big (f x) ys)) (big-swap f xs ys) ⨾ symm (big-op (f x) (λ y. big (λ x. f x y) xs) ys)
