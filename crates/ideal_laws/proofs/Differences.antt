-- Differences of polynomials, and of vectors of them.
use Rattle.std.proofs.Common.{◌≡◌, ℕ, ◌-◌, ◌<◌, List, [], ◌∷◌, ◌++◌, refl, sym, ap, ◌∙◌, append-nil}
use Rattle.polys.specs.declared.term.Term.{Term}
use Rattle.polys.specs.Terms.{IsCanonical, normal, add, sub, scaled, multiple, products, mul}
use Rattle.polys.proofs.Sums.{normal_normal, add_comm, add_assoc, add_normal_left, add_normal_right, add-mul, mul_normal_left}
use Rattle.polys.proofs.Units.{sub_self, add_none, canonical_same}
use Rattle.ideal_laws.proofs.Multiples.{multiple-add, multiple-normal}

-- ---- x - y is z if and only if x is y + z

pub from_sub : (p : ℕ) (x y z : List Term) → 0 < p → sub p x y ≡ z → normal p x ≡ add p y z
from_sub p x y z h e =
    sym (ap (add p y) (sym e)
    ∙ sym (add_assoc p y x (multiple p (p - 1) y))
    ∙ ap (λ w. add p w (multiple p (p - 1) y)) (add_comm p y x)
    ∙ add_assoc p x y (multiple p (p - 1) y)
    ∙ ap (add p x) (sub_self p y h)
    ∙ ap (normal p) (append-nil x))

pub to_sub : (p : ℕ) (x y z : List Term) → 0 < p → normal p x ≡ add p y z → sub p x y ≡ normal p z
to_sub p x y z h e =
    sym (add_normal_left p x (multiple p (p - 1) y))
    ∙ ap (λ w. add p w (multiple p (p - 1) y)) (e ∙ add_comm p y z)
    ∙ add_assoc p z y (multiple p (p - 1) y)
    ∙ ap (add p z) (sub_self p y h)
    ∙ ap (normal p) (append-nil z)

pub sub_none : (p : ℕ) (f : List Term) → 0 < p → sub p f [] ≡ normal p f
sub_none p f h = to_sub p f [] f h refl

-- what is taken away and added again
pub sub_add : (p : ℕ) (f g : List Term) → 0 < p → IsCanonical p f → add p (sub p f g) g ≡ f
sub_add p f g h c = add_comm p (sub p f g) g ∙ sym (from_sub p f g (sub p f g) h refl) ∙ canonical_same p f c

-- what is added and taken away again
pub add_sub : (p : ℕ) (f g : List Term) → 0 < p → IsCanonical p f → sub p (add p f g) g ≡ f
add_sub p f g h c = add_assoc p f g (multiple p (p - 1) g) ∙ ap (add p f) (sub_self p g h) ∙ add_none p f c

-- taking away a difference gives the other part
pub less_difference : (p : ℕ) (x y : List Term) → 0 < p → IsCanonical p x → IsCanonical p y → sub p x (sub p x y) ≡ y
less_difference p x y h cx cy =
    to_sub p x (sub p x y) y h (from_sub p x y (sub p x y) h refl ∙ add_comm p y (sub p x y)) ∙ canonical_same p y cy

-- ---- chains of differences

pub sub_chain : (p : ℕ) (x y w z z' : List Term) → 0 < p → sub p x y ≡ z → sub p y w ≡ z' → sub p x w ≡ add p z' z
sub_chain p x y w z z' h e k =
    to_sub p x w (add p z' z) h
    (from_sub p x y z h e
    ∙ sym (add_normal_left p y z)
    ∙ ap (λ v. add p v z) (from_sub p y w z' h k)
    ∙ add_assoc p w z' z)
    ∙ normal_normal p (z' ++ z)

pub sub_swap : (p : ℕ) (x y z : List Term) → 0 < p → sub p x y ≡ z → sub p y x ≡ multiple p (p - 1) z
sub_swap p x y z h e =
    to_sub p y x (multiple p (p - 1) z) h
    (sym (sym (add_normal_left p x (multiple p (p - 1) z))
    ∙ ap (λ v. add p v (multiple p (p - 1) z)) (from_sub p x y z h e)
    ∙ add_assoc p y z (multiple p (p - 1) z)
    ∙ ap (add p y) (sub_self p z h)
    ∙ ap (normal p) (append-nil y)))
    ∙ normal_normal p (scaled (p - 1) z)

-- a term that both have drops out
pub sub_cons : (p : ℕ) (t : Term) (x y : List Term) → 0 < p → sub p (t ∷ x) (t ∷ y) ≡ sub p x y
sub_cons p t x y h =
    to_sub p (t ∷ x) (t ∷ y) (sub p x y) h
    (sym (add_normal_right p (t ∷ []) x)
    ∙ ap (add p (t ∷ [])) (from_sub p x y (sub p x y) h refl)
    ∙ sym (add_assoc p (t ∷ []) y (sub p x y))
    ∙ add_normal_left p (t ∷ y) (sub p x y))
    ∙ normal_normal p (x ++ multiple p (p - 1) y)

-- a difference times a number
pub sub_times : (p c : ℕ) (x y z : List Term) → 0 < p → sub p x y ≡ z → multiple p c x ≡ add p (multiple p c y) (multiple p c z)
sub_times p c x y z h e = sym (multiple-normal p c x) ∙ ap (multiple p c) (from_sub p x y z h e) ∙ multiple-add p c y z

-- a difference of products with a term
pub sub_by : (p : ℕ) (x y z : List Term) (u : Term) → 0 < p → sub p x y ≡ z → sub p (mul p x (u ∷ [])) (mul p y (u ∷ [])) ≡ mul p z (u ∷ [])
sub_by p x y z u h e =
    to_sub p (mul p x (u ∷ [])) (mul p y (u ∷ [])) (mul p z (u ∷ [])) h
    (normal_normal p (products x (u ∷ []))
    ∙ sym (mul_normal_left p x (u ∷ []))
    ∙ ap (λ v. mul p v (u ∷ [])) (from_sub p x y z h e)
    ∙ add-mul p y z (u ∷ []))
    ∙ normal_normal p (products z (u ∷ []))
