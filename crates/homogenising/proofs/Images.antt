-- Lists of terms whose monomials are all changed in one way.
use Rattle.std.proofs.Common.{◌≡◌, ℕ, ◌+◌, ◌*◌, ◌%◌, List, [], ◌∷◌, ◌++◌, map, refl, sym, ap, ◌∙◌}
use Rattle.monomials.specs.Mono.{Monomial, times, cmp_dp}
use Rattle.polys.specs.declared.term.Term.{Term}
use Rattle.polys.specs.Terms.{EachMono, IsCanonical, Under, normal, add, mul, scale, products}
use Rattle.polys.proofs.Weights.{weigh, weigh-normal, normal_ext}
use Rattle.polys.proofs.Sums.{add_normal_left, add_normal_right, mul_normal_left, mul_normal_right}

-- each monomial becomes its image
abbrev pub image : (Monomial → Monomial) → List Term → List Term
image φ f = map (λ t. record { coeff = t.coeff; mono = φ t.mono }) f

-- and equal images are summed
abbrev pub sent : ℕ → (Monomial → Monomial) → List Term → List Term
sent p φ f = normal p (image φ f)

pub weigh-image : (χ : Monomial → ℕ) (φ : Monomial → Monomial) (f : List Term) → weigh χ (image φ f) ≡ weigh (λ m. χ (φ m)) f
unfolding weigh
weigh-image χ φ [] = refl
weigh-image χ φ (t ∷ f) = λ i. t.coeff * χ (φ t.mono) + weigh-image χ φ f i

pub image-append : (φ : Monomial → Monomial) (f g : List Term) → image φ (f ++ g) ≡ image φ f ++ image φ g
image-append φ [] g = refl
image-append φ (t ∷ f) g = λ i. record { coeff = t.coeff; mono = φ t.mono } ∷ image-append φ f g i

pub every_image : (P Q : Monomial → Type 0) (φ : Monomial → Monomial) (f : List Term) → ((m : Monomial) → P m → Q (φ m)) → EachMono P f → EachMono Q (image φ f)
every_image P Q φ [] h k = tt
every_image P Q φ (t ∷ f) h k = (h t.mono k.0, every_image P Q φ f h k.1)

-- images that keep the order keep the list canonical
pub canonical_image : (p : ℕ) (P : Monomial → Type 0) (φ : Monomial → Monomial) (f : List Term)
    → ((a b : Monomial) → P a → P b → cmp_dp (φ a) (φ b) ≡ cmp_dp a b) → EachMono P f → IsCanonical p f → IsCanonical p (image φ f)
canonical_image p P φ [] h k c = tt
canonical_image p P φ (t ∷ f) h k c = (c.0, c.1, under f k.1 c.2, canonical_image p P φ f h k.1 c.3)
  where
    under : (g : List Term) → EachMono P g → Under t.mono g → Under (φ t.mono) (image φ g)
    under [] e u = tt
    under (v ∷ g) e u = h t.mono v.mono k.0 e.0 ∙ u

-- images that agree are one
pub same_image : (P : Monomial → Type 0) (φ ψ : Monomial → Monomial) (f : List Term) → ((m : Monomial) → P m → φ m ≡ ψ m) → EachMono P f → image φ f ≡ image ψ f
same_image P φ ψ [] h k = refl
same_image P φ ψ (t ∷ f) h k = let e = h t.mono k.0 in λ i. record { coeff = t.coeff; mono = e i } ∷ same_image P φ ψ f h k.1 i

pub image_image : (φ ψ : Monomial → Monomial) (f : List Term) → image φ (image ψ f) ≡ image (λ m. φ (ψ m)) f
image_image φ ψ [] = refl
image_image φ ψ (t ∷ f) = λ i. record { coeff = t.coeff; mono = φ (ψ t.mono) } ∷ image_image φ ψ f i

pub image_self : (P : Monomial → Type 0) (φ : Monomial → Monomial) (f : List Term) → ((m : Monomial) → P m → φ m ≡ m) → EachMono P f → image φ f ≡ f
image_self P φ [] h k = refl
image_self P φ (t ∷ f) h k = let e = h t.mono k.0 in λ i. record { coeff = t.coeff; mono = e i } ∷ image_self P φ f h k.1 i

-- the sum of the images does not see how a sum was formed
pub sent-normal : (p : ℕ) (φ : Monomial → Monomial) (f : List Term) → sent p φ (normal p f) ≡ sent p φ f
sent-normal p φ f =
    normal_ext p (image φ (normal p f)) (image φ f)
    (λ χ. ap (λ (n : ℕ). n % p) (weigh-image χ φ (normal p f)) ∙ weigh-normal p (λ m. χ (φ m)) f ∙ ap (λ (n : ℕ). n % p) (sym (weigh-image χ φ f)))

pub sent-add : (p : ℕ) (φ : Monomial → Monomial) (f g : List Term) → sent p φ (add p f g) ≡ add p (sent p φ f) (sent p φ g)
sent-add p φ f g = sent-normal p φ (f ++ g) ∙ ap (normal p) (image-append φ f g) ∙ sym (sums (image φ f) (image φ g))
  where
    sums : (f g : List Term) → add p (normal p f) (normal p g) ≡ add p f g
    sums f g = add_normal_left p f (normal p g) ∙ add_normal_right p f g

module _ (P Q : Monomial → Type 0) (φ ψ θ : Monomial → Monomial) (h : (a b : Monomial) → P a → Q b → θ (times a b) ≡ times (φ a) (ψ b)) where
  image-scale : (t : Term) (g : List Term) → P t.mono → EachMono Q g → image θ (scale t g) ≡ scale (record { coeff = t.coeff; mono = φ t.mono }) (image ψ g)
  image-scale t [] a k = refl
  image-scale t (u ∷ g) a k = let e = h t.mono u.mono a k.0 in λ i. record { coeff = t.coeff * u.coeff; mono = e i } ∷ image-scale t g a k.1 i

  image-products : (f g : List Term) → EachMono P f → EachMono Q g → image θ (products f g) ≡ products (image φ f) (image ψ g)
  image-products [] g a k = refl
  image-products (t ∷ f) g a k = image-append θ (scale t g) (products f g) ∙ (λ i. image-scale t g a.0 k i ++ image-products f g a.1 k i)

  -- a map that keeps products keeps those of polynomials
  pub sent-mul : (p : ℕ) (f g : List Term) → EachMono P f → EachMono Q g → sent p θ (mul p f g) ≡ mul p (sent p φ f) (sent p ψ g)
  sent-mul p f g a k =
      sent-normal p θ (products f g) ∙ ap (normal p) (image-products f g a k) ∙ sym (mul_normal_left p (image φ f) (sent p ψ g) ∙ mul_normal_right p (image φ f) (image ψ g))
