-- Parts and images of multiples by numbers.
use Rattle.std.proofs.Common.{◌≡◌, ℕ, ◌-◌, ◌*◌, ◌%◌, ◌<◌, List, [], ◌∷◌, cond, Bool, true, false, ◌==◌, refl, sym, ap, ◌∙◌}
use Rattle.std.proofs.lemmas.Nat.{mul-mod_second}
use Rattle.monomials.specs.Mono.{Monomial}
use Rattle.polys.specs.declared.term.Term.{Term}
use Rattle.polys.specs.Terms.{EachMono, normal, scaled, add, sub, multiple}
use Rattle.polys.proofs.Each.{every_scaled, every_multiple}
use Rattle.polys.proofs.Units.{weigh-scaled}
use Rattle.polys.proofs.Weights.{weigh, weigh-normal, normal_ext}
use Rattle.homogenising.proofs.Images.{image, sent, sent-normal}
use Rattle.denominator_module.specs.Module.{first, second}
use Rattle.denominator_module.proofs.Components.{IsFirstOrSecond, first-normal, first-add, second-normal, second-add}

first-scaled : (c : ℕ) (f : List Term) → first (scaled c f) ≡ scaled c (first f)
first-scaled c [] = refl
first-scaled c (t ∷ f) = go (t.mono.component == 0) (first-scaled c f)
  where
    go : (b : Bool) → first (scaled c f) ≡ scaled c (first f)
        → cond b (record { coeff = c * t.coeff; mono = t.mono } ∷ first (scaled c f)) (first (scaled c f)) ≡ scaled c (cond b (t ∷ first f) (first f))
    go true ih = λ i. record { coeff = c * t.coeff; mono = t.mono } ∷ ih i
    go false ih = ih

pub first-multiple : (p c : ℕ) (f : List Term) → 0 < p → first (multiple p c f) ≡ multiple p c (first f)
first-multiple p c f h = first-normal p (scaled c f) h ∙ ap (normal p) (first-scaled c f)

pub first-sub : (p : ℕ) (f g : List Term) → 0 < p → first (sub p f g) ≡ sub p (first f) (first g)
first-sub p f g h = first-add p f (multiple p (p - 1) g) h ∙ ap (add p (first f)) (first-multiple p (p - 1) g h)

second-scaled : (c : ℕ) (f : List Term) → second (scaled c f) ≡ scaled c (second f)
second-scaled c [] = refl
second-scaled c (t ∷ f) = go (t.mono.component == 0) (second-scaled c f)
  where
    low : Monomial
    low = record { exponents = t.mono.exponents; component = 0 }

    go : (b : Bool) → second (scaled c f) ≡ scaled c (second f)
        → cond b (second (scaled c f)) (record { coeff = c * t.coeff; mono = low } ∷ second (scaled c f))
        ≡ scaled c (cond b (second f) (record { coeff = t.coeff; mono = low } ∷ second f))
    go true ih = ih
    go false ih = λ i. record { coeff = c * t.coeff; mono = low } ∷ ih i

pub second-multiple : (p c : ℕ) (f : List Term) → 0 < p → EachMono IsFirstOrSecond f → second (multiple p c f) ≡ multiple p c (second f)
second-multiple p c f h l = second-normal p (scaled c f) h (every_scaled IsFirstOrSecond c f l) ∙ ap (normal p) (second-scaled c f)

pub second-sub : (p : ℕ) (f g : List Term) → 0 < p → EachMono IsFirstOrSecond f → EachMono IsFirstOrSecond g → second (sub p f g) ≡ sub p (second f) (second g)
second-sub p f g h k l =
    second-add p f (multiple p (p - 1) g) h k (every_multiple IsFirstOrSecond p (p - 1) g l) ∙ ap (add p (second f)) (second-multiple p (p - 1) g h l)

image-scaled : (φ : Monomial → Monomial) (c : ℕ) (f : List Term) → image φ (scaled c f) ≡ scaled c (image φ f)
image-scaled φ c [] = refl
image-scaled φ c (t ∷ f) = λ i. record { coeff = c * t.coeff; mono = φ t.mono } ∷ image-scaled φ c f i

scaled-normal : (p c : ℕ) (f : List Term) → normal p (scaled c (normal p f)) ≡ normal p (scaled c f)
scaled-normal p c f =
    normal_ext p (scaled c (normal p f)) (scaled c f)
    (λ χ. ap (λ (n : ℕ). n % p) (weigh-scaled χ c (normal p f)) ∙ times_mod p c (weigh χ (normal p f)) (weigh χ f) (weigh-normal p χ f) ∙ ap (λ (n : ℕ). n % p) (sym (weigh-scaled χ c f)))
  where
    times_mod : (p c x y : ℕ) → x % p ≡ y % p → (c * x) % p ≡ (c * y) % p
    times_mod p c x y e = sym (mul-mod_second c x p) ∙ (λ i. (c * e i) % p) ∙ mul-mod_second c y p

pub sent-multiple : (p c : ℕ) (φ : Monomial → Monomial) (f : List Term) → sent p φ (multiple p c f) ≡ multiple p c (sent p φ f)
sent-multiple p c φ f = sent-normal p φ (scaled c f) ∙ ap (normal p) (image-scaled φ c f) ∙ sym (scaled-normal p c (image φ f))
