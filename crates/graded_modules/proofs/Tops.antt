-- The lead of a vector's product with one term, and all that lies below it.
use Rattle.std.proofs.Common.{◌≡◌, ℕ, ◌<◌, List, [], ◌∷◌, ◌++◌, cond, Bool, true, false, ◌==◌, map, refl, sym, ap, ◌∙◌, arith, eqb-true}
use native.Mathlib.Nat.{mod-eq_of_lt}
use Rattle.std.specs.declared.cmp.Ordering.TheVariants.{Less, Greater}
use Rattle.monomials.specs.Mono.{Monomial, times, cmp_dp}
use Rattle.monomials.proofs.Order.{cmp_dp-times, turn_down, turn_up}
use Rattle.prime_field.specs.Primes.{IsPrime}
use Rattle.polys.specs.declared.term.Term.{Term}
use Rattle.polys.specs.Terms.{IsCanonical, EachMono, Under, keep, normal, add, mul}
use Rattle.polys.proofs.Weights.{canon}
use Rattle.polys.proofs.Each.{every_more, every_append, every_normal, every_under}
use Rattle.polys.proofs.Leads.{Seven, every_low, put_above}
use Rattle.polys.proofs.Products.{times_term, product_by_term}

abbrev pub Lower : Monomial → Monomial → Type 0
Lower m w = cmp_dp w m ≡ Less

pub tail_below : (p : ℕ) (u : Term) (f : List Term) → IsCanonical p (u ∷ f) → EachMono (Lower u.mono) f
tail_below p u f c = every_more (λ w. cmp_dp u.mono w ≡ Greater) (Lower u.mono) f (λ w e. turn_down u.mono w e) (every_low p u.mono f (canon p f c.3) c.2)

times_below : (p : ℕ) (t : Term) (m : Monomial) (f : List Term) → Seven m → EachMono Seven f → EachMono (Lower m) f → EachMono (Lower (times m t.mono)) (map (times_term p t) f)
times_below p t m [] a h k = tt
times_below p t m (v ∷ f) a h k = (cmp_dp-times v.mono m t.mono (h.0 ∙ sym a) ∙ k.0, times_below p t m f a h.1 k.1)

-- the product with t is its lead and terms below
pub product_is : (p : ℕ) (t u : Term) (f : List Term) → IsPrime p → 0 < t.coeff → t.coeff < p → IsCanonical p (u ∷ f) → EachMono Seven (u ∷ f)
    → mul p (u ∷ f) (t ∷ []) ≡ times_term p t u ∷ map (times_term p t) f
product_is p t u f prime h l c s = sym (product_by_term p t (u ∷ f) prime h l c s)

pub product_below : (p : ℕ) (t u : Term) (f : List Term) → IsCanonical p (u ∷ f) → EachMono Seven (u ∷ f) → EachMono (Lower (times u.mono t.mono)) (map (times_term p t) f)
product_below p t u f c s = times_below p t u.mono f s.0 s.1 (tail_below p u f c)

-- a first term above all others stays first in a sum
pub lead_of_sum : (p : ℕ) (u : Term) (f g : List Term) → 0 < u.coeff → u.coeff < p → EachMono (Lower u.mono) f → EachMono (Lower u.mono) g
    → (h : List Term) × (add p (u ∷ f) g ≡ u ∷ h)
lead_of_sum p u f g pos small a b =
    (normal p (f ++ g), put_above p u (normal p (f ++ g)) under ∙ ap (λ (c : ℕ). keep c u.mono (normal p (f ++ g))) (mod-eq_of_lt small) ∙ kept u.coeff pos)
  where
    under : Under u.mono (normal p (f ++ g))
    under =
        every_under (Lower u.mono) u.mono (normal p (f ++ g)) (λ w e. turn_up w u.mono e) (every_normal (Lower u.mono) p (f ++ g) (every_append (Lower u.mono) f g a b))

    kept : (c : ℕ) → 0 < c → keep c u.mono (normal p (f ++ g)) ≡ record { coeff = c; mono = u.mono } ∷ normal p (f ++ g)
    kept c h = go (c == 0) refl
      where
        go : (b : Bool) → (c == 0) ≡ b → cond b (normal p (f ++ g)) (record { coeff = c; mono = u.mono } ∷ normal p (f ++ g)) ≡ record { coeff = c; mono = u.mono } ∷ normal p (f ++ g)
        go true e = let z : c ≡ 0 = eqb-true c 0 e in absurd (omega arith)
        go false e = refl
