-- The merge of two polynomials: what has been written, and what is left of both.
use Rattle.std.proofs.Common.{◌≡◌, ℕ, ◌+◌, ◌*◌, ◌%◌, ◌<◌, ◌⊎◌, List, [], ◌∷◌, ◌++◌, refl, sym, ap, ◌∙◌, subst, arith, append_assoc, append-nil, length, get_or, take, drop, drop-cons, zero, suc, ◌-◌, ◌≤◌, inl, inr}
use Rattle.std.specs.declared.cmp.Ordering.TheVariants.{Greater}
use native.Mathlib.Nat.{mod-mod}
use Rattle.std.proofs.Math.ListN.{drop_of_length-le}
use Rattle.std.proofs.lemmas.List.{take_rest}
use Rattle.monomials.specs.Mono.{Monomial, IsMono, cmp_dp}
use Rattle.polys.specs.declared.term.Term.{Term}
use Rattle.polys.specs.Terms.{Under, IsCanonical, EachMono, add}
use Rattle.polys.specs.Poly.{IsVector}
use Rattle.polys.proofs.Each.{every_add}
use Rattle.polys.proofs.Weights.{weigh, Canon, Alike, weigh-append, normal_same, normal_ext, mod_plus, mod_term, under_chain, canon, is_canonical, normal_canon}

under_append : (w : Monomial) (xs f g : List Term) → Under w (xs ++ f) → Under w g → Under w (xs ++ g)
under_append w [] f g u v = v
under_append w (x ∷ xs) f g u v = u

canon_tail : (p : ℕ) (xs f : List Term) → Canon p (xs ++ f) → Canon p f
unfolding Canon
canon_tail p [] f c = c
canon_tail p (x ∷ xs) f c = canon_tail p xs f c.3

-- the part after xs put for another that is as low
canon_swap : (p : ℕ) (xs : List Term) (f g : List Term) → Canon p (xs ++ f) → Canon p g
    → ((w : Monomial) → Under w f → Under w g) → Canon p (xs ++ g)
unfolding Canon
canon_swap p [] f g c d low = d
canon_swap p (x ∷ xs) f g c d low = (c.0, c.1, go xs c.2, canon_swap p xs f g c.3 d low)
  where
    go : (ys : List Term) → Under x.mono (ys ++ f) → Under x.mono (ys ++ g)
    go [] u = low x.mono u
    go (y ∷ ys) u = u

pub record Merged (p : ℕ) (out f g a b : List Term) : Type 0 where
  pub left : Canon p (out ++ f)
  pub right : Canon p (out ++ g)
  pub sums : Alike p (out ++ (f ++ g)) (a ++ b)

pub merge_start : (p : ℕ) (a b : List Term) → IsCanonical p a → IsCanonical p b → Merged p [] a b a b
merge_start p a b h k = record { left = canon p a h; right = canon p b k; sums = λ χ. refl }

swapped : (p : ℕ) (out f g : List Term) → Alike p (out ++ (f ++ g)) (out ++ (g ++ f))
swapped p out f g χ = ap (λ (n : ℕ). n % p) e
  where
    e : weigh χ (out ++ (f ++ g)) ≡ weigh χ (out ++ (g ++ f))
    e = omega (arith, weigh-append χ out (f ++ g), weigh-append χ out (g ++ f), weigh-append χ f g, weigh-append χ g f)

pub merge_flip : (p : ℕ) (out f g a b : List Term) → Merged p out f g a b → Merged p out g f b a
merge_flip p out f g a b m = record {
  left = m.right;
  right = m.left;
  sums = λ χ. swapped p out g f χ ∙ m.sums χ ∙ swapped p [] a b χ;
}

pub merge_left : (p : ℕ) (out : List Term) (t : Term) (f g a b : List Term) → Merged p out (t ∷ f) g a b → Under t.mono g
    → Merged p (out ++ t ∷ []) f g a b
unfolding Canon
merge_left p out t f g a b m u =
    let c = canon_tail p out (t ∷ f) m.left in
    record {
      left = rw append_assoc m.left;
      right = rw append_assoc (canon_swap p out (t ∷ f) (t ∷ g) m.left (c.0, c.1, u, canon_tail p out g m.right) (λ w h. h));
      sums = rw append_assoc m.sums;
    }

pub merge_right : (p : ℕ) (out : List Term) (u : Term) (f g a b : List Term) → Merged p out f (u ∷ g) a b → Under u.mono f
    → Merged p (out ++ u ∷ []) f g a b
merge_right p out u f g a b m h =
    merge_flip p (out ++ u ∷ []) g f b a (merge_left p out u g f b a (merge_flip p out f (u ∷ g) a b m) h)

both_sums : (p : ℕ) (out : List Term) (t u : Term) (f g : List Term) → t.mono ≡ u.mono
    → (χ : Monomial → ℕ) → weigh χ (out ++ ((t ∷ f) ++ (u ∷ g))) % p ≡ (weigh χ out + (((t.coeff + u.coeff) % p) * χ t.mono + weigh χ (f ++ g))) % p
unfolding weigh
both_sums p out t u f g e χ =
    ap (λ (n : ℕ). n % p) parts
    ∙ mod_plus p (weigh χ out) (weigh χ out) ((t.coeff + u.coeff) * χ t.mono + weigh χ (f ++ g)) (((t.coeff + u.coeff) % p) * χ t.mono + weigh χ (f ++ g))
    refl (sym (mod_term p (t.coeff + u.coeff) (χ t.mono) (weigh χ (f ++ g))))
  where
    same : χ u.mono ≡ χ t.mono
    same = ap χ (sym e)

    parts : weigh χ (out ++ ((t ∷ f) ++ (u ∷ g))) ≡ weigh χ out + ((t.coeff + u.coeff) * χ t.mono + weigh χ (f ++ g))
    parts = rw (weigh-append χ out (t ∷ (f ++ (u ∷ g))), weigh-append χ f (u ∷ g), weigh-append χ f g, same) (omega arith)

pub merge_both : (p : ℕ) (out : List Term) (t u : Term) (f g a b : List Term) → Merged p out (t ∷ f) (u ∷ g) a b → t.mono ≡ u.mono
    → (c : ℕ) → c ≡ (t.coeff + u.coeff) % p → 0 < c → Merged p (out ++ record { coeff = c; mono = t.mono } ∷ []) f g a b
unfolding Canon weigh
merge_both p out t u f g a b m e c is pos =
    let one : Term = record { coeff = c; mono = t.mono } in
    let x = canon_tail p out (t ∷ f) m.left in
    let y = canon_tail p out (u ∷ g) m.right in
    let small : c % p ≡ c = ap (λ (n : ℕ). n % p) is ∙ mod-mod (t.coeff + u.coeff) p ∙ sym is in
    record {
      left = rw append_assoc (canon_swap p out (t ∷ f) (one ∷ f) m.left (pos, small, x.2, x.3) (λ w h. h));
      right = rw append_assoc (canon_swap p out (u ∷ g) (one ∷ g) m.right (pos, small, subst (λ w. Under w g) (sym e) y.2, y.3) (λ w h. subst (λ v. cmp_dp w v ≡ Greater) (sym e) h));
      sums = rw append_assoc (λ χ.
          ap (λ (n : ℕ). n % p) (weigh-append χ out (one ∷ (f ++ g)))
          ∙ ap (λ (n : ℕ). (weigh χ out + (n * χ t.mono + weigh χ (f ++ g))) % p) is
          ∙ sym (both_sums p out t u f g e χ)
          ∙ m.sums χ);
    }

pub merge_none : (p : ℕ) (out : List Term) (t u : Term) (f g a b : List Term) → Merged p out (t ∷ f) (u ∷ g) a b → t.mono ≡ u.mono
    → (t.coeff + u.coeff) % p ≡ 0 → Merged p out f g a b
unfolding Canon weigh
merge_none p out t u f g a b m e z =
    let x = canon_tail p out (t ∷ f) m.left in
    let y = canon_tail p out (u ∷ g) m.right in
    record {
      left = canon_swap p out (t ∷ f) f m.left x.3 (λ w h. under_chain w t.mono f h x.2);
      right = canon_swap p out (u ∷ g) g m.right y.3 (λ w h. under_chain w u.mono g h y.2);
      sums = λ χ.
          ap (λ (n : ℕ). n % p) (none χ)
          ∙ ap (λ (n : ℕ). (weigh χ out + (n * χ t.mono + weigh χ (f ++ g))) % p) (sym z)
          ∙ sym (both_sums p out t u f g e χ)
          ∙ m.sums χ;
    }
  where
    none : (χ : Monomial → ℕ) → weigh χ (out ++ (f ++ g)) ≡ weigh χ out + (0 * χ t.mono + weigh χ (f ++ g))
    none χ = omega (arith, weigh-append χ out (f ++ g))

merge_end_left : (p : ℕ) (out f a b : List Term) → Merged p out f [] a b → out ++ f ≡ add p a b
merge_end_left p out f a b m =
    sym (normal_same p (out ++ f) m.left)
    ∙ normal_ext p (out ++ f) (a ++ b) (λ χ. ap (λ l. weigh χ (out ++ l) % p) (sym (append-nil f)) ∙ m.sums χ)

merge_end_right : (p : ℕ) (out g a b : List Term) → Merged p out [] g a b → out ++ g ≡ add p a b
merge_end_right p out g a b m = sym (normal_same p (out ++ g) m.right) ∙ normal_ext p (out ++ g) (a ++ b) m.sums

-- what is left at i begins with the element there
pub left_at : (a : List Term) (i : ℕ) (t : Term) → i < length a → t ≡ get_or a i t → drop i a ≡ t ∷ drop (i + 1) a
left_at a i t h e =
    let n : i + 1 ≡ suc i = omega arith in
    rw n (drop-cons a i t h ∙ ap (λ x. x ∷ drop (suc i) a) (sym e))

pub coeff_at : (p : ℕ) (a : List Term) (i : ℕ) (t : Term) → IsCanonical p a → i < length a → t ≡ get_or a i t → (0 < t.coeff) × (t.coeff < p)
coeff_at p [] i t k h e = absurd (omega arith)
coeff_at p (x ∷ a) zero t k h e = subst (λ w. (0 < w.coeff) × (w.coeff < p)) (sym e) (k.0, k.1)
coeff_at p (x ∷ a) (suc i) t k h e = coeff_at p a i t k.3 (omega arith) e

pub mono_at : (P : Monomial → Type 0) (a : List Term) (i : ℕ) (t : Term) → EachMono P a → i < length a → t ≡ get_or a i t → P t.mono
mono_at P [] i t k h e = absurd (omega arith)
mono_at P (x ∷ a) zero t k h e = subst (λ w. P w.mono) (sym e) k.0
mono_at P (x ∷ a) (suc i) t k h e = mono_at P a i t k.1 (omega arith) e

pub merge_end : (p : ℕ) (out a b : List Term) (i j : ℕ) → Merged p out (drop i a) (drop j b) a b → (length a ≤ i) ⊎ (length b ≤ j)
    → (out ++ take (length a - i) (drop i a)) ++ take (length b - j) (drop j b) ≡ add p a b
merge_end p out a b i j m ends =
    rw (take_rest a i, take_rest b j) (go ends)
  where
    go : (length a ≤ i) ⊎ (length b ≤ j) → (out ++ drop i a) ++ drop j b ≡ add p a b
    go (inl h) =
        let e = drop_of_length-le a h in
        rw (e, append-nil out) (merge_end_right p out (drop j b) a b (rw e at m))
    go (inr h) =
        let e = drop_of_length-le b h in
        rw (e, append-nil (out ++ drop i a)) (merge_end_left p out (drop i a) a b (rw e at m))

add_vector_above : (p : ℕ) (a b : List Term) → 0 < p → IsVector p a → IsVector p b → IsVector p (add p a b)
add_vector_above p a b h ca cb = record { canonical = is_canonical p (add p a b) h (normal_canon p (a ++ b)); monos = every_add IsMono p a b ca.monos cb.monos }

pub add_vector : (p : ℕ) (a b : List Term) → IsVector p a → IsVector p b → IsVector p (add p a b)
add_vector p [] [] ca cb = record { canonical = tt; monos = tt }
add_vector p [] (u ∷ b) ca cb = let h = cb.canonical.1 in add_vector_above p [] (u ∷ b) (omega arith) ca cb
add_vector p (t ∷ a) b ca cb = let h = ca.canonical.1 in add_vector_above p (t ∷ a) b (omega arith) ca cb
