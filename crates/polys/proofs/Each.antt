-- What holds of each monomial of a sum and of a product.
use Rattle.std.proofs.Common.{◌≡◌, ℕ, ◌+◌, ◌%◌, ◌<◌, get_or, length, subst, arith, List, [], ◌∷◌, ◌++◌, cond, Bool, true, false, ◌==◌, take, drop, zero, suc}
use Rattle.std.specs.declared.cmp.Ordering.{Ordering}
use Rattle.std.specs.declared.cmp.Ordering.TheVariants.{Less, Equal, Greater}
use Rattle.monomials.specs.Mono.{Monomial, times, cmp_dp}
use Rattle.polys.specs.declared.term.Term.{Term}
use Rattle.polys.specs.Terms.{keep, put_by, put, normal, Under, EachMono, add, scaled, multiple, scale, products, mul}

module _ (P : Monomial → Type 0) where
  pub every_append : (f g : List Term) → EachMono P f → EachMono P g → EachMono P (f ++ g)
  every_append [] g h k = k
  every_append (t ∷ f) g h k = (h.0, every_append f g h.1 k)

  every_keep : (c : ℕ) (m : Monomial) (f : List Term) → P m → EachMono P f → EachMono P (keep c m f)
  every_keep c m f h k = go (c == 0)
    where
      go : (b : Bool) → EachMono P (cond b f (record { coeff = c; mono = m } ∷ f))
      go true = k
      go false = (h, k)

  every_put : (p : ℕ) (t : Term) (f : List Term) → P t.mono → EachMono P f → EachMono P (put p t f)
  every_put p t [] h k = every_keep (t.coeff % p) t.mono [] h tt
  every_put p t (u ∷ f) h k = go (cmp_dp t.mono u.mono) (every_put p t f h k.1)
    where
      go : (r : Ordering) → EachMono P (put p t f) → EachMono P (put_by p t u f (put p t f) r)
      go Greater ih = every_keep (t.coeff % p) t.mono (u ∷ f) h k
      go Equal ih = every_keep ((t.coeff + u.coeff) % p) t.mono f h k.1
      go Less ih = (k.0, ih)

  pub every_normal : (p : ℕ) (f : List Term) → EachMono P f → EachMono P (normal p f)
  every_normal p [] h = tt
  every_normal p (t ∷ f) h = every_put p t (normal p f) h.0 (every_normal p f h.1)

pub every_scale : (Q R : Monomial → Type 0) (t : Term) (g : List Term) → ((n : Monomial) → Q n → R (times t.mono n)) → EachMono Q g → EachMono R (scale t g)
every_scale Q R t [] h k = tt
every_scale Q R t (u ∷ g) h k = (h u.mono k.0, every_scale Q R t g h k.1)

pub every_products : (P Q R : Monomial → Type 0) (f g : List Term) → ((m n : Monomial) → P m → Q n → R (times m n)) → EachMono P f → EachMono Q g → EachMono R (products f g)
every_products P Q R [] g h e k = tt
every_products P Q R (t ∷ f) g h e k =
    every_append R (scale t g) (products f g) (every_scale Q R t g (λ n. h t.mono n e.0) k) (every_products P Q R f g h e.1 k)

module _ (P : Monomial → Type 0) where
  pub every_add : (p : ℕ) (f g : List Term) → EachMono P f → EachMono P g → EachMono P (add p f g)
  every_add p f g h k = every_normal P p (f ++ g) (every_append P f g h k)

  pub every_mul : (p : ℕ) (f g : List Term) → ((m n : Monomial) → P m → P n → P (times m n)) → EachMono P f → EachMono P g → EachMono P (mul p f g)
  every_mul p f g h e k = every_normal P p (products f g) (every_products P P P f g h e k)

  pub every_under : (m : Monomial) (f : List Term) → ((w : Monomial) → P w → cmp_dp m w ≡ Greater) → EachMono P f → Under m f
  every_under m [] h k = tt
  every_under m (u ∷ f) h k = h u.mono k.0

pub every_zip : (P Q : Monomial → Type 0) (f : List Term) → EachMono P f → EachMono Q f → EachMono (λ m. P m × Q m) f
every_zip P Q [] h k = tt
every_zip P Q (t ∷ f) h k = ((h.0, k.0), every_zip P Q f h.1 k.1)

pub every_more : (P Q : Monomial → Type 0) (f : List Term) → ((m : Monomial) → P m → Q m) → EachMono P f → EachMono Q f
every_more P Q [] h k = tt
every_more P Q (t ∷ f) h k = (h t.mono k.0, every_more P Q f h k.1)

module _ (P : Monomial → Type 0) where
  pub every_scaled : (c : ℕ) (f : List Term) → EachMono P f → EachMono P (scaled c f)
  every_scaled c [] h = tt
  every_scaled c (t ∷ f) h = (h.0, every_scaled c f h.1)

  pub every_multiple : (p c : ℕ) (f : List Term) → EachMono P f → EachMono P (multiple p c f)
  every_multiple p c f h = every_normal P p (scaled c f) (every_scaled c f h)

  pub every_take : (i : ℕ) (f : List Term) → EachMono P f → EachMono P (take i f)
  every_take zero f h = tt
  every_take (suc i) [] h = tt
  every_take (suc i) (t ∷ f) h = (h.0, every_take i f h.1)

  pub every_drop : (i : ℕ) (f : List Term) → EachMono P f → EachMono P (drop i f)
  every_drop zero f h = h
  every_drop (suc i) [] h = tt
  every_drop (suc i) (t ∷ f) h = every_drop i f h.1

  -- one more item of a loop
  pub every_more_item : (f : List Term) (i : ℕ) (t : Term) → i < length f → t ≡ get_or f i t → EachMono P (take i f) → P t.mono → EachMono P (take (i + 1) f)
  every_more_item f i t h e a b = let n : i + 1 ≡ suc i = omega arith in rw n (go f i t h e a b)
    where
      go : (f : List Term) (i : ℕ) (t : Term) → i < length f → t ≡ get_or f i t → EachMono P (take i f) → P t.mono → EachMono P (take (suc i) f)
      go [] i t h e a b = tt
      go (x ∷ f) zero t h e a b = (subst (λ w. P w.mono) e b, tt)
      go (x ∷ f) (suc i) t h e a b = (a.0, go f i t (omega arith) e a.1 b)
