-- A polynomial has one monic multiple.
use Rattle.std.proofs.Common.{◌≡◌, ℕ, ◌*◌, ◌%◌, ◌<◌, List, [], ◌∷◌, refl, sym, ap, ◌∙◌, subst, arith}
use Rattle.std.specs.declared.cmp.Ordering.{Ordering}
use Rattle.std.specs.declared.cmp.Ordering.TheVariants.{Less, Equal, Greater}
use Rattle.std.proofs.lemmas.Nat.{mul-mod_first, mul-mod_second}
use native.Mathlib.Nat.{mod-eq_of_lt, zero-mod}
use Rattle.monomials.specs.Mono.{Monomial, cmp_dp}
use Rattle.monomials.proofs.Order.{same_dp, turn_up}
use Rattle.polys.specs.declared.term.Term.{Term}
use Rattle.polys.specs.Terms.{scaled, multiple, IsMonic, IsMonicOf}
use Rattle.polys.proofs.Weights.{weigh, same, Canon, normal_canon, none_under, weigh-normal, at_head}
use Rattle.polys.proofs.Units.{weigh-scaled}

-- ---- residues

-- where c a is 1, d is c times d a
residue : (p a c d : ℕ) → (c * a) % p ≡ 1 → d % p ≡ (c * ((d * a) % p)) % p
residue p a c d h =
    let one : d ≡ d * 1 = omega arith in
    let turn : d * (c * a) ≡ c * (d * a) = omega arith in
    ap (λ (n : ℕ). n % p) (one ∙ ap (λ (n : ℕ). d * n) (sym h))
    ∙ mul-mod_second d (c * a) p
    ∙ ap (λ (n : ℕ). n % p) turn
    ∙ sym (mul-mod_second c (d * a) p)

-- so d is c where d a is 1 too
one_residue : (p a c d : ℕ) → c < p → d < p → (c * a) % p ≡ 1 → (d * a) % p ≡ 1 → c ≡ d
one_residue p a c d lc ld h k =
    let one : c * 1 ≡ c = omega arith in
    sym (sym (mod-eq_of_lt ld) ∙ residue p a c d h ∙ ap (λ (n : ℕ). (c * n) % p) k ∙ ap (λ (n : ℕ). n % p) one ∙ mod-eq_of_lt lc)

-- and no d b is 1 where d a is 0
no_residue : (p a b c d : ℕ) → (c * a) % p ≡ 1 → (d * a) % p ≡ 0 → (d * b) % p ≡ 1 → ⊥
no_residue p a b c d h k l =
    let none : c * 0 ≡ 0 = omega arith in
    let nil : 0 * b ≡ 0 = omega arith in
    let z : d % p ≡ 0 = residue p a c d h ∙ ap (λ (n : ℕ). (c * n) % p) k ∙ ap (λ (n : ℕ). n % p) none ∙ zero-mod p in
    let e : (d * b) % p ≡ 0 = sym (mul-mod_first d b p) ∙ ap (λ (n : ℕ). (n * b) % p) z ∙ ap (λ (n : ℕ). n % p) nil ∙ zero-mod p in
    grind (arith, e, l)

-- ---- multiples of one polynomial

weigh-multiple : (p c : ℕ) (f : List Term) (χ : Monomial → ℕ) → weigh χ (multiple p c f) % p ≡ (c * weigh χ f) % p
weigh-multiple p c f χ = weigh-normal p χ (scaled c f) ∙ ap (λ (n : ℕ). n % p) (weigh-scaled χ c f)

module _ (p c d : ℕ) (f : List Term) (lc : c < p) (ld : d < p) where
  canon_of : (b : ℕ) (g : List Term) → g ≡ multiple p b f → Canon p g
  canon_of b g e = subst (Canon p) (sym e) (normal_canon p (scaled b f))

  -- the coefficient at the lead of a monic multiple is 1
  at_lead : (b : ℕ) (y : Term) (ys : List Term) → y ∷ ys ≡ multiple p b f → y.coeff ≡ 1 → (b * weigh (same y.mono) f) % p ≡ 1
  at_lead b y ys e o =
      sym (weigh-multiple p b f (same y.mono)) ∙ ap (λ g. weigh (same y.mono) g % p) (sym e) ∙ at_head p y ys (canon_of b (y ∷ ys) e) ∙ o

  -- and that at a greater monomial 0
  above_lead : (b : ℕ) (m : Monomial) (y : Term) (ys : List Term) → y ∷ ys ≡ multiple p b f → cmp_dp m y.mono ≡ Greater → (b * weigh (same m) f) % p ≡ 0
  above_lead b m y ys e u =
      sym (weigh-multiple p b f (same m)) ∙ ap (λ g. weigh (same m) g % p) (sym e) ∙ ap (λ (n : ℕ). n % p) (none_under p m (y ∷ ys) (canon_of b (y ∷ ys) e) u) ∙ zero-mod p

  one_factor : (x y : Term) (xs ys : List Term) → x ∷ xs ≡ multiple p c f → y ∷ ys ≡ multiple p d f → x.coeff ≡ 1 → y.coeff ≡ 1 → c ≡ d
  one_factor x y xs ys e k o q = go (cmp_dp x.mono y.mono) refl
    where
      go : (r : Ordering) → cmp_dp x.mono y.mono ≡ r → c ≡ d
      go Greater h = absurd (no_residue p (weigh (same x.mono) f) (weigh (same y.mono) f) c d (at_lead c x xs e o) (above_lead d x.mono y ys k h) (at_lead d y ys k q))
      go Less h = absurd (no_residue p (weigh (same y.mono) f) (weigh (same x.mono) f) d c (at_lead d y ys k q) (above_lead c y.mono x xs e (turn_up x.mono y.mono h)) (at_lead c x xs e o))
      go Equal h =
          one_residue p (weigh (same x.mono) f) c d lc ld (at_lead c x xs e o)
          (ap (λ m. (d * weigh (same m) f) % p) (same_dp x.mono y.mono h) ∙ at_lead d y ys k q)

  one_multiple : (g h : List Term) → IsMonic g → IsMonic h → g ≡ multiple p c f → h ≡ multiple p d f → g ≡ h
  one_multiple [] h a b e k = absurd a
  one_multiple (x ∷ xs) [] a b e k = absurd b
  one_multiple (x ∷ xs) (y ∷ ys) a b e k = e ∙ ap (λ (n : ℕ). multiple p n f) (one_factor x y xs ys e k a b) ∙ sym k

pub monic_unique : (p : ℕ) (f g h : List Term) → IsMonicOf p f g → IsMonicOf p f h → g ≡ h
monic_unique p [] g h a b = a ∙ sym b
monic_unique p (t ∷ f) g h (a, (c, lc, e)) (b, (d, ld, k)) = one_multiple p c d (t ∷ f) lc ld g h a b e k
