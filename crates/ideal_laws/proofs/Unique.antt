-- Two reduced lists that generate one ideal are equal.
use Rattle.std.proofs.Common.{◌≡◌, ◌↔◌, ◌⊎◌, inl, inr, ℕ, ◌+◌, ◌-◌, ◌<◌, zero, suc, List, [], ◌∷◌, ◌++◌, length, map, refl, sym, ap, ◌∙◌, subst, arith}
use Rattle.std.specs.List.{All, AllPairs, Contains}
use Rattle.std.proofs.lemmas.List.Elements.{All-head, All-tail, All-contains}
use Rattle.std.specs.declared.cmp.Ordering.TheVariants.{Less, Equal}
use Rattle.monomials.specs.Mono.{Monomial, cmp_dp}
use Rattle.monomials.proofs.Order.{self_dp, dp_total}
use Rattle.prime_field.specs.Primes.{IsPrime}
use Rattle.prime_field.proofs.Table.{positive_of_prime, above_one}
use Rattle.polys.specs.declared.term.Term.{Term}
use Rattle.polys.specs.Terms.{EachMono, IsPoly, IsMonic, sub, add, multiple}
use Rattle.polys.specs.Ideal.{InIdeal}
use Rattle.polys.specs.Reduced.{Reduced, leads, lower_monos, IsLead}
use Rattle.ideal_laws.specs.Laws.{ReducedIsUnique}
use Rattle.polys.proofs.Sums.{add_assoc, add_comm}
use Rattle.polys.proofs.Units.{sub_self, add_none}
use Rattle.polys.proofs.Each.{every_append, every_normal, every_multiple, every_more}
use Rattle.ideal_laws.proofs.Ideals.{in_generator, in_sub, in_poly}
use Rattle.ideal_laws.proofs.Differences.{sub_cons}

-- ---- rising lists with the same members are equal

module _ {X : Type 0} where
  pub contains_head : (x : X) (xs : List X) → Contains (x ∷ xs) x
  contains_head x xs = (0, (omega arith), refl)

  pub contains_tail : (y x : X) (xs : List X) → Contains xs x → Contains (y ∷ xs) x
  contains_tail y x xs c = let h = c.1 in (suc c.0, (omega arith), c.2)

  pub contains_cases : (y x : X) (xs : List X) → Contains (y ∷ xs) x → (y ≡ x) ⊎ Contains xs x
  contains_cases y x xs (zero, h, e) = inl e
  contains_cases y x xs (suc k, h, e) = inr (k, (omega arith), e)

  pub contains_none : (x : X) → Contains [] x → ⊥
  contains_none x (k, h, e) = absurd (omega arith)

abbrev Rise : Monomial → Monomial → Type 0
Rise m w = cmp_dp m w ≡ Less

above_head : (x : Monomial) (xs : List Monomial) → AllPairs Rise (x ∷ xs) → (z : Monomial) → Contains xs z → cmp_dp x z ≡ Less
above_head x xs h z c =
    let l = c.1 in
    let first : 0 < suc c.0 = omega arith in
    let last : suc c.0 < length (x ∷ xs) = omega arith in
    subst (λ w. cmp_dp x w ≡ Less) c.2 (h 0 (suc c.0) z first last)

rising_tail : (x : Monomial) (xs : List Monomial) → AllPairs Rise (x ∷ xs) → AllPairs Rise xs
rising_tail x xs h i j d a b = h (suc i) (suc j) d (omega arith) (omega arith)

not_self : (x : Monomial) → cmp_dp x x ≡ Less → ⊥
not_self x e = let f = self_dp x in let no : Equal ≡ Less = sym f ∙ e in absurd (cc)

not_both : (x y : Monomial) → cmp_dp x y ≡ Less → cmp_dp y x ≡ Less → ⊥
not_both x y a b = not_self x (dp_total.trans x y x a b)

same_head : (x y : Monomial) (xs ys : List Monomial) → AllPairs Rise (x ∷ xs) → AllPairs Rise (y ∷ ys) → Contains (y ∷ ys) x → Contains (x ∷ xs) y → x ≡ y
same_head x y xs ys a b c d = go (contains_cases y x ys c) (contains_cases x y xs d)
  where
    go : (y ≡ x) ⊎ Contains ys x → (x ≡ y) ⊎ Contains xs y → x ≡ y
    go (inl e) q = sym e
    go (inr k) (inl e) = e
    go (inr k) (inr l) = absurd (not_both x y (above_head x xs a y l) (above_head y ys b x k))

same_tail : (x y : Monomial) (xs ys : List Monomial) → x ≡ y → AllPairs Rise (x ∷ xs) → ((z : Monomial) → Contains (x ∷ xs) z → Contains (y ∷ ys) z)
    → (z : Monomial) → Contains xs z → Contains ys z
same_tail x y xs ys e a h z c = go (contains_cases y z ys (h z (contains_tail x z xs c)))
  where
    go : (y ≡ z) ⊎ Contains ys z → Contains ys z
    go (inl q) = absurd (not_self x (subst (λ w. cmp_dp x w ≡ Less) (sym (e ∙ q)) (above_head x xs a z c)))
    go (inr k) = k

-- two rising lists with the same members are equal
pub same_rising : (xs ys : List Monomial) → AllPairs Rise xs → AllPairs Rise ys → ((z : Monomial) → Contains xs z → Contains ys z) → ((z : Monomial) → Contains ys z → Contains xs z)
    → xs ≡ ys
same_rising [] [] a b h k = refl
same_rising [] (y ∷ ys) a b h k = absurd (contains_none y (k y (contains_head y ys)))
same_rising (x ∷ xs) [] a b h k = absurd (contains_none x (h x (contains_head x xs)))
same_rising (x ∷ xs) (y ∷ ys) a b h k =
    let e = same_head x y xs ys a b (h x (contains_head x xs)) (k y (contains_head y ys)) in
    λ i. e i ∷ same_rising xs ys (rising_tail x xs a) (rising_tail y ys b) (same_tail x y xs ys e a h) (same_tail y x ys xs (sym e) b k) i

-- ---- a difference

-- equal where the difference is 0
pub same_from_sub : (p n : ℕ) (f g : List Term) → 0 < p → IsPoly p n f → IsPoly p n g → sub p f g ≡ [] → f ≡ g
same_from_sub p n f g h a b e =
    sym (add_none p f a.canonical)
    ∙ ap (add p f) (sym (sub_self p g h) ∙ add_comm p g (multiple p (p - 1) g))
    ∙ sym (add_assoc p f (multiple p (p - 1) g) g)
    ∙ ap (λ w. add p w g) e
    ∙ add_comm p [] g
    ∙ add_none p g b.canonical

each_contained : (f : List Term) → EachMono (Contains (map (λ u. u.mono) f)) f
each_contained [] = tt
each_contained (t ∷ f) = (
  contains_head t.mono (map (λ u. u.mono) f),
  every_more (Contains (map (λ u. u.mono) f)) (Contains (map (λ u. u.mono) (t ∷ f))) f (λ m c. contains_tail t.mono m (map (λ u. u.mono) f) c) (each_contained f),
)

-- ---- reduced lists

module _ (p n : ℕ) (prime : IsPrime p) where
  positive : 0 < p
  positive = positive_of_prime p prime

  two : 1 < p
  two = above_one p prime

  lead_over : (qs rs : List (List Term)) → All (IsPoly p n) qs → ((f : List Term) → IsPoly p n f → InIdeal p n qs f → InIdeal p n rs f) → (m : Monomial) → IsLead p n qs m → IsLead p n rs m
  lead_over qs rs a h m (t, f, i, e) = (t, f, h (t ∷ f) (in_poly p n qs (t ∷ f) positive a i) i, e)

  lead_contained : (qs rs : List (List Term)) → Reduced p n qs → Reduced p n rs → ((f : List Term) → IsPoly p n f → InIdeal p n qs f ↔ InIdeal p n rs f)
      → (m : Monomial) → Contains (leads qs) m → Contains (leads rs) m
  lead_contained qs rs a b h m c =
      let k = (a.minimal m).0 c in
      (b.minimal m).1
      (lead_over qs rs a.polys (λ f i. (h f i).0) m k.0, λ w l d. k.1 w (lead_over rs qs b.polys (λ f i. (h f i).1) w l) d)

  -- two monic members with one lead are equal
  same_member : (qs rs : List (List Term)) → Reduced p n qs → Reduced p n rs → ((f : List Term) → IsPoly p n f → InIdeal p n qs f ↔ InIdeal p n rs f)
      → (t u : Term) (f g : List Term) → Contains qs (t ∷ f) → Contains rs (u ∷ g) → t ≡ u → t ∷ f ≡ u ∷ g
  same_member qs rs a b h t u f g c d e = same_from_sub p n (t ∷ f) (u ∷ g) positive q r (go (sub p (t ∷ f) (u ∷ g)) refl)
    where
      q : IsPoly p n (t ∷ f)
      q = All-contains (IsPoly p n) qs (t ∷ f) a.polys c

      r : IsPoly p n (u ∷ g)
      r = All-contains (IsPoly p n) rs (u ∷ g) b.polys d

      member : InIdeal p n qs (sub p (t ∷ f) (u ∷ g))
      member =
          in_sub p n qs (t ∷ f) (u ∷ g) positive r (in_generator p n qs (t ∷ f) two a.polys c)
          ((h (u ∷ g) r).1 (in_generator p n rs (u ∷ g) two b.polys d))

      P : Monomial → Type 0
      P m = Contains (lower_monos (t ∷ f)) m ⊎ Contains (lower_monos (u ∷ g)) m

      low : EachMono P (sub p f g)
      low =
          every_normal P p (f ++ multiple p (p - 1) g)
          (every_append P f (multiple p (p - 1) g)
          (every_more (Contains (lower_monos (t ∷ f))) P f (λ m k. inl k) (each_contained f))
          (every_multiple P p (p - 1) g (every_more (Contains (lower_monos (u ∷ g))) P g (λ m k. inr k) (each_contained g))))

      none : (m : Monomial) → IsLead p n qs m → P m → ⊥
      none m l (inl k) = a.lower (t ∷ f) c m k l
      none m l (inr k) = b.lower (u ∷ g) d m k (lead_over qs rs a.polys (λ w i. (h w i).0) m l)

      drops : sub p (t ∷ f) (u ∷ g) ≡ sub p f g
      drops = ap (λ w. sub p (t ∷ f) (w ∷ g)) (sym e) ∙ sub_cons p t f g positive

      go : (w : List Term) → sub p (t ∷ f) (u ∷ g) ≡ w → w ≡ []
      go [] s = refl
      go (v ∷ w) s =
          absurd (none v.mono (v, w, subst (InIdeal p n qs) s member, refl) (subst (EachMono P) (sym drops ∙ s) low).0)

  same_lists : (qs rs : List (List Term)) → All IsMonic qs → All IsMonic rs → leads qs ≡ leads rs
      → ((t u : Term) (f g : List Term) → Contains qs (t ∷ f) → Contains rs (u ∷ g) → t ≡ u → t ∷ f ≡ u ∷ g) → qs ≡ rs
  same_lists [] [] a b e h = refl
  same_lists [] ([] ∷ rs) a b e h = absurd (All-head IsMonic [] rs b)
  same_lists [] ((u ∷ g) ∷ rs) a b e h = absurd (cc)
  same_lists ([] ∷ qs) rs a b e h = absurd (All-head IsMonic [] qs a)
  same_lists ((t ∷ f) ∷ qs) [] a b e h = absurd (cc)
  same_lists ((t ∷ f) ∷ qs) ([] ∷ rs) a b e h = absurd (All-head IsMonic [] rs b)
  same_lists ((t ∷ f) ∷ qs) ((u ∷ g) ∷ rs) a b e h =
      let one_t : t.coeff ≡ 1 = All-head IsMonic (t ∷ f) qs a in
      let one_u : u.coeff ≡ 1 = All-head IsMonic (u ∷ g) rs b in
      let m : t.mono ≡ u.mono = cc in
      let rest : leads qs ≡ leads rs = cc in
      let c : t.coeff ≡ u.coeff = one_t ∙ sym one_u in
      let s : t ≡ u = (λ i. record { coeff = c i; mono = m i }) in
      let first = h t u f g (contains_head (t ∷ f) qs) (contains_head (u ∷ g) rs) s in
      λ i. first i
      ∷ same_lists qs rs (All-tail IsMonic (t ∷ f) qs a) (All-tail IsMonic (u ∷ g) rs b) rest
      (λ t' u' f' g' k l. h t' u' f' g' (contains_tail (t ∷ f) (t' ∷ f') qs k) (contains_tail (u ∷ g) (u' ∷ g') rs l)) i

pub unique_law : ReducedIsUnique
unique_law p n qs rs prime a b h =
    same_lists p n prime qs rs a.monic b.monic
    (same_rising (leads qs) (leads rs) a.rising b.rising (lead_contained p n prime qs rs a b h) (lead_contained p n prime rs qs b a (λ f i. ((h f i).1, (h f i).0))))
    (same_member p n prime qs rs a b h)
