-- Tops of polynomials: what sums, products and cuts keep.
use Rattle.std.proofs.Common.{false, ◌≡◌, ℕ, ◌+◌, ◌*◌, ◌%◌, ◌/◌, ◌<◌, ◌≤◌, zero, suc, List, [], ◌∷◌, ◌++◌, length, max, take, drop, refl, sym, ap, ◌∙◌, subst, arith, Option, None, Some, get_or, mul-le-mul_right, take-append-drop}
use Rattle.std.specs.Option.{is_some}
use Rattle.std.specs.declared.cmp.Ordering.{Ordering}
use Rattle.std.specs.declared.cmp.Ordering.TheVariants.{Less, Equal, Greater}
use Rattle.monomials.specs.Mono.{Monomial, times, total_degree, cmp_dp}
use Rattle.monomials.proofs.Order.{same_dp, self_dp, cmp_dp-times, chain_up, turn_up, turn_down}
use Rattle.polys.specs.declared.term.Term.{Term}
use Rattle.polys.specs.Terms.{EachMono, IsCanonical, add, mul, products, degree_of}
use Rattle.polys.specs.Frobenius.{raised, frobenius}
use Rattle.polys.specs.Top.{Above, weight, Vanishes, Agrees, greater_by, higher, cut_times, cut_raised, cut_degree, IsCut}
use Rattle.polys.proofs.Weights.{weigh, tie, same, Canon, canon, canon_ext, head_missing, at_head, mod_cancel, mod_plus, weigh-normal, weigh-append, mod_times}
use Rattle.polys.proofs.Leads.{Seven, every_low}
use Rattle.polys.proofs.Each.{every_more}
use Rattle.polys.proofs.Merge.{left_at}
use Rattle.polys.proofs.Products.{canonical_drop}
use Rattle.polys.proofs.Degrees.{degree_of-mul}
use Rattle.monomials.proofs.Exponents.{total_degree-plus}
use Rattle.polys.proofs.Units.{seven_times}
use Rattle.polys.proofs.Raised.{seven_raised, raised_above, degree_raised}

pub weight_is : (χ : Monomial → ℕ) (f : List Term) → weight χ f ≡ weigh χ f
unfolding weigh
weight_is χ [] = refl
weight_is χ (t ∷ f) = ap (λ (n : ℕ). t.coeff * χ t.mono + n) (weight_is χ f)

-- ---- the higher cut

above_higher_left : (c d : Option Monomial) (w : Monomial) → Above (higher c d) w → Above c w
above_higher_left None d w h = tt
above_higher_left (Some a) None w h = h
above_higher_left (Some a) (Some b) w h = go (cmp_dp a b) refl h
  where
    go : (r : Ordering) → cmp_dp a b ≡ r → cmp_dp w (greater_by r a b) ≡ Greater → cmp_dp w a ≡ Greater
    go Less e k = chain_up w b a k (turn_up a b e)
    go Equal e k = k
    go Greater e k = k

above_higher_right : (c d : Option Monomial) (w : Monomial) → Above (higher c d) w → Above d w
above_higher_right None d w h = h
above_higher_right (Some a) None w h = tt
above_higher_right (Some a) (Some b) w h = go (cmp_dp a b) refl h
  where
    go : (r : Ordering) → cmp_dp a b ≡ r → cmp_dp w (greater_by r a b) ≡ Greater → cmp_dp w b ≡ Greater
    go Less e k = k
    go Equal e k = subst (λ m. cmp_dp w m ≡ Greater) (same_dp a b e) k
    go Greater e k = chain_up w a b k e

vanishes_left : (c d : Option Monomial) (χ : Monomial → ℕ) → Vanishes (higher c d) χ → Vanishes c χ
vanishes_left c d χ v w s n = v w s (λ h. n (above_higher_left c d w h))

vanishes_right : (c d : Option Monomial) (χ : Monomial → ℕ) → Vanishes (higher c d) χ → Vanishes d χ
vanishes_right c d χ v w s n = v w s (λ h. n (above_higher_right c d w h))

-- ---- a higher cut, and fewer terms

weigh_below : (c : Option Monomial) (χ : Monomial → ℕ) (f : List Term) → Vanishes c χ → EachMono Seven f → EachMono (λ m. Above c m → ⊥) f → weigh χ f ≡ 0
unfolding weigh
weigh_below c χ [] v s n = refl
weigh_below c χ (t ∷ f) v s n =
    let z : χ t.mono ≡ 0 = v t.mono s.0 n.0 in
    let ih = weigh_below c χ f v s.1 n.1 in
    rw (z, ih) (omega arith)

weigh_take : (c : Option Monomial) (χ : Monomial → ℕ) (n : ℕ) (f : List Term) → Vanishes c χ → EachMono Seven (drop n f) → EachMono (λ m. Above c m → ⊥) (drop n f)
    → weigh χ (take n f) ≡ weigh χ f
weigh_take c χ n f v s k =
    let z = weigh_below c χ (drop n f) v s k in
    let e = weigh-append χ (take n f) (drop n f) in
    let w : weigh χ (take n f ++ drop n f) ≡ weigh χ f = ap (weigh χ) (take-append-drop n f) in
    omega (arith, z, e, w)

pub agrees_take : (p : ℕ) (c d : Option Monomial) (n : ℕ) (l g : List Term) → EachMono Seven (drop n l) → EachMono (λ m. Above (higher c d) m → ⊥) (drop n l)
    → Agrees p c l g → Agrees p (higher c d) (take n l) g
agrees_take p c d n l g s k a χ v =
    ap (λ (x : ℕ). x % p) (weight_is χ (take n l) ∙ weigh_take (higher c d) χ n l v s k ∙ sym (weight_is χ l))
    ∙ a χ (vanishes_left c d χ v)

-- ---- sums

pub agrees_add : (p : ℕ) (c d : Option Monomial) (a b f g : List Term) → Agrees p c a f → Agrees p d b g → Agrees p (higher c d) (add p a b) (add p f g)
agrees_add p c d a b f g h k χ v =
    ap (λ (x : ℕ). x % p) (weight_is χ (add p a b))
    ∙ weigh-normal p χ (a ++ b)
    ∙ ap (λ (x : ℕ). x % p) (weigh-append χ a b)
    ∙ mod_plus p (weigh χ a) (weigh χ f) (weigh χ b) (weigh χ g) (one a f (h χ (vanishes_left c d χ v))) (one b g (k χ (vanishes_right c d χ v)))
    ∙ sym (ap (λ (x : ℕ). x % p) (weigh-append χ f g))
    ∙ sym (weigh-normal p χ (f ++ g))
    ∙ sym (ap (λ (x : ℕ). x % p) (weight_is χ (add p f g)))
  where
    one : (x y : List Term) → weight χ x % p ≡ weight χ y % p → weigh χ x % p ≡ weigh χ y % p
    one x y e = ap (λ (n : ℕ). n % p) (sym (weight_is χ x)) ∙ e ∙ ap (λ (n : ℕ). n % p) (weight_is χ y)

-- ---- the product with a term

above_times : (c : Option Monomial) (m w : Monomial) → Seven w → ((a : Monomial) → c ≡ Some a → Seven a) → Above (cut_times c m) (times w m) → Above c w
above_times None m w s h a = tt
above_times (Some b) m w s h a = sym (cmp_dp-times w b m (s ∙ sym (h b refl))) ∙ a

products_one : (χ : Monomial → ℕ) (t : Term) (f : List Term) → weigh χ (products f (t ∷ [])) ≡ t.coeff * weigh (λ m. χ (times m t.mono)) f
unfolding weigh
products_one χ t [] = omega arith
products_one χ t (u ∷ f) = rw (products_one χ t f) (omega arith)

pub agrees_term : (p : ℕ) (c : Option Monomial) (l g : List Term) (t : Term) → Seven t.mono → ((a : Monomial) → c ≡ Some a → Seven a)
    → Agrees p c l g → Agrees p (cut_times c t.mono) (mul p l (t ∷ [])) (mul p g (t ∷ []))
agrees_term p c l g t s cs a χ v =
    ap (λ (x : ℕ). x % p) (weight_is χ (mul p l (t ∷ [])))
    ∙ weigh-normal p χ (products l (t ∷ []))
    ∙ ap (λ (x : ℕ). x % p) (products_one χ t l)
    ∙ scaled_same (weigh ψ l) (weigh ψ g) (ap (λ (n : ℕ). n % p) (sym (weight_is ψ l)) ∙ a ψ vanishing ∙ ap (λ (n : ℕ). n % p) (weight_is ψ g))
    ∙ sym (ap (λ (x : ℕ). x % p) (products_one χ t g))
    ∙ sym (weigh-normal p χ (products g (t ∷ [])))
    ∙ sym (ap (λ (x : ℕ). x % p) (weight_is χ (mul p g (t ∷ []))))
  where
    ψ : Monomial → ℕ
    ψ m = χ (times m t.mono)

    vanishing : Vanishes c ψ
    vanishing w sw n = v (times w t.mono) (seven_times w t.mono sw s) (λ h. n (above_times c t.mono w sw cs h))

    scaled_same : (x y : ℕ) → x % p ≡ y % p → (t.coeff * x) % p ≡ (t.coeff * y) % p
    scaled_same x y e = mod_times p t.coeff x y e

-- ---- the top of a polynomial is a prefix of its terms

at_same : (c : Option Monomial) (w : Monomial) → Above c w → Vanishes c (same w)
at_same c w a v s n = go (cmp_dp v w) refl
  where
    go : (r : Ordering) → cmp_dp v w ≡ r → tie r ≡ 0
    go Less e = refl
    go Greater e = refl
    go Equal e = absurd (n (subst (Above c) (sym (same_dp v w e)) a))

-- for each monomial above the cut
Same : ℕ → Option Monomial → List Term → List Term → Type 0
Same p c l g = (w : Monomial) → Above c w → weigh (same w) l % p ≡ weigh (same w) g % p

above_up : (c : Option Monomial) (m w : Monomial) → cmp_dp m w ≡ Greater → Above c w → Above c m
above_up None m w e a = tt
above_up (Some b) m w e a = chain_up m w b e a

shorter : (p : ℕ) (c : Option Monomial) (l g : List Term) → Canon p l → Canon p g → EachMono (Above c) l → Same p c l g → length l ≤ length g
unfolding Canon weigh Same
shorter p c [] g cl cg a h = omega arith
shorter p c (t ∷ l) [] cl cg a h = absurd (head_missing p t l [] cl tt tt (h t.mono a.0))
shorter p c (t ∷ l) (u ∷ g) cl cg a h = go (cmp_dp t.mono u.mono) refl (shorter p c l g cl.3 cg.3 a.1)
  where
    go : (r : Ordering) → cmp_dp t.mono u.mono ≡ r → (Same p c l g → length l ≤ length g) → suc (length l) ≤ suc (length g)
    go Greater e ih = absurd (head_missing p t l (u ∷ g) cl cg e (h t.mono a.0))
    go Less e ih =
        let up = turn_up t.mono u.mono e in
        absurd (head_missing p u g (t ∷ l) cg cl up (sym (h u.mono (above_up c u.mono t.mono up a.0))))
    go Equal e ih =
        let m : t.mono ≡ u.mono = same_dp t.mono u.mono e in
        let k : t.coeff ≡ u.coeff = sym (at_head p t l cl) ∙ h t.mono a.0 ∙ ap (λ w. weigh (same w) (u ∷ g) % p) m ∙ at_head p u g cg in
        let rest : length l ≤ length g =
        ih (λ w b. mod_cancel p (u.coeff * same w u.mono) (weigh (same w) l) (weigh (same w) g)
        (ap (λ (n : ℕ). (n + weigh (same w) l) % p) (λ i. sym k i * same w (sym m i)) ∙ h w b)) in
        omega arith

same_of : (p : ℕ) (c : Option Monomial) (l g : List Term) → Agrees p c l g → Same p c l g
unfolding Same
same_of p c l g a w b =
    ap (λ (n : ℕ). n % p) (sym (weight_is (same w) l)) ∙ a (same w) (at_same c w b) ∙ ap (λ (n : ℕ). n % p) (weight_is (same w) g)

-- the top has no more terms
pub top_shorter : (p : ℕ) (c : Option Monomial) (l g : List Term) → IsCanonical p l → IsCanonical p g → EachMono (Above c) l → Agrees p c l g → length l ≤ length g
top_shorter p c l g cl cg a h = shorter p c l g (canon p l cl) (canon p g cg) a (same_of p c l g h)

-- with no cut it is the whole
pub top_whole : (p : ℕ) (c : Option Monomial) (l g : List Term) → c ≡ None → IsCanonical p l → IsCanonical p g → Agrees p c l g → l ≡ g
unfolding Same
top_whole p c l g e cl cg h = canon_ext p l g (canon p l cl) (canon p g cg) (λ w. same_of p None l g (subst (λ d. Agrees p d l g) e h) w tt)

-- where a term is not above the cut, no later one is
pub rest_below : (p : ℕ) (c : Option Monomial) (f : List Term) (n : ℕ) (t : Term) → IsCanonical p f → n < length f → t ≡ get_or f n t → (Above c t.mono → ⊥)
    → EachMono (λ m. Above c m → ⊥) (drop n f)
unfolding Canon
rest_below p c f n t k h e out =
    let q : drop n f ≡ t ∷ drop (n + 1) f = left_at f n t h e in
    let d : Canon p (t ∷ drop (n + 1) f) = subst (Canon p) q (canon p (drop n f) (canonical_drop p n f k)) in
    subst (EachMono (λ m. Above c m → ⊥)) (sym q)
    (out, every_more (λ w. cmp_dp t.mono w ≡ Greater) (λ m. Above c m → ⊥) (drop (n + 1) f) (λ w up a. out (above_up c t.mono w up a)) (every_low p t.mono (drop (n + 1) f) d.3 d.2))

-- ---- degrees

pub higher_degree : (c d : Option Monomial) → cut_degree (higher c d) ≤ max (cut_degree c) (cut_degree d)
higher_degree None d = omega arith
higher_degree (Some a) None = omega arith
higher_degree (Some a) (Some b) = go (cmp_dp a b)
  where
    go : (r : Ordering) → total_degree (greater_by r a b).exponents ≤ max (total_degree a.exponents) (total_degree b.exponents)
    go Less = omega arith
    go Equal = omega arith
    go Greater = omega arith

pub times_degree : (c : Option Monomial) (m : Monomial) → cut_degree (cut_times c m) ≤ cut_degree c + total_degree m.exponents
times_degree None m = omega arith
times_degree (Some a) m = let e = total_degree-plus a.exponents m.exponents in omega (arith, e)

pub product_degree : (p : ℕ) (f : List Term) (t : Term) → degree_of (mul p f (t ∷ [])) ≤ degree_of f + total_degree t.mono.exponents
product_degree p f t = let e = degree_of-mul p f (t ∷ []) in omega (arith, e)

pub sevens_cut : (c : Option Monomial) → IsCut c → (a : Monomial) → c ≡ Some a → length a.exponents ≡ 7
sevens_cut None k a e = let b : IsCut (Some a) = subst IsCut e k in b.seven
sevens_cut (Some b) k a e = let b : IsCut (Some a) = subst IsCut e k in b.seven

pub none_of : (c : Option Monomial) → is_some c ≡ false → c ≡ None
none_of None e = refl
none_of (Some a) e = absurd (cc)

-- ---- tops of p-th powers

weigh_frobenius : (k : ℕ) (χ : Monomial → ℕ) (f : List Term) → weigh χ (frobenius k f) ≡ weigh (λ m. χ (raised k m)) f
unfolding weigh
weigh_frobenius k χ [] = refl
weigh_frobenius k χ (t ∷ f) = ap (λ (n : ℕ). t.coeff * χ (raised k t.mono) + n) (weigh_frobenius k χ f)

above_raised : (k : ℕ) (c : Option Monomial) (w : Monomial) → Seven w → IsCut c → Above (cut_raised (suc k) c) (raised (suc k) w) → Above c w
above_raised k None w s b a = tt
above_raised k (Some m) w s b a = go (cmp_dp w m) refl
  where
    go : (r : Ordering) → cmp_dp w m ≡ r → r ≡ Greater
    go Greater e = refl
    go Equal e = sym (sym a ∙ ap (λ v. cmp_dp (raised (suc k) v) (raised (suc k) m)) (same_dp w m e) ∙ self_dp (raised (suc k) m))
    go Less e =
        let up = raised_above k m w b.seven s (turn_up w m e) in
        sym (sym a ∙ turn_down (raised (suc k) m) (raised (suc k) w) up)

pub agrees_frobenius : (p k : ℕ) (c : Option Monomial) (l g : List Term) → IsCut c → Agrees p c l g → Agrees p (cut_raised (suc k) c) (frobenius (suc k) l) (frobenius (suc k) g)
agrees_frobenius p k c l g b a χ v =
    ap (λ (n : ℕ). n % p) (weight_is χ (frobenius (suc k) l) ∙ weigh_frobenius (suc k) χ l ∙ sym (weight_is ψ l))
    ∙ a ψ (λ w s n. v (raised (suc k) w) (seven_raised (suc k) w s) (λ h. n (above_raised k c w s b h)))
    ∙ ap (λ (n : ℕ). n % p) (weight_is ψ g ∙ sym (weigh_frobenius (suc k) χ g) ∙ sym (weight_is χ (frobenius (suc k) g)))
  where
    ψ : Monomial → ℕ
    ψ m = χ (raised (suc k) m)

pub cut_raised_degree : (k : ℕ) (c : Option Monomial) → cut_degree (cut_raised k c) ≡ cut_degree c * k
cut_raised_degree k None = omega arith
cut_raised_degree k (Some m) = degree_raised k m

pub agrees_raised : (p k : ℕ) (c : Option Monomial) (l g : List Term) → 0 < k → IsCut c → Agrees p c l g → Agrees p (cut_raised k c) (frobenius k l) (frobenius k g)
agrees_raised p zero c l g h b a = absurd (omega arith)
agrees_raised p (suc k) c l g h b a = agrees_frobenius p k c l g b a

pub reach_times : (a b x y k : ℕ) → x ≡ a * k → y ≡ b * k → max x y ≤ max a b * k
reach_times a b x y k ex ey =
    let ha : a ≤ max a b = omega arith in
    let hb : b ≤ max a b = omega arith in
    let ma : a * k ≤ max a b * k = mul-le-mul_right k ha in
    let mb : b * k ≤ max a b * k = mul-le-mul_right k hb in
    omega (arith, ma, mb, ex, ey)

pub digit_reach : (d n q p r s : ℕ) → n ≡ q * p + r → s ≤ (d * q) * p → s + d * r ≤ d * n
digit_reach d n q p r s e h =
    let m : d * n ≡ (d * q) * p + d * r = ap (λ (x : ℕ). d * x) e ∙ omega arith in
    omega (arith, m)

pub digit_parts : (n p : ℕ) → 0 < p → n ≡ (n / p) * p + n % p
digit_parts n p h = parts
  where
    parts : n ≡ (n / p) * p + n % p
    parts = omega arith

-- the reach of a p-th power and of what is multiplied onto it
pub digits_reach : (d n p m s x : ℕ) → m ≡ p → 0 < p → s ≤ d * (n / m) → x ≤ s * p → x + d * (n % m) ≤ d * n
digits_reach d n p m s x e h low up = subst (λ k. s ≤ d * (n / k) → x + d * (n % k) ≤ d * n) (sym e) go low
  where
    go : s ≤ d * (n / p) → x + d * (n % p) ≤ d * n
    go l =
        let t : s * p ≤ (d * (n / p)) * p = mul-le-mul_right p l in
        digit_reach d n (n / p) p (n % p) x (digit_parts n p h) (omega (arith, t, up))
