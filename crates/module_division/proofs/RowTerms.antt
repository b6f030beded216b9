-- Rows of coefficients over a falling list of monomials.
use Rattle.std.proofs.Common.{◌≡◌, ℕ, ◌+◌, ◌*◌, ◌%◌, ◌<◌, ◌≤◌, zero, suc, List, [], ◌∷◌, ◌++◌, length, get_or, set, drop, map, take, replicate, refl, sym, ap, ◌∙◌, subst, arith, append_assoc}
use Rattle.std.specs.List.{All}
use Rattle.std.specs.declared.cmp.Ordering.TheVariants.{Greater}
use Rattle.std.proofs.lemmas.List.{drop_more, map-append, take_more, length-replicate, get_or-replicate}
use Rattle.std.proofs.lemmas.Nat.{mul-mod_first}
use Rattle.monomials.specs.Mono.{Monomial, times, cmp_dp}
use Rattle.monomials.proofs.Order.{chain_up}
use Rattle.polys.specs.declared.term.Term.{Term}
use Rattle.polys.specs.Terms.{Under, EachMono, normal, add}
use Rattle.polys.proofs.Weights.{mod_plus, mod_term, weigh, weigh-append, Alike, normal_ext}
use Rattle.polys.proofs.Sums.{add_normal_left, alike_append}
use Rattle.polys.proofs.Each.{every_normal, every_under}
use Rattle.polys.proofs.Leads.{put_above, keep_some}
use Rattle.module_division.specs.Division.{term_product}
use Rattle.module_division.specs.Rows.{IsAbove, AreFalling, row_terms}

-- ---- falling lists

above_more : (a b : Monomial) (ms : List Monomial) → cmp_dp a b ≡ Greater → IsAbove b ms → IsAbove a ms
above_more a b [] e h = tt
above_more a b (w ∷ ms) e h = (chain_up a b w e h.0, above_more a b ms e h.1)

pub falling_more : (a b : Monomial) (ms : List Monomial) → cmp_dp a b ≡ Greater → AreFalling (b ∷ ms) → AreFalling (a ∷ b ∷ ms)
falling_more a b ms e h = ((e, above_more a b ms e h.0), h)

pub falling_drop : (i : ℕ) (ms : List Monomial) → AreFalling ms → AreFalling (drop i ms)
falling_drop zero ms h = h
falling_drop (suc i) [] h = tt
falling_drop (suc i) (m ∷ ms) h = falling_drop i ms h.1

-- ---- the terms of a row

pub row_more : (ms : List Monomial) (cs : List ℕ) (i : ℕ) (m : Monomial) (c : ℕ) → i < length ms → length cs ≡ length ms → m ≡ get_or ms i m → c ≡ get_or cs i 0
    → row_terms (drop i ms) (drop i cs) ≡ record { coeff = c; mono = m } ∷ row_terms (drop (i + 1) ms) (drop (i + 1) cs)
row_more ms cs i m c l n em ec =
    let a : drop i ms ≡ m ∷ drop (i + 1) ms = drop_more ms i m l ∙ ap (λ x. x ∷ drop (i + 1) ms) (sym em) in
    let b : drop i cs ≡ c ∷ drop (i + 1) cs = drop_more cs i 0 (omega arith) ∙ ap (λ x. x ∷ drop (i + 1) cs) (sym ec) in
    λ k. row_terms (a k) (b k)

weigh_set : (χ : Monomial → ℕ) (p : ℕ) (ms : List Monomial) (cs : List ℕ) (z : ℕ) (m : Monomial) (old new k : ℕ) → z < length ms → length cs ≡ length ms
    → m ≡ get_or ms z m → old ≡ get_or cs z 0 → new % p ≡ (old + k) % p
    → weigh χ (row_terms ms (set cs z new)) % p ≡ (weigh χ (row_terms ms cs) + k * χ m) % p
unfolding weigh
weigh_set χ p [] cs z m old new k l n em eo en = absurd (omega arith)
weigh_set χ p (w ∷ ms) [] z m old new k l n em eo en = absurd (omega arith)
weigh_set χ p (w ∷ ms) (x ∷ cs) zero m old new k l n em eo en =
    let rest = weigh χ (row_terms ms cs) in
    let turn : (old + k) * χ m + rest ≡ (old * χ m + rest) + k * χ m = omega arith in
    let same : (new * χ m) % p ≡ ((old + k) * χ m) % p = sym (mul-mod_first new (χ m) p) ∙ ap (λ (n : ℕ). (n * χ m) % p) en ∙ mul-mod_first (old + k) (χ m) p in
    (λ i. (new * χ (sym em i) + rest) % p) ∙ mod_plus p (new * χ m) ((old + k) * χ m) rest rest same refl ∙ ap (λ (n : ℕ). n % p) turn
    ∙ (λ i. ((eo i * χ (em i) + rest) + k * χ m) % p)
weigh_set χ p (w ∷ ms) (x ∷ cs) (suc z) m old new k l n em eo en =
    let ih = weigh_set χ p ms cs z m old new k (omega arith) (omega arith) em eo en in
    let front = x * χ w in
    let turn : front + (weigh χ (row_terms ms cs) + k * χ m) ≡ (front + weigh χ (row_terms ms cs)) + k * χ m = omega arith in
    mod_plus p front front (weigh χ (row_terms ms (set cs z new))) (weigh χ (row_terms ms cs) + k * χ m) refl ih ∙ ap (λ (n : ℕ). n % p) turn

-- one more term
pub row_set : (p : ℕ) (ms : List Monomial) (cs : List ℕ) (from z : ℕ) (u : Term) (old new : ℕ) → from ≤ z → z < length ms → length cs ≡ length ms
    → u.mono ≡ get_or ms z u.mono → old ≡ get_or cs z 0 → new % p ≡ (old + u.coeff) % p
    → normal p (row_terms (drop from ms) (drop from (set cs z new))) ≡ add p (row_terms (drop from ms) (drop from cs)) (u ∷ [])
unfolding weigh
row_set p ms cs zero z u old new f l n em eo en = normal_ext p (row_terms ms (set cs z new)) (row_terms ms cs ++ u ∷ []) alike
  where
    alike : Alike p (row_terms ms (set cs z new)) (row_terms ms cs ++ u ∷ [])
    alike χ =
        let plain : u.coeff * χ u.mono + 0 ≡ u.coeff * χ u.mono = omega arith in
        weigh_set χ p ms cs z u.mono old new u.coeff l n em eo en
        ∙ sym (ap (λ (n : ℕ). n % p) (weigh-append χ (row_terms ms cs) (u ∷ []) ∙ ap (λ (n : ℕ). weigh χ (row_terms ms cs) + n) plain))
row_set p [] cs (suc from) z u old new f l n em eo en = absurd (omega arith)
row_set p (w ∷ ms) [] (suc from) z u old new f l n em eo en = absurd (omega arith)
row_set p (w ∷ ms) (x ∷ cs) (suc from) zero u old new f l n em eo en = absurd (omega arith)
row_set p (w ∷ ms) (x ∷ cs) (suc from) (suc z) u old new f l n em eo en = row_set p ms cs from z u old new (omega arith) (omega arith) (omega arith) em eo en

-- one more term of a sum
pub sum_more : (p : ℕ) (now old more : List Term) (u : Term) (new : List Term) → normal p now ≡ add p old more → normal p new ≡ add p now (u ∷ []) → normal p new ≡ add p old (more ++ u ∷ [])
sum_more p now old more u new e k =
    k ∙ sym (add_normal_left p now (u ∷ [])) ∙ ap (λ f. add p f (u ∷ [])) e ∙ add_normal_left p (old ++ more) (u ∷ []) ∙ ap (normal p) (append_assoc old more (u ∷ []))

-- a row of zeros
pub row_zero : (p : ℕ) (ms : List Monomial) (n : ℕ) → normal p (row_terms ms (replicate n 0)) ≡ []
unfolding weigh
row_zero p ms n = normal_ext p (row_terms ms (replicate n 0)) [] (λ χ. ap (λ (k : ℕ). k % p) (none χ ms n))
  where
    none : (χ : Monomial → ℕ) (ms : List Monomial) (n : ℕ) → weigh χ (row_terms ms (replicate n 0)) ≡ 0
    none χ [] n = refl
    none χ (m ∷ ms) zero = refl
    none χ (m ∷ ms) (suc n) = omega (arith, none χ ms n)

each_row : (m : Monomial) (ms : List Monomial) (cs : List ℕ) → IsAbove m ms → EachMono (λ w. cmp_dp m w ≡ Greater) (row_terms ms cs)
each_row m [] cs h = tt
each_row m (w ∷ ms) [] h = tt
each_row m (w ∷ ms) (c ∷ cs) h = (h.0, each_row m ms cs h.1)

-- what a row stands for where its first coefficient is 0 modulo p, and where it is not
pub row_skip : (p c : ℕ) (m : Monomial) (f : List Term) → c % p ≡ 0 → normal p (record { coeff = c; mono = m } ∷ f) ≡ normal p f
unfolding weigh
row_skip p c m f e = normal_ext p (record { coeff = c; mono = m } ∷ f) f same
  where
    same : Alike p (record { coeff = c; mono = m } ∷ f) f
    same χ =
        let none : 0 * χ m + weigh χ f ≡ weigh χ f = omega arith in
        sym (mod_term p c (χ m) (weigh χ f)) ∙ ap (λ (k : ℕ). (k * χ m + weigh χ f) % p) e ∙ ap (λ (k : ℕ). k % p) none

pub row_top : (p c : ℕ) (m : Monomial) (ms : List Monomial) (cs : List ℕ) → 0 < c % p → IsAbove m ms
    → normal p (record { coeff = c; mono = m } ∷ row_terms ms cs) ≡ record { coeff = c % p; mono = m } ∷ normal p (row_terms ms cs)
row_top p c m ms cs some above =
    let f = row_terms ms cs in
    let under : Under m (normal p f) = every_under (λ w. cmp_dp m w ≡ Greater) m (normal p f) (λ w h. h) (every_normal (λ w. cmp_dp m w ≡ Greater) p f (each_row m ms cs above)) in
    put_above p (record { coeff = c; mono = m }) (normal p f) under ∙ keep_some (c % p) m (normal p f) (λ e. absurd (omega arith))

-- ---- multiples whose coefficients are not divided by p

abbrev pub whole_product : Term → Term → Term
whole_product t u = record { coeff = u.coeff * t.coeff; mono = times u.mono t.mono }

pub add_whole : (p : ℕ) (t : Term) (old b : List Term) → add p old (map (whole_product t) b) ≡ add p old (map (term_product p t) b)
unfolding weigh
add_whole p t old b = normal_ext p (old ++ map (whole_product t) b) (old ++ map (term_product p t) b) (alike_append p old old (map (whole_product t) b) (map (term_product p t) b) (λ χ. refl) (go b))
  where
    go : (b : List Term) → Alike p (map (whole_product t) b) (map (term_product p t) b)
    go [] χ = refl
    go (u ∷ b) χ =
        let c : ℕ = u.coeff * t.coeff in
        let x : ℕ = χ (times u.mono t.mono) in
        mod_plus p (c * x) ((c % p) * x) (weigh χ (map (whole_product t) b)) (weigh χ (map (term_product p t) b)) (sym (mul-mod_first c x p)) (go b χ)

pub products_more : (f : Term → Term) (xs : List Term) (j : ℕ) (u : Term) → j < length xs → u ≡ get_or xs j u → map f (take j xs) ++ f u ∷ [] ≡ map f (take (j + 1) xs)
products_more f xs j u l e =
    sym (map-append f (take j xs) (u ∷ [])) ∙ ap (map f) (ap (λ x. take j xs ++ x ∷ []) e ∙ sym (take_more xs j u l))

pub zeros_low : (p n : ℕ) (cs : List ℕ) → cs ≡ replicate n 0 → 0 < p → All (λ k. k < p) cs
zeros_low p n cs e h k d l =
    let count : length cs ≡ n = ap length e ∙ length-replicate n 0 in
    subst (λ x. x < p) (sym (ap (λ xs. get_or xs k d) e ∙ get_or-replicate n k 0 d (omega arith))) h
