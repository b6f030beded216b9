-- Lists that gain a member, and places in rising lists.
use Rattle.std.proofs.Common.{◌≡◌, ℕ, suc, ◌+◌, ◌-◌, ◌*◌, ◌<◌, ◌≤◌, List, [], ◌∷◌, ◌++◌, length, get_or, take, refl, sym, ap, ap₂, ◌∙◌, subst, arith}
use Rattle.std.specs.declared.cmp.Ordering.{Ordering}
use Rattle.std.specs.declared.cmp.Ordering.TheVariants.{Less, Equal, Greater}
use Rattle.std.specs.Ordering.{nat_cmp, MatchOrdering}
use Rattle.std.specs.Cmp.{ranks}
use Rattle.std.proofs.lemmas.List.{get_or_append_left, get_or_push, length_push, map-append, take_more}
use Rattle.std.proofs.lemmas.List.Elements.{All-push}
use Rattle.std.proofs.Math.Nat.{mul-le-mul_left}
use Rattle.monomials.specs.Mono.{Monomial, unit, times, variable, cmp_dp}
use Rattle.monomials.proofs.Order.{self_dp, turn_up}
use Rattle.polys.specs.declared.term.Term.{Term}
use Rattle.polys.specs.Terms.{IsCanonical}
use Rattle.polys.proofs.Merge.{coeff_at}
use Rattle.standard_monomials.specs.Standard.{IsRising}
use Rattle.digit_space.specs.declared.products.Product.{Product}
use Rattle.digit_plan.specs.declared.plan.Place.{Place}
use Rattle.digit_plan.specs.declared.plan.Share.{Share}
use Rattle.digit_plan.specs.Planned.{AreFirstProducts, AreSharesIn, IsFoundIn, IsPlaceIn, monomial_in, terms_in}

pub each_push : {X : Type 0} (P : ℕ → X → Type 0) (xs : List X) (x : X) → ((j : ℕ) (d : X) → j < length xs → P j (get_or xs j d)) → P (length xs) x
    → (j : ℕ) (d : X) → j < length (xs ++ x ∷ []) → P j (get_or (xs ++ x ∷ []) j d)
each_push P xs x h p j d l = go (nat_cmp j (length xs)) (ranks j (length xs))
  where
    go : (r : Ordering) → MatchOrdering r (j < length xs) (j ≡ length xs) (length xs < j) → P j (get_or (xs ++ x ∷ []) j d)
    go Less q = subst (P j) (sym (get_or_append_left xs (x ∷ []) d j q)) (h j d q)
    go Equal q = subst (λ z. P z (get_or (xs ++ x ∷ []) z d)) (sym q) (subst (P (length xs)) (sym (get_or_push xs x d (length xs) refl)) p)
    go Greater q = absurd (omega (arith, length_push xs x))

same_place : (n v w i j : ℕ) → i < n → j < n → w * n + j ≡ v * n + i → (w ≡ v) × (j ≡ i)
same_place n v w i j a b e = go (nat_cmp w v) (ranks w v)
  where
    go : (r : Ordering) → MatchOrdering r (w < v) (w ≡ v) (v < w) → (w ≡ v) × (j ≡ i)
    go Less q = let h : n * suc w ≤ n * v = mul-le-mul_left n (let z : suc w ≤ v = omega arith in z) in absurd (omega arith)
    go Equal q = (q, (let h : w * n ≡ v * n = ap (λ z. z * n) q in omega arith))
    go Greater q = let h : n * suc v ≤ n * w = mul-le-mul_left n (let z : suc v ≤ w = omega arith in z) in absurd (omega arith)

pub products_push : (corners border : List Monomial) (products : List Product) (v i : ℕ) (product : Product) (m e : Monomial) → i < length corners → length products ≡ v * length corners + i
    → AreFirstProducts corners border products → m ≡ times e (variable v) → e ≡ get_or corners i unit → IsFoundIn corners border m product → AreFirstProducts corners border (products ++ product ∷ [])
products_push corners border products v i product m e a k h q r f w j d b l = go (nat_cmp (w * length corners + j) (length products)) (ranks (w * length corners + j) (length products))
  where
    Found : ℕ → ℕ → Product → Type 0
    Found w j d = IsFoundIn corners border (times (get_or corners j unit) (variable w)) d

    go : (r : Ordering) → MatchOrdering r (w * length corners + j < length products) (w * length corners + j ≡ length products) (length products < w * length corners + j)
        → IsFoundIn corners border (times (get_or corners j unit) (variable w)) (get_or (products ++ product ∷ []) (w * length corners + j) d)
    go Less s = subst (IsFoundIn corners border (times (get_or corners j unit) (variable w))) (sym (get_or_append_left products (product ∷ []) d (w * length corners + j) s)) (h w j d b s)
    go Equal s =
        let p = same_place (length corners) v w i j a b (s ∙ k) in
        subst (IsFoundIn corners border (times (get_or corners j unit) (variable w))) (sym (get_or_push products product d (w * length corners + j) (sym s)))
        (subst (λ z. IsFoundIn corners border z product) (q ∙ ap₂ (λ x y. times x (variable y)) (r ∙ ap (λ z. get_or corners z unit) (sym p.1)) (sym p.0)) f)
    go Greater s = absurd (omega (arith, length_push products product))

-- a share more
pub shares_push : (p : ℕ) (corners border outer : List Monomial) (shares : List Share) (ts : List Term) (i : ℕ) (t : Term) (place : Place) → IsCanonical p ts → i < length ts → t ≡ get_or ts i t
    → IsPlaceIn corners border outer place × (t.mono ≡ monomial_in corners border outer place) → AreSharesIn p corners border outer shares → terms_in corners border outer shares ≡ take i ts
    → AreSharesIn p corners border outer (shares ++ record { coeff = t.coeff; place = place } ∷ [])
    × (terms_in corners border outer (shares ++ record { coeff = t.coeff; place = place } ∷ []) ≡ take (i + 1) ts)
shares_push p corners border outer shares ts i t place c l e f a b = (
  All-push (λ s. (s.coeff < p) × IsPlaceIn corners border outer s.place) shares (record { coeff = t.coeff; place = place }) a ((coeff_at p ts i t c l e).1, f.0),
  map-append (λ (s : Share). record { coeff = s.coeff; mono = monomial_in corners border outer s.place }) shares (record { coeff = t.coeff; place = place } ∷ [])
      ∙ ap₂ (λ x y. x ++ y ∷ []) b (λ k. record { coeff = t.coeff; mono = sym f.1 k })
      ∙ sym (take_more ts i t l ∙ ap (λ z. take i ts ++ z ∷ []) (sym e)),
)

-- in a rising list a smaller monomial comes earlier
pub earlier : (ms : List Monomial) (i j : ℕ) → IsRising ms → i < length ms → j < length ms → cmp_dp (get_or ms i unit) (get_or ms j unit) ≡ Less → i < j
earlier ms i j r a b e = go (nat_cmp i j) (ranks i j)
  where
    go : (s : Ordering) → MatchOrdering s (i < j) (i ≡ j) (j < i) → i < j
    go Less q = q
    go Equal q =
        let d : cmp_dp (get_or ms i unit) (get_or ms j unit) ≡ Equal = subst (λ k. cmp_dp (get_or ms i unit) (get_or ms k unit) ≡ Equal) q (self_dp (get_or ms i unit)) in
        absurd (cc (d, e))
    go Greater q = let d = turn_up (get_or ms j unit) (get_or ms i unit) (r j i unit q a) in absurd (cc (d, e))
