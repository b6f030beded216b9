-- A number for each monomial of one degree, which grows with dp.
use Rattle.std.proofs.Common.{◌≡◌, ℕ, ◌+◌, ◌-◌, ◌*◌, ◌<◌, ◌≤◌, suc, List, [], ◌∷◌, ◌++◌, length, refl, sym, ap, ◌∙◌, arith, mul-le-mul_left}
use Rattle.std.specs.declared.cmp.Ordering.{Ordering}
use Rattle.std.specs.declared.cmp.Ordering.TheVariants.{Less, Equal, Greater}
use Rattle.std.specs.Ordering.{ordering_then, nat_cmp}
use Rattle.std.specs.Cmp.{nat_cmp_is, ranked}
use Rattle.monomials.specs.Mono.{Monomial, total_degree, cmp_last, cmp_dp}
use Rattle.monomials.proofs.Exponents.{total_degree-push}
use Rattle.monomials.proofs.Last.{cmp_last-push}
use Rattle.monomials.proofs.Order.{same_last}
use Rattle.graded_modules.specs.Vector.{IsGraded, degree_at}

-- the last entry counts most, and the smaller entry is greater
unfoldable pub rank_last : ℕ → List ℕ → ℕ
rank_last e [] = 0
rank_last e (x ∷ a) = suc e * rank_last e a + (e - x)

rises : (e : ℕ) (a b : List ℕ) → length a ≡ length b → total_degree a ≤ e → total_degree b ≤ e → cmp_last a b ≡ Less → rank_last e a < rank_last e b
unfolding rank_last
rises e [] [] l h k c = absurd (cc)
rises e [] (y ∷ b) l h k c = absurd (omega arith)
rises e (x ∷ a) [] l h k c = absurd (omega arith)
rises e (x ∷ a) (y ∷ b) l h k c = go (cmp_last a b) refl c (rises e a b (omega arith) (omega arith) (omega arith))
  where
    go : (r : Ordering) → cmp_last a b ≡ r → ordering_then r (nat_cmp y x) ≡ Less → (cmp_last a b ≡ Less → rank_last e a < rank_last e b)
        → suc e * rank_last e a + (e - x) < suc e * rank_last e b + (e - y)
    go Less q d ih =
        let low : suc (rank_last e a) ≤ rank_last e b = ih q in
        let m : suc e * suc (rank_last e a) ≤ suc e * rank_last e b = mul-le-mul_left (suc e) low in
        omega arith
    go Greater q d ih = absurd (cc)
    go Equal q d ih =
        let s : y < x = ranked y x Less (sym d) in
        let m : suc e * rank_last e a ≡ suc e * rank_last e b = ap (λ w. suc e * rank_last e w) (same_last a b q) in
        omega arith

-- the component is the entry that counts most
pub rank : ℕ → Monomial → ℕ
rank e m = rank_last (suc e) (m.exponents ++ m.component ∷ [])

length-push : (a : List ℕ) (c : ℕ) → length (a ++ c ∷ []) ≡ suc (length a)
length-push [] c = refl
length-push (x ∷ a) c = ap (λ (n : ℕ). suc n) (length-push a c)

pub rank_rises : (n shift e : ℕ) (m w : Monomial) → IsGraded n m → IsGraded n w → degree_at shift m ≡ e → degree_at shift w ≡ e → cmp_dp m w ≡ Less → rank e m < rank e w
unfolding rank
rank_rises n shift e m w gm gw dm dw c =
    rises (suc e) (m.exponents ++ m.component ∷ []) (w.exponents ++ w.component ∷ [])
    (length-push m.exponents m.component ∙ ap (λ (k : ℕ). suc k) (gm.seven ∙ sym gw.seven) ∙ sym (length-push w.exponents w.component))
    (small m gm dm) (small w gw dw)
    (cmp_last-push m.exponents w.exponents m.component w.component (gm.seven ∙ sym gw.seven) ∙ go (nat_cmp w.component m.component) refl c)
  where
    small : (v : Monomial) → IsGraded n v → degree_at shift v ≡ e → total_degree (v.exponents ++ v.component ∷ []) ≤ suc e
    small v g d = let t = g.two in omega (arith, total_degree-push v.exponents v.component)

    go : (r : Ordering) → nat_cmp w.component m.component ≡ r
        → ordering_then r (ordering_then (nat_cmp (total_degree m.exponents) (total_degree w.exponents)) (cmp_last m.exponents w.exponents)) ≡ Less
        → ordering_then r (cmp_last m.exponents w.exponents) ≡ Less
    go Less q h = refl
    go Greater q h = absurd (cc)
    go Equal q h =
        let s : w.component ≡ m.component = ranked w.component m.component Equal (sym q) in
        let k : w.component * shift ≡ m.component * shift = ap (λ (x : ℕ). x * shift) s in
        let d : total_degree m.exponents ≡ total_degree w.exponents = omega arith in
        let tie : Equal ≡ nat_cmp (total_degree m.exponents) (total_degree w.exponents) = nat_cmp_is (total_degree m.exponents) (total_degree w.exponents) Equal d in
        ap (λ r. ordering_then r (cmp_last m.exponents w.exponents)) tie ∙ h
